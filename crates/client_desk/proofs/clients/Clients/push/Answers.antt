use Rattle.std.proofs.Common.{◌≡◌, ◌∙◌, ◌++◌, ◌∷◌, [], ap, sym, subst, arith, length, List, Option, IfSome}
use Rattle.fx_rules.specs.Lists.{EachPair}
use Rattle.fx_rules.proofs.NameTexts.{HasNameBytes-name}
use Rattle.client_desk.specs.Clients.{Differ}
use Rattle.client_desk.specs.declared.client.Client.{Client}
use Rattle.client_desk.specs.declared.keys.ClientKey.{ClientKey}
use Rattle.client_desk.specs.inside.Keys.{AreKeysOf, IsKeyOf}
use Rattle.client_desk.proofs.Finding.{keys-push}
use Rattle.client_desk.proofs.clients.Clients.push.Goals as goal

pub unwrap-key-requires : goal.unwrap-key-requires
unwrap-key-requires c =
    let bytes = HasNameBytes-name c.args.client.name c.as_bytes.ensures.valid in
    c.of.ensures.short (omega (arith, bytes.most, ap (λ (t : List _). length t) c.as_bytes.ensures.text))

pub invariant_of-self-2 : goal.invariant_of-self-2
invariant_of-self-2 c =
    let clients = c.self.inside.all.items in
    let keys = c.self.inside.keys.keys in
    let client = c.args.client in
    let key = c.unwrap-key.result in
    let items : c.push_reserved.new.self.items ≡ clients ++ client ∷ [] =
    c.push_reserved.ensures.items ∙ ap (λ (all : List Client). all ++ client ∷ []) c.in_ok-reserve.ensures.items in
    let made : IsKeyOf client.bank c.as_bytes.result.now key = subst (λ (found : Option ClientKey). IfSome found (IsKeyOf client.bank c.as_bytes.result.now)) c.unwrap-key.ensures c.of.ensures.key in
    let its : IsKeyOf client.bank client.name key = subst (λ (text : List _). IsKeyOf client.bank text key) c.as_bytes.ensures.text made in
    let differ : EachPair Differ (clients ++ client ∷ []) = subst (λ (all : List Client). EachPair Differ (all ++ client ∷ [])) (sym c.self.view_is) c.requires.differ in (
      subst (λ (all : List Client). AreKeysOf all c.insert.new.self.keys) (sym items)
          (subst (AreKeysOf (clients ++ client ∷ [])) (sym c.in_ok-insert.ensures.keys)
          (keys-push clients keys client key c.self.invariant.0 differ its)),
      subst (EachPair Differ) (sym items) differ,
    )
