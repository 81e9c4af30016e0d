-- The key at the place that was guessed is the one that is sought, or it is searched for.
use Rattle.std.proofs.Common.{rules, ◌≡◌, ◌∙◌, ◌&&◌, refl, ap, List, eqb, bytes_eq, position, arith, length, ◌<◌, true, sym, subst, IfSome}
use Rattle.client_desk.specs.declared.client.Client.{Client}
use Rattle.client_desk.proofs.Finding.{is_same_key, key_alone, key_found, keys_length}
use Rattle.client_desk.proofs.clients.Clients.place_by.Goals as goal

pub returns-in-Some-clause-value : goal.returns-in-Some-clause-value
returns-in-Some-clause-value c = λ bank text is.
    let passes : is_same_key c.args.key.now c.in-Some.kept.now ≡ true = search rules in
    key_alone bank text c.args.key.now c.in-Some.kept.now c.self.inside.all.items c.self.inside.keys.keys c.place-guess.result is c.self.invariant.0 c.self.invariant.1 (sym c.in-Some.ensures.key) passes
    ∙ ap (position (λ (client : Client). eqb bank client.bank && bytes_eq text client.name)) c.self.view_is

pub returns-in-Some-clause-within : goal.returns-in-Some-clause-within
returns-in-Some-clause-within c =
    omega (arith, c.in-Some.ensures.found.0 refl, keys_length c.self.inside.all.items c.self.inside.keys.keys c.self.invariant.0, ap (λ (all : List Client). length all) c.self.view_is)

pub returns-in_default-clause-value : goal.returns-in_default-clause-value
returns-in_default-clause-value c = λ bank text is.
    c.get_index_of.ensures.index
    ∙ key_found bank text c.args.key.now c.self.inside.all.items c.self.inside.keys.keys is c.self.invariant.0
    ∙ ap (position (λ (client : Client). eqb bank client.bank && bytes_eq text client.name)) c.self.view_is

pub returns-in_default-clause-within : goal.returns-in_default-clause-within
returns-in_default-clause-within c =
    subst (λ n. IfSome c.get_index_of.result (λ place. place < n))
    (keys_length c.self.inside.all.items c.self.inside.keys.keys c.self.invariant.0 ∙ ap (λ (all : List Client). length all) c.self.view_is)
    c.get_index_of.ensures.within
