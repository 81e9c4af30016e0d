use Rattle.std.proofs.Common.{◌≡◌, ◌∙◌, ap, sym, arith, take, length, ℕ, List}
use Rattle.fx_rules.specs.Names.{padded}
use Rattle.fx_rules.proofs.Sought.{word_tells}
use Rattle.fx_rules.proofs.names.Name.is.Goals as goal

pub returns-then-self-sought : goal.returns-then-self-sought
returns-then-self-sought c =
    let own : List ℕ = c.self.inside.bytes in
    let name : List ℕ = c.args.self.now in
    let named : name ≡ take c.self.inside.len own = sym c.self.view_is in
    let size : length name ≡ c.self.inside.len = ap length named ∙ c.self.invariant.size in
    let alike : c.sought.inside.text.now ≡ c.args.sought.now = c.sought.view_is in
    record {
      value = word_tells name c.args.sought.now own c.sought.inside.word c.word_of.result
          (ap padded named ∙ c.self.invariant.padding)
          (named ∙ ap (λ n. take n own) (sym size))
          (size ∙ c.if-self-sought.true ∙ ap (λ (text : List ℕ). length text) alike)
          c.self.told c.word_of.type_inv c.word_of.ensures.value (omega arith) (c.sought.invariant ∙ ap (λ (text : List ℕ). padded (take 8 text)) alike);
    }
