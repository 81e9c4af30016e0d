use Rattle.std.proofs.Common.{ℕ, ◌≡◌, ◌∙◌, ◌&&◌, ap, List, eqb, bytes_eq, position, arith, take, ◌≤◌, ◌<◌, true, false, inl, inr, sym}
use Rattle.std.proofs.lemmas.Bool.{cases_lt, true≢false}
use Rattle.std.proofs.lemmas.List.{length-take-le}
use Rattle.client_desk.specs.declared.client.Client.{Client}
use Rattle.client_desk.proofs.Finding.{too_long}
use Rattle.client_desk.proofs.clients.Clients.place_in_front.Goals as goal

not_short : (len : ℕ) → (len ≤ 8 → false ≡ true) → 8 < len
not_short len none = elim (cases_lt 8 len) [
  | inl long ↦ long
  | inr short ↦ absurd (true≢false (sym (none (omega arith))))
]

pub returns-in_err-key-clause-value : goal.returns-in_err-key-clause-value
returns-in_err-key-clause-value c =
    let text : List ℕ = take c.args.len c.args.text.now in
    c.from_residual.ensures
    ∙ too_long c.args.bank text c.self.inside.all.items c.self.inside.keys.keys c.self.invariant.0 (omega (arith, not_short c.args.len c.in_err-key.ensures.short, length-take-le c.args.len c.args.text.now c.requires.len))
    ∙ ap (position (λ (client : Client). eqb c.args.bank client.bank && bytes_eq text client.name)) c.self.view_is

pub returns-clause-value : goal.returns-clause-value
returns-clause-value c = c.place_by.ensures.value c.args.bank (take c.args.len c.args.text.now) c.in_ok-key.ensures.key
