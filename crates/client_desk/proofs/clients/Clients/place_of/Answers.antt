use Rattle.std.proofs.Common.{ℕ, ◌≡◌, ◌∙◌, ◌&&◌, ap, List, eqb, bytes_eq, position, arith, length, ◌≤◌, ◌<◌, true, false, inl, inr, sym}
use Rattle.std.proofs.lemmas.Bool.{cases_lt, true≢false}
use Rattle.client_desk.specs.declared.client.Client.{Client}
use Rattle.client_desk.proofs.Finding.{too_long}
use Rattle.client_desk.proofs.clients.Clients.place_of.Goals as goal

not_short : (text : List ℕ) → (length text ≤ 8 → false ≡ true) → 8 < length text
not_short text none = elim (cases_lt 8 (length text)) [
  | inl long ↦ long
  | inr short ↦ absurd (true≢false (sym (none (omega arith))))
]

pub returns-in_err-key-clause-value : goal.returns-in_err-key-clause-value
returns-in_err-key-clause-value c =
    c.from_residual.ensures
    ∙ too_long c.args.bank c.args.name.now c.self.inside.all.items c.self.inside.keys.keys c.self.invariant.0 (not_short c.args.name.now c.in_err-key.ensures.short)
    ∙ ap (position (λ (client : Client). eqb c.args.bank client.bank && bytes_eq c.args.name.now client.name)) c.self.view_is

pub returns-clause-value : goal.returns-clause-value
returns-clause-value c = c.place_by.ensures.value c.args.bank c.args.name.now c.in_ok-key.ensures.key
