use Rattle.std.proofs.Common.{ℕ, List, ◌++◌, ◌∷◌, Some, ap, ap₂, sym, subst, ◌∙◌}
use Rattle.client_desk.proofs.Naming.{HasNone, IsParted, client-parted, client-no_bank, client-no_colon, parted}
use Rattle.client_desk.proofs.line.client_named.Goals as goal

pub returns-in_err-at-clause-value : goal.returns-in_err-at-clause-value
returns-in_err-at-clause-value c =
    c.from_residual.ensures ∙ sym (client-no_colon c.args.session.now c.args.clients.now c.args.field.now (sym c.place_of_colon.ensures.value ∙ c.in_err-at.was))

pub returns-in_err-bank-clause-value : goal.returns-in_err-bank-clause-value
returns-in_err-bank-clause-value c =
    let p : IsParted c.args.field.now c.in_ok-at.at = parted c.args.field.now c.in_ok-at.at (sym c.place_of_colon.ensures.value ∙ c.in_ok-at.was) in
    c.from_residual-in_err-bank.ensures
    ∙ sym (client-no_bank c.args.session.now c.args.clients.now c.args.field.now c.split_at.result.0.now c.split_at-2.result.1.now c.banks-banks.ensures.valid c.requires.clients
    (subst HasNone (sym c.split_at.ensures.front) p.none)
    (p.whole ∙ ap₂ (λ (a b : List ℕ). a ++ 58 ∷ b) (sym c.split_at.ensures.front) (sym c.split_at-2.ensures.back))
    (sym c.bank_named.ensures.value ∙ c.in_err-bank.was))

pub returns-in_err-place-clause-value : goal.returns-in_err-place-clause-value
returns-in_err-place-clause-value c =
    let p : IsParted c.args.field.now c.in_ok-at.at = parted c.args.field.now c.in_ok-at.at (sym c.place_of_colon.ensures.value ∙ c.in_ok-at.was) in
    c.from_residual-in_err-place.ensures
    ∙ sym (client-parted c.args.session.now c.args.clients.now c.args.field.now c.split_at.result.0.now c.split_at-2.result.1.now c.in_ok-bank.bank c.banks-banks.ensures.valid c.requires.clients
    (subst HasNone (sym c.split_at.ensures.front) p.none)
    (p.whole ∙ ap₂ (λ (a b : List ℕ). a ++ 58 ∷ b) (sym c.split_at.ensures.front) (sym c.split_at-2.ensures.back))
    (sym c.bank_named.ensures.value ∙ c.in_ok-bank.was)
    ∙ sym c.place_of.ensures.value ∙ c.in_err-place.was)

pub returns-clause-value : goal.returns-clause-value
returns-clause-value c =
    let p : IsParted c.args.field.now c.in_ok-at.at = parted c.args.field.now c.in_ok-at.at (sym c.place_of_colon.ensures.value ∙ c.in_ok-at.was) in
    sym (client-parted c.args.session.now c.args.clients.now c.args.field.now c.split_at.result.0.now c.split_at-2.result.1.now c.in_ok-bank.bank c.banks-banks.ensures.valid c.requires.clients
    (subst HasNone (sym c.split_at.ensures.front) p.none)
    (p.whole ∙ ap₂ (λ (a b : List ℕ). a ++ 58 ∷ b) (sym c.split_at.ensures.front) (sym c.split_at-2.ensures.back))
    (sym c.bank_named.ensures.value ∙ c.in_ok-bank.was)
    ∙ sym c.place_of.ensures.value ∙ c.in_ok-place.was ∙ ap Some (sym c.at.ensures.value))
