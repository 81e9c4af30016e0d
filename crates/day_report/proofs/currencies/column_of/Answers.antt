use Rattle.std.proofs.Common.{arith, ◌≡◌, true, false, cond, is_some, position, bytes_eq, Some, List, ℕ, [], ◌∷◌, ◌++◌, ap, sym, ◌∙◌}
use Rattle.day_report.proofs.Codes.{placed}
use Rattle.day_report.proofs.currencies.column_of.Goals as goal

pub returns-in-Some-clause-codes : goal.returns-in-Some-clause-codes
returns-in-Some-clause-codes c =
    let codes = c.args.codes.now.items in
    let there : is_some (position (λ (other : List ℕ). bytes_eq other c.args.code) c.args.codes.now.items) ≡ true = grind (arith, c.in-Some.ensures) in
    sym (ap (λ t. cond t codes (codes ++ c.args.code ∷ [])) there)

pub returns-in-Some-clause-column : goal.returns-in-Some-clause-column
returns-in-Some-clause-column c =
    let found : position (λ (other : List ℕ). bytes_eq other c.args.code) c.args.codes.now.items ≡ Some c.in-Some.column = grind (arith, c.in-Some.ensures) in
    placed c.args.codes.now.items c.args.code c.in-Some.column found

pub returns-in_ok-push-in-None-clause-codes : goal.returns-in_ok-push-in-None-clause-codes
returns-in_ok-push-in-None-clause-codes c =
    let codes = c.args.codes.now.items in
    let none : is_some (position (λ (other : List ℕ). bytes_eq other c.args.code) c.args.codes.now.items) ≡ false = grind (arith, c.in-None.ensures) in
    c.in_ok-push-in-None.ensures.items ∙ sym (ap (λ t. cond t codes (codes ++ c.args.code ∷ [])) none)
