use Rattle.std.proofs.Common.{◌≢◌, IsTrue}
use Rattle.std.specs.List.{AllWithin}
use Rattle.fx_rules.specs.Names.{is_name}
use Rattle.fx_rules.proofs.SessionLemmas.{AllPairsBelow}
use Rattle.fx_rules.proofs.session.are_valid_banks.Given as goal

-- the banks before `at` have names, and different ones
abbrev pub invariant-loop-at : goal.invariant-loop-at
invariant-loop-at l =
    AllWithin (λ name. IsTrue (is_name name)) l.banks 0 l.at × AllPairsBelow (λ a b. a ≢ b) l.banks l.at
