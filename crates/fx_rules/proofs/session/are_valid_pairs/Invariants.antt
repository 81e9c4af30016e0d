use Rattle.std.specs.List.{AllWithin}
use Rattle.fx_rules.specs.Session.{IsPairRule, AreSamePair}
use Rattle.fx_rules.proofs.SessionLemmas.{AllPairsBelow}
use Rattle.fx_rules.proofs.session.are_valid_pairs.Given as goal

-- the pairs before `at` have terms in range, and no two are of the same two currencies
abbrev pub invariant-loop-at : goal.invariant-loop-at
invariant-loop-at l =
    AllWithin IsPairRule l.pairs 0 l.at × AllPairsBelow (λ a b. ¬ (AreSamePair a b)) l.pairs l.at
