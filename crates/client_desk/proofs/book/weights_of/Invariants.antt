use Rattle.std.proofs.Common.{◌≡◌, map, take}
use Rattle.client_desk.proofs.book.weights_of.Given as goal

-- the weights of the pairs that were passed
abbrev pub invariant-loop-rule : goal.invariant-loop-rule
invariant-loop-rule l = l.weights.items ≡ map (λ rule. rule.weight) (take l.rule-index l.pairs)
