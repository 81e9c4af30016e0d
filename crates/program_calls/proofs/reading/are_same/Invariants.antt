use Rattle.std.proofs.Common.{◌≡◌, map, take, string_bytes}
use Rattle.program_calls.proofs.reading.are_same.Given as goal

-- the words so far are the same
abbrev pub invariant-loop-at : goal.invariant-loop-at
invariant-loop-at l = map string_bytes (take l.at l.words) ≡ map (λ word. word.now) (take l.at l.others)
