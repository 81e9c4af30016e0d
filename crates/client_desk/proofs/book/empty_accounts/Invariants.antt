use Rattle.std.proofs.Common.{◌≡◌, replicate}
use Rattle.client_desk.specs.Standing.{no_sums}
use Rattle.client_desk.proofs.book.empty_accounts.Given as goal

-- an account for each client so far
abbrev pub invariant-loop-client : goal.invariant-loop-client
invariant-loop-client l = l.accounts.items ≡ replicate l._client no_sums
