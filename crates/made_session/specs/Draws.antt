-- Numbers that are drawn one after another. Each draw moves the state, and gives what the state leaves by the number that it
-- is to be below.
use Rattle.std.specs.Prelude.{ℕ, zero, suc, ◌+◌, ◌*◌, ◌%◌}

-- the state at first
abbrev pub seeded : ℕ → ℕ
seeded seed = seed % 2147483646 + 1

-- the state after a draw
abbrev pub moved : ℕ → ℕ
moved x = x * 48271 % 2147483647

-- the state after so many draws
abbrev pub after_draws : ℕ → ℕ → ℕ
after_draws zero x = x
after_draws (suc k) x = moved (after_draws k x)

-- what the k-th draw gives, where it is one below n
abbrev pub draw : ℕ → ℕ → ℕ → ℕ
draw k n x = after_draws k x % n
