-- The session that a seed makes of a number of banks and of pairs.
use Rattle.std.specs.Prelude.{ℕ, zero, suc, ◌+◌, ◌-◌, ◌*◌, ◌/◌, ◌%◌, ◌==◌, Bool, nat_lt, if◌then◌else◌, List, [], ◌∷◌, map, codes}
use Rattle.std.specs.Str.{byte}
use Rattle.fx_rules.specs.Lists.{below}
use Rattle.fx_rules.specs.Session.{Header}
use Rattle.fx_rules.specs.declared.session.PairRule.{PairRule}
use Rattle.made_session.specs.Draws.{seeded, moved, draw}

-- bank k: `B`, and k + 1 in two digits
abbrev pub made_bank : ℕ → List ℕ
made_bank k = byte "B" ∷ (byte "0" + (k + 1) / 10) ∷ (byte "0" + (k + 1) % 10) ∷ []

-- the code of pair k's base currency: `AA` and a letter from `A` on, and where those are used up `AB` and a letter
abbrev pub made_base : ℕ → List ℕ
made_base k =
    if nat_lt k 26 then byte "A" ∷ byte "A" ∷ (byte "A" + k) ∷ []
    else byte "A" ∷ byte "B" ∷ (byte "A" + (k - 26)) ∷ []

-- pair k
abbrev pub made_pair : ℕ → PairRule
made_pair k = record { base = made_base k; quote = codes "ZZZ"; decimals = 2; lot = 1000; weight = 10 + k }

-- The limit of a bank on a bank, drawn in a state: 1000 to 20000. That on itself is 0 and takes no draw.
abbrev pub drawn_limit : Bool → ℕ → ℕ
drawn_limit is_own x = if is_own then 0 else 1000 * (1 + draw 1 20 x)

-- the state after it
abbrev pub after_limit : Bool → ℕ → ℕ
after_limit is_own x = if is_own then x else moved x

-- a place in the table of limits, row by row, is that of a bank's limit on itself
abbrev pub is_own_place : ℕ → ℕ → Bool
is_own_place banks place = place / banks == place % banks

-- the state once the limits in front of a place are drawn
abbrev pub before_limit : ℕ → ℕ → ℕ → ℕ
before_limit banks x zero = x
before_limit banks x (suc place) = after_limit (is_own_place banks place) (before_limit banks x place)

-- the limit at a place
abbrev pub made_limit : ℕ → ℕ → ℕ → ℕ
made_limit banks x place = drawn_limit (is_own_place banks place) (before_limit banks x place)

-- all limits of so many banks
abbrev pub made_limits : ℕ → ℕ → List ℕ
made_limits banks x = map (made_limit banks x) (below (banks * banks))

-- the session
abbrev pub made_header : ℕ → ℕ → ℕ → Header
made_header seed banks pairs = record {
  version = 1;
  banks = map made_bank (below banks);
  pairs = map made_pair (below pairs);
  limits = made_limits banks (seeded seed);
  totals = [];
}

-- the state once all limits are drawn
abbrev pub after_limits : ℕ → ℕ → ℕ
after_limits banks x = before_limit banks x (banks * banks)
