-- What a session is: its banks and pairs in the order of its header, and the limits and totals that the banks open with.
-- Banks and pairs are named by their places, from 0. A name or a code is its text, a list of bytes.
use Rattle.std.specs.Prelude.{ℕ, ◌≡◌, ◌≢◌, ◌≤◌, ◌+◌, ◌*◌, ◌^◌, ◌%◌, ◌<◌, ◌==◌, if◌then◌else◌, ◌++◌, ◌∷◌, ◌⊎◌, Option, None, List, [], length, map, position, bytes_eq, IsTrue, IfSome, All, AllPairs, slice_index, slice_index_or}
use Rattle.std.specs.Str.{byte}
use Rattle.fx_rules.specs.Lists.{below}
use Rattle.fx_rules.specs.Names.{is_name, is_code}
use Rattle.fx_rules.specs.declared.session.PairRule.{PairRule}

-- a pair's terms are in their ranges: two different codes, 0 to 6 decimals, a lot of 1 to 10^9 that is a multiple of
-- 10^decimals, a weight of 1 to 10^6
pub record IsPairRule (rule : PairRule) : Type 0 where
  pub base : IsTrue (is_code rule.base)
  pub quote : IsTrue (is_code rule.quote)
  pub differ : rule.base ≢ rule.quote
  pub decimals : rule.decimals ≤ 6
  pub lot_least : 1 ≤ rule.lot
  pub lot_most : rule.lot ≤ 1000000000
  pub lot_whole : rule.lot % 10 ^ rule.decimals ≡ 0
  pub weight_least : 1 ≤ rule.weight
  pub weight_most : rule.weight ≤ 1000000

-- two pairs are of the same two currencies, in the same order
abbrev pub AreSamePair : PairRule → PairRule → Type 0
AreSamePair a b = (a.base ≡ b.base) × (a.quote ≡ b.quote)

-- the version of its text; banks, pairs, and the opening limits row by row: the one that bank i sets on bank j stands at
-- i * banks + j; and in version 2 alone the total that each bank opens with, or that it has none
pub record Header : Type 0 where
  pub version : ℕ
  pub banks : List (List ℕ)
  pub pairs : List PairRule
  pub limits : List ℕ
  pub totals : List (Option ℕ)

abbrev pub bank_count : Header → ℕ
bank_count h = length h.banks

abbrev pub pair_count : Header → ℕ
pair_count h = length h.pairs

-- the operator's number among the senders
abbrev pub host : ℕ
host = 64

-- who sends commands, in the order of their desks: the banks in header order, and in version 2 then the operator
abbrev pub senders : Header → List ℕ
senders h = below (bank_count h) ++ (if h.version == 2 then host ∷ [] else [])

-- one of them; each has a number, a stream and a count of its own
abbrev pub IsSender : Header → ℕ → Type 0
IsSender h sender = (sender < bank_count h) ⊎ ((h.version ≡ 2) × (sender ≡ host))

-- how many places a list has that a sender's number indexes; in version 2 those between the banks and the operator are unused
abbrev pub sender_places : Header → ℕ
sender_places h = if h.version == 2 then host + 1 else bank_count h

-- the limit that bank i opens with on bank j
abbrev pub opening_limit : Header → ℕ → ℕ → ℕ
opening_limit h i j = slice_index h.limits (i * bank_count h + j)

-- the total that a bank opens with, where it has one
abbrev pub opening_total : Header → ℕ → Option ℕ
opening_total h bank = slice_index_or h.totals bank None

-- credit units per lot of a pair
abbrev pub weight_of : Header → ℕ → ℕ
weight_of h pair = slice_index (map (λ rule. rule.weight) h.pairs) pair

-- how many decimals a pair's prices have, and units of base per lot
abbrev pub decimals_of : Header → ℕ → ℕ
decimals_of h pair = slice_index (map (λ rule. rule.decimals) h.pairs) pair

abbrev pub lot_of : Header → ℕ → ℕ
lot_of h pair = slice_index (map (λ rule. rule.lot) h.pairs) pair

-- a bank's name
abbrev pub bank_name : Header → ℕ → List ℕ
bank_name h bank = slice_index_or h.banks bank []

-- the bank of that name
abbrev pub bank_named : List (List ℕ) → List ℕ → Option ℕ
bank_named banks text = position (λ name. bytes_eq name text) banks

-- how a pair is written: BASE/QUOTE
abbrev pub pair_text : PairRule → List ℕ
pair_text rule = rule.base ++ (byte "/" ∷ rule.quote)

abbrev pub pair_name : Header → ℕ → List ℕ
pair_name h pair = slice_index_or (map pair_text h.pairs) pair []

-- the pair that is written so
abbrev pub pair_named : Header → List ℕ → Option ℕ
pair_named h text = position (λ rule. bytes_eq (pair_text rule) text) h.pairs

-- the newest version that a session can have
unfoldable pub newest : ℕ
newest = 2

-- a valid session: of a version that there is, with 2 to 64 banks of different names, 1 to 32 pairs, no two the same, and a limit
-- of 0 to 10^15 that each bank sets on each bank, 0 on itself; in version 2 with a total of 0 to 10^15 or none for each bank
pub record IsSession (h : Header) : Type 0 where
  pub banks_least : 2 ≤ bank_count h
  pub banks_most : bank_count h ≤ 64
  pub names : All (λ name. IsTrue (is_name name)) h.banks
  pub names_differ : AllPairs (λ a b. a ≢ b) h.banks
  pub pairs_least : 1 ≤ pair_count h
  pub pairs_most : pair_count h ≤ 32
  pub rules : All IsPairRule h.pairs
  pub pairs_differ : AllPairs (λ a b. ¬ (AreSamePair a b)) h.pairs
  pub limits_full : length h.limits ≡ bank_count h * bank_count h
  pub limits_most : All (λ limit. limit ≤ 1000000000000000) h.limits
  pub own_limits : (i : ℕ) → i < bank_count h → opening_limit h i i ≡ 0
  pub version_least : 1 ≤ h.version
  pub version_most : h.version ≤ newest
  pub totals_full : length h.totals ≡ (if h.version == 2 then bank_count h else 0)
  pub totals_most : All (λ most. IfSome most (λ units. units ≤ 1000000000000000)) h.totals
