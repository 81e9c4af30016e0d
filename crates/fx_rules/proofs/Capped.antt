-- A planned sweep of an order whose bank has a total is the planned sweep, by the lines alone, of an order that wants no more lots than
-- what the total leaves pays for.
use Rattle.std.proofs.Common.{ℕ, ◌≡◌, ◌+◌, ◌-◌, ◌*◌, ◌/◌, ◌≤◌, ◌<◌, min, Bool, true, false, ◌&&◌, List, [], ◌∷◌, ◌⊎◌, inl, inr, refl, ap, sym, subst, ◌∙◌, arith, Option, Some, None}
use Rattle.std.proofs.Math.Nat.{mul-le-mul_left, lt-div-mul-add, div-mul-le_self, add-mul}
use Rattle.std.proofs.lemmas.Nat.{div-mul-add}
use Rattle.std.proofs.lemmas.Bool.{cases_lt, and_left}
use Rattle.fx_rules.specs.declared.orders.Resting.{Resting}
use Rattle.fx_rules.specs.declared.orders.Fill.{Fill}
use Rattle.std.specs.Option.{option_map}
use Rattle.fx_rules.specs.State.{at_most}
use Rattle.fx_rules.specs.Sweep.{Taker, is_open, IsBest, amount, fill_with, less}
use Rattle.fx_rules.specs.Plan.{Planned, is_behind, open_behind, spend}
use Rattle.fx_rules.proofs.ListLemmas.{filter_agree_on, filter_cons_false}
use Rattle.fx_rules.proofs.Opens.{is_open-says}
use Rattle.fx_rules.proofs.Credit.{room_less}
use Rattle.fx_rules.proofs.Planning.{open_parts, open_none, div_mono}

-- the planned sweep with a purse: what each line leaves, and, where the taker's bank has a total, what is left for all of them
abbrev pub PlannedIn : ℕ → (ℕ → ℕ) → Option ℕ → List Resting → Taker → Option Resting → List Fill → ℕ → Type 0
PlannedIn weight lines purse book t last [] left =
    (left ≡ t.left) × ((t.left ≡ 0) ⊎ (open_behind (λ bank. at_most purse (lines bank) / weight) t last book ≡ []))
PlannedIn weight lines purse book t last (fill ∷ fills) left =
    (best : Resting) × (1 ≤ t.left) × IsBest t.side (open_behind (λ bank. at_most purse (lines bank) / weight) t last book) best
    × (fill ≡ fill_with t best (amount t best (at_most purse (lines best.bank) / weight)))
    × PlannedIn weight (spend lines best.bank (fill.lots * weight)) (room_less purse (fill.lots * weight)) book (less t fill.lots) (Some best) fills left

-- a taker that wants so many lots at most
abbrev capped : Taker → ℕ → Taker
capped t most = record t { left = min most t.left }

-- a taker that wants no more lots than its purse pays for
abbrev pub affordable : Option ℕ → ℕ → Taker → Taker
affordable purse weight t = record t { left = at_most (option_map (λ units. units / weight) purse) t.left }

bool_ext' : (a b : Bool) → (a ≡ true → b ≡ true) → (b ≡ true → a ≡ true) → a ≡ b
bool_ext' true b there back = sym (there refl)
bool_ext' false true there back = back refl
bool_ext' false false there back = refl

pub min_div : (a b w : ℕ) → 0 < w → min a b / w ≡ min (a / w) (b / w)
min_div a b w some =
    elim (cases_lt b a) [
      | inl below ↦
          let low : min a b ≡ b = omega (arith, below) in
          let div : b / w ≤ a / w = div_mono b a w some (omega (arith, below)) in
          let least : min (a / w) (b / w) ≡ b / w = omega (arith, div) in
          ap (λ n. n / w) low ∙ sym least
      | inr more ↦
          let low : min a b ≡ a = omega (arith, more) in
          let div : a / w ≤ b / w = div_mono a b w some more in
          let least : min (a / w) (b / w) ≡ a / w = omega (arith, div) in
          ap (λ n. n / w) low ∙ sym least
    ]

less_numbers : (purse n w q r : ℕ) → purse ≡ q * w + r → n ≤ q → purse - n * w ≡ (q - n) * w + r
less_numbers purse n w q r parts fits =
    let more : q ≡ (q - n) + n = omega (arith, fits) in
    let product : q * w ≡ (q - n) * w + n * w = ap (λ k. k * w) more ∙ add-mul (q - n) n w in
    omega (arith, product, parts)

-- what is left of a purse pays for so many lots less
pub purse_less : (purse n w : ℕ) → 0 < w → (purse - n * w) / w ≡ purse / w - n
purse_less purse n w some =
    elim (cases_lt (purse / w) n) [
      | inl over ↦
          let all : purse < n * w = omega (arith, mul-le-mul_left w over) in
          let none : purse - n * w ≡ 0 = omega (arith, all) in
          ap (λ m. m / w) none ∙ omega (arith, over)
      | inr fits ↦
          let small : purse - purse / w * w < w = omega (arith, lt-div-mul-add {a = purse} {b = w} some) in
          let parts : purse ≡ purse / w * w + (purse - purse / w * w) = omega (arith, div-mul-le_self purse w) in
          ap (λ m. m / w) (less_numbers purse n w (purse / w) (purse - purse / w * w) parts fits)
          ∙ div-mul-add (purse / w - n) w (purse - purse / w * w) small
    ]

same_open : (t : Taker) (r s : ℕ) (o : Resting) → (1 ≤ r → 1 ≤ s) → (1 ≤ s → 1 ≤ r) → is_open t r o ≡ is_open t s o
same_open t r s o there back =
    bool_ext' (is_open t r o) (is_open t s o)
    (λ h. let says = is_open-says t r o h in open_parts t s o (record { opposite = says.opposite; other = says.other; reach = there says.reach; crosses = says.crosses; earlier = says.earlier }))
    (λ h. let says = is_open-says t s o h in open_parts t r o (record { opposite = says.opposite; other = says.other; reach = back says.reach; crosses = says.crosses; earlier = says.earlier }))

none_open : (w : ℕ) (lines : ℕ → ℕ) (purse : ℕ) (t : Taker) (last : Option Resting) (book : List Resting) → 0 < w → purse / w ≡ 0 → open_behind (λ bank. min purse (lines bank) / w) t last book ≡ []
none_open w lines purse t last [] some none = refl
none_open w lines purse t last (o ∷ book) some none =
    let reach : min purse (lines o.bank) / w ≡ 0 = min_div purse (lines o.bank) w some ∙ omega (arith, none) in
    filter_cons_false (λ (q : Resting). is_open t (min purse (lines q.bank) / w) q && is_behind t.side last q) o book
    (and_left (is_open t (min purse (lines o.bank) / w) o) (is_behind t.side last o) (open_none t (min purse (lines o.bank) / w) o reach))
    ∙ none_open w lines purse t last book some none

opens_same : (w : ℕ) (lines : ℕ → ℕ) (purse : ℕ) (t : Taker) (last : Option Resting) (book : List Resting) → 0 < w → 1 ≤ purse / w → open_behind (λ bank. lines bank / w) (capped t (purse / w)) last book ≡ open_behind (λ bank. min purse (lines bank) / w) t last book
opens_same w lines purse t last book some pays =
    filter_agree_on (λ (o : Resting). is_open (capped t (purse / w)) (lines o.bank / w) o && is_behind t.side last o)
    (λ (o : Resting). is_open t (min purse (lines o.bank) / w) o && is_behind t.side last o) book
    (λ o _.
    let div : min purse (lines o.bank) / w ≡ min (purse / w) (lines o.bank / w) = min_div purse (lines o.bank) w some in
    let one : is_open t (lines o.bank / w) o ≡ is_open t (min purse (lines o.bank) / w) o =
    same_open t (lines o.bank / w) (min purse (lines o.bank) / w) o (λ r. omega (arith, r, pays, div)) (λ r. omega (arith, r, div)) in
    ap (λ (b : Bool). b && is_behind t.side last o) one)

spent_sum : (left a m rest n : ℕ) → n ≤ min m a → left + min m a ≡ a + rest → left + min (m - n) (a - n) ≡ (a - n) + rest
spent_sum left a m rest n within sum = omega arith

least_same : (a b r m : ℕ) → min (min m a) (min b r) ≡ min a (min b (min m r))
least_same a b r m = omega arith

less_same : (a m n : ℕ) → min m a - n ≡ min (m - n) (a - n)
less_same a m n = omega arith

capped-planned : (w : ℕ) (lines : ℕ → ℕ) (purse : ℕ) (book : List Resting) (t : Taker) (last : Option Resting) (fills : List Fill) (rest left : ℕ) → 0 < w → left + min (purse / w) t.left ≡ t.left + rest → Planned w lines book (capped t (purse / w)) last fills rest → PlannedIn w lines (Some purse) book t last fills left
capped-planned w lines purse book t last [] rest left some sum planned = (
  omega (arith, sum, planned.0),
  elim (cases_lt 0 (purse / w)) [
    | inl pays ↦ elim planned.1 [
      | inl none ↦ inl (omega (arith, none, pays))
      | inr closed ↦ inr (sym (opens_same w lines purse t last book some pays) ∙ closed)
    ]
    | inr none ↦ inr (none_open w lines purse t last book some (omega (arith, none)))
  ],
)
capped-planned w lines purse book t last (f ∷ fills) rest left some sum planned =
    let best : Resting = planned.0 in
    let wants : 1 ≤ min (purse / w) t.left = planned.1 in
    let pays : 1 ≤ purse / w = omega (arith, wants) in
    let fill_is : f ≡ fill_with t best (amount (capped t (purse / w)) best (lines best.bank / w)) = planned.3 in
    let same : amount (capped t (purse / w)) best (lines best.bank / w) ≡ amount t best (min purse (lines best.bank) / w) =
    least_same t.left best.left (lines best.bank / w) (purse / w)
    ∙ ap (λ r. min t.left (min best.left r)) (sym (min_div purse (lines best.bank) w some)) in
    let lots : f.lots ≡ amount (capped t (purse / w)) best (lines best.bank / w) = ap (λ (g : Fill). g.lots) fill_is in
    let most : f.lots ≤ min (purse / w) t.left = omega (arith, lots) in
    let next : less (capped t (purse / w)) f.lots ≡ capped (less t f.lots) ((purse - f.lots * w) / w) =
    ap (λ n. record t { left = n }) (less_same t.left (purse / w) f.lots ∙ ap (λ m. min m (t.left - f.lots)) (sym (purse_less purse f.lots w some))) in
    let more : left + min ((purse - f.lots * w) / w) (t.left - f.lots) ≡ (t.left - f.lots) + rest =
    subst (λ m. left + min m (t.left - f.lots) ≡ (t.left - f.lots) + rest) (sym (purse_less purse f.lots w some))
    (spent_sum left t.left (purse / w) rest f.lots most sum) in (
      best,
      omega (arith, wants),
      subst (λ orders. IsBest t.side orders best) (opens_same w lines purse t last book some pays) planned.2,
      fill_is ∙ ap (fill_with t best) same,
      capped-planned w (spend lines best.bank (f.lots * w)) (purse - f.lots * w) book (less t f.lots) (Some best) fills rest left some more
          (subst (λ (u : Taker). Planned w (spend lines best.bank (f.lots * w)) book u (Some best) fills rest) next planned.4),
    )

-- Without a purse the two are one.
plain-planned : (w : ℕ) (lines : ℕ → ℕ) (book : List Resting) (t : Taker) (last : Option Resting) (fills : List Fill) (left : ℕ) → Planned w lines book t last fills left → PlannedIn w lines None book t last fills left
plain-planned w lines book t last [] left planned = planned
plain-planned w lines book t last (f ∷ fills) left planned = (
  planned.0,
  planned.1,
  planned.2,
  planned.3,
  plain-planned w (spend lines planned.0.bank (f.lots * w)) book (less t f.lots) (Some planned.0) fills left planned.4,
)

same_left : (left rest lots : ℕ) → left + lots ≡ lots + rest → rest ≡ left
same_left left rest lots sum = omega arith

-- The sweep that is planned by the lines alone, of what the purse pays for, is the one with the purse. What it leaves is what the lesser
-- order leaves and what the purse took off.
pub affordable-planned : (w : ℕ) (lines : ℕ → ℕ) (purse : Option ℕ) (book : List Resting) (t : Taker) (last : Option Resting) (fills : List Fill) (rest left : ℕ) → 0 < w → left + (affordable purse w t).left ≡ t.left + rest → Planned w lines book (affordable purse w t) last fills rest → PlannedIn w lines purse book t last fills left
affordable-planned w lines None book t last fills rest left some sum planned =
    plain-planned w lines book t last fills left (subst (Planned w lines book t last fills) (same_left left rest t.left sum) planned)
affordable-planned w lines (Some purse) book t last fills rest left some sum planned = capped-planned w lines purse book t last fills rest left some sum planned
