-- A walk's step: heads are passed, the best of those that may be taken is taken, and the other heads stay.
use Rattle.std.proofs.Common.{ℕ, ◌≡◌, ◌≢◌, ◌+◌, ◌-◌, ◌*◌, ◌/◌, ◌≤◌, ◌<◌, ◌^◌, min, true, false, ◌&&◌, eqb, ltb, List, [], ◌∷◌, ◌⊎◌, inl, inr, refl, ap, sym, subst, ◌∙◌, arith, length, get_or, slice_index, Option, Some, None, get_or-set_other, get_or-set_same}
use Rattle.std.proofs.Math.ListN.{set}
use Rattle.std.proofs.Math.Nat.{le-div_iff_mul-le, mul-le-mul_left, div-mul-le_self}
use Rattle.std.proofs.lemmas.Bool.{and_parts, and_from, both_ways, cases_eq, cases_lt, cond-false, cond-true, eq-eqb, eqb-true, lt-ltb, ne_eqb}
use Rattle.std.proofs.lemmas.List.{get_or_past, length-set}
use Rattle.std.specs.List.{Contains}
use Rattle.std.specs.Option.{IfSome, IsSome, IsSomeAnd}
use Rattle.fx_amounts.specs.Side.{opposite}
use Rattle.fx_amounts.specs.declared.side.Side.{Side}
use Rattle.fx_amounts.specs.Price.{crosses}
use Rattle.fx_amounts.specs.Quantity.{IsWeight}
use Rattle.fx_rules.specs.declared.orders.Resting.{Resting}
use Rattle.fx_rules.specs.declared.orders.Fill.{Fill}
use Rattle.fx_rules.specs.Lists.{Among}
use Rattle.fx_rules.specs.Sweep.{IsBest, is_open, is_opposite, is_preferred, less}
use Rattle.fx_rules.specs.Plan.{Planned, is_behind, open_behind, spend}
use Rattle.fx_rules.proofs.ListLemmas.{Among-filter, Each-among, Each-of, among_filter}
use Rattle.fx_rules.proofs.Opens.{IsOpen, is_open-says}
use Rattle.fx_rules.proofs.Planning.{div_none, open_parts}
use Rattle.global_book.specs.Behind.{is_owned_behind, owned_behind}
use Rattle.global_book.specs.Book.{AreOwners, Book, IsBook, IsHeld, is_of}
use Rattle.global_book.specs.Heads.{Heads, IsLeast, IsNext, PassesHead, head_in, with_head}
use Rattle.global_book.proofs.Sought.{opposite-opposite}
use Rattle.global_book.proofs.Within.{crosses_too}
use Rattle.credit_lines.specs.Credit.{Credit, line_in}
use Rattle.match_sweep.specs.inside.Walks.{FromHere, GoesBehind, HasCome, IsFound, IsHeadOf, IsWalk, MayTake, Takes, left_with, open_from, reach_of}
use Rattle.match_sweep.specs.declared.walk.Walk.{Walk}
use Rattle.match_sweep.proofs.Planning.{planned-agrees}
use Rattle.match_sweep.proofs.Picking.{none_among, not_before_first, same_or_before, still_behind}

pub pays : (line weight : ℕ) → IsWeight weight → weight ≤ line → 1 ≤ line / weight
pays line weight is fits = (le-div_iff_mul-le {k = weight} {x = 1} {y = line} (omega (arith, is.0))).1 (omega (arith, fits))

pub paid_for : (line weight : ℕ) → IsWeight weight → 1 ≤ line / weight → weight ≤ line
paid_for line weight is some = omega (arith, (le-div_iff_mul-le {k = weight} {x = 1} {y = line} (omega (arith, is.0))).0 some)

pub owners : (book : Book) → IsBook book → (o : Resting) → Among o book.orders → o.bank < book.banks
owners book is o there = let held : IsHeld book.banks o = Each-among (IsHeld book.banks) book.orders o is.held there in held.bank

-- a bank with an order is one of the book's
pub owner_within : (book : Book) (owners_now : List ℕ) (bank : ℕ) → IsBook book → AreOwners book owners_now → Contains owners_now bank → bank < book.banks
owner_within book owners_now bank is are there =
    let it = are.owns bank there in
    omega (arith, owners book is it.0 it.1, it.2)

-- The next order of a bank.

-- it is one of the bank's, behind the one that was passed
pub record IsOneOf (taker : Side) (bank : ℕ) (past : Option Resting) (orders : List Resting) (o : Resting) : Type 0 where
  pub there : Among o orders
  pub owner : o.bank ≡ bank
  pub opposite : is_opposite taker o.side ≡ true
  pub behind : is_behind taker past o ≡ true

module _ (side taker : Side) (bank : ℕ) (past : Option Resting) (orders : List Resting) (turned : opposite side ≡ taker) where
  one-of : (o : Resting) → Among o (owned_behind side bank (2 ^ 64) past orders) → IsOneOf taker bank past orders o
  one-of o there =
      let it = Among-filter (is_owned_behind (opposite side) bank (2 ^ 64) past) orders o there in
      let test = subst (λ (s : Side). is_owned_behind s bank (2 ^ 64) past o ≡ true) turned it.1 in
      let last = and_parts (is_opposite taker o.side && is_of bank o && ltb o.arrival (2 ^ 64)) (is_behind taker past o) test in
      let early = and_parts (is_opposite taker o.side && is_of bank o) (ltb o.arrival (2 ^ 64)) last.0 in
      let own = and_parts (is_opposite taker o.side) (is_of bank o) early.0 in
      record { there = it.0; owner = eqb-true o.bank bank own.1; opposite = own.0; behind = last.1 }

  of-one : (o : Resting) → IsOneOf taker bank past orders o → o.arrival < 2 ^ 64 → Among o (owned_behind side bank (2 ^ 64) past orders)
  of-one o is few =
      among_filter (is_owned_behind (opposite side) bank (2 ^ 64) past) orders o is.there
      (subst (λ (s : Side). is_owned_behind s bank (2 ^ 64) past o ≡ true) (sym turned)
      (and_from (is_opposite taker o.side && is_of bank o && ltb o.arrival (2 ^ 64)) (is_behind taker past o)
      (and_from (is_opposite taker o.side && is_of bank o) (ltb o.arrival (2 ^ 64))
      (and_from (is_opposite taker o.side) (is_of bank o) is.opposite (eq-eqb o.bank bank is.owner)) (lt-ltb o.arrival (2 ^ 64) few)) is.behind))

  pub next-is : (found : Option Resting) → IsNext side bank past orders found → IfSome found (IsOneOf taker bank past orders)
  next-is None next = tt
  next-is (Some head) next = one-of head next.there

  -- none of them stands before it
  pub next-first : (found : Option Resting) → IsNext side bank past orders found → (o : Resting) → IsOneOf taker bank past orders o → o.arrival < 2 ^ 64
      → IsSomeAnd found (λ (h : Resting). is_preferred taker o h ≡ false)
  next-first None next o is few = absurd (subst (Among o) next (of-one o is few))
  next-first (Some head) next o is few =
      subst (λ (s : Side). is_preferred s o head ≡ false) turned
      (Each-among (λ (q : Resting). is_preferred (opposite side) q head ≡ false) (owned_behind side bank (2 ^ 64) past orders) o next.first (of-one o is few))

-- The heads of a walk.

some-is : (found : Option Resting) (P : Resting → Type 0) → IsSomeAnd found P → (h : Resting) × (found ≡ Some h) × P h
some-is None P none = absurd none
some-is (Some h) P holds = (h, refl, holds)

if-is : (found : Option Resting) (P : Resting → Type 0) (h : Resting) → found ≡ Some h → IfSome found P → P h
if-is found P h is holds = subst (λ (f : Option Resting). IfSome f P) is holds

if-all : (found : Option Resting) (P : Resting → Type 0) → ((h : Resting) → found ≡ Some h → P h) → IfSome found P
if-all None P all = tt
if-all (Some h) P all = all h refl

pub turned : {n g : ℕ} (credit : Credit) (walk : Walk n g) → IsWalk credit walk → opposite walk.heads.side ≡ walk.order.side
turned credit walk is = ap opposite is.side ∙ opposite-opposite walk.order.side

module _ {n g : ℕ} (credit : Credit) (walk : Walk n g) (is : IsWalk credit walk) where
  pub head-of : (bank : ℕ) (head : Resting) → head_in walk.heads bank ≡ Some head → IsHeadOf walk.order.side walk.heads.orders bank head
  head-of bank head at = if-is (head_in walk.heads bank) (IsHeadOf walk.order.side walk.heads.orders bank) head at (is.heads bank)

  pub head-small : (bank : ℕ) (head : Resting) → head_in walk.heads bank ≡ Some head → bank < n
  head-small bank head at = elim (cases_lt bank n) [
    | inl small ↦ small
    | inr past ↦ absurd (none-some (sym (get_or_past walk.heads.next bank None (omega (arith, is.count, past))) ∙ at))
  ]
    where
      none-some : None ≡ Some head → ⊥
      none-some e = cc

  pub held-of : (o : Resting) → Among o walk.heads.orders → IsHeld credit.banks o
  held-of o there = Each-among (IsHeld credit.banks) walk.heads.orders o is.held there

  -- the bank with the best head is one of those of the lines
  pub least-bank : (bank : ℕ) → IsLeast walk.heads bank → bank < credit.banks
  least-bank bank least = let head = head-of bank least.head least.is in omega (arith, (held-of least.head head.there).bank, head.owner)

  -- and it has a head
  pub least-some : (bank : ℕ) → IsLeast walk.heads bank → IsSome (head_in walk.heads bank)
  least-some bank least = subst (λ (f : Option Resting). IsSome f) (sym least.is) refl

  -- the head of a bank that is another one than the walk's own, with which the line pays for a lot, may be taken
  pub least-may : (bank : ℕ) (maker : Resting) → IsLeast walk.heads bank → Some maker ≡ head_in walk.heads bank → bank ≢ walk.order.bank → walk.weight ≤ left_with credit walk bank → MayTake credit walk maker
  least-may bank maker least seen other line =
      let head = head-of bank maker (sym seen) in
      let same : least.head ≡ maker = some_same least.head maker (sym least.is ∙ sym seen) in
      record {
        is = ap (head_in walk.heads) head.owner ∙ sym seen;
        other = λ own. other (sym head.owner ∙ own);
        within = (held-of maker head.there).bank;
        line = subst (λ (b : ℕ). walk.weight ≤ left_with credit walk b) (sym head.owner) line;
        first = λ other'. if-all (head_in walk.heads other') (λ (h : Resting). is_preferred walk.order.side h maker ≡ false) (λ h at.
            subst (λ (m : Resting). is_preferred walk.order.side h m ≡ false) same (subst (λ (s : Side). is_preferred s h least.head ≡ false) (turned credit walk is) (least.first other' h at)));
      }
    where
      some_same : (a b : Resting) → Some a ≡ Some b → a ≡ b
      some_same a b is = cc

  -- so it is found
  pub found-least : (bank line : ℕ) (maker : Resting) → IsLeast walk.heads bank → head_in walk.heads bank ≡ Some maker → bank ≢ walk.order.bank → line ≡ left_with credit walk bank → walk.weight ≤ line
      → line_in credit walk.order.bank bank ≤ 10 ^ 15 → IsFound credit walk (maker, line)
  found-least bank line maker least at other line_is enough most =
      let owner : maker.bank ≡ bank = (head-of bank maker at).owner in
      record {
        may = least-may bank maker least (sym at) other (omega (arith, line_is, enough));
        line = line_is ∙ sym (ap (left_with credit walk) owner);
        most = subst (λ (b : ℕ). line_in credit walk.order.bank b ≤ 10 ^ 15) (sym owner) most;
      }

  pub least-crosses : (bank : ℕ) (maker : Resting) → IsLeast walk.heads bank → Some maker ≡ head_in walk.heads bank → crosses walk.order.side walk.order.price maker.price ≡ true
  least-crosses bank maker least seen =
      subst (λ (m : Resting). crosses walk.order.side walk.order.price m.price ≡ true) (some_same least.head maker (sym least.is ∙ sym seen))
      (subst (λ (limit : ℕ). crosses walk.order.side limit least.head.price ≡ true) is.limit
      (subst (λ (s : Side). crosses s walk.heads.limit least.head.price ≡ true) (turned credit walk is) least.allowed))
    where
      some_same : (a b : Resting) → Some a ≡ Some b → a ≡ b
      some_same a b is = cc

  -- One head is another one.

  module _ (bank : ℕ) (next : Option Resting) (small : bank < n) where
    set-here : head_in (with_head walk.heads bank next) bank ≡ next
    set-here = get_or-set_same walk.heads.next bank next None (omega (arith, small, is.count))

    set-other : (other : ℕ) → other ≢ bank → head_in (with_head walk.heads bank next) other ≡ head_in walk.heads other
    set-other other differ = get_or-set_other walk.heads.next bank other next None differ

    -- what holds of the new head and of the others holds of all
    if-set : (P : ℕ → Resting → Type 0) → IfSome next (P bank) → ((other : ℕ) → other ≢ bank → IfSome (head_in walk.heads other) (P other)) → (other : ℕ) → IfSome (head_in (with_head walk.heads bank next) other) (P other)
    if-set P here there other = elim (cases_eq other bank) [
      | inl same ↦ subst (λ (b : ℕ). IfSome (head_in (with_head walk.heads bank next) b) (P b)) (sym same) (subst (λ (f : Option Resting). IfSome f (P bank)) (sym set-here) here)
      | inr differ ↦ subst (λ (f : Option Resting). IfSome f (P other)) (sym (set-other other differ)) (there other differ)
    ]

    and-set : (P : Resting → Type 0) → (other : ℕ) → (other ≡ bank → IsSomeAnd next P) → (other ≢ bank → IsSomeAnd (head_in walk.heads other) P) → IsSomeAnd (head_in (with_head walk.heads bank next) other) P
    and-set P other here there = elim (cases_eq other bank) [
      | inl same ↦ subst (λ (b : ℕ). IsSomeAnd (head_in (with_head walk.heads bank next) b) P) (sym same) (subst (λ (f : Option Resting). IsSomeAnd f P) (sym set-here) (here same))
      | inr differ ↦ subst (λ (f : Option Resting). IsSomeAnd f P) (sym (set-other other differ)) (there differ)
    ]

    -- the walk is one still
    pub walk-set : IfSome next (IsOneOf walk.order.side bank None walk.heads.orders) → IsWalk credit (record walk { heads = with_head walk.heads bank next })
    walk-set own = record {
      rising = is.rising;
      held = is.held;
      bank = is.bank;
      banks = is.banks;
      weight = is.weight;
      side = is.side;
      limit = is.limit;
      count = length-set walk.heads.next bank next ∙ is.count;
      full = is.full;
      used = is.used;
      heads = if-set (IsHeadOf walk.order.side walk.heads.orders) (if-all next (IsHeadOf walk.order.side walk.heads.orders bank) (λ h at.
          let it = if-is next (IsOneOf walk.order.side bank None walk.heads.orders) h at own in
          record { there = it.there; owner = it.owner; opposite = it.opposite })) (λ other differ. is.heads other);
    }

  -- A bank is shut.
  pub shut-come : (bank : ℕ) (last : Option Resting) → bank < n → reach_of credit walk bank ≡ 0 ⊎ (bank ≡ walk.order.bank) → HasCome credit walk last → HasCome credit (record walk { heads = with_head walk.heads bank None }) last
  shut-come bank last small shut come = record {
    behind = if-set bank None small (λ _ (h : Resting). is_behind walk.order.side last h ≡ true) tt (λ other differ. come.behind other);
    all = λ o there opens behind. and-set bank None small (λ (h : Resting). is_preferred walk.order.side o h ≡ false) o.bank
        (λ same. let says = is_open-says walk.order (reach_of credit walk o.bank) o opens in elim shut [
          | inl none ↦ absurd (omega (arith, says.reach, none, ap (reach_of credit walk) same))
          | inr own ↦ absurd (says.other (same ∙ own))
        ])
        (λ differ. come.all o there opens behind);
  }

  -- A head is passed.
  module _ (bank : ℕ) (maker : Resting) (heads : Heads) (small : bank < n) (at : head_in walk.heads bank ≡ Some maker) (passes : PassesHead walk.heads heads bank) where
    next-of : IsNext walk.heads.side bank (Some maker) walk.heads.orders passes.head
    next-of = if-is (head_in walk.heads bank) (λ (p : Resting). IsNext walk.heads.side bank (Some p) walk.heads.orders passes.head) maker at passes.next

    next-one : IfSome passes.head (IsOneOf walk.order.side bank (Some maker) walk.heads.orders)
    next-one = next-is walk.heads.side walk.order.side bank (Some maker) walk.heads.orders (turned credit walk is) passes.head next-of

    pub walk-passed : IsWalk credit (record walk { heads = heads })
    walk-passed =
        subst (λ (h : Heads). IsWalk credit (record walk { heads = h })) (sym passes.is)
        (walk-set bank passes.head small (if-all passes.head (IsOneOf walk.order.side bank None walk.heads.orders) (λ h here.
        let it = if-is passes.head (IsOneOf walk.order.side bank (Some maker) walk.heads.orders) h here next-one in
        record { there = it.there; owner = it.owner; opposite = it.opposite; behind = refl })))

    -- an order of the bank behind the head that is passed does not stand before the next one
    next-covers : (o : Resting) → Among o walk.heads.orders → o.bank ≡ bank → is_opposite walk.order.side o.side ≡ true → is_preferred walk.order.side maker o ≡ true
        → IsSomeAnd passes.head (λ (h : Resting). is_preferred walk.order.side o h ≡ false)
    next-covers o there owner opp behind =
        next-first walk.heads.side walk.order.side bank (Some maker) walk.heads.orders (turned credit walk is) passes.head next-of o
        (record { there = there; owner = owner; opposite = opp; behind = behind }) (held-of o there).arrival_most

    -- it arrived too late
    pub late-come : (last : Option Resting) → walk.order.arrival ≤ maker.arrival → HasCome credit walk last → HasCome credit (record walk { heads = heads }) last
    late-come last late come =
        subst (λ (h : Heads). HasCome credit (record walk { heads = h }) last) (sym passes.is)
        (record {
          behind = if-set bank passes.head small (λ _ (h : Resting). is_behind walk.order.side last h ≡ true)
              (if-all passes.head (λ (h : Resting). is_behind walk.order.side last h ≡ true) (λ h here.
              still_behind walk.order.side last maker h (if-is (head_in walk.heads bank) (λ (q : Resting). is_behind walk.order.side last q ≡ true) maker at (come.behind bank))
              (if-is passes.head (IsOneOf walk.order.side bank (Some maker) walk.heads.orders) h here next-one).behind))
              (λ other differ. come.behind other);
          all = λ o there opens behind. and-set bank passes.head small (λ (h : Resting). is_preferred walk.order.side o h ≡ false) o.bank
              (λ same.
              let says = is_open-says walk.order (reach_of credit walk o.bank) o opens in
              let first : is_preferred walk.order.side o maker ≡ false =
              first-here o (ap (head_in walk.heads) same ∙ at) (come.all o there opens behind) in
              elim (same_or_before walk.order.side walk.heads.orders maker o is.rising (head-of bank maker at).there there first) [
                | inl equal ↦ absurd (omega (arith, says.earlier, late, ap (λ (q : Resting). q.arrival) equal))
                | inr before ↦ next-covers o there same says.opposite before
              ])
              (λ differ. come.all o there opens behind);
        })
      where
        first-here : (o : Resting) → head_in walk.heads o.bank ≡ Some maker → IsSomeAnd (head_in walk.heads o.bank) (λ (h : Resting). is_preferred walk.order.side o h ≡ false) → is_preferred walk.order.side o maker ≡ false
        first-here o here holds = subst (λ (f : Option Resting). IsSomeAnd f (λ (h : Resting). is_preferred walk.order.side o h ≡ false)) here holds

-- The head of a bank is passed, or all its orders are.

pub orders-behind : (weight line : ℕ) (old new : Heads) (bank : ℕ) → GoesBehind weight line old new bank → new.orders ≡ old.orders
orders-behind weight line old new bank (inl passes) = ap (λ (h : Heads). h.orders) passes.is
orders-behind weight line old new bank (inr shut) = ap (λ (h : Heads). h.orders) shut.1

pub walk-behind : {n g : ℕ} (credit : Credit) (walk : Walk n g) → IsWalk credit walk → (line : ℕ) (heads : Heads) (maker : Resting) → maker.bank < n → head_in walk.heads maker.bank ≡ Some maker
    → GoesBehind walk.weight line walk.heads heads maker.bank → IsWalk credit (record walk { heads = heads })
walk-behind credit walk is line heads maker small at (inl passes) = walk-passed credit walk is maker.bank maker heads small at passes
walk-behind credit walk is line heads maker small at (inr shut) =
    subst (λ (h : Heads). IsWalk credit (record walk { heads = h })) (sym shut.1) (walk-set credit walk is maker.bank None small tt)

-- A bank is shut where what is left of the line does not pay for a lot, or it is the walk's own.
pub shut-by : {n g : ℕ} (credit : Credit) (walk : Walk n g) (bank line : ℕ) → (bank ≢ walk.order.bank → line ≡ left_with credit walk bank) → line < walk.weight → (reach_of credit walk bank ≡ 0) ⊎ (bank ≡ walk.order.bank)
shut-by credit walk bank line is short = elim (cases_eq bank walk.order.bank) [
  | inl own ↦ inr own
  | inr differ ↦ inl (div_none (left_with credit walk bank) walk.weight (omega (arith, is differ, short)))
]

pub pays-other : {n g : ℕ} (walk : Walk n g) (bank line : ℕ) → IsWeight walk.weight → (bank ≡ walk.order.bank → line ≡ 0) → walk.weight ≤ line → bank ≢ walk.order.bank
pays-other walk bank line weight own pays same = omega (arith, own same, pays, weight.0)

-- The same orders are open to a walk whose heads alone changed.
pub open-along : {n g : ℕ} (credit : Credit) (old new : Walk n g) (last : Option Resting) → new ≡ record old { heads = new.heads } → new.heads.orders ≡ old.heads.orders → open_from credit new last ≡ open_from credit old last
open-along {n = n} {g = g} credit old new last same orders =
    ap (λ (w : Walk n g). open_from credit w last) same ∙ ap (λ (os : List Resting). open_behind (reach_of credit old) old.order last os) orders

pub from-along : {n g : ℕ} (credit : Credit) (old new : Walk n g) (last : Option Resting) (fills : List Fill) (left : ℕ) → new ≡ record old { heads = new.heads } → new.heads.orders ≡ old.heads.orders
    → FromHere credit new last fills left → FromHere credit old last fills left
from-along {n = n} {g = g} credit old new last fills left same orders from =
    subst (λ (os : List Resting). Planned old.weight (left_with credit old) os old.order last fills left) orders
    (subst (λ (w : Walk n g). FromHere credit w last fills left) same from)

-- The best of the heads is the best of all that are open.

module _ {n g : ℕ} (credit : Credit) (walk : Walk n g) (is : IsWalk credit walk) (last : Option Resting) (come : HasCome credit walk last) where
  -- the head of an open order's bank
  open-head : (o : Resting) → Among o (open_from credit walk last)
      → (h : Resting) × (head_in walk.heads o.bank ≡ Some h) × (is_preferred walk.order.side o h ≡ false) × Among o walk.heads.orders × IsOpen walk.order (reach_of credit walk o.bank) o
  open-head o there =
      let it = Among-filter (λ (q : Resting). is_open walk.order (reach_of credit walk q.bank) q && is_behind walk.order.side last q) walk.heads.orders o there in
      let parts = and_parts (is_open walk.order (reach_of credit walk o.bank) o) (is_behind walk.order.side last o) it.1 in
      let head = some-is (head_in walk.heads o.bank) (λ (h : Resting). is_preferred walk.order.side o h ≡ false) (come.all o it.0 parts.0 parts.1) in
      (head.0, head.1, head.2, it.0, is_open-says walk.order (reach_of credit walk o.bank) o parts.0)

  pub none-open : ((bank : ℕ) → IfSome (head_in walk.heads bank) (λ (h : Resting). crosses (opposite walk.heads.side) walk.heads.limit h.price ≡ false)) → open_from credit walk last ≡ []
  none-open above =
      let dear : (bank : ℕ) → IfSome (head_in walk.heads bank) (λ (h : Resting). crosses walk.order.side walk.order.price h.price ≡ false) =
      subst (λ (limit : ℕ). (bank : ℕ) → IfSome (head_in walk.heads bank) (λ (h : Resting). crosses walk.order.side limit h.price ≡ false)) is.limit
      (subst (λ (s : Side). (bank : ℕ) → IfSome (head_in walk.heads bank) (λ (h : Resting). crosses s walk.heads.limit h.price ≡ false)) (turned credit walk is) above) in
      none_among (open_from credit walk last) (λ o there.
      let it = open-head o there in
      both_ways (crosses walk.order.side walk.order.price it.0.price)
      (if-is (head_in walk.heads o.bank) (λ (h : Resting). crosses walk.order.side walk.order.price h.price ≡ false) it.0 it.1 (dear o.bank))
      (crosses_too walk.order.side walk.order.price it.0 o it.2 it.4.crosses))

  pub best-open : (maker : Resting) → MayTake credit walk maker → crosses walk.order.side walk.order.price maker.price ≡ true → maker.arrival < walk.order.arrival → IsBest walk.order.side (open_from credit walk last) maker
  best-open maker may crossing early = record {
    there = among_filter (λ (q : Resting). is_open walk.order (reach_of credit walk q.bank) q && is_behind walk.order.side last q) walk.heads.orders maker here.there
        (and_from (is_open walk.order (reach_of credit walk maker.bank) maker) (is_behind walk.order.side last maker)
        (open_parts walk.order (reach_of credit walk maker.bank) maker (record {
          opposite = here.opposite;
          other = may.other;
          reach = pays (left_with credit walk maker.bank) walk.weight is.weight may.line;
          crosses = crossing;
          earlier = early;
        }))
        (if-is (head_in walk.heads maker.bank) (λ (h : Resting). is_behind walk.order.side last h ≡ true) maker may.is (come.behind maker.bank)));
    first = Each-of (λ (o : Resting). is_preferred walk.order.side o maker ≡ false) (open_from credit walk last) (λ o there.
        let it = open-head o there in
        not_before_first walk.order.side walk.heads.orders o it.0 maker is.rising it.3 (head-of credit walk is o.bank it.0 it.1).there here.there it.2
        (if-is (head_in walk.heads o.bank) (λ (h : Resting). is_preferred walk.order.side h maker ≡ false) it.0 it.1 (may.first o.bank)));
  }
    where
      here : IsHeadOf walk.order.side walk.heads.orders maker.bank maker
      here = head-of credit walk is maker.bank maker may.is

-- An order is taken.

-- what a taken order costs is at most what the line pays for
pub cost-fits : {n g : ℕ} (line : ℕ) (old new : Walk n g) (maker : Resting) (fill : Fill) → Takes line old new maker fill → fill.lots * old.weight ≤ line
cost-fits line old new maker fill takes =
    let lots : fill.lots ≤ line / old.weight = least-last old.order.left maker.left (line / old.weight) fill.lots (ap (λ (f : Fill). f.lots) takes.is) in
    omega (arith, mul-le-mul_left old.weight lots, div-mul-le_self line old.weight)
  where
    least-last : (a b r lots : ℕ) → lots ≡ min a (min b r) → lots ≤ r
    least-last a b r lots is = omega arith

module _ {n g : ℕ} (credit : Credit) (walk : Walk n g) (is : IsWalk credit walk) (maker : Resting) (may : MayTake credit walk maker) (fill : Fill) (new : Walk n g) (takes : Takes (left_with credit walk maker.bank) walk new maker fill) where
  abbrev pub taken : Walk n g
  taken = record walk {
    order = less walk.order fill.lots;
    used = set walk.used maker.bank (slice_index walk.used maker.bank + fill.lots * walk.weight);
  }

  in_table : maker.bank < length walk.used
  in_table = omega (arith, is.full, head-small credit walk is maker.bank maker may.is)

  abbrev pub units : ℕ
  units = fill.lots * walk.weight

  fits : units ≤ left_with credit walk maker.bank
  fits = cost-fits (left_with credit walk maker.bank) walk new maker fill takes

  -- of other banks nothing more is used
  same-left : (bank : ℕ) → bank ≢ maker.bank → left_with credit taken bank ≡ left_with credit walk bank
  same-left bank differ = ap (λ (n : ℕ). line_in credit walk.order.bank bank - n) (get_or-set_other walk.used maker.bank bank (slice_index walk.used maker.bank + units) 0 differ)

  less-left : left_with credit taken maker.bank ≡ left_with credit walk maker.bank - units
  less-left =
      ap (λ (n : ℕ). line_in credit walk.order.bank maker.bank - n) (get_or-set_same walk.used maker.bank (slice_index walk.used maker.bank + units) 0 in_table)
      ∙ apart (line_in credit walk.order.bank maker.bank) (slice_index walk.used maker.bank) units
    where
      apart : (line used more : ℕ) → line - (used + more) ≡ line - used - more
      apart line used more = omega arith

  pub walk-taken : IsWalk credit new
  walk-taken = subst (IsWalk credit) (sym takes.now) (record {
    rising = is.rising;
    held = is.held;
    bank = is.bank;
    banks = is.banks;
    weight = is.weight;
    side = is.side;
    limit = is.limit;
    count = is.count;
    full = length-set walk.used maker.bank (slice_index walk.used maker.bank + units) ∙ is.full;
    used = λ bank. elim (cases_eq bank maker.bank) [
      | inl same ↦
          subst (λ (b : ℕ). get_or (set walk.used maker.bank (slice_index walk.used maker.bank + units)) b 0 ≤ line_in credit walk.order.bank b) (sym same)
          (omega (arith, get_or-set_same walk.used maker.bank (slice_index walk.used maker.bank + units) 0 in_table, fits, is.used maker.bank))
      | inr differ ↦ omega (arith, get_or-set_other walk.used maker.bank bank (slice_index walk.used maker.bank + units) 0 differ, is.used bank)
    ];
    heads = is.heads;
  })

  here-head : IsHeadOf walk.order.side walk.heads.orders maker.bank maker
  here-head = head-of credit walk is maker.bank maker may.is

  -- with another head of its bank the walk has come behind it, where that head is behind it, and before all that are open still
  behind-taken : (last next : Option Resting) → HasCome credit walk last → maker.bank < n → IfSome next (λ (h : Resting). is_preferred walk.order.side maker h ≡ true)
      → ((o : Resting) → Among o walk.heads.orders → o.bank ≡ maker.bank → is_open (less walk.order fill.lots) (reach_of credit taken o.bank) o ≡ true → is_preferred walk.order.side maker o ≡ true
      → IsSomeAnd next (λ (h : Resting). is_preferred walk.order.side o h ≡ false))
      → HasCome credit (record taken { heads = with_head walk.heads maker.bank next }) (Some maker)
  behind-taken last next come small behind covers = record {
    behind = if-set credit walk is maker.bank next small (λ _ (h : Resting). is_preferred walk.order.side maker h ≡ true) behind
        (λ other differ. if-all (head_in walk.heads other) (λ (h : Resting). is_preferred walk.order.side maker h ≡ true) (λ h at.
        let head = head-of credit walk is other h at in
        elim (same_or_before walk.order.side walk.heads.orders maker h is.rising here-head.there head.there
        (if-is (head_in walk.heads other) (λ (q : Resting). is_preferred walk.order.side q maker ≡ false) h at (may.first other))) [
          | inl equal ↦ absurd (differ (sym head.owner ∙ ap (λ (q : Resting). q.bank) (sym equal)))
          | inr before ↦ before
        ]));
    all = λ o there opens after. and-set credit walk is maker.bank next small (λ (h : Resting). is_preferred walk.order.side o h ≡ false) o.bank (λ same. covers o there same opens after)
        (λ differ. come.all o there
        (subst (λ (k : ℕ). is_open walk.order (k / walk.weight) o ≡ true) (same-left o.bank differ) opens)
        (still_behind walk.order.side last maker o (if-is (head_in walk.heads maker.bank) (λ (h : Resting). is_behind walk.order.side last h ≡ true) maker may.is (come.behind maker.bank)) after));
  }

  -- once its head is passed the walk has come behind it, and where its bank is shut, since the line pays for no more lot
  pub taken-come : (last : Option Resting) (line : ℕ) (heads : Heads) → HasCome credit walk last → maker.bank < n → line + units ≡ left_with credit walk maker.bank → GoesBehind walk.weight line walk.heads heads maker.bank
      → HasCome credit (record new { heads = heads }) (Some maker)
  taken-come last line heads come small left behind = subst (λ (w : Walk n g). HasCome credit (record w { heads = heads }) (Some maker)) (sym takes.now) (of-taken behind)
    where
      none : line < walk.weight → reach_of credit taken maker.bank ≡ 0
      none short = div_none (left_with credit taken maker.bank) walk.weight (omega (arith, less-left, short, left))

      of-taken : GoesBehind walk.weight line walk.heads heads maker.bank → HasCome credit (record taken { heads = heads }) (Some maker)
      of-taken (inl passes) =
          subst (λ (h : Heads). HasCome credit (record taken { heads = h }) (Some maker)) (sym passes.is)
          (behind-taken last passes.head come small
          (if-all passes.head (λ (h : Resting). is_preferred walk.order.side maker h ≡ true) (λ h here.
          (if-is passes.head (IsOneOf walk.order.side maker.bank (Some maker) walk.heads.orders) h here (next-one credit walk is maker.bank maker heads small may.is passes)).behind))
          (λ o there same opens after.
          next-covers credit walk is maker.bank maker heads small may.is passes o there same (is_open-says (less walk.order fill.lots) (reach_of credit taken o.bank) o opens).opposite after))
      of-taken (inr shut) =
          subst (λ (h : Heads). HasCome credit (record taken { heads = h }) (Some maker)) (sym shut.1)
          (behind-taken last None come small tt
          (λ o there same opens after.
          let says = is_open-says (less walk.order fill.lots) (reach_of credit taken o.bank) o opens in
          absurd (omega (arith, says.reach, none shut.0, ap (reach_of credit taken) same))))

  -- what it fills from there it fills behind the fill
  pub goes-on : (last : Option Resting) (heads : Heads) → heads.orders ≡ walk.heads.orders → 1 ≤ walk.order.left → IsBest walk.order.side (open_from credit walk last) maker
      → (more : List Fill) (left : ℕ) → FromHere credit (record new { heads = heads }) (Some maker) more left → FromHere credit walk last (fill ∷ more) left
  goes-on last heads orders_are some best more left from =
      let from_taken : Planned walk.weight (left_with credit taken) heads.orders (less walk.order fill.lots) (Some maker) more left =
      subst (λ (w : Walk n g). Planned w.weight (left_with credit w) heads.orders w.order (Some maker) more left) takes.now from in
      let here : Planned walk.weight (left_with credit taken) walk.heads.orders (less walk.order fill.lots) (Some maker) more left =
      subst (λ (os : List Resting). Planned walk.weight (left_with credit taken) os (less walk.order fill.lots) (Some maker) more left) orders_are from_taken in (
        maker,
        some,
        best,
        takes.is,
        planned-agrees walk.weight (left_with credit taken) (spend (left_with credit walk) maker.bank units) walk.heads.orders (less walk.order fill.lots) (Some maker) more left
            (λ o there. inl (spent o.bank)) here,
      )
    where
      spent : (bank : ℕ) → left_with credit taken bank ≡ spend (left_with credit walk) maker.bank units bank
      spent bank = elim (cases_eq bank maker.bank) [
        | inl same ↦
            ap (left_with credit taken) same ∙ less-left ∙ sym (ap (λ (b : ℕ). left_with credit walk b - units) same)
            ∙ sym (cond-true (eqb bank maker.bank) (left_with credit walk bank - units) (left_with credit walk bank) (eq-eqb bank maker.bank same))
        | inr differ ↦
            same-left bank differ ∙ sym (cond-false (eqb bank maker.bank) (left_with credit walk bank - units) (left_with credit walk bank) (ne_eqb bank maker.bank differ))
      ]
