-- The banks of which something can be taken, as a walk opens one bank after the other.
use Rattle.std.proofs.Common.{ℕ, suc, ◌≡◌, ◌≢◌, ◌+◌, ◌-◌, ◌≤◌, ◌<◌, ◌^◌, Bool, false, not, eqb, if◌then◌else◌, List, [], ◌∷◌, ◌++◌, length, take, slice_index, Option, None, refl, ap, sym, subst, ◌∙◌, arith, append-nil}
use Rattle.std.proofs.lemmas.Bool.{both_ways, eq-eqb, lt-leb, ne_eqb}
use Rattle.std.proofs.lemmas.List.Elements.{filter-append}
use Rattle.std.proofs.lemmas.List.Kept.{IsStrictlyIncreasing-filter}
use Rattle.std.specs.List.{Contains, filter}
use Rattle.fx_rules.proofs.ListLemmas.{filter_cons_false, filter_cons_true}
use Rattle.global_book.specs.Book.{AreOwners, Book, IsBook}
use Rattle.credit_lines.specs.Credit.{Credit}
use Rattle.match_sweep.specs.declared.reached.LevelWalk.{LevelWalk}
use Rattle.match_sweep.specs.inside.Reaches.{AreRanked, HaveOpened, IsLeft, IsLowest, IsRank, is_asked, price_in, price_of}
use Rattle.match_sweep.proofs.Passed.{few-apart, kept-of}
use Rattle.match_sweep.proofs.Ranking.{lowest-same}
use Rattle.match_sweep.proofs.Reaching.{asked_still}
use Rattle.match_sweep.proofs.Stepping.{owner_within}

-- the first so many banks are opened, those of them of which something can be taken are listed, and theirs is the lowest rank
pub record HaveListed (book : Book) (credit : Credit) (bank : ℕ) (first : LevelWalk) (owners : List ℕ) (k : ℕ) (walk : LevelWalk) (reached : List ℕ) (count lowest : ℕ) : Type 0 where
  pub opened : HaveOpened book credit (take k owners) bank first walk
  pub ranked : AreRanked walk
  pub listed : take count reached ≡ filter (is_asked walk) (take k owners)
  pub low : IsLowest walk (filter (is_asked walk) (take k owners)) lowest
  pub few : count ≤ k
  pub long : length reached ≡ 64

-- tests that agree on some numbers keep the same of them
filter-same : (p q : ℕ → Bool) (xs : List ℕ) → ((x : ℕ) → Contains xs x → p x ≡ q x) → filter p xs ≡ filter q xs
filter-same p q [] same = refl
filter-same p q (x ∷ xs) same =
    ap (λ (b : Bool). if b then (x ∷ filter p xs) else (filter p xs)) (same x (0, omega arith, refl))
    ∙ ap (λ (ys : List ℕ). if q x then (x ∷ ys) else ys) (filter-same p q xs (λ y there. same y (suc there.0, omega (arith, there.1), there.2)))

-- Another bank is opened.

module _ (old new : LevelWalk) (xs : List ℕ) (n : ℕ) (fresh : Contains xs n → ⊥) (others : (third : ℕ) → third ≢ n → IsLeft old new third) where
  left : (bank : ℕ) → Contains xs bank → IsLeft old new bank
  left bank there = others bank (λ same. fresh (subst (Contains xs) same there))

  -- of those before it the same can be taken
  pub still-asked : filter (is_asked new) xs ≡ filter (is_asked old) xs
  still-asked = filter-same (is_asked new) (is_asked old) xs (λ bank there. ap (λ (rank : ℕ). not (eqb rank (2 ^ 30 - 1))) (left bank there).rank)

  pub still-lowest : (lowest : ℕ) → new.weight ≡ old.weight → new.taker ≡ old.taker → IsLowest old (filter (is_asked old) xs) lowest → IsLowest new (filter (is_asked new) xs) lowest
  still-lowest lowest weight taker low =
      subst (λ (ys : List ℕ). IsLowest new ys lowest) (sym still-asked)
      (lowest-same old new (filter (is_asked old) xs) lowest taker (λ bank there. asked_still old new bank weight taker (left bank (kept-of (is_asked old) xs bank there).0)) low)

module _ (walk : LevelWalk) (owners : List ℕ) (k n : ℕ) (more : take (k + 1) owners ≡ take k owners ++ n ∷ []) where
  grown : filter (is_asked walk) (take (k + 1) owners) ≡ filter (is_asked walk) (take k owners) ++ filter (is_asked walk) (n ∷ [])
  grown = ap (filter (is_asked walk)) more ∙ filter-append (is_asked walk) (take k owners) (n ∷ [])

  -- something can be taken of it, or nothing
  pub asked-more : slice_index walk.ranks n ≢ 2 ^ 30 - 1 → filter (is_asked walk) (take (k + 1) owners) ≡ filter (is_asked walk) (take k owners) ++ n ∷ []
  asked-more some = grown ∙ ap (λ (xs : List ℕ). filter (is_asked walk) (take k owners) ++ xs) (filter_cons_true (is_asked walk) n [] (ap not (ne_eqb (slice_index walk.ranks n) (2 ^ 30 - 1) some)))

  pub asked-same : is_asked walk n ≡ false → filter (is_asked walk) (take (k + 1) owners) ≡ filter (is_asked walk) (take k owners)
  asked-same none = grown ∙ ap (λ (xs : List ℕ). filter (is_asked walk) (take k owners) ++ xs) (filter_cons_false (is_asked walk) n [] none) ∙ append-nil (filter (is_asked walk) (take k owners))

pub unasked : (walk : LevelWalk) (n : ℕ) → slice_index walk.ranks n ≡ 2 ^ 30 - 1 → is_asked walk n ≡ false
unasked walk n none = ap not (eq-eqb (slice_index walk.ranks n) (2 ^ 30 - 1) none)

-- nothing is asked of the bank's own
pub own-unasked : (walk : LevelWalk) (bank : ℕ) → 1 ≤ walk.weight → slice_index walk.lines bank ≡ 0 → AreRanked walk → bank < 65 → is_asked walk bank ≡ false
own-unasked walk bank some own ranked below =
    let none : price_of walk bank ≡ None = ap (λ b. if b then price_in walk bank else None) (lt-leb walk.weight (slice_index walk.lines bank) (omega (arith, own, some))) in
    let rank : IsRank walk.taker None (slice_index walk.ranks bank) = subst (λ (p : Option ℕ). IsRank walk.taker p (slice_index walk.ranks bank)) none (ranked bank below) in
    unasked walk bank rank.is

-- so the banks of which something can be taken are fewer than those of the book
pub fewer-reached : (book : Book) (owners : List ℕ) (walk : LevelWalk) (bank : ℕ) → IsBook book → AreOwners book owners → bank < book.banks → is_asked walk bank ≡ false → length (filter (is_asked walk) owners) + 1 ≤ book.banks
fewer-reached book owners walk bank valid are within own =
    few-apart (filter (is_asked walk) owners) book.banks bank (IsStrictlyIncreasing-filter (is_asked walk) owners are.rising)
    (λ x there. owner_within book owners x valid are (kept-of (is_asked walk) owners x there).0) within
    (λ there. both_ways (is_asked walk bank) own (kept-of (is_asked walk) owners bank there).1)
