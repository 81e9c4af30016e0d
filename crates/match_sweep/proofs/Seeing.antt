-- What is seen of the banks that were passed, and the lots that were added up of theirs.
use Rattle.std.proofs.Common.{ℕ, ◌≡◌, ◌≢◌, ◌+◌, ◌*◌, ◌≤◌, ◌<◌, ◌++◌, List, [], ◌∷◌, length, inl, inr, ap, sym, subst, ◌∙◌, arith, slice_index, take, get_or-set_same, get_or-set_other}
use Rattle.std.proofs.Math.ListN.{set}
use Rattle.std.proofs.lemmas.Bool.{cases_eq}
use Rattle.std.proofs.lemmas.List.Elements.{Contains-push_cases}
use Rattle.std.proofs.lemmas.Nat.Bits.{bit_at-lt, bit_at-zero, bit_at_or}
use Rattle.std.specs.Int.{bit_at}
use Rattle.std.specs.Int.RustNames.{bit_or}
use Rattle.fx_amounts.specs.Side.{opposite}
use Rattle.fx_amounts.specs.declared.side.Side.{Side}
use Rattle.fx_rules.proofs.ListLemmas.{total-append}
use Rattle.price_levels.specs.Rungs.{lots_below}
use Rattle.price_levels.specs.declared.level.Level.{Level as Rung}
use Rattle.price_levels.proofs.Adding.{none_up_to}
use Rattle.global_book.specs.Book.{Book}
use Rattle.global_book.specs.Ladders.{book_level}
use Rattle.match_sweep.specs.declared.reached.LevelWalk.{LevelWalk}
use Rattle.match_sweep.specs.inside.Near.{ArePaid, AreSeen, IsSeen}

pub seen-begins : (book : Book) (side : Side) (from : ℕ) (banks words : List ℕ) → AreSeen book side from banks words 0 0
seen-begins book side from banks words = record {
  each = λ i early. absurd (omega (arith, early));
  any = λ k small marked. absurd (omega (arith, marked, bit_at-zero k));
  each_told = λ i k early. absurd (omega (arith, early));
}

-- one bank more
pub seen-on : (book : Book) (side : Side) (from : ℕ) (banks words : List ℕ) (count all word n : ℕ) → n ≡ slice_index banks count → count < length words → AreSeen book side from banks words count all → IsSeen book side from n word
    → AreSeen book side from banks (set words count word) (count + 1) (bit_or all word)
seen-on book side from banks words count all word n n_is room was seen =
    let here : slice_index (set words count word) count ≡ word = get_or-set_same words count word 0 room in
    let else' : (i : ℕ) → i ≢ count → slice_index (set words count word) i ≡ slice_index words i = λ i differ. get_or-set_other words count i word 0 differ in
    record {
      each = λ i early. elim (cases_eq i count) [
        | inl same ↦ subst (λ (j : ℕ). IsSeen book side from (slice_index banks j) (slice_index (set words count word) j)) (sym same)
            (subst (λ (w : ℕ). IsSeen book side from (slice_index banks count) w) (sym here) (subst (λ (b : ℕ). IsSeen book side from b word) n_is seen))
        | inr differ ↦ subst (λ (w : ℕ). IsSeen book side from (slice_index banks i) w) (sym (else' i differ)) (was.each i (omega (arith, early, differ)))
      ];
      any = λ k small marked. elim (cases_eq (bit_at all k) 1) [
        | inl before ↦
            let it = was.any k small before in
            (it.0, omega (arith, it.1), ap (λ (w : ℕ). bit_at w k) (else' it.0 (λ same. omega (arith, same, it.1))) ∙ it.2)
        | inr not_before ↦
            let both = bit_at_or all word k in
            (count, omega arith, ap (λ (w : ℕ). bit_at w k) here ∙ (let one : bit_at word k ≡ 1 = omega (arith, both, marked, not_before, bit_at-lt all k, bit_at-lt word k) in one))
      ];
      each_told = λ i k early small marked.
          let both = bit_at_or all word k in
          elim (cases_eq i count) [
            | inl same ↦
                let one : bit_at word k ≡ 1 = ap (λ (w : ℕ). bit_at w k) (sym here) ∙ ap (λ (j : ℕ). bit_at (slice_index (set words count word) j) k) (sym same) ∙ marked in
                omega (arith, both, one, bit_at-lt all k)
            | inr differ ↦
                let one : bit_at all k ≡ 1 = was.each_told i k (omega (arith, early, differ)) small (ap (λ (w : ℕ). bit_at w k) (sym (else' i differ)) ∙ marked) in
                omega (arith, both, one, bit_at-lt word k)
          ];
    }

pub paid-begins : (book : Book) (walk : LevelWalk) (from last : ℕ) (banks lots : List ℕ) → ((k : ℕ) → slice_index lots k ≡ 0) → ArePaid book walk from last (take 0 banks) lots
paid-begins book walk from last banks lots bare = record {
  pays = λ b there. absurd (omega (arith, there.1));
  sums = λ k within. bare k;
}

pub paid-on : (book : Book) (walk : LevelWalk) (from last : ℕ) (banks lots lots' : List ℕ) (n sum : ℕ) → ArePaid book walk from last banks lots → sum ≡ lots_below (book_level book (opposite walk.taker) n) from (last + 1)
    → sum * walk.weight ≤ slice_index walk.lines n → ((k : ℕ) → k ≤ last → slice_index lots' k ≡ slice_index lots k + (book_level book (opposite walk.taker) n (from + k)).lots) → ArePaid book walk from last (banks ++ n ∷ []) lots'
paid-on book walk from last banks lots lots' n sum was sum_is fits added = record {
  pays = λ b there. elim (Contains-push_cases banks n b there) [
    | inl before ↦ was.pays b before
    | inr same ↦ subst (λ (m : ℕ). lots_below (book_level book (opposite walk.taker) m) from (last + 1) * walk.weight ≤ slice_index walk.lines m) same
        (subst (λ (s : ℕ). s * walk.weight ≤ slice_index walk.lines n) sum_is fits)
  ];
  sums = λ k within. omega (arith, added k within, was.sums k within, total-append (λ (b : ℕ). (book_level book (opposite walk.taker) b (from + k)).lots) banks (n ∷ []));
}

-- ranks without lots
pub none_below : (levels : ℕ → Rung) (from count : ℕ) → ((rank : ℕ) → (levels rank).lots ≡ 0) → lots_below levels from count ≡ 0
none_below levels from count bare = none_up_to levels from 0 count (omega arith) (λ k _ _. bare (from + k))
