-- The best order of levels, as one of these changes.
use Rattle.std.proofs.Common.{ℕ, cond, nat_eq, ◌≡◌, ◌≢◌, ◌-◌, ◌≤◌, ◌<◌, ◌==◌, ◌^◌, Bool, true, false, if◌then◌else◌, List, [], length, get_or, replicate, Option, Some, None, inl, inr, refl, ap, sym, subst, ◌∙◌, arith}
use Rattle.std.proofs.Math.ListN.{set}
use Rattle.std.proofs.lemmas.List.{get_or-replicate, get_or-set_other, get_or-set_same}
use Rattle.std.specs.Map.{lookup}
use Rattle.std.specs.Prelude.{IfSome}
use Rattle.std.proofs.lemmas.Bool.{cases_eq, cases_lt, eq-eqb, le-ltb, lt-ltb, ne_eqb}
use Rattle.price_levels.specs.declared.level.Level.{Level}
use Rattle.price_levels.specs.Rungs.{Rungs, holds, level_at, with_level_at}
use Rattle.price_levels.specs.Ticks.{first_left, last_left, no_level, with_order, without_order}
use Rattle.access_index.specs.declared.words.Head.{Head}
use Rattle.access_index.specs.Heads.{IsHead, head_word}
use Rattle.access_index.specs.Ranked.{AreHeadWords, IsHeadOf, bank_holds, bank_level, holds_in, level_in, with_bank_level}
use Rattle.access_index.specs.inside.Ranked.{AreRanked}
use Rattle.access_index.specs.inside.Words.{head_with}
use Rattle.access_index.proofs.Numbering.{Writes, of_updates}

-- levels that are the same at each rank have the same best order
pub head_same : (old new : ℕ → Level) (head : Option Head) → ((rank : ℕ) → new rank ≡ old rank) → IsHeadOf old head → IsHeadOf new head
head_same old new None same none = λ rank. ap (λ (l : Level). l.lots) (same rank) ∙ none rank
head_same old new (Some head) same is = (
  record {
    from_on = is.0.from_on;
    some = λ none. is.0.some (sym (ap (λ (l : Level). l.lots) (same head.rank)) ∙ none);
    first = λ other start before. ap (λ (l : Level). l.lots) (same other) ∙ is.0.first other start before;
  },
  is.1 ∙ sym (ap (λ (l : Level). l.first) (same head.rank)),
)

-- a level of a rank, and those of all others
at_rank : (old : ℕ → Level) (rank : ℕ) (level : Level) → with_level_at old rank level rank ≡ level
at_rank old rank level = ap (λ (b : Bool). if b then level else old rank) (eq-eqb rank rank refl)

at_other : (old : ℕ → Level) (rank other : ℕ) (level : Level) → other ≢ rank → with_level_at old rank level other ≡ old other
at_other old rank other level differ = ap (λ (b : Bool). if b then level else old other) (ne_eqb other rank differ)

-- a level gets other lots, and has some still
pub head_kept : (old : ℕ → Level) (rank : ℕ) (level : Level) (head : Option Head) → (old rank).lots ≢ 0 → level.lots ≢ 0 → level.first ≡ (old rank).first → IsHeadOf old head
    → IsHeadOf (with_level_at old rank level) head
head_kept old rank level None had has same none = absurd (had (none rank))
head_kept old rank level (Some head) had has same is =
    let there : ((with_level_at old rank level head.rank).lots ≢ 0) × ((with_level_at old rank level head.rank).first ≡ (old head.rank).first) =
    elim (cases_eq head.rank rank) [
      | inl equal ↦
          let now : with_level_at old rank level head.rank ≡ level = ap (with_level_at old rank level) equal ∙ at_rank old rank level in (
            λ none. has (sym (ap (λ (l : Level). l.lots) now) ∙ none),
            ap (λ (l : Level). l.first) now ∙ same ∙ ap (λ (r : ℕ). (old r).first) (sym equal),
          )
      | inr differ ↦ (
        λ none. is.0.some (sym (ap (λ (l : Level). l.lots) (at_other old rank head.rank level differ)) ∙ none),
        ap (λ (l : Level). l.first) (at_other old rank head.rank level differ),
      )
    ] in (
      record {
        from_on = is.0.from_on;
        some = there.0;
        first = λ other start before. elim (cases_eq other rank) [
          | inl equal ↦ absurd (had (ap (λ (r : ℕ). (old r).lots) (sym equal) ∙ is.0.first other start before))
          | inr differ ↦ ap (λ (l : Level). l.lots) (at_other old rank other level differ) ∙ is.0.first other start before
        ];
      },
      is.1 ∙ sym there.1,
    )

-- an order comes at a rank that had none, before the best one so far
newly : (old : ℕ → Level) (rank place lots : ℕ) → 0 < lots → ((other : ℕ) → other ≤ rank → (old other).lots ≡ 0)
    → IsHeadOf (with_level_at old rank (with_order (old rank) place lots)) (Some (record { rank = rank; place = place }))
newly old rank place lots some none =
    let now = at_rank old rank (with_order (old rank) place lots) in (
      record {
        from_on = omega arith;
        some = λ no'. absurd (omega (arith, sym (ap (λ (l : Level). l.lots) now) ∙ no', some));
        first = λ other start before.
            ap (λ (l : Level). l.lots) (at_other old rank other (with_order (old rank) place lots) (λ equal. omega (arith, before, equal))) ∙ none other (omega (arith, before));
      },
      sym (ap (λ (l : Level). l.first) now ∙ ap (λ (n : ℕ). if n == 0 then place else (old rank).first) (none rank (omega arith))),
    )

pub head_come : (old : ℕ → Level) (rank place lots : ℕ) (head : Option Head) → 0 < lots → IsHeadOf old head
    → IsHeadOf (with_level_at old rank (with_order (old rank) place lots)) (head_with head (record { rank = rank; place = place }))
head_come old rank place lots None some none = newly old rank place lots some (λ other upto. none other)
head_come old rank place lots (Some head) some is =
    elim (cases_lt rank head.rank) [
      | inl better ↦
          subst (IsHeadOf (with_level_at old rank (with_order (old rank) place lots)))
          (sym (ap (λ (b : Bool). if b then Some (record { rank = rank; place = place }) else Some head) (lt-ltb rank head.rank better)))
          (newly old rank place lots some (λ other upto. is.0.first other (omega arith) (omega (arith, upto, better))))
      | inr behind ↦
          subst (IsHeadOf (with_level_at old rank (with_order (old rank) place lots)))
          (sym (ap (λ (b : Bool). if b then Some (record { rank = rank; place = place }) else Some head) (le-ltb rank head.rank behind)))
          (elim (cases_eq (old rank).lots 0) [
            | inl empty ↦ beside empty behind
            | inr has ↦
                head_kept old rank (with_order (old rank) place lots) (Some head) has (λ none. absurd (omega (arith, none, some)))
                (ap (λ (b : Bool). if b then place else (old rank).first) (ne_eqb (old rank).lots 0 has)) is
          ])
    ]
  where
    beside : (old rank).lots ≡ 0 → head.rank ≤ rank → IsHeadOf (with_level_at old rank (with_order (old rank) place lots)) (Some head)
    beside empty behind =
        let apart : head.rank ≢ rank = λ equal. is.0.some (ap (λ (r : ℕ). (old r).lots) equal ∙ empty) in
        let same = at_other old rank head.rank (with_order (old rank) place lots) apart in (
          record {
            from_on = is.0.from_on;
            some = λ none. is.0.some (sym (ap (λ (l : Level). l.lots) same) ∙ none);
            first = λ other start before.
                ap (λ (l : Level). l.lots) (at_other old rank other (with_order (old rank) place lots) (λ equal. omega (arith, before, equal, behind))) ∙ is.0.first other start before;
          },
          is.1 ∙ sym (ap (λ (l : Level). l.first) same),
        )

-- One bank's ladder is another one.
module _ {owners owners' : List (ℕ × Rungs)} {bank : ℕ} {old new : Rungs} (writes : Writes owners owners' bank old new) where
  other_level : (other at : ℕ) → other ≢ bank → bank_level owners' other at ≡ bank_level owners other at
  other_level other at differ = ap (λ (o : Option Rungs). level_in o at) (writes.others other differ)

  own_level : (at : ℕ) → bank_level owners' bank at ≡ level_at new at
  own_level at = ap (λ (o : Option Rungs). level_in o at) writes.is

  pub had_level : (at : ℕ) → bank_level owners bank at ≡ level_at old at
  had_level at = ap (λ (o : Option Rungs). level_in o at) writes.was

  -- a rank that had so many lots had some
  pub had_some : (now : List (ℕ × Rungs)) (rank lots : ℕ) → owners ≡ now → 0 < lots → lots ≤ (bank_level now bank rank).lots → (level_at old rank).lots ≢ 0
  had_some now rank lots seen some has none =
      let is : (bank_level now bank rank).lots ≡ 0 = ap (λ (os : List (ℕ × Rungs)). (bank_level os bank rank).lots) (sym seen) ∙ ap (λ (l : Level). l.lots) (had_level rank) ∙ none in
      omega (arith, some, has, is)

  -- the levels of all banks, once one of one bank is another
  pub levels_written : (now : List (ℕ × Rungs)) (rank : ℕ) (becomes : Level → Level) → owners ≡ now → ((at : ℕ) → level_at new at ≡ with_level_at (level_at old) rank (becomes (level_at old rank)) at)
      → (other at : ℕ) → bank_level owners' other at ≡ with_bank_level (bank_level now) bank rank (becomes (bank_level now bank rank)) other at
  levels_written now rank becomes seen changed =
      subst (λ (os : List (ℕ × Rungs)). (other at : ℕ) → bank_level owners' other at ≡ with_bank_level (bank_level os) bank rank (becomes (bank_level os bank rank)) other at) seen inside
    where
      level : Level
      level = becomes (bank_level owners bank rank)

      own : (at : ℕ) → level_at new at ≡ with_level_at (level_at old) rank level at
      own at = changed at ∙ ap (λ (l : Level). with_level_at (level_at old) rank (becomes l) at) (sym (had_level rank))

      inside : (other at : ℕ) → bank_level owners' other at ≡ with_bank_level (bank_level owners) bank rank level other at
      inside other at =
          elim (cases_eq other bank) [
            | inl same ↦
                ap (λ (k : ℕ). bank_level owners' k at) same ∙ own_level at ∙ own at
                ∙ ap (λ (l : Level). if at == rank then level else l) (sym (had_level at) ∙ ap (λ (k : ℕ). bank_level owners k at) (sym same))
                ∙ sym (ap (λ (b : Bool). if b then with_level_at (bank_level owners other) rank level at else bank_level owners other at) (eq-eqb other bank same))
            | inr differ ↦
                other_level other at differ
                ∙ sym (ap (λ (b : Bool). if b then with_level_at (bank_level owners other) rank level at else bank_level owners other at) (ne_eqb other bank differ))
          ]

  -- what is ready of another bank stays so
  pub other_holds : (other at : ℕ) → other ≢ bank → bank_holds owners' other at ≡ bank_holds owners other at
  other_holds other at differ = ap (λ (o : Option Rungs). holds_in o at) (writes.others other differ)

  -- what is ready stays so
  pub holds_written : (now : List (ℕ × Rungs)) → owners ≡ now → ((at : ℕ) → holds new at ≡ holds old at) → (other at : ℕ) → bank_holds owners' other at ≡ bank_holds now other at
  holds_written now seen kept other at =
      elim (cases_eq other bank) [
        | inl same ↦
            ap (λ (k : ℕ). bank_holds owners' k at) same ∙ ap (λ (o : Option Rungs). holds_in o at) writes.is ∙ kept at
            ∙ sym (ap (λ (o : Option Rungs). holds_in o at) writes.was) ∙ ap (λ (k : ℕ). bank_holds owners k at) (sym same)
        | inr differ ↦ other_holds other at differ
      ]
      ∙ ap (λ (os : List (ℕ × Rungs)). bank_holds os other at) seen

  -- a ladder was written whose levels are as they were
  pub same_written : (now : List (ℕ × Rungs)) → owners ≡ now → ((at : ℕ) → level_at new at ≡ level_at old at) → (other at : ℕ) → bank_level owners' other at ≡ bank_level now other at
  same_written now seen same other at =
      elim (cases_eq other bank) [
        | inl equal ↦
            ap (λ (k : ℕ). bank_level owners' k at) equal ∙ own_level at ∙ same at ∙ sym (had_level at) ∙ ap (λ (k : ℕ). bank_level owners k at) (sym equal)
        | inr differ ↦ other_level other at differ
      ]
      ∙ ap (λ (os : List (ℕ × Rungs)). bank_level os other at) seen

-- ranks with orders are low, and the places of first orders early
pub record AreShort (levels : ℕ → Level) : Type 0 where
  pub low : (rank : ℕ) → (levels rank).lots ≢ 0 → rank ≤ 10 ^ 9
  pub early : (rank : ℕ) → (levels rank).lots ≢ 0 → (levels rank).first < 2 ^ 28

-- they stay so where one level is another
pub short_changed : (old new : ℕ → Level) (rank : ℕ) (level : Level) → ((at : ℕ) → new at ≡ with_level_at old rank level at) → AreShort old → (level.lots ≢ 0 → rank ≤ 10 ^ 9)
    → (level.lots ≢ 0 → level.first < 2 ^ 28) → AreShort new
short_changed old new rank level changed are low early = record {
  low = λ at some. elim (cases_eq at rank) [
    | inl same ↦
        let now : new at ≡ level = changed at ∙ ap (λ (b : Bool). if b then level else old at) (eq-eqb at rank same) in
        subst (λ (r : ℕ). r ≤ 10 ^ 9) (sym same) (low (λ none. some (ap (λ (l : Level). l.lots) now ∙ none)))
    | inr differ ↦ are.low at (λ none. some (ap (λ (l : Level). l.lots) (changed at ∙ at_other old rank at level differ) ∙ none))
  ];
  early = λ at some. elim (cases_eq at rank) [
    | inl same ↦
        let now : new at ≡ level = changed at ∙ ap (λ (b : Bool). if b then level else old at) (eq-eqb at rank same) in
        subst (λ (l : Level). l.first < 2 ^ 28) (sym now) (early (λ none. some (ap (λ (l : Level). l.lots) now ∙ none)))
    | inr differ ↦
        subst (λ (l : Level). l.first < 2 ^ 28) (sym (changed at ∙ at_other old rank at level differ))
        (are.early at (λ none. some (ap (λ (l : Level). l.lots) (changed at ∙ at_other old rank at level differ) ∙ none)))
  ];
}

-- the first place of a level that an order left
pub first_short : (level : Level) (lots : ℕ) (before behind : Option ℕ) → level.first < 2 ^ 28 → IfSome behind (λ place. place < 2 ^ 28) → (without_order level lots before behind).first < 2 ^ 28
first_short level lots before behind small fits = by_test (level.lots - lots == 0) before behind fits
  where
    left : (before behind : Option ℕ) → IfSome behind (λ place. place < 2 ^ 28) → first_left level before behind < 2 ^ 28
    left None (Some behind) fits = fits
    left None None fits = small
    left (Some before) behind fits = small

    by_test : (b : Bool) (before behind : Option ℕ) → IfSome behind (λ place. place < 2 ^ 28)
        → (if b then no_level else record { lots = level.lots - lots; first = first_left level before behind; last = last_left level before behind }).first < 2 ^ 28
    by_test true before behind fits = omega arith
    by_test false before behind fits = left before behind fits

-- and of one to which an order came
pub first_come : (level : Level) (place lots : ℕ) → place < 2 ^ 28 → (level.lots ≢ 0 → level.first < 2 ^ 28) → (with_order level place lots).first < 2 ^ 28
first_come level place lots small fits =
    elim (cases_eq level.lots 0) [
      | inl none ↦ subst (λ (n : ℕ). n < 2 ^ 28) (sym (ap (λ (b : Bool). if b then place else level.first) (eq-eqb level.lots 0 none))) small
      | inr some ↦ subst (λ (n : ℕ). n < 2 ^ 28) (sym (ap (λ (b : Bool). if b then place else level.first) (ne_eqb level.lots 0 some))) (fits some)
    ]

-- what is known of a bank's own levels, before and after these change
module _ {owners owners' : List (ℕ × Rungs)} {bank : ℕ} {old new : Rungs} (heads : List (Option Head)) (are : AreRanked owners heads) (few : bank < 64) (writes : Writes owners owners' bank old new) where
  pub had_short : AreShort (level_at old)
  had_short = record {
    low = λ rank some. are.low bank rank few (λ none. some (ap (λ (l : Level). l.lots) (sym (had_level writes rank)) ∙ none));
    early = λ rank some.
        subst (λ (l : Level). l.first < 2 ^ 28) (had_level writes rank) (are.early bank rank few (λ none. some (ap (λ (l : Level). l.lots) (sym (had_level writes rank)) ∙ none)));
  }

  pub had_head : IsHeadOf (level_at old) (get_or heads bank None)
  had_head = head_same (bank_level owners bank) (level_at old) (get_or heads bank None) (λ rank. sym (had_level writes rank)) (are.heads_are bank few)

  -- an order went from one of them
  pub short_left : (rank lots : ℕ) (before behind : Option ℕ) → (level_at old rank).lots ≢ 0 → ((at : ℕ) → level_at new at ≡ with_level_at (level_at old) rank (without_order (level_at old rank) lots before behind) at)
      → IfSome behind (λ place. place < 2 ^ 28) → AreShort (level_at new)
  short_left rank lots before behind some changed fits =
      short_changed (level_at old) (level_at new) rank (without_order (level_at old rank) lots before behind) changed had_short (λ has. had_short.low rank some)
      (λ has. first_short (level_at old rank) lots before behind (had_short.early rank some) fits)

  -- the best orders, once one bank's levels are others and its best order was written down
  pub ranked_written : (heads' : List (Option Head)) → ((other : ℕ) → other ≢ bank → get_or heads' other None ≡ get_or heads other None) → IsHeadOf (level_at new) (get_or heads' bank None)
      → AreShort (level_at new) → AreRanked owners' heads'
  ranked_written heads' kept is short = record {
    heads_are = λ other small. elim (cases_eq other bank) [
      | inl same ↦
          subst (λ (k : ℕ). IsHeadOf (bank_level owners' k) (get_or heads' k None)) (sym same)
          (head_same (level_at new) (bank_level owners' bank) (get_or heads' bank None) (λ rank. own_level writes rank) is)
      | inr differ ↦
          subst (IsHeadOf (bank_level owners' other)) (sym (kept other differ))
          (head_same (bank_level owners other) (bank_level owners' other) (get_or heads other None) (λ rank. other_level writes other rank differ) (are.heads_are other small))
    ];
    low = λ other rank small some. elim (cases_eq other bank) [
      | inl same ↦
          let now : bank_level owners' other rank ≡ level_at new rank = ap (λ (k : ℕ). bank_level owners' k rank) same ∙ own_level writes rank in
          short.low rank (λ none. some (ap (λ (l : Level). l.lots) now ∙ none))
      | inr differ ↦ are.low other rank small (λ none. some (ap (λ (l : Level). l.lots) (other_level writes other rank differ) ∙ none))
    ];
    early = λ other rank small some. elim (cases_eq other bank) [
      | inl same ↦
          let now : bank_level owners' other rank ≡ level_at new rank = ap (λ (k : ℕ). bank_level owners' k rank) same ∙ own_level writes rank in
          subst (λ (l : Level). l.first < 2 ^ 28) (sym now) (short.early rank (λ none. some (ap (λ (l : Level). l.lots) now ∙ none)))
      | inr differ ↦
          let now : bank_level owners' other rank ≡ bank_level owners other rank = other_level writes other rank differ in
          subst (λ (l : Level). l.first < 2 ^ 28) (sym now) (are.early other rank small (λ none. some (ap (λ (l : Level). l.lots) now ∙ none)))
    ];
  }

  pub ranked_set : (head : Option Head) → length heads ≡ 64 → IsHeadOf (level_at new) head → AreShort (level_at new) → AreRanked owners' (set heads bank head)
  ranked_set head count is short =
      ranked_written (set heads bank head) (λ other differ. get_or-set_other heads bank other head None differ)
      (subst (IsHeadOf (level_at new)) (sym (get_or-set_same heads bank head None (omega (arith, count, few)))) is) short

-- no owners
pub ranked_none : (owners : List (ℕ × Rungs)) (heads : List (Option Head)) → owners ≡ [] → heads ≡ replicate 64 None → AreRanked owners heads
ranked_none owners heads none are = record {
  heads_are = λ bank few.
      subst (λ (hs : List (Option Head)). IsHeadOf (bank_level owners bank) (get_or hs bank None)) (sym are)
      (subst (IsHeadOf (bank_level owners bank)) (sym (get_or-replicate 64 bank None None few)) (λ rank. ap (λ (os : List (ℕ × Rungs)). (bank_level os bank rank).lots) none));
  low = λ bank rank few some. absurd (some (ap (λ (os : List (ℕ × Rungs)). (bank_level os bank rank).lots) none));
  early = λ bank rank few some. absurd (some (ap (λ (os : List (ℕ × Rungs)). (bank_level os bank rank).lots) none));
}

-- a bank got a ladder without orders
module _ (owners owners' : List (ℕ × Rungs)) (bank : ℕ) (new : Rungs) (none : lookup (nat_eq bank) owners ≡ None)
    (updates : (other : ℕ) → lookup (nat_eq other) owners' ≡ cond (nat_eq bank other) (Some new) (lookup (nat_eq other) owners)) where
  pub new_written : ((at : ℕ) → level_at new at ≡ no_level) → (other at : ℕ) → bank_level owners' other at ≡ bank_level owners other at
  new_written bare other at =
      elim (cases_eq other bank) [
        | inl equal ↦
            ap (λ (k : ℕ). bank_level owners' k at) equal ∙ ap (λ (o : Option Rungs). level_in o at) (of_updates owners owners' bank new updates).0 ∙ bare at
            ∙ sym (ap (λ (k : ℕ). bank_level owners k at) equal ∙ ap (λ (o : Option Rungs). level_in o at) none)
        | inr differ ↦ ap (λ (o : Option Rungs). level_in o at) ((of_updates owners owners' bank new updates).1 other differ)
      ]

  pub new_others : (other at : ℕ) → other ≢ bank → bank_holds owners' other at ≡ bank_holds owners other at
  new_others other at differ = ap (λ (o : Option Rungs). holds_in o at) ((of_updates owners owners' bank new updates).1 other differ)

-- a best order has a word
pub head_is : (levels : ℕ → Level) (head : Option Head) → AreShort levels → IsHeadOf levels head → IfSome head IsHead
head_is levels None short none = tt
head_is levels (Some head) short is = record {
  rank = short.low head.rank is.0.some;
  place = subst (λ (n : ℕ). n < 2 ^ 28) (sym is.1) (short.early head.rank is.0.some);
}

-- the best orders as others see them
pub heads_told : (owners now : List (ℕ × Rungs)) (heads seen : List (Option Head)) → owners ≡ now → heads ≡ seen → AreRanked owners heads
    → (bank : ℕ) → bank < 64 → IsHeadOf (bank_level now bank) (get_or seen bank None) × IfSome (get_or seen bank None) IsHead
heads_told owners now heads seen owners_are heads_are are bank few =
    subst (λ (hs : List (Option Head)). IsHeadOf (bank_level now bank) (get_or hs bank None) × IfSome (get_or hs bank None) IsHead) heads_are
    (subst (λ (os : List (ℕ × Rungs)). IsHeadOf (bank_level os bank) (get_or heads bank None) × IfSome (get_or heads bank None) IsHead) owners_are (
      are.heads_are bank few,
      head_is (bank_level owners bank) (get_or heads bank None) (record { low = λ rank some. are.low bank rank few some; early = λ rank some. are.early bank rank few some }) (are.heads_are bank few),
    ))

-- the word of a best order tells it
pub told_by : (owners now : List (ℕ × Rungs)) (heads : List (Option Head)) (words : List ℕ) → owners ≡ now → AreRanked owners heads → length words ≡ 64
    → ((bank : ℕ) → bank < 64 → get_or words bank 0 ≡ head_word bank (get_or heads bank None)) → AreHeadWords (bank_level now) words
told_by owners now heads words seen are count tell = subst (λ (os : List (ℕ × Rungs)). AreHeadWords (bank_level os) words) seen (record {
  count = count;
  tell = λ bank few. record {
    head = get_or heads bank None;
    best = are.heads_are bank few;
    fits = head_is (bank_level owners bank) (get_or heads bank None) (record { low = λ rank some. are.low bank rank few some; early = λ rank some. are.early bank rank few some }) (are.heads_are bank few);
    is = tell bank few;
  };
})

-- no rank before the best order's has orders, also once an order behind it has gone
pub none_before : (old new : ℕ → Level) (rank : ℕ) (level : Level) (head : Option Head) (from : ℕ) → (old rank).lots ≢ 0 → IsHeadOf old head → ((found : Head) → head ≡ Some found → from ≡ found.rank)
    → ((at : ℕ) → new at ≡ with_level_at old rank level at) → (at : ℕ) → at < from → (new at).lots ≡ 0
none_before old new rank level None from some none is changed at before = absurd (some (none rank))
none_before old new rank level (Some head) from some is_head is changed at before =
    let early : at < head.rank = omega (arith, before, is head refl) in
    let empty : (old at).lots ≡ 0 = is_head.0.first at (omega arith) early in
    elim (cases_eq at rank) [
      | inl same ↦ absurd (some (ap (λ (r : ℕ). (old r).lots) (sym same) ∙ empty))
      | inr differ ↦ ap (λ (l : Level). l.lots) (changed at ∙ at_other old rank at level differ) ∙ empty
    ]

-- no level became another one
pub ranked_same : (owners owners' : List (ℕ × Rungs)) (heads : List (Option Head)) → AreRanked owners heads
    → ((other at : ℕ) → bank_level owners' other at ≡ bank_level owners other at) → AreRanked owners' heads
ranked_same owners owners' heads are same = record {
  heads_are = λ bank few. head_same (bank_level owners bank) (bank_level owners' bank) (get_or heads bank None) (same bank) (are.heads_are bank few);
  low = λ bank rank few some. are.low bank rank few (λ none. some (ap (λ (l : Level). l.lots) (same bank rank) ∙ none));
  early = λ bank rank few some.
      subst (λ (l : Level). l.first < 2 ^ 28) (sym (same bank rank)) (are.early bank rank few (λ none. some (ap (λ (l : Level). l.lots) (same bank rank) ∙ none)));
}
