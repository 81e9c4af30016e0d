-- What is kept and printed of the rounds that numbers give.
use Rattle.std.proofs.Common.{◌≡◌, ℕ, zero, suc, ◌+◌, ◌-◌, ◌^◌, ◌≤◌, ◌<◌, get_or, min, List, [], ◌∷◌, ◌++◌, length, take, Option, None, Some, Result, Ok, Err, OnOk, OnErr, refl, sym, ◌∙◌, ap, subst, arith, append-nil, take_all}
use Rattle.std.specs.Prelude.{is_some}
use Rattle.std.specs.Iterator.{Yields}
use Rattle.fx_edges.specs.Writing.{Appended, AppendedPart}
use Rattle.fx_edges.proofs.Writing.{Appended-nil, AppendedPart-whole}
use Rattle.fx_disk.specs.Disk.{WhereTold, LeavesOnly}
use Rattle.keep_disk.specs.declared.rounds.Round.{Round}
use Rattle.keep_disk.specs.Blocks.{whole_blocks}
use Rattle.keep_disk.specs.Rounds.{bodies_of, text_of, HasFirst, KeptAll, KeptPart}
use Rattle.fx_disk.proofs.Leaving.{leaves_weaker, leaves_then}
use Rattle.keep_disk.proofs.Telling.{told_now, first_all, first_longer, kept_stopped}
use Rattle.disk_trials.specs.declared.numbers.Numbers.{Numbers}
use Rattle.disk_trials.specs.Numbered.{body, line, bodies, lines, GivesNumber, next_number, room, KeptNumbers, AllNumbers}

-- one number more
pub bodies_more : (dots first count : ℕ) → bodies dots first (suc count) ≡ bodies dots first count ++ body dots (first + count) ∷ []
bodies_more dots first zero = let same : first ≡ first + 0 = omega arith in ap (λ (n : ℕ). body dots n ∷ []) same
bodies_more dots first (suc count) =
    let same : first + 1 + count ≡ first + suc count = omega arith in
    ap (λ (bs : List (List ℕ)). body dots first ∷ bs) (bodies_more dots (first + 1) count)
    ∙ ap (λ (n : ℕ). body dots first ∷ (bodies dots (first + 1) count ++ body dots n ∷ [])) same

-- each of some bodies
pub bodies_at : (dots first count at : ℕ) (d : List ℕ) → at < count → get_or (bodies dots first count) at d ≡ body dots (first + at)
bodies_at dots first zero at d within = absurd (omega arith)
bodies_at dots first (suc count) zero d within = let same : first ≡ first + 0 = omega arith in ap (body dots) same
bodies_at dots first (suc count) (suc at) d within =
    let same : first + 1 + at ≡ first + suc at = omega arith in
    bodies_at dots (first + 1) count at d (omega arith) ∙ ap (body dots) same

-- Rounds that came one from the other

bodies_came : (s : Numbers) (rounds : List Round) (t : Numbers) → Yields GivesNumber s rounds t → bodies_of rounds ≡ bodies s.dots s.next (length rounds)
bodies_came s [] t came = refl
bodies_came s (r ∷ rounds) t came =
    ap (λ (b : List ℕ). b ∷ bodies_of rounds) came.1.1
    ∙ ap (λ (bs : List (List ℕ)). body s.dots s.next ∷ bs) (bodies_came came.0 rounds t came.2 ∙ ap (λ (n : Numbers). bodies n.dots n.next (length rounds)) came.1.3)

lines_came : (s : Numbers) (rounds : List Round) (t : Numbers) (n : ℕ) → Yields GivesNumber s rounds t → n ≤ length rounds → text_of (take n rounds) ≡ lines s.next n
lines_came s rounds t zero came le = refl
lines_came s [] t (suc n) came le = absurd (omega arith)
lines_came s (r ∷ rounds) t (suc n) came le =
    ap (λ (l : List ℕ). l ++ text_of (take n rounds)) came.1.2
    ∙ ap (λ (l : List ℕ). line s.next ++ l) (lines_came came.0 rounds t n came.2 (omega arith) ∙ ap (λ (k : Numbers). lines k.next n) came.1.3)

numbers_came : (s : Numbers) (rounds : List Round) (t : Numbers) → Yields GivesNumber s rounds t → s.next ≤ s.end → (t.next ≡ s.next + length rounds) × (t.end ≡ s.end) × (t.next ≤ t.end)
numbers_came s [] t came le =
    let next : s.next ≡ t.next = ap (λ (n : Numbers). n.next) came in
    let end : s.end ≡ t.end = ap (λ (n : Numbers). n.end) came in
    (omega arith, omega arith, omega arith)
numbers_came s (r ∷ rounds) t came le =
    let j = came.0 in
    let next : j.next ≡ s.next + 1 = ap (λ (n : Numbers). n.next) came.1.3 in
    let end : j.end ≡ s.end = ap (λ (n : Numbers). n.end) came.1.3 in
    let below = came.1.0 in
    let rest = numbers_came j rounds t came.2 (omega arith) in
    (omega (arith, rest.0), omega (arith, rest.1), rest.2)

module _ {D K : Type 0} (bytes : D → Option (List ℕ)) (may_leave : D → List ℕ → Type 0) (moment : D → ℕ) (left_since : D → ℕ → List ℕ → Type 0)
    (written : K → Option (List ℕ)) (faults : K → ℕ) (dots count : ℕ) (file : List ℕ) where
  -- an image with the file's blocks
  first_none : (begun : ℕ) (image : List ℕ) → whole_blocks image ≡ whole_blocks file → HasFirst (whole_blocks file) (bodies dots (next_number file) begun) 0 image
  first_none begun image is = first_longer (whole_blocks file) [] (bodies dots (next_number file) begun) 0 image (first_all (whole_blocks file) [] 0 image (omega arith) (is ∙ sym (append-nil (whole_blocks file))))

  -- the file could not be opened
  pub kept_unopened : (before now : D) (k : K) → ((disk : D) (t : ℕ) (image : List ℕ) → t ≤ moment disk → may_leave disk image → left_since disk t image)
      → LeavesOnly moment left_since before now (λ image. whole_blocks image ≡ whole_blocks file) → KeptNumbers may_leave moment left_since written faults dots count file before now k k
  kept_unopened before now k counts_now leaves = record {
    begun = 0;
    no_more = omega arith;
    printed = 0;
    every_moment = leaves_weaker moment left_since before now (λ (image : List ℕ). whole_blocks image ≡ whole_blocks file) (HasFirst (whole_blocks file) [] 0) (first_none 0) leaves;
    images = λ image may. first_none 0 image (leaves.each image (counts_now now (moment before) image leaves.later may));
    told = AppendedPart-whole (Appended-nil written faults k);
  }

  module _ (before opened now : D) (out_before out_now : K) (s : Numbers) (told : bytes before ≡ Some file) (tells : is_some (bytes opened) ≡ is_some (bytes before))
      (reads : (disk : D) → WhereTold (bytes disk) (λ f. may_leave disk f)) (same : (image : List ℕ) → may_leave opened image → whole_blocks image ≡ whole_blocks file)
      (dotted : s.dots ≡ dots) (next : s.next ≡ next_number file) (le : s.next ≤ s.end) (end : s.end ≡ min (s.next + count) (2 ^ 64 - 1)) where
    -- what the opened file reads
    read : (f : List ℕ) × (bytes opened ≡ Some f) × (whole_blocks f ≡ whole_blocks file)
    read = let f = told_now (bytes before) (bytes opened) file tells told in (f.0, f.1, same f.0 (reads opened f.0 f.1))

    blocks_are : (rounds : List Round) (t : Numbers) → Yields GivesNumber s rounds t → bodies_of rounds ≡ bodies dots (next_number file) (length rounds)
    blocks_are rounds t came =
        bodies_came s rounds t came ∙ ap (λ (d : ℕ). bodies d s.next (length rounds)) dotted ∙ ap (λ (n : ℕ). bodies dots n (length rounds)) next

    pub all_numbers : (last ended : Numbers) → GivesNumber last None ended
        → KeptAll bytes may_leave moment left_since written faults GivesNumber opened now out_before out_now s last → AllNumbers may_leave written faults dots (room file count) file now out_before out_now
    all_numbers last ended none all =
        let came = numbers_came s all.rounds last all.came le in
        let many : length all.rounds ≡ room file count = omega (arith, came.0, came.1, came.2, none.0, next, end) in
        let blocks = blocks_are all.rounds last all.came ∙ ap (λ (n : ℕ). bodies dots (next_number file) n) many in
        let front : take (length all.rounds) all.rounds ≡ all.rounds = take_all (length all.rounds) all.rounds (omega arith) in
        let printed = ap text_of (sym front) ∙ lines_came s all.rounds last (length all.rounds) all.came (omega arith) ∙ ap (λ (n : ℕ). lines n (length all.rounds)) next ∙ ap (λ (n : ℕ). lines (next_number file) n) many in
        record {
          images = λ image may. all.so_far.kept read.0 read.1 image may ∙ ap (λ (bs : List (List ℕ)). bs ++ bodies_of all.rounds) read.2 ∙ ap (λ (bs : List (List ℕ)). whole_blocks file ++ bs) blocks;
          told = subst (λ (l : List ℕ). Appended written faults out_before out_now l) printed all.so_far.told;
        }

    module _ (leaves : LeavesOnly moment left_since before opened (λ image. whole_blocks image ≡ whole_blocks file)) where
      pub kept_numbers : KeptPart bytes may_leave moment left_since written faults GivesNumber opened now out_before out_now s → KeptNumbers may_leave moment left_since written faults dots count file before now out_before out_now
      kept_numbers part = record {
        begun = length part.rounds;
        no_more = let came = numbers_came s part.rounds part.last part.came le in omega (arith, came.0, came.1, came.2, next, end);
        printed = part.up_to.count;
        every_moment =
            leaves_then moment left_since before opened now (HasFirst (whole_blocks file) (bodies dots (next_number file) (length part.rounds)) 0)
            (leaves_weaker moment left_since before opened (λ (image : List ℕ). whole_blocks image ≡ whole_blocks file) (HasFirst (whole_blocks file) (bodies dots (next_number file) (length part.rounds)) 0) (first_none (length part.rounds)) leaves)
            (subst (λ (bs : List (List ℕ)). LeavesOnly moment left_since opened now (HasFirst bs (bodies dots (next_number file) (length part.rounds)) 0)) read.2
            (subst (λ (bs : List (List ℕ)). LeavesOnly moment left_since opened now (HasFirst (whole_blocks read.0) bs 0)) (blocks_are part.rounds part.last part.came) (part.up_to.every_moment read.0 read.1)));
        images = λ image may.
            subst (λ (bs : List (List ℕ)). HasFirst bs (bodies dots (next_number file) (length part.rounds)) part.up_to.count image) read.2
            (subst (λ (bs : List (List ℕ)). HasFirst (whole_blocks read.0) bs part.up_to.count image) (blocks_are part.rounds part.last part.came) (part.up_to.kept read.0 read.1 image may));
        told =
            let printed = lines_came s part.rounds part.last part.up_to.count part.came part.up_to.within ∙ ap (λ (n : ℕ). lines n part.up_to.count) next in
            subst (λ (l : List ℕ). AppendedPart written faults out_before out_now l) printed part.up_to.told;
      }

      -- some numbers were begun with, and all of them are kept
      pub kept_all : (last : Numbers) → KeptAll bytes may_leave moment left_since written faults GivesNumber opened now out_before out_now s last → KeptNumbers may_leave moment left_since written faults dots count file before now out_before out_now
      kept_all last all =
          kept_numbers record {
            rounds = all.rounds;
            last = last;
            came = all.came;
            up_to = kept_stopped bytes may_leave moment left_since written faults opened now out_before out_now all.rounds all.so_far;
          }

      pub kept_either : {T E : Type 0} (result : Result T E) (ended : Numbers)
          → OnOk result ((last : Numbers) × GivesNumber last None ended × KeptAll bytes may_leave moment left_since written faults GivesNumber opened now out_before out_now s last)
          → OnErr result (KeptPart bytes may_leave moment left_since written faults GivesNumber opened now out_before out_now s)
          → KeptNumbers may_leave moment left_since written faults dots count file before now out_before out_now
      kept_either (Ok value) ended all part = kept_all all.0 all.2
      kept_either (Err fault) ended all part = kept_numbers part
