-- The laws of a run that keeps rounds: its opening, one round more, and a fault at the end.
use Rattle.std.proofs.Common.{◌≡◌, inl, inr, ℕ, ◌≤◌, List, [], ◌∷◌, ◌++◌, length, take, Option, None, Some, Result, Ok, Err, OnErr, refl, sym, ◌∙◌, ap, subst, arith, append_assoc, append-nil, length-append, take_all}
use Rattle.std.specs.Prelude.{is_some}
use Rattle.std.proofs.lemmas.List.{take-append-le, take_at, map-append, length-map}
use Rattle.std.proofs.lemmas.Grind.{flat_map-append}
use Rattle.fx_edges.specs.Writing.{Appended, AppendedPart}
use Rattle.fx_edges.proofs.Writing.{IsPrefixOf-refl, Appended-nil, Appended-append, AppendedPart-cut, AppendedPart-whole}
use Rattle.fx_disk.specs.Disk.{WhereTold, Only, LeavesOnly}
use Rattle.fx_disk.proofs.Leaving.{leaves_at_start, leaves_weaker, leaves_then}
use Rattle.keep_disk.specs.declared.rounds.Round.{Round}
use Rattle.keep_disk.specs.Blocks.{whole_blocks, HasOrLacks}
use Rattle.keep_disk.specs.Rounds.{bodies_of, text_of, KeptBlocks, HasFirst, KeptBeforeTold, KeptSoFar, KeptUpTo}

-- a disk that told its bytes at the start tells them still
pub told_now : (known now : Option (List ℕ)) (file : List ℕ) → is_some now ≡ is_some known → known ≡ Some file → (f : List ℕ) × (now ≡ Some f)
told_now known None file same told = absurd (cc (ap is_some told))
told_now known (Some f) file same told = (f, refl)

-- Images with the first blocks of a run

pub first_longer : (start more extra : List (List ℕ)) (least : ℕ) (image : List ℕ) → HasFirst start more least image → HasFirst start (more ++ extra) least image
first_longer start more extra least image has = record {
  count = has.count;
  enough = has.enough;
  within = omega (arith, length-append more extra, has.within);
  blocks = has.blocks ∙ ap (λ (bs : List (List ℕ)). start ++ bs) (sym (take-append-le has.count more extra has.within));
}

pub first_all : (start more : List (List ℕ)) (least : ℕ) (image : List ℕ) → least ≤ length more → whole_blocks image ≡ start ++ more → HasFirst start more least image
first_all start more least image le is = record {
  count = length more;
  enough = le;
  within = omega arith;
  blocks = is ∙ ap (λ (bs : List (List ℕ)). start ++ bs) (sym (take_all (length more) more (omega arith)));
}

-- with all blocks of a run, with one more or without it
first_either : (start more had : List (List ℕ)) (body : List ℕ) (least : ℕ) (image : List ℕ) → had ≡ start ++ more → least ≤ length more → HasOrLacks had body image → HasFirst start (more ++ body ∷ []) least image
first_either start more had body least image is le (inl lacks) = first_longer start more (body ∷ []) least image (first_all start more least image le (lacks ∙ is))
first_either start more had body least image is le (inr has) =
    first_all start (more ++ body ∷ []) least image (omega (arith, length-append more (body ∷ []), le))
    (has ∙ ap (λ (bs : List (List ℕ)). bs ++ body ∷ []) is ∙ append_assoc start more (body ∷ []))

text_more : (rounds : List Round) (round : Round) → text_of (rounds ++ round ∷ []) ≡ text_of rounds ++ round.text.items
text_more rounds round =
    flat_map-append (λ (r : Round). r.text.items) rounds (round ∷ []) ∙ ap (λ (t : List ℕ). text_of rounds ++ t) (append-nil round.text.items)

bodies_more : (rounds : List Round) (round : Round) → bodies_of (rounds ++ round ∷ []) ≡ bodies_of rounds ++ round.body.items ∷ []
bodies_more rounds round = map-append (λ (r : Round). r.body.items) rounds (round ∷ [])

pub on_err_always : {T E P : Type 0} (r : Result T E) → P → OnErr r P
on_err_always (Ok value) p = tt
on_err_always (Err e) p = p

module _ {D K : Type 0} (bytes : D → Option (List ℕ)) (may_leave : D → List ℕ → Type 0) (moment : D → ℕ) (left_since : D → ℕ → List ℕ → Type 0)
    (written : K → Option (List ℕ)) (faults : K → ℕ) where
  abbrev SoFar : D → D → K → K → List Round → Type 0
  SoFar d0 d k0 k rounds = KeptSoFar bytes may_leave moment left_since written faults d0 d k0 k rounds

  abbrev UpTo : D → D → K → K → List Round → Type 0
  UpTo d0 d k0 k rounds = KeptUpTo bytes may_leave moment left_since written faults d0 d k0 k rounds

  -- an image with the blocks from the start
  first_none : (start : List (List ℕ)) (image : List ℕ) → whole_blocks image ≡ start → HasFirst start [] 0 image
  first_none start image is = first_all start [] 0 image (omega arith) (is ∙ sym (append-nil start))

  -- before the first round: the file is opened
  pub kept_opened : (d0 d : D) (k : K) → WhereTold (bytes d0) (λ file. LeavesOnly moment left_since d0 d (λ image. whole_blocks image ≡ whole_blocks file))
      → is_some (bytes d) ≡ is_some (bytes d0) → WhereTold (bytes d0) (λ file. (image : List ℕ) → may_leave d image → whole_blocks image ≡ whole_blocks file) → SoFar d0 d k k []
  kept_opened d0 d k leaves tells same = record {
    every_moment = λ file told.
        leaves_weaker moment left_since d0 d (λ (image : List ℕ). whole_blocks image ≡ whole_blocks file) (HasFirst (whole_blocks file) [] 0) (first_none (whole_blocks file)) (leaves file told);
    tells = tells;
    kept = λ file told image may. same file told image may ∙ sym (append-nil (whole_blocks file));
    told = Appended-nil written faults k;
  }

  -- it could not be opened
  pub kept_unopened : (d0 d : D) (k : K) → ((disk : D) (t : ℕ) (image : List ℕ) → t ≤ moment disk → may_leave disk image → left_since disk t image)
      → WhereTold (bytes d0) (λ file. LeavesOnly moment left_since d0 d (λ image. whole_blocks image ≡ whole_blocks file)) → UpTo d0 d k k []
  kept_unopened d0 d k counts_now leaves = record {
    every_moment = λ file told.
        leaves_weaker moment left_since d0 d (λ (image : List ℕ). whole_blocks image ≡ whole_blocks file) (HasFirst (whole_blocks file) [] 0) (first_none (whole_blocks file)) (leaves file told);
    count = 0;
    within = omega arith;
    kept = λ file told image may.
        let moments = leaves file told in
        first_none (whole_blocks file) image (moments.each image (counts_now d (moment d0) image moments.later may));
    told = AppendedPart-whole (Appended-nil written faults k);
  }

  -- it is open and has one image
  pub kept_none : (d : D) (k : K) → ((image : List ℕ) → left_since d (moment d) image → may_leave d image) → WhereTold (bytes d) (λ file. Only file (may_leave d)) → SoFar d d k k []
  kept_none d k only_now only =
      kept_opened d d k
      (λ file told. leaves_at_start moment left_since d (λ (image : List ℕ). whole_blocks image ≡ whole_blocks file) (λ image left. ap whole_blocks (only file told image (only_now image left))))
      refl (λ file told image may. ap whole_blocks (only file told image may))

  module _ (d0 d : D) (k0 k : K) (rounds : List Round) (so_far : SoFar d0 d k0 k rounds) where
    -- a fault in which the disk and the sink stay as they are
    pub kept_stopped : UpTo d0 d k0 k rounds
    kept_stopped = record {
      every_moment = so_far.every_moment;
      count = length rounds;
      within = omega arith;
      kept = λ file told image may. first_all (whole_blocks file) (bodies_of rounds) (length rounds) image (omega (arith, length-map rounds (λ (r : Round). r.body.items))) (so_far.kept file told image may);
      told = let all : take (length rounds) rounds ≡ rounds = take_all _ _ (omega arith) in AppendedPart-whole (subst (λ (rs : List Round). Appended written faults k0 k (text_of rs)) (sym all) so_far.told);
    }

    module _ (d' : D) (k' : K) (round : Round) (reads : (disk : D) → WhereTold (bytes disk) (λ file. may_leave disk file))
        (step : WhereTold (bytes d) (λ file. LeavesOnly moment left_since d d' (HasOrLacks (whole_blocks file) round.body.items))) where
      abbrev more : List Round
      more = rounds ++ round ∷ []

      abbrev bodies : List (List ℕ)
      bodies = bodies_of rounds

      -- what the disk read before the round
      read_before : (file : List ℕ) → bytes d0 ≡ Some file → (f : List ℕ) × (bytes d ≡ Some f) × (whole_blocks f ≡ whole_blocks file ++ bodies)
      read_before file told = let now = told_now (bytes d0) (bytes d) file so_far.tells told in (now.0, now.1, so_far.kept file told now.0 (reads d now.0 now.1))

      moments_more : WhereTold (bytes d0) (λ file. LeavesOnly moment left_since d0 d' (HasFirst (whole_blocks file) (bodies_of more) 0))
      moments_more = λ file told.
          let was = read_before file told in
          let start = whole_blocks file in
          subst (λ (bs : List (List ℕ)). LeavesOnly moment left_since d0 d' (HasFirst (whole_blocks file) bs 0)) (sym (bodies_more rounds round))
          (leaves_then moment left_since d0 d d' (HasFirst start (bodies ++ round.body.items ∷ []) 0)
          (leaves_weaker moment left_since d0 d (HasFirst start bodies 0) (HasFirst start (bodies ++ round.body.items ∷ []) 0) (first_longer start bodies (round.body.items ∷ []) 0) (so_far.every_moment file told))
          (leaves_weaker moment left_since d d' (HasOrLacks (whole_blocks was.0) round.body.items) (HasFirst start (bodies ++ round.body.items ∷ []) 0)
          (λ image has. first_either start bodies (whole_blocks was.0) round.body.items 0 image was.2 (omega arith) has) (step was.0 was.1)))

      kept_blocks : KeptBlocks bytes may_leave d d' (round.body.items ∷ []) → KeptBlocks bytes may_leave d0 d' (bodies_of more)
      kept_blocks kept = λ file told image may.
          let was = read_before file told in
          kept was.0 was.1 image may
          ∙ ap (λ (bs : List (List ℕ)). bs ++ round.body.items ∷ []) was.2
          ∙ append_assoc (whole_blocks file) bodies (round.body.items ∷ [])
          ∙ ap (λ (bs : List (List ℕ)). whole_blocks file ++ bs) (sym (bodies_more rounds round))

      -- one round more is kept and told of
      pub kept_more : is_some (bytes d') ≡ is_some (bytes d) → KeptBlocks bytes may_leave d d' (round.body.items ∷ []) → Appended written faults k k' round.text.items → SoFar d0 d' k0 k' more
      kept_more tells kept told = record {
        every_moment = moments_more;
        tells = tells ∙ so_far.tells;
        kept = kept_blocks kept;
        told = subst (λ (t : List ℕ). Appended written faults k0 k' t) (sym (text_more rounds round)) (Appended-append so_far.told told);
      }

      -- a fault in one round more
      pub kept_cut : ((disk : D) (t : ℕ) (image : List ℕ) → t ≤ moment disk → may_leave disk image → left_since disk t image)
          → KeptBeforeTold bytes may_leave written faults d d' k k' round.body.items round.text.items → UpTo d0 d' k0 k' more
      kept_cut counts_now (inl untold) = record {
        every_moment = moments_more;
        count = length rounds;
        within = omega (arith, length-append rounds (round ∷ []));
        kept = λ file told image may.
            let was = read_before file told in
            let moments = step was.0 was.1 in
            let has = moments.each image (counts_now d' (moment d) image moments.later may) in
            let long = length-map rounds (λ (r : Round). r.body.items) in
            subst (λ (bs : List (List ℕ)). HasFirst (whole_blocks file) bs (length rounds) image) (sym (bodies_more rounds round))
            (first_either (whole_blocks file) bodies (whole_blocks was.0) round.body.items (length rounds) image was.2 (omega (arith, long)) has);
        told =
            let front : take (length rounds) more ≡ rounds = take_at rounds (round ∷ []) (length rounds) refl in
            subst (λ (rs : List Round). AppendedPart written faults k0 k' (text_of rs)) (sym front)
            (subst (λ (x : K). AppendedPart written faults k0 x (text_of rounds)) (sym untold) (AppendedPart-whole so_far.told));
      }
      kept_cut counts_now (inr kept) = record {
        every_moment = moments_more;
        count = length more;
        within = omega arith;
        kept = λ file told image may.
            let long = length-map more (λ (r : Round). r.body.items) in
            first_all (whole_blocks file) (bodies_of more) (length more) image (omega (arith, long)) (kept_blocks kept.0 file told image may);
        told =
            let all : take (length more) more ≡ more = take_all (length more) more (omega arith) in
            subst (λ (t : List ℕ). AppendedPart written faults k0 k' t) (sym (ap text_of all ∙ text_more rounds round))
            (AppendedPart-cut so_far.told kept.1 (IsPrefixOf-refl (text_of rounds ++ round.text.items)));
      }
