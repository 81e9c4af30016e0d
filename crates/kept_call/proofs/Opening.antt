-- A call, from the disk that it found on: what was said from the disk on which the file is open.
use Rattle.std.proofs.Common.{ℕ, ◌≡◌, List, [], Option, Some, sym, ◌∙◌, subst, arith, append-nil}
use Rattle.std.specs.Prelude.{is_some}
use Rattle.fx_disk.specs.Disk.{WhereTold, Only, LeavesOnly}
use Rattle.fx_disk.proofs.Leaving.{leaves_weaker, leaves_then}
use Rattle.keep_disk.specs.Blocks.{whole_blocks}
use Rattle.keep_disk.specs.Keeping.{AtRest}
use Rattle.keep_disk.specs.declared.rounds.Round.{Round}
use Rattle.keep_disk.specs.Rounds.{bodies_of, HasFirst, KeptSoFar}
use Rattle.keep_disk.proofs.Telling.{told_now, kept_none}
use Rattle.kept_call.specs.Kept.{EveryMoment, AtReturn}

-- an image with the blocks from the start, and none of the call's
first_none : (start more : List (List ℕ)) (image : List ℕ) → whole_blocks image ≡ start → HasFirst start more 0 image
first_none start more image is = record { count = 0; enough = omega arith; within = omega arith; blocks = is ∙ sym (append-nil start) }

module _ {D : Type 0} (bytes : D → Option (List ℕ)) (may_leave : D → List ℕ → Type 0) (moment : D → ℕ) (left_since : D → ℕ → List ℕ → Type 0) where
  -- the file could not be opened, or nothing was done since
  pub opened-short : (d0 d : D) (rounds : List Round) → WhereTold (bytes d0) (λ file. Only file (may_leave d0) → LeavesOnly moment left_since d0 d (λ image. whole_blocks image ≡ whole_blocks file)) → EveryMoment bytes may_leave moment left_since d0 d rounds
  opened-short d0 d rounds leaves = λ file told only.
      leaves_weaker moment left_since d0 d (λ (image : List ℕ). whole_blocks image ≡ whole_blocks file) (HasFirst (whole_blocks file) (bodies_of rounds) 0) (first_none (whole_blocks file) (bodies_of rounds)) (leaves file told only)

  module _ (d0 d : D) (leaves : WhereTold (bytes d0) (λ file. Only file (may_leave d0) → LeavesOnly moment left_since d0 d (λ image. whole_blocks image ≡ whole_blocks file)))
      (same : WhereTold (bytes d0) (λ file. (image : List ℕ) → may_leave d image → whole_blocks image ≡ whole_blocks file)) where
    -- every image has the blocks from the start
    pub opened-kept : (rounds : List Round) → AtReturn bytes may_leave d0 d rounds 0
    opened-kept rounds = λ file told image may. first_none (whole_blocks file) (bodies_of rounds) image (same file told image may)

    module _ (tells : is_some (bytes d) ≡ is_some (bytes d0)) (reads : (disk : D) → WhereTold (bytes disk) (λ file. may_leave disk file)) (d' : D) (rounds : List Round) where
      -- what the disk reads once the file is open
      reads-then : (file : List ℕ) → bytes d0 ≡ Some file → (f : List ℕ) × (bytes d ≡ Some f) × (whole_blocks f ≡ whole_blocks file)
      reads-then file told = let now = told_now (bytes d0) (bytes d) file tells told in (now.0, now.1, same file told now.0 (reads d now.0 now.1))

      pub opened-moments : WhereTold (bytes d) (λ file. LeavesOnly moment left_since d d' (HasFirst (whole_blocks file) (bodies_of rounds) 0)) → EveryMoment bytes may_leave moment left_since d0 d' rounds
      opened-moments later = λ file told only.
          let now = reads-then file told in
          leaves_then moment left_since d0 d d' (HasFirst (whole_blocks file) (bodies_of rounds) 0) (opened-short d0 d rounds leaves file told only)
          (subst (λ (blocks : List (List ℕ)). LeavesOnly moment left_since d d' (HasFirst blocks (bodies_of rounds) 0)) now.2 (later now.0 now.1))

      pub opened-at_return : (count : ℕ) → AtReturn bytes may_leave d d' rounds count → AtReturn bytes may_leave d0 d' rounds count
      opened-at_return count later = λ file told image may.
          let now = reads-then file told in
          subst (λ (blocks : List (List ℕ)). HasFirst blocks (bodies_of rounds) count image) now.2 (later now.0 now.1 image may)

-- a disk on which the file is open, before a round
pub kept-at_rest : {D K : Type 0} (bytes : D → Option (List ℕ)) (may_leave : D → List ℕ → Type 0) (moment : D → ℕ) (left_since : D → ℕ → List ℕ → Type 0) (written : K → Option (List ℕ)) (faults : K → ℕ) (d : D) (k : K) (place : ℕ)
    → ((image : List ℕ) → left_since d (moment d) image → may_leave d image) → AtRest bytes may_leave d place → KeptSoFar bytes may_leave moment left_since written faults d d k k []
kept-at_rest bytes may_leave moment left_since written faults d k place only_now at_rest = kept_none bytes may_leave moment left_since written faults d k only_now (λ file told. (at_rest file told).1)
