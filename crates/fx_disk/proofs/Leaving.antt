-- Runs of calls of a disk: what a crash at any moment since the start leaves.
use Rattle.std.proofs.Common.{inl, inr, ⊎_elim, ℕ, List, Option, Result, refl, arith}
use Rattle.fx_disk.specs.declared.disk.DiskStop.{DiskStop}
use Rattle.fx_disk.specs.Disk.{Torn, Called, LeavesOnly}

pub Torn-refl : (at n : ℕ) (file : List ℕ) → Torn at n file file
Torn-refl at n file = record { front = refl; behind = refl; no_shorter = omega arith; no_longer = omega arith }

module _ {D : Type 0} (moment : D → ℕ) (left_since : D → ℕ → List ℕ → Type 0) where
  -- before the first call
  pub leaves_at_start : (start : D) (P : List ℕ → Type 0) → ((image : List ℕ) → left_since start (moment start) image → P image) → LeavesOnly moment left_since start start P
  leaves_at_start start P here = record { later = omega arith; each = here; earlier = λ t image le left. inl left }

  -- what is left has also what follows from it
  pub leaves_weaker : (start now : D) (P Q : List ℕ → Type 0) → ((image : List ℕ) → P image → Q image) → LeavesOnly moment left_since start now P → LeavesOnly moment left_since start now Q
  leaves_weaker start now P Q follows so_far = record {
    later = so_far.later;
    each = λ image left. follows image (so_far.each image left);
    earlier = λ t image le left. ⊎_elim (λ was. inl was) (λ has. inr (follows image has)) (so_far.earlier t image le left);
  }

  -- one run after another
  pub leaves_then : (start middle now : D) (P : List ℕ → Type 0) → LeavesOnly moment left_since start middle P → LeavesOnly moment left_since middle now P → LeavesOnly moment left_since start now P
  leaves_then start middle now P first second = record {
    later = omega (arith, first.later, second.later);
    each = λ image left. ⊎_elim (first.each image) (λ has. has) (second.earlier (moment start) image first.later left);
    earlier = λ t image le left. ⊎_elim (first.earlier t image le) (λ has. inr has) (second.earlier t image (omega (arith, le, first.later)) left);
  }

  -- one call more
  pub leaves_call : {T : Type 0} (bytes : D → Option (List ℕ)) (may_leave : D → List ℕ → Type 0) (faults : D → ℕ) (start before now : D) (result : Result T DiskStop) (P : List ℕ → Type 0)
      → LeavesOnly moment left_since start before P → Called bytes may_leave moment left_since faults before now result → ((image : List ℕ) → may_leave now image → P image) → LeavesOnly moment left_since start now P
  leaves_call bytes may_leave faults start before now result P so_far called here = record {
    later = omega (arith, so_far.later, called.later);
    each = λ image left. ⊎_elim (so_far.each image) (here image) (called.no_more (moment start) image so_far.later left);
    earlier = λ t image le left. ⊎_elim (so_far.earlier t image le) (λ may. inr (here image may)) (called.no_more t image (omega (arith, le, so_far.later)) left);
  }
