-- What a crash leaves while a keeper writes.
use Rattle.std.proofs.Common.{◌≡◌, inl, ℕ, ◌+◌, ◌-◌, ◌^◌, ◌<◌, ◌≤◌, List, ◌++◌, length, length-drop, take, drop, take_all, take-append-drop, length-append, Option, None, Some, option_map, Result, Ok, Err, OnOk, IsErrOf, refl, sym, ◌∙◌, ap, subst, arith}
use Rattle.std.proofs.Math.Seq.{take-append-add}
use Rattle.std.proofs.lemmas.List.{take-append-le, drop-take, length-take}
use Rattle.keep_disk.proofs.Reading.{take_shorter}
use Rattle.fx_disk.specs.declared.disk.DiskStop.{DiskStop}
use Rattle.fx_disk.specs.declared.disk.DiskStop.TheVariants.{Failed}
use Rattle.fx_disk.specs.Disk.{WhereTold, with_piece, Torn, TornBy, NoMore, Only, Called, LeavesOnly}
use Rattle.fx_disk.proofs.Leaving.{Torn-refl, leaves_at_start, leaves_weaker, leaves_then, leaves_call}
use Rattle.keep_disk.specs.Blocks.{whole_blocks, IsClosedAt, HasOrLacks}
use Rattle.keep_disk.specs.inside.Keeping.{TornFrom, Untouched}
use Rattle.keep_disk.proofs.Appending.{staged, staged_torn, gate_torn}

-- A write, and then a sync

module _ {D : Type 0} (bytes : D → Option (List ℕ)) (may_leave : D → List ℕ → Type 0) (moment : D → ℕ) (left_since : D → ℕ → List ℕ → Type 0) (faults : D → ℕ)
    (only_now : (disk : D) (image : List ℕ) → left_since disk (moment disk) image → may_leave disk image) where
  pub torn_call : {T : Type 0} (at n : ℕ) (before now : D) (result : Result T DiskStop) → Called bytes may_leave moment left_since faults before now result
      → TornBy at n (may_leave before) (may_leave now) → LeavesOnly moment left_since before now (TornFrom at n (may_leave before))
  torn_call at n before now result called torn =
      leaves_call moment left_since bytes may_leave faults before before now result (TornFrom at n (may_leave before))
      (leaves_at_start moment left_since before (TornFrom at n (may_leave before)) (λ image left. (image, only_now before image left, Torn-refl at n image)))
      called torn

-- What is told

pub told_piece : (known now : Option (List ℕ)) (at : ℕ) (piece block file : List ℕ) → now ≡ option_map (with_piece at piece) known → known ≡ Some file → piece ≡ block → now ≡ Some (with_piece at block file)
told_piece known now at piece block file is told same =
    is ∙ ap (λ (k : Option (List ℕ)). option_map (with_piece at piece) k) told ∙ ap (λ (p : List ℕ). Some (with_piece at p file)) same

pub told_before : (known now : Option (List ℕ)) (f : List ℕ → List ℕ) (file : List ℕ) → now ≡ option_map f known → now ≡ Some file → (was : List ℕ) × (known ≡ Some was)
told_before None now f file is told = absurd (cc)
told_before (Some was) now f file is told = (was, refl)

pub same_told : (known : Option (List ℕ)) (file other : List ℕ) → known ≡ Some file → known ≡ Some other → file ≡ other
same_told known file other e f = cc

pub at_rest_now : (known : Option (List ℕ)) (images : List ℕ → Type 0) (file other : List ℕ) (place : ℕ) → known ≡ Some file → IsClosedAt file place → WhereTold known (λ f. Only f images) → known ≡ Some other
    → IsClosedAt other place × Only other images
at_rest_now known images file other place is closed durable told =
    (subst (λ (f : List ℕ). IsClosedAt f place) (same_told known file other is told) closed, durable other told)

-- The two writes of an append

pub first_write : (file : List ℕ) (place n : ℕ) (images : List ℕ → Type 0) (body : List ℕ) → IsClosedAt file place → Only file images → (image : List ℕ) → TornFrom (place + 1) n images image → HasOrLacks (whole_blocks file) body image
first_write file place n images body shut only image from =
    inl (staged_torn file place shut n image (subst (λ (f : List ℕ). Torn (place + 1) n f image) (only from.0 from.1) from.2))

pub second_write : (file : List ℕ) (place : ℕ) (images : List ℕ → Type 0) (body : List ℕ) (fits : length body < 2 ^ 64) (shut : IsClosedAt file place) → Only (staged file place shut body fits) images → (image : List ℕ) → TornFrom place 1 images image
    → HasOrLacks (whole_blocks file) body image
second_write file place images body fits shut only image from =
    gate_torn file place shut body fits image (subst (λ (f : List ℕ). Torn place 1 f image) (only from.0 from.1) from.2)

module _ {D : Type 0} (moment : D → ℕ) (left_since : D → ℕ → List ℕ → Type 0) (may_leave : D → List ℕ → Type 0) where
  -- once the first write was made
  pub append_begun : (start middle : D) (file body : List ℕ) (place n : ℕ) → IsClosedAt file place → Only file (may_leave start) → LeavesOnly moment left_since start middle (TornFrom (place + 1) n (may_leave start))
      → LeavesOnly moment left_since start middle (HasOrLacks (whole_blocks file) body)
  append_begun start middle file body place n shut only first =
      leaves_weaker moment left_since start middle (TornFrom (place + 1) n (may_leave start)) (HasOrLacks (whole_blocks file) body) (first_write file place n (may_leave start) body shut only) first

  -- once both were
  pub append_made : (start middle now : D) (file body : List ℕ) (place n : ℕ) (fits : length body < 2 ^ 64) (shut : IsClosedAt file place) → Only file (may_leave start)
      → LeavesOnly moment left_since start middle (TornFrom (place + 1) n (may_leave start)) → Only (staged file place shut body fits) (may_leave middle) → LeavesOnly moment left_since middle now (TornFrom place 1 (may_leave middle))
      → LeavesOnly moment left_since start now (HasOrLacks (whole_blocks file) body)
  append_made start middle now file body place n fits shut only first staged_only second =
      leaves_then moment left_since start middle now (HasOrLacks (whole_blocks file) body) (append_begun start middle file body place n shut only first)
      (leaves_weaker moment left_since middle now (TornFrom place 1 (may_leave middle)) (HasOrLacks (whole_blocks file) body) (second_write file place (may_leave middle) body fits shut staged_only) second)

-- Calls that add no image

module _ {D : Type 0} (bytes : D → Option (List ℕ)) (may_leave : D → List ℕ → Type 0) (moment : D → ℕ) (left_since : D → ℕ → List ℕ → Type 0) (faults : D → ℕ) where
  pub Untouched-moments : {T : Type 0} (start before now : D) (result : Result T DiskStop) → Untouched bytes may_leave moment left_since faults start before → Called bytes may_leave moment left_since faults before now result
      → NoMore (may_leave before) (may_leave now) → LeavesOnly moment left_since start now (may_leave start)
  Untouched-moments start before now result so_far called fewer =
      leaves_call moment left_since bytes may_leave faults start before now result (may_leave start) so_far.every_moment called (λ image may. so_far.no_more image (fewer image may))

  pub Untouched-call : {T : Type 0} (start before now : D) (result : Result T DiskStop) → Untouched bytes may_leave moment left_since faults start before → Called bytes may_leave moment left_since faults before now result
      → NoMore (may_leave before) (may_leave now) → bytes now ≡ bytes before → (IsErrOf result Failed → ⊥) → Untouched bytes may_leave moment left_since faults start now
  Untouched-call start before now result so_far called fewer same worked = record {
    same = same ∙ so_far.same;
    no_more = λ image may. so_far.no_more image (fewer image may);
    every_moment = Untouched-moments start before now result so_far called fewer;
    count = called.steady worked ∙ so_far.count;
  }

pub both_ok : {T E : Type 0} (result : Result T E) (P Q R : Type 0) → (P → Q → R) → OnOk result P → OnOk result Q → OnOk result R
both_ok (Ok value) P Q R f p q = f p q
both_ok (Err e) P Q R f p q = tt

pub not_err : {T E : Type 0} {result : Result T E} {value : T} {error : E} → result ≡ Ok value → IsErrOf result error → ⊥
not_err ok err = absurd (cc)

-- A file that is read in parts

take_split : (at n : ℕ) (file : List ℕ) → take (at + n) file ≡ take at file ++ take n (drop at file)
take_split at n file =
    let long = length-take (at + n) file in
    let front : take at (take (at + n) file) ≡ take at file = take_shorter at (at + n) (take (at + n) file) file (omega arith) (take_all (at + n) (take (at + n) file) (omega arith)) in
    sym (take-append-drop at (take (at + n) file))
    ∙ ap (λ (l : List ℕ). l ++ drop at (take (at + n) file)) front
    ∙ ap (λ (l : List ℕ). take at file ++ l) (drop-take at n file)

pub fill_within : (at n : ℕ) (into sub post : List ℕ) → at ≤ length into → n ≤ length sub → at + n ≤ length (take at into ++ (sub ++ post))
fill_within at n into sub post le room =
    let a = length-append (take at into) (sub ++ post) in
    let b = length-append sub post in
    let d = length-take at into in
    omega arith

pub fill_more : (at n : ℕ) (into sub post file : List ℕ) → at ≤ length into → n ≤ length sub → take at into ≡ take at file → take n sub ≡ take n (drop at file) → take (at + n) (take at into ++ (sub ++ post)) ≡ take (at + n) file
fill_more at n into sub post file le room so_far more =
    let long : length (take at into) ≡ at = length-take at into ∙ omega (arith, le) in
    let e : at + n ≡ length (take at into) + n = omega (arith, long) in
    ap (λ (k : ℕ). take k (take at into ++ (sub ++ post))) e
    ∙ take-append-add (take at into) (sub ++ post) n
    ∙ ap (λ (l : List ℕ). take at into ++ l) (take-append-le n sub post room ∙ more)
    ∙ ap (λ (l : List ℕ). l ++ take n (drop at file)) so_far
    ∙ sym (take_split at n file)

pub fill_length : (at : ℕ) (into sub : List ℕ) → at ≤ length into → length sub ≡ length into - at → length (take at into ++ (sub ++ drop (length into - at) (drop at into))) ≡ length into
fill_length at into sub le long =
    let post = drop (length into - at) (drop at into) in
    let a = length-append (take at into) (sub ++ post) in
    let b = length-append sub post in
    let d = length-take at into in
    let e = length-drop (length into - at) (drop at into) in
    let f = length-drop at into in
    omega arith
