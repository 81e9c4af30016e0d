-- What a write adds to the images of a disk in memory.
use Rattle.std.proofs.Common.{◌≡◌, ◌⊎◌, inl, inr, ⊎_elim, ℕ, ◌+◌, ◌-◌, ◌<◌, ◌≤◌, max, min, List, ◌∷◌, ◌++◌, length, take, drop, get_or, sym, ◌∙◌, ap, arith, length-append, length-drop}
use Rattle.std.proofs.lemmas.List.{get_or-take, get_or-drop, get_or-append_right, length-take, ext_get_or}
use Rattle.std.proofs.Math.ListN.{get_or-append}
use Rattle.std.proofs.lemmas.Bool.{cases_lt}
use Rattle.fx_disk.specs.Disk.{with_piece, Torn}
use Rattle.fx_disk.specs.Model.{greatest_end, IsOutside, MayLeave}
use Rattle.fx_disk.specs.ModelLaws.{length-with_piece, get_or-with_piece}

-- the bytes of a piece stand in its range
get_or-inside : (at : ℕ) (piece file : List ℕ) (k : ℕ) → at ≤ length file → at ≤ k → k < at + length piece → get_or (with_piece at piece file) k 0 ≡ get_or piece (k - at) 0
get_or-inside at piece file k le from below =
    let n : length (take at file) ≡ at = length-take at file ∙ omega arith in
    let m = length-append (take at file) piece in
    get_or-append (take at file ++ piece) (drop (at + length piece) file) 0 k (omega arith)
    ∙ get_or-append_right (take at file) piece at k 0 n from

-- An image after a write, with its range as it was at the last sync, is an image before the write.
module _ (synced : List ℕ) (ranges : List (ℕ × ℕ)) (at n : ℕ) (image : List ℕ) where
  abbrev longest : ℕ
  longest = max (length synced) (greatest_end ranges)

  abbrev cut : List ℕ
  cut = take longest image

  abbrev known : List ℕ
  known = synced ++ drop (length synced) cut

  abbrev filler : List ℕ
  filler = take n (drop at known)

  abbrev pub restored : List ℕ
  restored = with_piece at filler cut

  length-cut : length cut ≡ min longest (length image)
  length-cut = length-take longest image

  module _ (may : MayLeave synced ((at, n) ∷ ranges) image) where
    synced_in_cut : length synced ≤ length cut
    synced_in_cut = omega (arith, length-cut, may.no_shorter)

    length-known : length known ≡ length cut
    length-known = length-append synced (drop (length synced) cut) ∙ ap (λ (k : ℕ). length synced + k) (length-drop (length synced) cut) ∙ omega (arith, synced_in_cut)

    length-filler : length filler ≡ min n (length cut - at)
    length-filler = length-take n (drop at known) ∙ ap (λ (k : ℕ). min n k) (length-drop at known ∙ ap (λ (k : ℕ). k - at) length-known)

    length-restored : length restored ≡ length cut
    length-restored = length-with_piece at filler cut ∙ omega (arith, length-filler)

    same_outside : (k : ℕ) → k < length cut → (k < at) ⊎ (at + n ≤ k) → get_or restored k 0 ≡ get_or image k 0
    same_outside k within outside =
        let away : (k < at) ⊎ (at + length filler ≤ k) = ⊎_elim (λ (front : k < at). inl front) (λ (behind : at + n ≤ k). inr (omega (arith, length-filler, behind))) outside in
        get_or-with_piece at filler cut k within away ∙ get_or-take longest image k 0 (omega (arith, within, length-cut))

    same_inside : (k : ℕ) → k < length synced → at ≤ k → k < at + n → get_or restored k 0 ≡ get_or synced k 0
    same_inside k within from below =
        let short = length-filler in
        let e : at + (k - at) ≡ k = omega (arith, from) in
        get_or-inside at filler cut k (omega (arith, from, within, synced_in_cut)) from (omega (arith, short, within, synced_in_cut, below, from))
        ∙ get_or-take n (drop at known) (k - at) 0 (omega (arith, below, from))
        ∙ get_or-drop at known (k - at) 0
        ∙ ap (λ (i : ℕ). get_or known i 0) e
        ∙ get_or-append synced (drop (length synced) cut) 0 k within

    restored_stays : (k : ℕ) → k < length synced → IsOutside k ranges → get_or restored k 0 ≡ get_or synced k 0
    restored_stays k within outside = elim (cases_lt k at) [
      | inl front ↦ same_outside k (omega (arith, within, synced_in_cut)) (inl front) ∙ may.stays k within (inl front, outside)
      | inr from ↦ elim (cases_lt k (at + n)) [
        | inl below ↦ same_inside k within from below
        | inr behind ↦ same_outside k (omega (arith, within, synced_in_cut)) (inr behind) ∙ may.stays k within (inr behind, outside)
      ]
    ]

    pub restored_may_leave : MayLeave synced ranges restored
    restored_may_leave = record {
      no_shorter = omega (arith, length-restored, synced_in_cut);
      no_longer = omega (arith, length-restored, length-cut);
      stays = restored_stays;
    }

    module _ (le : at ≤ longest) where
      front_same : take at image ≡ take at restored
      front_same = ext_get_or 0 _ _
          (length-take at image ∙ omega (arith, le, length-restored, length-cut, length-take at restored))
          (λ i below.
          let long = length-take at image in
          let front : i < at = omega (arith, below, long) in
          let within : i < length cut = omega (arith, below, long, le, length-cut) in
          get_or-take at image i 0 front ∙ sym (same_outside i within (inl front)) ∙ sym (get_or-take at restored i 0 front))

      behind_same : drop (at + n) image ≡ drop (at + n) restored
      behind_same = ext_get_or 0 _ _
          (length-drop (at + n) image ∙ omega (arith, le, length-restored, length-cut, may.no_longer, length-drop (at + n) restored))
          (λ i below.
          let long = length-drop (at + n) image in
          let within : at + n + i < length cut = omega (arith, below, long, le, length-cut, may.no_longer) in
          get_or-drop (at + n) image i 0 ∙ sym (same_outside (at + n + i) within (inr (omega arith))) ∙ sym (get_or-drop (at + n) restored i 0))

      pub restored_torn : Torn at n restored image
      restored_torn = record {
        front = front_same;
        behind = behind_same;
        no_shorter = omega (arith, length-restored, length-cut);
        no_longer = omega (arith, length-restored, length-cut, may.no_longer);
      }

-- and each image before a write, torn by it, is one after it
pub torn_may_leave : (synced : List ℕ) (ranges : List (ℕ × ℕ)) (at n : ℕ) (old image : List ℕ) → MayLeave synced ranges old → Torn at n old image → MayLeave synced ((at, n) ∷ ranges) image
torn_may_leave synced ranges at n old image may torn = record {
  no_shorter = omega (arith, may.no_shorter, torn.no_shorter);
  no_longer = omega (arith, may.no_longer, torn.no_longer);
  stays = λ k within outside. same k outside.0 ∙ may.stays k within outside.1;
}
  where
    same : (k : ℕ) → (k < at) ⊎ (at + n ≤ k) → get_or image k 0 ≡ get_or old k 0
    same k (inl front) = sym (get_or-take at image k 0 front) ∙ ap (λ (l : List ℕ). get_or l k 0) torn.front ∙ get_or-take at old k 0 front
    same k (inr behind) =
        let e : at + n + (k - (at + n)) ≡ k = omega (arith, behind) in
        ap (λ (i : ℕ). get_or image i 0) (sym e) ∙ sym (get_or-drop (at + n) image (k - (at + n)) 0) ∙ ap (λ (l : List ℕ). get_or l (k - (at + n)) 0) torn.behind ∙ get_or-drop (at + n) old (k - (at + n)) 0 ∙ ap (λ (i : ℕ). get_or old i 0) e
