-- The fields that are kept of a line.
use Rattle.std.proofs.Common.{◌≡◌, ℕ, ◌<◌, List, [], length, map, take, get_or, sym, ap, ◌∙◌, arith, slice_get, Some}
use Rattle.std.proofs.lemmas.List.{length-take, length-map, get_or-take, get_or-map}
use Rattle.std.proofs.lemmas.Option.{slice_get-get_or, get_or_from_slice_get}
use denote.Ref.{Bor}

-- a field that is kept is the field at its place
pub kept_field : (kept : List (Bor (List ℕ))) (fields : List (List ℕ)) (count at : ℕ) (d : Bor (List ℕ)) → count ≡ length fields → map (λ part. part.now) (take count kept) ≡ take 8 fields
    → at < 8 → at < count → slice_get fields at ≡ Some (get_or kept at d).now
kept_field kept fields count at d counted same below within =
    let lengths : length (take count kept) ≡ length (take 8 fields) = sym (length-map (take count kept) (λ (part : Bor (List ℕ)). part.now)) ∙ ap length same in
    let inside : at < length (take count kept) = omega (arith, lengths, length-take 8 fields) in
    let here : get_or (map (λ (part : Bor (List ℕ)). part.now) (take count kept)) at [] ≡ (get_or (take count kept) at d).now = get_or-map (λ (part : Bor (List ℕ)). part.now) (take count kept) at d [] inside in
    slice_get-get_or fields at [] (omega arith)
    ∙ ap Some (sym (get_or-take 8 fields at [] below) ∙ ap (λ (front : List (List ℕ)). get_or front at []) (sym same) ∙ here ∙ ap (λ (part : Bor (List ℕ)). part.now) (get_or-take count kept at d within))

pub kept_field_or : (kept : List (Bor (List ℕ))) (fields : List (List ℕ)) (count at : ℕ) (d : Bor (List ℕ)) → count ≡ length fields → map (λ part. part.now) (take count kept) ≡ take 8 fields
    → at < 8 → at < count → (get_or kept at d).now ≡ get_or fields at []
kept_field_or kept fields count at d counted same below within = sym (get_or_from_slice_get fields at (get_or kept at d).now [] (kept_field kept fields count at d counted same below within))
