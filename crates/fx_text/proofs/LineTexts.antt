-- A line as it grows in its fixed room.
use Rattle.std.proofs.Common.{◌≡◌, ℕ, zero, suc, ◌+◌, ◌-◌, ◌*◌, ◌<◌, ◌≤◌, min, List, [], ◌∷◌, ◌++◌, length, take, refl, sym, ap, ap₂, ◌∙◌, arith, append_assoc, append-nil, length-append, ⊎_elim}
use Rattle.std.proofs.lemmas.Bool.{cases_lt}
use Rattle.std.proofs.lemmas.List.{length-take, take-append-le, take_all}
use Rattle.std.proofs.Math.Seq.{take-append-add}
use Rattle.std.specs.List.{AllByRecursion}
use Rattle.fx_text.specs.Fields.{fields_text}

shorter_take : (more : List ℕ) (room count : ℕ) → count ≡ min (length more) room → take count more ≡ take room more
shorter_take more room count is = ⊎_elim
    (λ (short : length more < room). take_all count more (omega arith) ∙ sym (take_all room more (omega arith)))
    (λ (long : room ≤ length more). let same : count ≡ room = omega arith in ap (λ (n : ℕ). take n more) same)
    (cases_lt (length more) room)

-- bytes that are added in a fixed room
pub extended_within : (room : ℕ) (bytes old more : List ℕ) (len count : ℕ) → length bytes ≡ room → len ≤ room → take len bytes ≡ old → count ≡ min (length more) (room - len)
    → take len bytes ++ take count more ≡ take room (old ++ more)
extended_within room bytes old more len count size_is within is all =
    let size : length old ≡ len = omega (arith, ap length is, length-take len bytes) in
    let seam : take (length old + (room - len)) (old ++ more) ≡ old ++ take (room - len) more = take-append-add old more (room - len) in
    let full : length old + (room - len) ≡ room = omega arith in
    ap₂ (λ (front back : List ℕ). front ++ back) is (shorter_take more (room - len) count all) ∙ sym seam ∙ ap (λ (n : ℕ). take n (old ++ more)) full

-- digits written behind the first `len`
pub put_within : (room : ℕ) (bytes new old digits : List ℕ) (len end : ℕ) → take len bytes ≡ old → take end new ≡ take len bytes ++ digits → end ≤ room → take end new ≡ take room (old ++ digits)
put_within room bytes new old digits len end is written fits =
    let all : take end new ≡ old ++ digits = written ∙ ap (λ (xs : List ℕ). xs ++ digits) is in
    all ∙ sym (take_all room (old ++ digits) (omega (arith, ap length all, length-take end new)))

-- a full room takes nothing more
pub full_room : (room : ℕ) (old more : List ℕ) → length old ≡ room → old ≡ take room (old ++ more)
full_room room old more full = sym (take-append-le room old more (omega arith) ∙ take_all room old (omega arith))

-- a room that is not full takes a byte
pub one_more_within : (room : ℕ) (old : List ℕ) (byte : ℕ) → length old < room → old ++ byte ∷ [] ≡ take room (old ++ byte ∷ [])
one_more_within room old byte within = sym (take_all room (old ++ byte ∷ []) (omega (arith, length-append old (byte ∷ []))))

-- what is cut to the room before more is added is cut to it after
pub take-append-take : (n : ℕ) (xs ys : List ℕ) → take n (take n xs ++ ys) ≡ take n (xs ++ ys)
take-append-take zero xs ys = refl
take-append-take (suc n) [] ys = refl
take-append-take (suc n) (x ∷ xs) ys = ap (λ (rest : List ℕ). x ∷ rest) (take-append-take n xs ys)

-- two pieces, one after the other
pub pushed_two : (start one two a b : List ℕ) → one ≡ take 256 (start ++ a) → two ≡ take 256 (one ++ b) → two ≡ take 256 (start ++ (a ++ b))
pushed_two start one two a b first then =
    then ∙ ap (λ (text : List ℕ). take 256 (text ++ b)) first ∙ take-append-take 256 (start ++ a) b ∙ ap (take 256) (append_assoc start a b)

-- what was cut to the room is within it
pub within_room : (text now : List ℕ) → now ≡ take 256 text → length now ≤ 256
within_room text now is = omega (arith, ap (λ (t : List ℕ). length t) is, length-take 256 text)

-- a text that the room is enough for
pub fits_room : (text now : List ℕ) → length text ≤ 256 → now ≡ take 256 text → now ≡ text
fits_room text now within is = is ∙ take_all 256 text within

-- no field more, the last one, and one before others
pub no_field : (start : List ℕ) → length start ≤ 256 → start ≡ take 256 (start ++ [])
no_field start within = sym (ap (take 256) (append-nil start) ∙ take_all 256 start within)

pub last_field : (start after field : List ℕ) → after ≡ take 256 (start ++ 32 ∷ field) → after ≡ take 256 (start ++ fields_text (field ∷ []))
last_field start after field is = is ∙ ap (λ (text : List ℕ). take 256 (start ++ text)) (sym (append-nil (32 ∷ field)))

pub one_field : (start one after field : List ℕ) (fields : List (List ℕ)) → one ≡ take 256 (start ++ 32 ∷ field) → after ≡ take 256 (one ++ fields_text fields) → after ≡ take 256 (start ++ fields_text (field ∷ fields))
one_field start one after field fields first rest = pushed_two start one after (32 ∷ field) (fields_text fields) first rest

-- short fields make a short text
pub length-fields_text : (fields : List (List ℕ)) → AllByRecursion (λ field. length field ≤ 20) fields → length (fields_text fields) ≤ 21 * length fields
length-fields_text [] all = omega arith
length-fields_text (field ∷ fields) all = omega (arith, all.0, length-fields_text fields all.1, length-append (32 ∷ field) (fields_text fields))

-- a line whose fields are pushed behind the first
pub pushed_line : (first : List ℕ) (fields : List (List ℕ)) (start one two after : List ℕ) → start ≡ [] → one ≡ take 256 (start ++ first) → two ≡ take 256 (one ++ fields_text fields)
    → after ≡ take 256 (two ++ 10 ∷ []) → length first ≤ 39 → length (fields_text fields) ≤ 200 → after ≡ first ++ fields_text fields ++ 10 ∷ []
pushed_line first fields start one two after empty begun told ended first_few few =
    let text : List ℕ = first ++ (fields_text fields ++ 10 ∷ []) in
    let made : after ≡ take 256 (start ++ text) = pushed_two start one after first (fields_text fields ++ 10 ∷ []) begun (pushed_two one two after (fields_text fields) (10 ∷ []) told ended) in
    let short : length text ≤ 256 = omega (arith, first_few, few, length-append first (fields_text fields ++ 10 ∷ []), length-append (fields_text fields) (10 ∷ [])) in
    fits_room text after short (made ∙ ap (λ (t : List ℕ). take 256 (t ++ text)) empty) ∙ sym (append_assoc first (fields_text fields) (10 ∷ []))
