-- Lines that are written piece by piece into a room of bytes.
use Rattle.std.proofs.Common.{ℕ, ◌≡◌, List, [], ◌∷◌, ◌++◌, ap, sym, ◌∙◌, append_assoc, append-nil, rules}
use Rattle.std.proofs.lemmas.Grind.{flat_map-append}
use Rattle.fx_text.specs.Fields.{fields_text}
use Rattle.fx_text.proofs.DigitTexts.{then_written}

-- a first field, some behind others, and one behind others
pub first_written : (before one field : List ℕ) → one ≡ before ++ 32 ∷ field → one ≡ before ++ fields_text (field ∷ [])
first_written before one field is = is ∙ ap (λ (t : List ℕ). before ++ t) (sym (append-nil (32 ∷ field)))

pub fields_written : (before one two : List ℕ) (fields more : List (List ℕ)) → one ≡ before ++ fields_text fields → two ≡ one ++ fields_text more → two ≡ before ++ fields_text (fields ++ more)
fields_written before one two fields more first then =
    let joined : fields_text (fields ++ more) ≡ fields_text fields ++ fields_text more = flat_map-append (λ (f : List ℕ). 32 ∷ f) fields more in
    then_written before one two (fields_text fields) (fields_text more) first then ∙ ap (λ (t : List ℕ). before ++ t) (sym joined)

pub field_written : (before one two : List ℕ) (fields : List (List ℕ)) (field : List ℕ) → one ≡ before ++ fields_text fields → two ≡ one ++ 32 ∷ field → two ≡ before ++ fields_text (fields ++ field ∷ [])
field_written before one two fields field first then = fields_written before one two fields (field ∷ []) first (first_written one two field then)

-- a line of a first field, some fields and some more
pub row_written : (before one two three four first : List ℕ) (fields more : List (List ℕ)) → one ≡ before ++ first → two ≡ one ++ fields_text fields → three ≡ two ++ fields_text more → four ≡ three ++ 10 ∷ []
    → four ≡ before ++ (first ++ fields_text (fields ++ more) ++ 10 ∷ [])
row_written before one two three four first fields more is1 is2 is3 is4 =
    let head : List ℕ = fields_text fields in
    let tail : List ℕ = fields_text more in
    let end : List ℕ = 10 ∷ [] in
    let joined : fields_text (fields ++ more) ≡ head ++ tail = flat_map-append (λ (f : List ℕ). 32 ∷ f) fields more in
    then_written before one four first (head ++ (tail ++ end)) is1 (then_written one two four head (tail ++ end) is2 (then_written two three four tail end is3 is4))
    ∙ ap (λ (t : List ℕ). before ++ t)
    (ap (λ (t : List ℕ). first ++ t) (sym (append_assoc head tail end))
    ∙ sym (append_assoc first (head ++ tail) end)
    ∙ ap (λ (t : List ℕ). first ++ t ++ end) (sym joined))

-- a line of a fill, which is made of five pieces and a line feed
pub fill_written : (before one two three four five six first head third name fifth : List ℕ) → one ≡ before ++ first → two ≡ one ++ head → three ≡ two ++ third → four ≡ three ++ 32 ∷ name → five ≡ four ++ fifth → six ≡ five ++ 10 ∷ []
    → six ≡ before ++ (first ++ head ++ third ++ 32 ∷ name ++ fifth ++ 10 ∷ [])
fill_written before one two three four five six first head third name fifth is1 is2 is3 is4 is5 is6 =
    let end : List ℕ = fifth ++ 10 ∷ [] in
    let last : List ℕ = (32 ∷ name) ++ end in
    let text : List ℕ = first ++ (head ++ (third ++ last)) in
    let whole : text ≡ first ++ head ++ third ++ 32 ∷ name ++ fifth ++ 10 ∷ [] = search (rules, append_assoc) in
    then_written before one six first (head ++ (third ++ last)) is1
    (then_written one two six head (third ++ last) is2
    (then_written two three six third last is3 (then_written three four six (32 ∷ name) end is4 (then_written four five six fifth (10 ∷ []) is5 is6))))
    ∙ ap (λ (t : List ℕ). before ++ t) whole
