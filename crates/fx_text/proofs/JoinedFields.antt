-- The fields of a line that is written with one space between each two.
use Rattle.std.proofs.Common.{◌≡◌, ℕ, ◌*◌, ◌-◌, ◌<◌, ◌≤◌, false, List, [], ◌∷◌, ◌++◌, length, map, filter, get_or, refl, ap, ◌∙◌, arith, eqb, length-append, All}
use Rattle.std.proofs.lemmas.Bool.{lt-ltb, le-leb, ne_eqb, cond-false}
use Rattle.std.proofs.lemmas.List.Elements.{All-nil, All-cons, All-append, All-weaker}
use Rattle.std.proofs.lemmas.List.Splits.{slice_split_none, slice_split_at, length-slice_split}
use Rattle.std.specs.List.{slice_split, join_with_byte, AllByRecursion}
use Rattle.std.specs.Str.Lines.{strip_carriage_return}
use Rattle.fx_text.specs.Fields.{is_blank, has_bytes, fields_of}
use Rattle.fx_text.specs.Lines.{parts_of, all_but_last, last_of, line_of, lines_of, rest_of}
use Rattle.fx_text.specs.declared.line.Line.TheVariants.{Whole}

-- a text that can stand as a field: some bytes, each above the space, and at most 40
pub record IsField (text : List ℕ) : Type 0 where
  pub some : 0 < length text
  pub short : length text ≤ 40
  pub visible : All (λ byte. 32 < byte) text

not_blank : (byte : ℕ) → 32 < byte → is_blank byte ≡ false
not_blank byte above = rw (ne_eqb byte 32 (λ e. omega arith), ne_eqb byte 9 (λ e. omega arith)) refl

unbroken : (text : List ℕ) → IsField text → All (λ byte. is_blank byte ≡ false) text
unbroken text is = All-weaker (λ byte. 32 < byte) (λ byte. is_blank byte ≡ false) not_blank text is.visible

kept : (field : List ℕ) (rest : List (List ℕ)) → IsField field → filter has_bytes (field ∷ rest) ≡ field ∷ filter has_bytes rest
kept field rest is = rw (lt-ltb 0 (length field) is.some) refl

-- a line's fields are those that were joined
pub fields_of-join : (fields : List (List ℕ)) → 0 < length fields → AllByRecursion IsField fields → fields_of (join_with_byte 32 fields) ≡ fields
unfolding fields_of
fields_of-join [] some all = absurd (omega arith)
fields_of-join (field ∷ []) some all = ap (filter has_bytes) (slice_split_none is_blank field (unbroken field all.0)) ∙ kept field [] all.0
fields_of-join (field ∷ second ∷ more) some all =
    ap (filter has_bytes) (slice_split_at is_blank field 32 (join_with_byte 32 (second ∷ more)) (unbroken field all.0) refl)
    ∙ kept field (slice_split is_blank (join_with_byte 32 (second ∷ more))) all.0
    ∙ ap (λ (rest : List (List ℕ)). field ∷ rest) (fields_of-join (second ∷ more) (omega arith) all.1)

-- no byte of the line is below the space, as a line feed and a carriage return are
pub join-visible : (fields : List (List ℕ)) → AllByRecursion IsField fields → All (λ byte. 32 ≤ byte) (join_with_byte 32 fields)
join-visible [] all = All-nil (λ byte. 32 ≤ byte)
join-visible (field ∷ []) all = All-weaker (λ byte. 32 < byte) (λ byte. 32 ≤ byte) (λ byte above. omega arith) field all.0.visible
join-visible (field ∷ second ∷ more) all =
    All-append (λ byte. 32 ≤ byte) field (32 ∷ join_with_byte 32 (second ∷ more))
    (All-weaker (λ byte. 32 < byte) (λ byte. 32 ≤ byte) (λ byte above. omega arith) field all.0.visible)
    (All-cons (λ byte. 32 ≤ byte) 32 (join_with_byte 32 (second ∷ more)) (omega arith) (join-visible (second ∷ more) all.1))

pub length-join : (fields : List (List ℕ)) → AllByRecursion IsField fields → length (join_with_byte 32 fields) ≤ 41 * length fields
length-join [] all = omega arith
length-join (field ∷ []) all = omega (arith, all.0.short)
length-join (field ∷ second ∷ more) all =
    omega (arith, all.0.short, length-append field (32 ∷ join_with_byte 32 (second ∷ more)), length-join (second ∷ more) all.1)

no_carriage_return : (text : List ℕ) → All (λ byte. 32 ≤ byte) text → strip_carriage_return text ≡ text
no_carriage_return [] all = refl
no_carriage_return (first ∷ rest) all =
    let text : List ℕ = first ∷ rest in
    let last : 32 ≤ get_or text (length text - 1) 0 = all (length text - 1) 0 (omega arith) in
    cond-false _ _ _ (ne_eqb (get_or text (length text - 1) 0) 13 (λ e. omega arith))

-- cut out of a text, it is a whole line
pub line_of-join : (fields : List (List ℕ)) → length fields ≤ 6 → AllByRecursion IsField fields → line_of (join_with_byte 32 fields) ≡ Whole (join_with_byte 32 fields)
unfolding line_of
line_of-join fields few all =
    let text : List ℕ = join_with_byte 32 fields in
    let same : strip_carriage_return text ≡ text = no_carriage_return text (join-visible fields all) in
    rw (same, le-leb (length text) 256 (omega (arith, length-join fields all))) refl

-- a line in front of others
pub keeps_first : (part : List ℕ) (parts : List (List ℕ)) → 0 < length parts → all_but_last (part ∷ parts) ≡ part ∷ all_but_last parts
keeps_first part [] some = absurd (omega arith)
keeps_first part (second ∷ more) some = refl

pub keeps_last : (part : List ℕ) (parts : List (List ℕ)) → 0 < length parts → last_of (part ∷ parts) ≡ last_of parts
keeps_last part [] some = absurd (omega arith)
keeps_last part (second ∷ more) some = refl

parts_of-line : (text more : List ℕ) → All (λ byte. 32 ≤ byte) text → parts_of (text ++ 10 ∷ more) ≡ text ∷ parts_of more
parts_of-line text more visible =
    slice_split_at (λ byte. eqb byte 10) text 10 more (All-weaker (λ byte. 32 ≤ byte) (λ byte. eqb byte 10 ≡ false) (λ byte least. ne_eqb byte 10 (λ e. omega arith)) text visible) refl

pub some_parts : (text : List ℕ) → 0 < length (parts_of text)
some_parts text = omega (arith, length-slice_split (λ byte. eqb byte 10) text)

pub lines_of-line : (text more : List ℕ) → All (λ byte. 32 ≤ byte) text → lines_of (text ++ 10 ∷ more) ≡ line_of text ∷ lines_of more
unfolding lines_of
lines_of-line text more visible =
    ap (λ (parts : List (List ℕ)). map line_of (all_but_last parts)) (parts_of-line text more visible)
    ∙ ap (map line_of) (keeps_first text (parts_of more) (some_parts more))

pub rest_of-line : (text more : List ℕ) → All (λ byte. 32 ≤ byte) text → rest_of (text ++ 10 ∷ more) ≡ rest_of more
unfolding rest_of
rest_of-line text more visible = ap last_of (parts_of-line text more visible) ∙ keeps_last text (parts_of more) (some_parts more)
