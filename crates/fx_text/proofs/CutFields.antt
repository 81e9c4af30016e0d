-- The fields of a line, as they are cut.
use Rattle.std.proofs.Common.{◌≡◌, ℕ, ◌+◌, ◌-◌, ◌<◌, ◌≤◌, true, false, List, [], ◌∷◌, ◌++◌, length, take, drop, get_or, filter, refl, sym, ap, ap₂, ◌∙◌, subst, arith, append-nil}
use Rattle.std.proofs.lemmas.List.{take_more, take_all, drop-append-le, length-take, drop-take}
use Rattle.std.proofs.Math.ListN.{drop_of_length-le}
use Rattle.std.proofs.lemmas.List.Elements.{filter-append}
use Rattle.std.specs.List.{slice_split}
use Rattle.fx_text.specs.Fields.{fields_of, is_blank, has_bytes}
use Rattle.fx_text.specs.Lines.{all_but_last, last_of}
use Rattle.fx_text.specs.inside.Fields.{Keeps}
use Rattle.fx_text.specs.declared.field.Kept.{Kept}
use Rattle.fx_text.proofs.PartsLemmas.{slice_split-put_back, slice_split-last_passes, slice_split-last_fails, all_but_last-split_append, last_of-split_append}

-- the parts of a text that blanks end, and the part behind the last blank
abbrev ended : List ℕ → List (List ℕ)
ended text = all_but_last (slice_split is_blank text)

abbrev behind : List ℕ → List ℕ
behind text = last_of (slice_split is_blank text)

-- of the first bytes of a line, the fields that blanks end are kept, and the part that goes on begins at `start`
pub record IsCut (line : List ℕ) (at start : ℕ) (kept : Kept) : Type 0 where
  pub begun : start ≤ at
  pub part : behind (take at line) ≡ drop start (take at line)
  pub keeps : Keeps kept (filter has_bytes (ended (take at line)))
  pub few : kept.count ≤ at

-- what a call that adds a part says
abbrev pub Adds : Kept → List ℕ → Kept → Type 0
Adds old part new = (seen : List (List ℕ)) → Keeps old seen → Keeps new (seen ++ filter has_bytes (part ∷ []))

pub IsCut-none : (line : List ℕ) (kept : Kept) → Keeps kept [] → IsCut line 0 0 kept
IsCut-none line kept none = record { begun = omega arith; part = refl; keeps = none; few = omega (arith, none.counted) }

-- one byte more, which is a blank or not
ended-blank : (front : List ℕ) (byte : ℕ) → is_blank byte ≡ true → ended (front ++ byte ∷ []) ≡ ended front ++ behind front ∷ []
ended-blank front byte blank = all_but_last-split_append is_blank front (byte ∷ []) ∙ ap (λ (parts : List (List ℕ)). ended front ++ all_but_last parts) (slice_split-last_passes is_blank front byte blank)

behind-blank : (front : List ℕ) (byte : ℕ) → is_blank byte ≡ true → behind (front ++ byte ∷ []) ≡ []
behind-blank front byte blank = last_of-split_append is_blank front (byte ∷ []) ∙ ap last_of (slice_split-last_passes is_blank front byte blank)

ended-other : (front : List ℕ) (byte : ℕ) → is_blank byte ≡ false → ended (front ++ byte ∷ []) ≡ ended front
ended-other front byte other = all_but_last-split_append is_blank front (byte ∷ [])
    ∙ ap (λ (parts : List (List ℕ)). ended front ++ all_but_last parts) (slice_split-last_fails is_blank front byte other) ∙ append-nil (ended front)

behind-other : (front : List ℕ) (byte : ℕ) → is_blank byte ≡ false → behind (front ++ byte ∷ []) ≡ behind front ++ byte ∷ []
behind-other front byte other = last_of-split_append is_blank front (byte ∷ []) ∙ ap last_of (slice_split-last_fails is_blank front byte other)

-- the part that is added
part_is : (line part : List ℕ) (at start : ℕ) → start ≤ at → part ≡ take (at - start) (drop start line) → part ≡ drop start (take at line)
part_is line part at start begun is =
    let sum : start + (at - start) ≡ at = omega arith in
    is ∙ sym (drop-take start (at - start) line) ∙ ap (λ (n : ℕ). drop start (take n line)) sum

pub IsCut-blank : (line part : List ℕ) (at start : ℕ) (old new : Kept) → at < length line → is_blank (get_or line at 0) ≡ true → IsCut line at start old → part ≡ take (at - start) (drop start line)
    → Adds old part new → new.count ≤ old.count + 1 → IsCut line (at + 1) (at + 1) new
IsCut-blank line part at start old new within blank cut is adds few =
    let front : List ℕ = take at line in
    let byte : ℕ = get_or line at 0 in
    let grown : take (at + 1) line ≡ front ++ byte ∷ [] = take_more line at 0 within in
    let same : part ≡ behind front = part_is line part at start cut.begun is ∙ sym cut.part in
    let all : filter has_bytes (ended front) ++ filter has_bytes (part ∷ []) ≡ filter has_bytes (ended (take (at + 1) line)) =
    sym (ap (λ (text : List ℕ). filter has_bytes (ended text)) grown ∙ ap (filter has_bytes) (ended-blank front byte blank)
    ∙ filter-append has_bytes (ended front) (behind front ∷ []) ∙ ap (λ (p : List ℕ). filter has_bytes (ended front) ++ filter has_bytes (p ∷ [])) (sym same)) in
    record {
      begun = omega arith;
      part = ap behind grown ∙ behind-blank front byte blank ∙ sym (drop_of_length-le (take (at + 1) line) (omega (arith, length-take (at + 1) line)));
      keeps = subst (λ (fields : List (List ℕ)). Keeps new fields) all (adds (filter has_bytes (ended front)) cut.keeps);
      few = omega (arith, cut.few);
    }

pub IsCut-other : (line : List ℕ) (at start : ℕ) (kept : Kept) → at < length line → is_blank (get_or line at 0) ≡ false → IsCut line at start kept → IsCut line (at + 1) start kept
IsCut-other line at start kept within other cut =
    let front : List ℕ = take at line in
    let byte : ℕ = get_or line at 0 in
    let grown : take (at + 1) line ≡ front ++ byte ∷ [] = take_more line at 0 within in
    record {
      begun = omega (arith, cut.begun);
      part = ap behind grown ∙ behind-other front byte other ∙ ap (λ (text : List ℕ). text ++ byte ∷ []) cut.part
          ∙ sym (drop-append-le start front (byte ∷ []) (omega (arith, cut.begun, length-take at line))) ∙ ap (drop start) (sym grown);
      keeps = subst (λ (fields : List (List ℕ)). Keeps kept (filter has_bytes fields)) (sym (ap ended grown ∙ ended-other front byte other)) cut.keeps;
      few = omega (arith, cut.few);
    }

-- the part behind the last blank is the last field, where it has a byte
pub Keeps-all : (line part : List ℕ) (at start : ℕ) (old new : Kept) → length line ≤ at → IsCut line at start old → part ≡ drop start line → Adds old part new → Keeps new (fields_of line)
unfolding fields_of
Keeps-all line part at start old new all cut is adds =
    let whole : take at line ≡ line = take_all at line all in
    let same : part ≡ behind line = is ∙ sym (sym (ap behind whole) ∙ cut.part ∙ ap (drop start) whole) in
    let fields : filter has_bytes (ended (take at line)) ++ filter has_bytes (part ∷ []) ≡ filter has_bytes (slice_split is_blank line) =
    ap₂ (λ (text last : List ℕ). filter has_bytes (ended text) ++ filter has_bytes (last ∷ [])) whole same
    ∙ sym (filter-append has_bytes (ended line) (behind line ∷ [])) ∙ ap (filter has_bytes) (sym (slice_split-put_back is_blank line)) in
    subst (λ (f : List (List ℕ)). Keeps new f) fields (adds (filter has_bytes (ended (take at line))) cut.keeps)
