-- A text that is compared with what is written.
use Rattle.std.proofs.Common.{◌≡◌, ◌≢◌, ℕ, zero, suc, ◌+◌, ◌≤◌, false, List, [], ◌∷◌, ◌++◌, length, take, drop, slice_get, Option, Some, None, is_some, Result, Ok, Err, refl, sym, ap, ◌∙◌, subst, arith, append_assoc, append-nil}
use Rattle.std.specs.Option.{option_to_list}
use Rattle.std.proofs.lemmas.Bool.{cond-true, cond-false, eq-eqb, ne_eqb}
use Rattle.std.proofs.lemmas.List.{length-take-le, take_at, drop_at, take-append-drop}
use Rattle.fx_edges.specs.Writing.{Appended}
use Rattle.fx_rules.specs.Session.{Header}
use Rattle.fx_rules.specs.declared.outcome.Entry.{Entry}
use Rattle.reply_lines.specs.Faults.{WroteOutput}
use Rattle.reply_lines.specs.Output.{IsDayText}
use Rattle.reply_lines.specs.declared.output.OutFault.{OutFault}
use Rattle.reply_lines.specs.declared.output.OutFault.TheVariants.{Write}
use Rattle.journal_check.specs.Compared.{beginning}
use Rattle.journal_check.specs.inside.Comparing.{Comparing, taken, told, IsComparing, Differs}
use Rattle.journal_check.specs.inside.Stops.{end_of, Answers, IsComparedWith}

-- A text beside another one

shared_byte : (at byte : ℕ) (wanted text : List ℕ) → beginning at (byte ∷ wanted) (byte ∷ text) ≡ beginning (at + 1) wanted text
unfolding beginning
shared_byte at byte wanted text = cond-true _ _ _ (eq-eqb byte byte refl)

pub beginning-shared : (at : ℕ) (front wanted text : List ℕ) → beginning at (front ++ wanted) (front ++ text) ≡ beginning (at + length front) wanted text
beginning-shared at [] wanted text = let e : at ≡ at + 0 = omega arith in ap (λ (n : ℕ). beginning n wanted text) e
beginning-shared at (byte ∷ front) wanted text =
    let e : at + 1 + length front ≡ at + suc (length front) = omega arith in
    shared_byte at byte (front ++ wanted) (front ++ text) ∙ beginning-shared (at + 1) front wanted text ∙ ap (λ (n : ℕ). beginning n wanted text) e

beginning-differs : (at byte : ℕ) (wanted text : List ℕ) → slice_get text 0 ≢ Some byte → beginning at (byte ∷ wanted) text ≡ Err at
unfolding beginning
beginning-differs at byte wanted [] other = refl
beginning-differs at byte wanted (x ∷ text) other = cond-false _ _ _ (ne_eqb x byte (λ same. other (ap (λ (n : ℕ). Some n) same)))

pub beginning-ends : (at : ℕ) (text : List ℕ) → beginning at [] text ≡ Ok at
unfolding beginning
beginning-ends at text = refl

slice_get-drop : (text : List ℕ) (at : ℕ) → slice_get (drop at text) 0 ≡ slice_get text at
slice_get-drop [] zero = refl
slice_get-drop [] (suc at) = refl
slice_get-drop (x ∷ text) zero = refl
slice_get-drop (x ∷ text) (suc at) = slice_get-drop text at

-- a text that has another one in front
pub begins : (day text : List ℕ) (at : ℕ) → at ≤ length text → day ≡ take at text → beginning 0 day text ≡ Ok at
begins day text at within is =
    let front : List ℕ = take at text in
    let size : 0 + length front ≡ at = omega (arith, length-take-le at text within) in
    ap (λ (t : List ℕ). beginning 0 t text) (is ∙ sym (append-nil front))
    ∙ ap (λ (t : List ℕ). beginning 0 (front ++ []) t) (sym (take-append-drop at text))
    ∙ beginning-shared 0 front [] (drop at text)
    ∙ beginning-ends (0 + length front) (drop at text)
    ∙ ap (λ (n : ℕ). Ok n) size

-- a text that differs from another one at a place
pub differs : (day text rest : List ℕ) (at byte : ℕ) → at ≤ length text → day ≡ take at text ++ byte ∷ rest → Differs text at byte → beginning 0 day text ≡ Err at
differs day text rest at byte within is other =
    let front : List ℕ = take at text in
    let size : 0 + length front ≡ at = omega (arith, length-take-le at text within) in
    ap (λ (t : List ℕ). beginning 0 t text) is
    ∙ ap (λ (t : List ℕ). beginning 0 (front ++ byte ∷ rest) t) (sym (take-append-drop at text))
    ∙ beginning-shared 0 front (byte ∷ rest) (drop at text)
    ∙ beginning-differs (0 + length front) byte rest (drop at text) (λ same. other (sym (slice_get-drop text at) ∙ same))
    ∙ ap (λ (n : ℕ). Err n) size

-- What a comparison tells

same_length : (text other front more : List ℕ) → length text ≡ length other → text ++ front ≡ other ++ more → (text ≡ other) × (front ≡ more)
same_length text other front more size joined = (
  sym (take_at text front (length text) refl) ∙ ap (take (length text)) joined ∙ take_at other more (length text) (sym size),
  sym (drop_at text front (length text) refl) ∙ ap (drop (length text)) joined ∙ drop_at other more (length text) (sym size),
)

told_apart : (n m : ℕ) (xs ys : List ℕ) → n ∷ xs ≡ m ∷ ys → (n ≡ m) × (xs ≡ ys)
told_apart n m xs ys same = (cc, cc)

-- whoever wrote into it left its text
pub told-same : (c : Comparing) (text part : List ℕ) → told c ≡ told (record { text = text; at = 0; wrong = None; faults = 0 }) ++ part → (c.text ≡ text) × (taken c ≡ part)
told-same c text part same =
    let apart = told_apart (length c.text) (length text) (c.text ++ taken c) ((text ++ []) ++ part) same in
    same_length c.text text (taken c) part apart.0 (apart.1 ∙ ap (λ (t : List ℕ). t ++ part) (append-nil text))

abbrev pub fresh : List ℕ → Comparing
fresh text = record { text = text; at = 0; wrong = None; faults = 0 }

-- a part of a day's text was taken
ended : (day text rest : List ℕ) (at : ℕ) (wrong : Option ℕ) → at ≤ length text → ((byte : ℕ) → wrong ≡ Some byte → Differs text at byte) → day ≡ (take at text ++ option_to_list wrong) ++ rest → (wrong ≡ None → rest ≡ [])
    → Answers (end_of at wrong) (beginning 0 day text)
ended day text rest at None within other is none =
    begins day text at within (is ∙ ap (λ (r : List ℕ). (take at text ++ []) ++ r) (none refl) ∙ append-nil (take at text ++ []) ∙ append-nil (take at text))
ended day text rest at (Some byte) within other is none = differs day text rest at byte within (is ∙ append_assoc (take at text) (byte ∷ []) rest) (other byte refl)

compared : (day text part rest : List ℕ) (c : Comparing) → IsComparing c → told c ≡ told (fresh text) ++ part → day ≡ part ++ rest → (c.wrong ≡ None → rest ≡ []) → Answers (end_of c.at c.wrong) (beginning 0 day text)
compared day text part rest c valid tells is none =
    let same = told-same c text part tells in
    subst (λ (t : List ℕ). Answers (end_of c.at c.wrong) (beginning 0 day t)) same.0
    (ended day c.text rest c.at c.wrong valid.within valid.differs (is ∙ ap (λ (p : List ℕ). p ++ rest) (sym same.1)) none)

some_same : (xs ys : List ℕ) → Some xs ≡ Some ys → xs ≡ ys
some_same xs ys same = cc

-- what a sink of this kind was written to
abbrev Writes : List ℕ → Header → List Entry → Comparing → Comparing → Result (Unit {0}) OutFault → Type 0
Writes text h entries before c result = WroteOutput (λ (k : Comparing). Some (told k)) (λ (k : Comparing). k.faults) before c (IsDayText h entries) result

tells : (text part : List ℕ) (before c : Comparing) → before ≡ fresh text → Some (told c) ≡ Some (told before ++ part) → told c ≡ told (fresh text) ++ part
tells text part before c new same = some_same (told c) (told before ++ part) same ∙ ap (λ (b : Comparing). told b ++ part) new

-- the whole of it was taken
pub compared_whole : (h : Header) (entries : List Entry) (text : List ℕ) (before c : Comparing) (u : Unit {0}) → before ≡ fresh text → IsComparing c → Writes text h entries before c (Ok u)
    → IsComparedWith h entries text (end_of c.at c.wrong)
compared_whole h entries text before c u new valid wrote = record {
  day = wrote.text;
  is_day = wrote.is_text;
  compared = compared wrote.text text wrote.text [] c valid (tells text wrote.text before c new wrote.ok.holds) (sym (append-nil wrote.text)) (λ none. refl);
}

-- a part of it was taken, and the next write failed
pub compared_part : (h : Header) (entries : List Entry) (text : List ℕ) (before c : Comparing) → before ≡ fresh text → IsComparing c → Writes text h entries before c (Err Write)
    → IsComparedWith h entries text (end_of c.at c.wrong)
compared_part h entries text before c new valid wrote =
    let none_before : before.faults ≡ 0 = ap (λ (b : Comparing). b.faults) new in
    let rose : 1 ≤ c.faults = omega (arith, wrote.cause refl, none_before) in
    record {
      day = wrote.text;
      is_day = wrote.is_text;
      compared = compared wrote.text text wrote.fault.part wrote.fault.prefix.rest c valid (tells text wrote.fault.part before c new wrote.fault.holds) wrote.fault.prefix.joined
          (λ none. let unfailed : c.faults ≡ 0 = valid.unfailed none in absurd (omega arith));
    }

-- What a write does

take-more : (text piece : List ℕ) (at count : ℕ) → take count (drop at text) ≡ take count piece → take (at + count) text ≡ take at text ++ take count piece
take-more text piece zero count same = let e : 0 + count ≡ count = omega arith in ap (λ (n : ℕ). take n text) e ∙ same
take-more [] piece (suc at) zero same = let e : suc at + 0 ≡ suc at = omega arith in ap (λ (n : ℕ). take n (let xs : List ℕ = [] in xs)) e
take-more [] piece (suc at) (suc count) same = let e : suc at + suc count ≡ suc (at + suc count) = omega arith in ap (λ (n : ℕ). take n (let xs : List ℕ = [] in xs)) e ∙ same
take-more (x ∷ text) piece (suc at) count same =
    let e : suc at + count ≡ suc (at + count) = omega arith in
    ap (λ (n : ℕ). take n (x ∷ text)) e ∙ ap (λ (rest : List ℕ). x ∷ rest) (take-more text piece at count same)

told-more : (c : Comparing) (piece : List ℕ) (count : ℕ) → c.wrong ≡ None → take count (drop c.at c.text) ≡ take count piece → told (record c { at = c.at + count }) ≡ told c ++ take count piece
told-more c piece count right same =
    let more : taken (record c { at = c.at + count }) ≡ taken c ++ take count piece =
    ap (λ (w : Option ℕ). take (c.at + count) c.text ++ option_to_list w) right ∙ append-nil (take (c.at + count) c.text)
    ∙ take-more c.text piece c.at count same
    ∙ ap (λ (front : List ℕ). front ++ take count piece) (sym (append-nil (take c.at c.text)))
    ∙ ap (λ (w : Option ℕ). (take c.at c.text ++ option_to_list w) ++ take count piece) (sym right) in
    ap (λ (t : List ℕ). length c.text ∷ (c.text ++ t)) more
    ∙ ap (λ (t : List ℕ). length c.text ∷ t) (sym (append_assoc c.text (taken c) (take count piece)))

none_there : (wrong : Option ℕ) → is_some wrong ≡ false → wrong ≡ None
none_there None none = refl
none_there (Some byte) none = cc

pub appended_more : (old c : Comparing) (left piece : List ℕ) (count : ℕ) → c ≡ old → is_some c.wrong ≡ false → left ≡ drop c.at c.text → take count left ≡ take count piece
    → Appended (λ (k : Comparing). Some (told k)) (λ (k : Comparing). k.faults) old (record c { at = c.at + count }) (take count piece)
appended_more old c left piece count is right left_is same =
    subst (λ (o : Comparing). Appended (λ (k : Comparing). Some (told k)) (λ (k : Comparing). k.faults) o (record c { at = c.at + count }) (take count piece)) is
    (record {
      holds = ap (λ (t : List ℕ). Some t) (told-more c piece count (none_there c.wrong right) (ap (take count) (sym left_is) ∙ same));
      count = omega arith;
    })
