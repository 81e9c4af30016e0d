-- Notes added one after another to the desks of their clients.
use Rattle.std.proofs.Common.{ℕ, ◌≡◌, ◌+◌, ◌<◌, eqb, cond, List, [], ◌∷◌, ◌++◌, inl, inr, length, take, refl, ap, ap₂, sym, subst, ◌∙◌, arith, append_assoc, append-nil, add-zero, length-append, get_or, set, Option, Some, None, Result, Ok, Err}
use Rattle.std.proofs.lemmas.Bool.{cases_eq, cond-true, cond-false, eq-eqb, ne_eqb}
use Rattle.std.proofs.lemmas.List.{get_or-set_same, get_or-set_other, get_or_read, length-set}
use Rattle.std.specs.List.{flat_map}
use Rattle.std.specs.Result.{OnOk}
use Rattle.fx_rules.specs.Session.{Header}
use Rattle.fx_text.specs.Fields.{fields_text}
use Rattle.reply_lines.specs.Desks.{DeskSoFar, desk_with, nothing_yet}
use Rattle.reply_lines.specs.Rows.{row}
use Rattle.reply_lines.proofs.Items.{flat_more}
use Rattle.client_day.specs.Desks.{with_note, with_notes}
use Rattle.client_day.specs.inside.Desks.{HaveNoted}
use Rattle.client_day.specs.Notes.{Note, note_for, note_line, note_lines}

-- where a call went well, both of two facts are known
pub both_ok : {T E P Q R : Type 0} (result : Result T E) → (P → Q → R) → OnOk result P → OnOk result Q → OnOk result R
both_ok (Ok value) leads one other = leads one other
both_ok (Err e) leads one other = tt

pub with_notes-append : (h : Header) (desk : DeskSoFar) (xs ys : List Note) → with_notes h desk (xs ++ ys) ≡ with_notes h (with_notes h desk xs) ys
with_notes-append h desk [] ys = refl
with_notes-append h desk (x ∷ xs) ys = with_notes-append h (with_note h desk x) xs ys

pub noted-nothing : (h : Header) (desks : List DeskSoFar) → HaveNoted h (λ c. []) desks desks
noted-nothing h desks = record { count = refl; each = λ c within. refl }

-- the desks got the same, written in another way
pub noted-same : (h : Header) (more same : ℕ → List Note) (before after : List DeskSoFar) → ((c : ℕ) → more c ≡ same c) → HaveNoted h more before after → HaveNoted h same before after
noted-same h more same before after are noted = record {
  count = noted.count;
  each = λ c within. noted.each c within ∙ ap (with_notes h (get_or before c nothing_yet)) (are c);
}

pub noted-then : (h : Header) (first second : ℕ → List Note) (before between after : List DeskSoFar) → HaveNoted h first before between → HaveNoted h second between after → HaveNoted h (λ c. first c ++ second c) before after
noted-then h first second before between after one other = record {
  count = other.count ∙ one.count;
  each = λ c within.
      other.each c (subst (λ n. c < n) (sym one.count) within)
      ∙ ap (λ desk. with_notes h desk (second c)) (one.each c within)
      ∙ sym (with_notes-append h (get_or before c nothing_yet) (first c) (second c));
}

-- one desk got some notes
noted-one : (h : Header) (owner : ℕ) (notes : List Note) (before after : List DeskSoFar) → owner < length before → after ≡ set before owner (with_notes h (get_or before owner nothing_yet) notes) → HaveNoted h (λ c. cond (eqb owner c) notes []) before after
noted-one h owner notes before after inside is =
    let more = with_notes h (get_or before owner nothing_yet) notes in
    record {
      count = ap length is ∙ length-set before owner more;
      each = λ c within. ap (λ desks. get_or desks c nothing_yet) is ∙ elim (cases_eq c owner) [
        | inl same ↦ subst (λ b. get_or (set before owner more) b nothing_yet ≡ with_notes h (get_or before b nothing_yet) (cond (eqb owner b) notes [])) (sym same)
            (get_or-set_same before owner more nothing_yet inside
            ∙ ap (with_notes h (get_or before owner nothing_yet)) (sym (cond-true (eqb owner owner) notes [] (eq-eqb owner owner refl))))
        | inr differ ↦ get_or-set_other before owner c more nothing_yet differ
            ∙ ap (with_notes h (get_or before c nothing_yet)) (sym (cond-false (eqb owner c) notes [] (ne_eqb owner c (λ same. differ (sym same)))))
      ];
    }

-- the desk that stood at its owner's place was put back with some notes more
pub noted-at : (h : Header) (owner place : ℕ) (notes : List Note) (before : List DeskSoFar) {was now : DeskSoFar} → place ≡ owner → owner < length before → was ≡ get_or before place was → now ≡ with_notes h was notes → HaveNoted h (λ c. cond (eqb owner c) notes []) before (set before place now)
noted-at h owner place notes before {was = was} {now = now} at' inside stood noted =
    let read : was ≡ get_or before owner nothing_yet = get_or_read before owner was inside (subst (λ p. was ≡ get_or before p was) at' stood) nothing_yet in
    noted-one h owner notes before (set before place now) inside (ap₂ (λ p desk. set before p desk) at' (noted ∙ ap (λ desk. with_notes h desk notes) read))

-- for a client or none
pub noted-for : (h : Header) (who : Option ℕ) (owner place : ℕ) (note : Note) (before : List DeskSoFar) {was now : DeskSoFar} → who ≡ Some owner → place ≡ owner → owner < length before → was ≡ get_or before place was → now ≡ with_note h was note
    → HaveNoted h (λ c. note_for who c note) before (set before place now)
noted-for h who owner place note before is at' inside stood noted =
    noted-same h (λ c. note_for (Some owner) c note) (λ c. note_for who c note) before _ (λ c. ap (λ w. note_for w c note) (sym is)) (noted-at h owner place (note ∷ []) before at' inside stood noted)

pub noted-none : (h : Header) (who : Option ℕ) (note : Note) (desks : List DeskSoFar) → who ≡ None → HaveNoted h (λ c. note_for who c note) desks desks
noted-none h who note desks is = noted-same h (λ c. []) (λ c. note_for who c note) desks desks (λ c. ap (λ w. note_for w c note) (sym is)) (noted-nothing h desks)

-- the notes of one item more
pub noted-more : {X : Type 0} (h : Header) (f : ℕ → X → List Note) (xs : List X) (i : ℕ) (x : X) (before between after : List DeskSoFar) → i < length xs → x ≡ get_or xs i x → HaveNoted h (λ c. flat_map (f c) (take i xs)) before between → HaveNoted h (λ c. f c x) between after → HaveNoted h (λ c. flat_map (f c) (take (i + 1) xs)) before after
noted-more h f xs i x before between after within is so_far one =
    noted-same h (λ c. flat_map (f c) (take i xs) ++ f c x) (λ c. flat_map (f c) (take (i + 1) xs)) before after
    (λ c. sym (flat_more (f c) xs i x within is))
    (noted-then h (λ c. flat_map (f c) (take i xs)) (λ c. f c x) before between after so_far one)

-- ---- one desk

-- the notes are counted, and their lines stand behind those from before
with_notes-is : (h : Header) (desk : DeskSoFar) (notes : List Note) → with_notes h desk notes ≡ desk_with (desk.count + length notes) (desk.lines ++ note_lines h desk.count notes)
with_notes-is h desk [] = ap₂ desk_with (sym (add-zero desk.count)) (sym (append-nil desk.lines))
with_notes-is h desk (n ∷ notes) =
    with_notes-is h (with_note h desk n) notes
    ∙ ap₂ desk_with (omega arith) (append_assoc desk.lines (note_line h (desk.count + 1) n) (note_lines h (desk.count + 1) notes))

-- a desk that had nothing and got these notes
pub desk-of : (h : Header) (notes : List Note) → with_notes h nothing_yet notes ≡ desk_with (length notes) (note_lines h 0 notes)
desk-of h notes =
    let all : 0 + length notes ≡ length notes = omega arith in
    with_notes-is h nothing_yet notes ∙ ap (λ n. desk_with n (note_lines h 0 notes)) all

-- a line has its line feed at least
pub row-some : (first : List ℕ) (rest : List (List ℕ)) → 0 < length (row first rest)
row-some first rest = omega (arith, length-append (first ++ fields_text rest) (10 ∷ []))
