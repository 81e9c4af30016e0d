-- Notices added one after another to the desks of their senders.
use Rattle.std.proofs.Common.{ℕ, zero, suc, ◌≡◌, ◌+◌, ◌<◌, eqb, cond, List, [], ◌∷◌, ◌++◌, inl, inr, length, take, refl, ◌≢◌, ap, ap₂, sym, subst, ◌∙◌, arith, append_assoc, append-nil, add-zero, length-append, get_or, set, replicate}
use Rattle.std.proofs.lemmas.Bool.{cases_eq, cond-true, cond-false, eq-eqb, ne_eqb}
use Rattle.std.proofs.lemmas.List.{get_or-set_same, get_or-set_other, get_or_read, length-set}
use Rattle.std.proofs.lemmas.List.Concat.{flat_map-append}
use Rattle.std.specs.List.{flat_map}
use Rattle.fx_rules.specs.declared.outcome.Entry.{Entry}
use Rattle.fx_rules.specs.Lists.{below}
use Rattle.fx_rules.specs.Session.{Header, bank_count, host, sender_places}
use Rattle.fx_text.specs.Fields.{fields_text}
use Rattle.reply_lines.specs.Rows.{row}
use Rattle.reply_lines.specs.Desks.{DeskSoFar, desk_with, nothing_yet, with_notice, with_notices, AreDesksOf, HaveGot}
use Rattle.reply_lines.specs.inside.Desks.{bank_desks, host_desk}
use Rattle.reply_lines.specs.Output.{desks_text}
use Rattle.reply_lines.specs.Notices.{Notice, desk_text, notice_line, notice_lines, notices_in, notices}
use Rattle.reply_lines.proofs.Items.{flat_more, flat_last}

-- a line has its line feed at least
pub row-some : (first : List ℕ) (rest : List (List ℕ)) → 0 < length (row first rest)
row-some first rest = omega (arith, length-append (first ++ fields_text rest) (10 ∷ []))

-- One desk

with_notices-append : (h : Header) (desk : DeskSoFar) (xs ys : List Notice) → with_notices h desk (xs ++ ys) ≡ with_notices h (with_notices h desk xs) ys
with_notices-append h desk [] ys = refl
with_notices-append h desk (x ∷ xs) ys = with_notices-append h (with_notice h desk x) xs ys

-- the notices are counted, and their lines stand behind those from before
with_notices-is : (h : Header) (desk : DeskSoFar) (ns : List Notice) → with_notices h desk ns ≡ desk_with (desk.count + length ns) (desk.lines ++ notice_lines h desk.count ns)
with_notices-is h desk [] = ap₂ desk_with (sym (add-zero desk.count)) (sym (append-nil desk.lines))
with_notices-is h desk (n ∷ ns) =
    with_notices-is h (with_notice h desk n) ns
    ∙ ap₂ desk_with (omega arith) (append_assoc desk.lines (notice_line h (desk.count + 1) n) (notice_lines h (desk.count + 1) ns))

-- All desks

pub got-nothing : (h : Header) (desks : List DeskSoFar) → HaveGot h (λ bank. []) desks desks
got-nothing h desks = record { count = refl; each = λ bank within. refl }

-- the desks got the same, written in another way
pub got-same : (h : Header) (more same : ℕ → List Notice) (before after : List DeskSoFar) → ((bank : ℕ) → more bank ≡ same bank) → HaveGot h more before after → HaveGot h same before after
got-same h more same before after are got = record {
  count = got.count;
  each = λ bank within. got.each bank within ∙ ap (with_notices h (get_or before bank nothing_yet)) (are bank);
}

pub got-then : (h : Header) (first second : ℕ → List Notice) (before between after : List DeskSoFar) → HaveGot h first before between → HaveGot h second between after → HaveGot h (λ bank. first bank ++ second bank) before after
got-then h first second before between after one other = record {
  count = other.count ∙ one.count;
  each = λ bank within.
      other.each bank (subst (λ n. bank < n) (sym one.count) within)
      ∙ ap (λ desk. with_notices h desk (second bank)) (one.each bank within)
      ∙ sym (with_notices-append h (get_or before bank nothing_yet) (first bank) (second bank));
}

-- one desk got one notice
got-one : (h : Header) (owner : ℕ) (notice : Notice) (before after : List DeskSoFar) → owner < length before → after ≡ set before owner (with_notice h (get_or before owner nothing_yet) notice) → HaveGot h (λ bank. cond (eqb owner bank) (notice ∷ []) []) before after
got-one h owner notice before after inside is =
    let more = with_notice h (get_or before owner nothing_yet) notice in
    record {
      count = ap length is ∙ length-set before owner more;
      each = λ bank within. ap (λ desks. get_or desks bank nothing_yet) is ∙ elim (cases_eq bank owner) [
        | inl same ↦ subst (λ b. get_or (set before owner more) b nothing_yet ≡ with_notices h (get_or before b nothing_yet) (cond (eqb owner b) (notice ∷ []) [])) (sym same)
            (get_or-set_same before owner more nothing_yet inside
            ∙ ap (with_notices h (get_or before owner nothing_yet)) (sym (cond-true (eqb owner owner) (notice ∷ []) [] (eq-eqb owner owner refl))))
        | inr differ ↦ get_or-set_other before owner bank more nothing_yet differ
            ∙ ap (with_notices h (get_or before bank nothing_yet)) (sym (cond-false (eqb owner bank) (notice ∷ []) [] (ne_eqb owner bank (λ same. differ (sym same)))))
      ];
    }

-- the desk that stood at its owner's place was put back with one notice more
pub got-at : (h : Header) (owner place : ℕ) (notice : Notice) (before : List DeskSoFar) {was now : DeskSoFar} → place ≡ owner → owner < length before → was ≡ get_or before place was → now ≡ with_notice h was notice → HaveGot h (λ bank. cond (eqb owner bank) (notice ∷ []) []) before (set before place now)
got-at h owner place notice before {was = was} {now = now} at' inside stood got =
    let read : was ≡ get_or before owner nothing_yet = get_or_read before owner was inside (subst (λ p. was ≡ get_or before p was) at' stood) nothing_yet in
    got-one h owner notice before (set before place now) inside (ap₂ (λ p desk. set before p desk) at' (got ∙ ap (λ desk. with_notice h desk notice) read))

-- the desks of a fill's two banks got a notice each, one after the other
pub got-both : (h : Header) (taker maker at other : ℕ) (took gave : Notice) (before : List DeskSoFar) {was now was' now' : DeskSoFar} → at ≡ taker → taker < length before → was ≡ get_or before at was → now ≡ with_notice h was took
    → other ≡ maker → maker < length before → was' ≡ get_or (set before at now) other was' → now' ≡ with_notice h was' gave
    → HaveGot h (λ bank. cond (eqb taker bank) (took ∷ []) [] ++ cond (eqb maker bank) (gave ∷ []) []) before (set (set before at now) other now')
got-both h taker maker at other took gave before {now = now} {now' = now'} at_taker taker_in stood got at_maker maker_in stood' got' =
    let between : List DeskSoFar = set before at now in
    got-then h (λ bank. cond (eqb taker bank) (took ∷ []) []) (λ bank. cond (eqb maker bank) (gave ∷ []) []) before between (set between other now')
    (got-at h taker at took before at_taker taker_in stood got)
    (got-at h maker other gave between at_maker (omega (arith, maker_in, length-set before at now)) stood' got')

-- the notices of one item more
pub got-more : {X : Type 0} (h : Header) (f : ℕ → X → List Notice) (xs : List X) (i : ℕ) (x : X) (before between after : List DeskSoFar) → i < length xs → x ≡ get_or xs i x → HaveGot h (λ bank. flat_map (f bank) (take i xs)) before between → HaveGot h (λ bank. f bank x) between after → HaveGot h (λ bank. flat_map (f bank) (take (i + 1) xs)) before after
got-more h f xs i x before between after within is so_far one =
    got-same h (λ bank. flat_map (f bank) (take i xs) ++ f bank x) (λ bank. flat_map (f bank) (take (i + 1) xs)) before after
    (λ bank. sym (flat_more (f bank) xs i x within is))
    (got-then h (λ bank. flat_map (f bank) (take i xs)) (λ bank. f bank x) before between after so_far one)

get_or-replicate : (n bank : ℕ) → get_or (replicate n nothing_yet) bank nothing_yet ≡ nothing_yet
get_or-replicate zero bank = refl
get_or-replicate (suc n) zero = refl
get_or-replicate (suc n) (suc bank) = get_or-replicate n bank

length-replicate : (n : ℕ) → length (replicate n nothing_yet) ≡ n
length-replicate zero = refl
length-replicate (suc n) = ap suc (length-replicate n)

-- a desk that had nothing and got these notices
desk-of : (h : Header) (ns : List Notice) → with_notices h nothing_yet ns ≡ desk_with (length ns) (notice_lines h 0 ns)
desk-of h ns =
    let all : 0 + length ns ≡ length ns = omega arith in
    with_notices-is h nothing_yet ns ∙ ap (λ n. desk_with n (notice_lines h 0 ns)) all

-- desks without a notice are those of a session before its first command
pub desks-none : (h : Header) (desks : List DeskSoFar) → desks ≡ replicate (sender_places h) nothing_yet → AreDesksOf h [] desks
desks-none h desks none = record {
  places = ap length none ∙ length-replicate (sender_places h);
  each = λ sender within. ap (λ all. get_or all sender nothing_yet) none ∙ get_or-replicate (sender_places h) sender;
}

-- the desks of a history, with the notices of one entry more
pub desks-more : (h : Header) (entries : List Entry) (e : Entry) (before after : List DeskSoFar) → AreDesksOf h entries before → HaveGot h (λ bank. notices_in bank e) before after → AreDesksOf h (entries ++ e ∷ []) after
desks-more h entries e before after are got = record {
  places = got.count ∙ are.places;
  each = λ sender within.
      got.each sender (subst (λ n. sender < n) (sym are.places) within)
      ∙ ap (λ desk. with_notices h desk (notices_in sender e)) (are.each sender within ∙ sym (desk-of h (notices sender entries)))
      ∙ sym (with_notices-append h nothing_yet (notices sender entries) (notices_in sender e))
      ∙ ap (with_notices h nothing_yet) (sym (flat_last (notices_in sender) entries e))
      ∙ desk-of h (notices sender (entries ++ e ∷ []));
}

-- What is written of them

-- the banks' desks, and the operator's behind them
pub desks-parts : (h : Header) (entries : List Entry) → bank_desks h entries ++ host_desk h entries ≡ desks_text h entries
unfolding desks_text
desks-parts h entries = sym (flat_map-append (desk_text h entries) (below (bank_count h)) (cond (eqb h.version 2) (host ∷ []) []))

pub host_desk-second : (h : Header) (entries : List Entry) → h.version ≡ 2 → desk_text h entries host ≡ host_desk h entries
host_desk-second h entries second =
    sym (ap (flat_map (desk_text h entries)) (cond-true (eqb h.version 2) (host ∷ []) [] (eq-eqb h.version 2 second)) ∙ append-nil (desk_text h entries host))

pub host_desk-first : (h : Header) (entries : List Entry) → h.version ≢ 2 → [] ≡ host_desk h entries
host_desk-first h entries other = sym (ap (flat_map (desk_text h entries)) (cond-false (eqb h.version 2) (host ∷ []) [] (ne_eqb h.version 2 other)))
