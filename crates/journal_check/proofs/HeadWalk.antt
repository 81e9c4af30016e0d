-- The text of a session's header is read as that session.
use Rattle.std.proofs.Common.{◌≡◌, ℕ, zero, suc, ◌+◌, ◌*◌, ◌<◌, ◌≤◌, Bool, true, false, ◌||◌, List, [], ◌∷◌, ◌++◌, length, map, drop, slice_index_or, codes, Option, Some, None, Result, Ok, refl, sym, ap, ap₂, ◌∙◌, subst, arith, ◌⊎◌, inl, inr, eqb, leb, nat_lt, if◌then◌else◌, append_assoc, length-append}
use Rattle.std.specs.Prelude.{IfSome}
use Rattle.std.specs.List.{All, AllByRecursion, join_with_byte, flat_map}
use Rattle.std.proofs.lemmas.Bool.{cases_Bool}
use Rattle.std.proofs.lemmas.List.{map-append, get_or_default}
use Rattle.std.proofs.lemmas.List.Elements.{All-head, All-tail, All-get_or}
use Rattle.std.proofs.lemmas.List.Folds.{flat_map-map}
use Rattle.std.proofs.lemmas.Nat.{mul-add-lt}
use Rattle.fx_amounts.specs.Numeral.{numeral}
use Rattle.fx_text.specs.Fields.{fields_of, is_comment, field_at}
use Rattle.fx_text.specs.Lines.{parts_of, all_but_last, lines_of, line_of}
use Rattle.fx_text.specs.Number.{number_of}
use Rattle.fx_text.specs.declared.line.Line.{Line}
use Rattle.fx_text.specs.declared.line.Line.TheVariants.{Whole}
use Rattle.fx_rules.specs.Session.{Header, IsSession, IsPairRule, bank_count, opening_limit, opening_total, pair_text, bank_named}
use Rattle.fx_rules.specs.declared.session.PairRule.{PairRule}
use Rattle.fx_rules.specs.Lists.{Each, below}
use Rattle.fx_rules.proofs.ListLemmas.{Each-append}
use Rattle.fx_rules.proofs.Below.{flat_map-suc}
use Rattle.fx_text.proofs.FieldTexts.{IsField-tested, IsField-numeral}
use Rattle.fx_text.proofs.JoinedFields.{IsField, fields_of-join, join-visible, length-join}
use Rattle.order_lines.proofs.FieldTexts.{IsField-bank, IsField-pair_text}
use Rattle.session_head.specs.Draft.{Draft, empty_draft}
use Rattle.session_head.specs.Statement.{new_name, new_pair, lot_said, bank_statement, pair_statement, line_statement, total_statement, statement_of, spelling, version_fields}
use Rattle.session_head.specs.Head.{Head, Begun, Drafting, Started, Faulted, next, judged, with_line, with_lines, read_head, session_of}
use Rattle.session_head.specs.HeadText.{limit_statement, total_stated, totals_of, statements_of, line_text, lines_text, head_text_of}
use Rattle.session_head.specs.inside.HeadText.{limits_of}
use Rattle.session_head.specs.declared.reason.HeadReason.{HeadReason}
use Rattle.session_head.proofs.RoundLemmas.{version_line, version_read, total_most, head_text-read}
use Rattle.journal_check.specs.Lines.{LineAt, behind, lines_from}
use Rattle.journal_check.specs.Listed.{headed, header_among}
use Rattle.journal_check.specs.declared.header.Headed.{Headed}
use Rattle.journal_check.proofs.LineLemmas.{parts_of-line}
use Rattle.journal_check.proofs.HeaderLemmas.{header_among-short, started}
use Rattle.journal_check.proofs.Walking.{IsPlain, unbroken, IsAt-plain, short_line, line_of-plain, ended}

-- Rows: fields that make a line

pub record IsRow (row : List (List ℕ)) : Type 0 where
  pub some : 0 < length row
  pub few : length row ≤ 6
  pub fields : AllByRecursion IsField row

abbrev pub row_text : List (List ℕ) → List ℕ
row_text row = join_with_byte 32 row

pub row-plain : (row : List (List ℕ)) → IsRow row → IsPlain (row_text row)
row-plain row is = join-visible row is.fields

pub row-short : (row : List (List ℕ)) → IsRow row → length (row_text row) ≤ 256
row-short row is = omega (arith, length-join row is.fields, is.few)

pub row-fields : (row : List (List ℕ)) → IsRow row → fields_of (row_text row) ≡ row
row-fields row is = fields_of-join row is.some is.fields

pub row-line : (row : List (List ℕ)) → IsRow row → line_of (row_text row) ≡ Whole (row_text row)
row-line row is = line_of-plain (row_text row) (row-plain row is) (row-short row is)

row_in_front : (row : List (List ℕ)) (rest : List ℕ) → line_text row ++ rest ≡ row_text row ++ 10 ∷ rest
row_in_front row rest = ended (row_text row) rest

abbrev lines : List (List (List ℕ)) → List Line
lines rows = map (λ row. Whole (row_text row)) rows

lines_of-rows : (rows : List (List (List ℕ))) → Each IsRow rows → lines_of (flat_map line_text rows) ≡ lines rows
unfolding lines_of
lines_of-rows [] are = refl
lines_of-rows (row ∷ rows) are =
    ap (λ (text : List ℕ). map line_of (all_but_last (parts_of text))) (row_in_front row (flat_map line_text rows))
    ∙ ap (map line_of) (parts_of-line (row_text row) (flat_map line_text rows) (unbroken (row_text row) (row-plain row are.0)))
    ∙ ap (λ (line : Line). line ∷ map line_of (all_but_last (parts_of (flat_map line_text rows)))) (row-line row are.0)
    ∙ ap (λ (more : List Line). Whole (row_text row) ∷ more) (lines_of-rows rows are.1)

-- The rows of a session's header

abbrev bank_row : List ℕ → List (List ℕ)
bank_row name = codes "BANK" ∷ name ∷ []

abbrev pair_row : PairRule → List (List ℕ)
pair_row rule = codes "PAIR" ∷ pair_text rule ∷ numeral rule.decimals ∷ numeral rule.lot ∷ numeral rule.weight ∷ []

abbrev limit_row : Header → ℕ → ℕ → List (List ℕ)
limit_row h from to = codes "LINE" ∷ field_at h.banks from ∷ field_at h.banks to ∷ numeral (opening_limit h from to) ∷ []

abbrev limit_rows : Header → ℕ → ℕ → List (List (List ℕ))
limit_rows h from to = if nat_lt 0 (opening_limit h from to) then limit_row h from to ∷ [] else []

abbrev all_limits : Header → List (List (List ℕ))
all_limits h = flat_map (λ from. flat_map (limit_rows h from) (below (bank_count h))) (below (bank_count h))

abbrev total_row : Header → ℕ → ℕ → List (List ℕ)
total_row h bank limit = codes "TOTAL" ∷ field_at h.banks bank ∷ numeral limit ∷ []

abbrev total_rows : Header → ℕ → Option ℕ → List (List (List ℕ))
total_rows h bank (Some limit) = total_row h bank limit ∷ []
total_rows h bank None = []

abbrev all_totals : Header → List (List (List ℕ))
all_totals h = flat_map (λ bank. total_rows h bank (opening_total h bank)) (below (bank_count h))

abbrev start_row : List (List ℕ)
start_row = codes "START" ∷ []

-- those in front of START
fronts : Header → List (List (List ℕ))
fronts h = map bank_row h.banks ++ map pair_row h.pairs ++ all_limits h ++ all_totals h

map_each : {X Y Z : Type 0} (g : Y → Z) (f : X → List Y) (xs : List X) → map g (flat_map f xs) ≡ flat_map (λ x. map g (f x)) xs
map_each g f [] = refl
map_each {X} {Y} {Z} g f (x ∷ xs) = map-append g (f x) (flat_map f xs) ∙ ap (λ (zs : List Z). map g (f x) ++ zs) (map_each g f xs)

each_same : {X Y : Type 0} (f g : X → List Y) (xs : List X) → ((x : X) → f x ≡ g x) → flat_map f xs ≡ flat_map g xs
each_same f g [] same = refl
each_same {X} {Y} f g (x ∷ xs) same = ap (λ (ys : List Y). ys ++ flat_map f xs) (same x) ∙ ap (λ (ys : List Y). g x ++ ys) (each_same f g xs same)

map_if : {X Y : Type 0} (g : X → Y) (b : Bool) (x : X) → map g (if b then x ∷ [] else []) ≡ (if b then g x ∷ [] else [])
map_if g true x = refl
map_if g false x = refl

map_twice : {X Y Z : Type 0} (g : Y → Z) (f : X → Y) (xs : List X) → map g (map f xs) ≡ map (λ x. g (f x)) xs
map_twice g f [] = refl
map_twice {X} {Y} {Z} g f (x ∷ xs) = ap (λ (zs : List Z). g (f x) ∷ zs) (map_twice g f xs)

limits_spelled : (h : Header) → flat_map (λ from. map (spelling h.banks) (limits_of h from (bank_count h))) (below (bank_count h)) ≡ all_limits h
limits_spelled h =
    each_same (λ from. map (spelling h.banks) (limits_of h from (bank_count h))) (λ from. flat_map (limit_rows h from) (below (bank_count h))) (below (bank_count h))
    (λ from. map_each (spelling h.banks) (limit_statement h from) (below (bank_count h))
    ∙ each_same (λ to. map (spelling h.banks) (limit_statement h from to)) (limit_rows h from) (below (bank_count h))
    (λ to. map_if (spelling h.banks) (nat_lt 0 (opening_limit h from to)) _))

total_spelled : (h : Header) (bank : ℕ) (total : Option ℕ) → map (spelling h.banks) (total_stated bank total) ≡ total_rows h bank total
total_spelled h bank (Some limit) = refl
total_spelled h bank None = refl

totals_spelled : (h : Header) → map (spelling h.banks) (totals_of h (bank_count h)) ≡ all_totals h
totals_spelled h =
    map_each (spelling h.banks) (λ bank. total_stated bank (opening_total h bank)) (below (bank_count h))
    ∙ each_same (λ bank. map (spelling h.banks) (total_stated bank (opening_total h bank))) (λ bank. total_rows h bank (opening_total h bank)) (below (bank_count h))
    (λ bank. total_spelled h bank (opening_total h bank))

spelled : (h : Header) → map (spelling h.banks) (statements_of h) ≡ fronts h ++ start_row ∷ []
unfolding fronts
spelled h =
    rw (map-append, map-append, map-append, map-append, map_twice, map_twice)
    (ap₂ (λ (limits totals : List (List (List ℕ))). map bank_row h.banks ++ map pair_row h.pairs ++ limits ++ totals ++ start_row ∷ [])
    (map_each (spelling h.banks) (λ from. limits_of h from (bank_count h)) (below (bank_count h)) ∙ limits_spelled h) (totals_spelled h))

text-rows : (h : Header) → lines_text h.banks (statements_of h) ≡ flat_map line_text (fronts h ++ start_row ∷ [])
text-rows h = sym (flat_map-map line_text (spelling h.banks) (statements_of h)) ∙ ap (flat_map line_text) (spelled h)

-- A row in front of START lets the header go on, or has a fault

abbrev GoesOn : Head → Type 0
GoesOn (Begun lines) = ⊥
GoesOn (Drafting lines draft) = Unit {0}
GoesOn (Started lines header) = ⊥
GoesOn (Faulted number reason) = Unit {0}

record IsFront (row : List (List ℕ)) : Type 0 where
  is_row : IsRow row
  goes_on : (n : ℕ) (d : Draft) → GoesOn (with_line (Drafting n d) (Whole (row_text row)))

found : {X : Type 0} (option : Option X) → (option ≡ None) ⊎ ((x : X) × (option ≡ Some x))
found None = inl refl
found (Some x) = inr (x, refl)

bank_goes : (number : ℕ) (d : Draft) (name : List ℕ) → GoesOn (judged number d (statement_of d (bank_row name)))
unfolding statement_of bank_statement
bank_goes number d name = elim (cases_Bool (leb 64 (length d.banks))) [
  | inl full ↦ rw full tt
  | inr room ↦ elim (found (new_name d.banks name)) [
    | inl none ↦ rw (room, none) tt
    | inr new ↦ rw (room, new.1) tt
  ]
]

pair_goes : (number : ℕ) (d : Draft) (rule : PairRule) → GoesOn (judged number d (statement_of d (pair_row rule)))
unfolding statement_of pair_statement
pair_goes number d rule = elim (cases_Bool (leb 32 (length d.pairs))) [
  | inl full ↦ rw full tt
  | inr room ↦ elim (found (new_pair d.pairs (pair_text rule))) [
    | inl none ↦ rw (room, none) tt
    | inr new ↦ elim (found (number_of 0 6 (numeral rule.decimals))) [
      | inl none ↦ rw (room, new.1, none) tt
      | inr decimals ↦ elim (found (lot_said decimals.0 (numeral rule.lot))) [
        | inl none ↦ rw (room, new.1, decimals.1, none) tt
        | inr lot ↦ elim (found (number_of 1 1000000 (numeral rule.weight))) [
          | inl none ↦ rw (room, new.1, decimals.1, lot.1, none) tt
          | inr weight ↦ rw (room, new.1, decimals.1, lot.1, weight.1) tt
        ]
      ]
    ]
  ]
]

line_goes : (number : ℕ) (d : Draft) (from to limit : List ℕ) → GoesOn (judged number d (statement_of d (codes "LINE" ∷ from ∷ to ∷ limit ∷ [])))
unfolding statement_of line_statement
line_goes number d from to limit = elim (found (bank_named d.banks from)) [
  | inl none ↦ rw none tt
  | inr first ↦ elim (found (bank_named d.banks to)) [
    | inl none ↦ rw (first.1, none) tt
    | inr second ↦ elim (cases_Bool (eqb first.0 second.0)) [
      | inl same ↦ rw (first.1, second.1, same) tt
      | inr other ↦ elim (found (number_of 0 1000000000000000 limit)) [
        | inl none ↦ rw (first.1, second.1, other, none) tt
        | inr number ↦ rw (first.1, second.1, other, number.1) tt
      ]
    ]
  ]
]

total_goes : (number : ℕ) (d : Draft) (bank limit : List ℕ) → GoesOn (judged number d (statement_of d (codes "TOTAL" ∷ bank ∷ limit ∷ [])))
unfolding statement_of total_statement
total_goes number d bank limit = elim (cases_Bool (eqb d.version 2)) [
  | inl second ↦ elim (found (bank_named d.banks bank)) [
    | inl none ↦ rw (second, none) tt
    | inr named ↦ elim (found (number_of 0 1000000000000000 limit)) [
      | inl none ↦ rw (second, named.1, none) tt
      | inr number ↦ rw (second, named.1, number.1) tt
    ]
  ]
  | inr first ↦ rw first tt
]

goes : (n : ℕ) (d : Draft) (row : List (List ℕ)) → IsRow row → (eqb (length row) 0 || is_comment (slice_index_or row 0 [])) ≡ false → GoesOn (judged (next n) d (statement_of d row)) → GoesOn (with_line (Drafting n d) (Whole (row_text row)))
goes n d row is told on = rw (row-fields row is, told) on

bank_front : (name : List ℕ) → IsField name → IsFront (bank_row name)
bank_front name is =
    let row : IsRow (bank_row name) = record { some = omega arith; few = omega arith; fields = (IsField-tested (codes "BANK") refl, (is, tt)) } in
    record { is_row = row; goes_on = λ n d. goes n d (bank_row name) row refl (bank_goes (next n) d name) }

pair_front : (rule : PairRule) → IsPairRule rule → IsFront (pair_row rule)
pair_front rule is =
    let row : IsRow (pair_row rule) = record {
      some = omega arith;
      few = omega arith;
      fields = (IsField-tested (codes "PAIR") refl, (IsField-pair_text rule is, (IsField-numeral rule.decimals (omega (arith, is.decimals)), (IsField-numeral rule.lot (omega (arith, is.lot_most)), (IsField-numeral rule.weight (omega (arith, is.weight_most)), tt)))));
    } in
    record { is_row = row; goes_on = λ n d. goes n d (pair_row rule) row refl (pair_goes (next n) d rule) }

limit_front : (h : Header) (from to : ℕ) → IsSession h → from < bank_count h → to < bank_count h → IsFront (limit_row h from to)
limit_front h from to session first second =
    let within : from * bank_count h + to < length h.limits = subst (λ (n : ℕ). from * bank_count h + to < n) (sym session.limits_full) (mul-add-lt from (bank_count h) to (bank_count h) first second) in
    let most : opening_limit h from to ≤ 1000000000000000 = All-get_or (λ limit. limit ≤ 1000000000000000) h.limits (from * bank_count h + to) 0 within session.limits_most in
    let row : IsRow (limit_row h from to) = record {
      some = omega arith;
      few = omega arith;
      fields = (IsField-tested (codes "LINE") refl, (IsField-bank h from session first, (IsField-bank h to session second, (IsField-numeral (opening_limit h from to) (omega (arith, most)), tt))));
    } in
    record { is_row = row; goes_on = λ n d. goes n d (limit_row h from to) row refl (line_goes (next n) d (field_at h.banks from) (field_at h.banks to) (numeral (opening_limit h from to))) }

total_front : (h : Header) (bank limit : ℕ) → IsSession h → bank < bank_count h → limit ≤ 1000000000000000 → IsFront (total_row h bank limit)
total_front h bank limit session within most =
    let row : IsRow (total_row h bank limit) = record {
      some = omega arith;
      few = omega arith;
      fields = (IsField-tested (codes "TOTAL") refl, (IsField-bank h bank session within, (IsField-numeral limit (omega (arith, most)), tt)));
    } in
    record { is_row = row; goes_on = λ n d. goes n d (total_row h bank limit) row refl (total_goes (next n) d (field_at h.banks bank) (numeral limit)) }

start_is_row : IsRow start_row
start_is_row = record { some = omega arith; few = omega arith; fields = (IsField-tested (codes "START") refl, tt) }

each_map : {X Y : Type 0} (P : Y → Type 0) (f : X → Y) (Q : X → Type 0) (xs : List X) → ((x : X) → Q x → P (f x)) → All Q xs → Each P (map f xs)
each_map P f Q [] holds all = tt
each_map P f Q (x ∷ xs) holds all = (holds x (All-head Q x xs all), each_map P f Q xs holds (All-tail Q x xs all))

each_of : {X : Type 0} (P : X → Type 0) (f : ℕ → List X) (n : ℕ) → ((k : ℕ) → k < n → Each P (f k)) → Each P (flat_map f (below n))
each_of P f zero all = tt
each_of P f (suc n) all =
    subst (Each P) (sym (flat_map-suc f n)) (Each-append P (flat_map f (below n)) (f n) (each_of P f n (λ k less. all k (omega arith))) (all n (omega arith)))

names : (h : Header) → IsSession h → All IsField h.banks
names h session k d within = subst IsField (get_or_default h.banks k [] d within) (IsField-bank h k session within)

limit_fronts : (h : Header) (from to : ℕ) → IsSession h → from < bank_count h → to < bank_count h → Each IsFront (limit_rows h from to)
limit_fronts h from to session first second = elim (cases_Bool (nat_lt 0 (opening_limit h from to))) [
  | inl some ↦ rw some (limit_front h from to session first second, tt)
  | inr none ↦ rw none tt
]

total_fronts : (h : Header) (bank : ℕ) (total : Option ℕ) → IsSession h → bank < bank_count h → IfSome total (λ units. units ≤ 1000000000000000) → Each IsFront (total_rows h bank total)
total_fronts h bank (Some limit) session within most = (total_front h bank limit session within most, tt)
total_fronts h bank None session within most = tt

fronts-are : (h : Header) → IsSession h → Each IsFront (fronts h)
unfolding fronts
fronts-are h session =
    Each-append IsFront (map bank_row h.banks ++ map pair_row h.pairs ++ all_limits h) (all_totals h)
    (Each-append IsFront (map bank_row h.banks ++ map pair_row h.pairs) (all_limits h)
    (Each-append IsFront (map bank_row h.banks) (map pair_row h.pairs)
    (each_map IsFront bank_row IsField h.banks bank_front (names h session))
    (each_map IsFront pair_row IsPairRule h.pairs pair_front session.rules))
    (each_of IsFront (λ from. flat_map (limit_rows h from) (below (bank_count h))) (bank_count h)
    (λ from first. each_of IsFront (limit_rows h from) (bank_count h) (λ to second. limit_fronts h from to session first second))))
    (each_of IsFront (λ bank. total_rows h bank (opening_total h bank)) (bank_count h) (λ bank within. total_fronts h bank (opening_total h bank) session within (total_most h bank session)))

rows-are : (fronts : List (List (List ℕ))) → Each IsFront fronts → Each IsRow (fronts ++ start_row ∷ [])
rows-are [] are = (start_is_row, tt)
rows-are (row ∷ rows) are = (are.0.is_row, rows-are rows are.1)

-- The walk

faulted_stays : (number : ℕ) (reason : HeadReason) (more : List Line) → with_lines (Faulted number reason) more ≡ Faulted number reason
faulted_stays number reason [] = refl
faulted_stays number reason (line ∷ more) = faulted_stays number reason more

size_is : (row : List (List ℕ)) (rest : List ℕ) → length (line_text row ++ rest) ≡ length (row_text row) + 1 + length rest
size_is row rest = omega (arith, ap length (row_in_front row rest), length-append (row_text row) (10 ∷ rest))

abbrev LeadsTo : Header → ℕ → List ℕ → ℕ → Head → ℕ → Type 0
LeadsTo h end text at head behind = header_among end head (lines_from text at) ≡ Ok (record { session = h; next = behind })

-- one line of the header
step : (end at : ℕ) (text more : List ℕ) (head : Head) (row : List (List ℕ)) → IsRow row → drop at text ≡ row_text row ++ 10 ∷ more
    → header_among end head (lines_from text at)
    ≡ headed (record { at = at; part = row_text row }) (with_line head (Whole (row_text row))) (header_among end (with_line head (Whole (row_text row))) (lines_from text (at + length (row_text row) + 1)))
step end at text more head row is there =
    let part : List ℕ = row_text row in
    let line : LineAt = record { at = at; part = part } in
    let on = IsAt-plain text at part more there (row-plain row is) in
    ap (header_among end head) on.line
    ∙ header_among-short end head line (lines_from text (at + length part + 1)) (short_line at part (row-short row is))
    ∙ ap (λ (l : Line). headed line (with_line head l) (header_among end (with_line head l) (lines_from text (at + length part + 1)))) (row-line row is)

goes_further : (h : Header) (line : LineAt) (head : Head) (on there : Result Headed ℕ) (more : List Line) → GoesOn head → session_of (with_lines head more) ≡ Some h
    → ((n : ℕ) (d : Draft) → head ≡ Drafting n d → on ≡ there) → headed line head on ≡ there
goes_further h line (Begun count) on there more goes whole leads = absurd goes
goes_further h line (Drafting n d) on there more goes whole leads = leads n d refl
goes_further h line (Started count header) on there more goes whole leads = absurd goes
goes_further h line (Faulted number reason) on there more goes whole leads =
    let none : session_of (with_lines (Faulted number reason) more) ≡ None = ap session_of (faulted_stays number reason more) in absurd cc

walk : (h : Header) (end : ℕ) (text more : List ℕ) (rows : List (List (List ℕ))) (at n : ℕ) (d : Draft) → Each IsFront rows → drop at text ≡ flat_map line_text (rows ++ start_row ∷ []) ++ more
    → session_of (with_lines (Drafting n d) (lines (rows ++ start_row ∷ []))) ≡ Some h
    → LeadsTo h end text at (Drafting n d) (at + length (flat_map line_text (rows ++ start_row ∷ [])))
walk h end text more [] at n d are there whole =
    let part : List ℕ = row_text start_row in
    let after : Head = with_line (Drafting n d) (Whole part) in
    step end at text more (Drafting n d) start_row start_is_row there
    ∙ started (record { at = at; part = part }) after (header_among end after (lines_from text (at + length part + 1))) h (at + length (flat_map line_text (start_row ∷ []))) whole (omega arith)
walk h end text more (row ∷ rows) at n d are there whole =
    let part : List ℕ = row_text row in
    let rest : List ℕ = flat_map line_text (rows ++ start_row ∷ []) in
    let after : Head = with_line (Drafting n d) (Whole part) in
    let here : drop at text ≡ part ++ 10 ∷ (rest ++ more) = there ∙ append_assoc (line_text row) rest more ∙ row_in_front row (rest ++ more) in
    let on = IsAt-plain text at part (rest ++ more) here (row-plain row are.0.is_row) in
    let size : at + length part + 1 + length rest ≡ at + length (line_text row ++ rest) = omega (arith, size_is row rest) in
    step end at text (rest ++ more) (Drafting n d) row are.0.is_row here
    ∙ goes_further h (record { at = at; part = part }) after (header_among end after (lines_from text (at + length part + 1))) (Ok (record { session = h; next = at + length (line_text row ++ rest) }))
    (lines (rows ++ start_row ∷ [])) (are.0.goes_on n d) whole
    (λ m e is. ap (λ (head : Head). header_among end head (lines_from text (at + length part + 1))) is
    ∙ walk h end text more rows (at + length part + 1) m e are.1 on.rest (ap (λ (head : Head). session_of (with_lines head (lines (rows ++ start_row ∷ [])))) (sym is) ∙ whole)
    ∙ ap (λ (k : ℕ). Ok (record { session = h; next = k })) size)

-- The first line

version_is_row : (h : Header) → IsSession h → IsRow (version_fields h.version)
version_is_row h session = let is = version_line h.version session.version_most in record { some = is.some; few = is.few; fields = is.fields_are }

-- what the lines behind the first lead to
whole : (h : Header) → IsSession h → session_of (with_lines (Drafting 1 (empty_draft h.version)) (lines (fronts h ++ start_row ∷ []))) ≡ Some h
whole h session =
    let first : List (List ℕ) = version_fields h.version in
    let rows : List (List (List ℕ)) = fronts h ++ start_row ∷ [] in
    let all : lines_of (head_text_of h) ≡ Whole (row_text first) ∷ lines rows =
    ap (λ (text : List ℕ). lines_of (line_text first ++ text)) (text-rows h) ∙ lines_of-rows (first ∷ rows) (version_is_row h session, rows-are (fronts h) (fronts-are h session)) in
    ap (λ (head : Head). session_of (with_lines head (lines rows))) (sym (version_read h.version session.version_least session.version_most))
    ∙ ap (λ (ls : List Line). session_of (read_head ls)) (sym all)
    ∙ head_text-read h session

-- a text that begins with a session's header
pub header_among-head_text : (h : Header) (end : ℕ) (text more : List ℕ) → IsSession h → text ≡ head_text_of h ++ more
    → header_among end (Begun 0) (lines_from text 0) ≡ Ok (record { session = h; next = length (head_text_of h) })
header_among-head_text h end text more session is =
    let first : List (List ℕ) = version_fields h.version in
    let row : IsRow first = version_is_row h session in
    let part : List ℕ = row_text first in
    let stated : List ℕ = lines_text h.banks (statements_of h) in
    let rest : List ℕ = flat_map line_text (fronts h ++ start_row ∷ []) in
    let there : text ≡ part ++ 10 ∷ (rest ++ more) =
    is ∙ ap (λ (t : List ℕ). (line_text first ++ t) ++ more) (text-rows h) ∙ append_assoc (line_text first) rest more ∙ row_in_front first (rest ++ more) in
    let on = IsAt-plain text 0 part (rest ++ more) there (row-plain first row) in
    let same : length stated ≡ length rest = ap length (text-rows h) in
    let size : 0 + length part + 1 + length rest ≡ length (head_text_of h) = omega (arith, same, size_is first stated) in
    step end 0 text (rest ++ more) (Begun 0) first row there
    ∙ ap (λ (head : Head). headed (record { at = 0; part = part }) head (header_among end head (lines_from text (0 + length part + 1)))) (version_read h.version session.version_least session.version_most)
    ∙ walk h end text more (fronts h) (0 + length part + 1) 1 (empty_draft h.version) (fronts-are h session) on.rest (whole h session)
    ∙ ap (λ (n : ℕ). Ok (record { session = h; next = n })) size
