-- A session's header is read back from its lines.
use Rattle.std.proofs.Common.{◌≡◌, ◌≢◌, ℕ, zero, suc, ◌+◌, ◌*◌, ◌/◌, ◌%◌, ◌<◌, ◌≤◌, List, [], ◌∷◌, ◌++◌, length, map, flat_map, replicate, get_or, slice_index, slice_set, codes, Option, Some, None, Ok, Bool, false, ◌||◌, cond, eqb, slice_index_or, take, length-take-le, get_or-take, IfSome, refl, sym, ap, ap₂, ◌∙◌, subst, arith, IsTrue, inl, inr, nat_lt, append_assoc, append-nil, length-append}
use Rattle.std.specs.List.{All, AllPairs, join_with_byte}
use Rattle.std.proofs.lemmas.Bool.{cases_eq, cases_lt, cases_Bool, cond-true, cond-false, eq-eqb, ne_eqb}
use Rattle.std.proofs.lemmas.Bool.Decides.{nat_tests}
use Rattle.std.proofs.lemmas.List.{ext_get_or, get_or_append_left, get_or-set_same, get_or-set_other, get_or_past, length-replicate, map-append, get_or-replicate}
use Rattle.std.proofs.lemmas.List.Elements.{All-get_or}
use Rattle.std.proofs.lemmas.Nat.{div_below, mod_below, div-add-mod', mul-add-lt}
use Rattle.std.proofs.Math.Seq.{get_or-append_seam}
use Rattle.fx_text.specs.Fields.{fields_of, is_comment}
use Rattle.fx_text.specs.Lines.{lines_of, rest_of}
use Rattle.fx_text.specs.declared.line.Line.{Line}
use Rattle.fx_text.specs.declared.line.Line.TheVariants.{Whole}
use Rattle.fx_text.proofs.FieldTexts.{IsField-tested, IsField-numeral}
use Rattle.fx_text.proofs.NumberLemmas.{number_of-numeral}
use Rattle.fx_text.proofs.JoinedFields.{fields_of-join}
use Rattle.fx_rules.specs.Names.{is_name}
use Rattle.fx_rules.specs.Session.{Header, IsSession, IsPairRule, AreSamePair, bank_count, newest, opening_limit, opening_total}
use Rattle.fx_rules.specs.declared.session.PairRule.{PairRule}
use Rattle.fx_rules.specs.Lists.{Each, below}
use Rattle.fx_rules.proofs.ListLemmas.{Each-append}
use Rattle.fx_rules.proofs.Below.{length-map_below, get_or_below, flat_map-suc}
use Rattle.session_head.specs.Draft.{Draft, empty_draft, no_limits, no_totals, limit_place, square, totals_kept}
use Rattle.session_head.specs.inside.Draft.{IsDraft}
use Rattle.session_head.specs.Statement.{statement_of, spelling, version_of, version_fields}
use Rattle.session_head.specs.inside.Statement.{CanState}
use Rattle.session_head.specs.Head.{Head, Begun, Drafting, Started, next, begun, judged, with_line, with_lines, read_head, session_of}
use Rattle.session_head.specs.HeadText.{limit_statement, total_stated, totals_of, statements_of, lines_text, head_text_of}
use Rattle.session_head.specs.inside.HeadText.{limits_of}
use Rattle.session_head.specs.declared.statement.Statement.{Statement}
use Rattle.session_head.specs.declared.statement.Statement.TheVariants as statements
use Rattle.session_head.proofs.DraftLemmas.{IsDraft-empty, IsDraft-bank, IsDraft-pair, IsDraft-limit, IsDraft-total}
use Rattle.session_head.proofs.AgainLemmas.{statement_again}
use Rattle.session_head.proofs.LineTexts.{IsLine, lines_of-line_text, rest_of-line_text}
use Rattle.session_head.proofs.SpellingLemmas.{spelling_line, spelling_taken}
use Rattle.session_head.proofs.HeadLemmas.{with_lines-append}

-- the line of a statement, where these banks are declared, and the lines of some
abbrev pub line_for : List (List ℕ) → Statement → Line
line_for banks statement = Whole (join_with_byte 32 (spelling banks statement))

abbrev pub lines_for : List (List ℕ) → List Statement → List Line
lines_for banks made = map (line_for banks) made

-- a statement that can be made is read from its line
pub line_read : (n : ℕ) (d : Draft) (statement : Statement) → IsDraft d → CanState d statement → with_line (Drafting n d) (line_for d.banks statement) ≡ judged (next n) d (Ok statement)
line_read n d statement valid can =
    let is = spelling_line d statement valid can in
    let read : statement_of d (fields_of (join_with_byte 32 (spelling d.banks statement))) ≡ Ok statement =
    ap (statement_of d) (fields_of-join (spelling d.banks statement) is.some is.fields_are) ∙ statement_again d statement valid can in
    rw (spelling_taken d.banks statement is, read) refl

-- the elements before one, and that one
at_seam : {X : Type 0} (P : X → Type 0) (done rest : List X) (x : X) → All P (done ++ x ∷ rest) → P x
at_seam P done rest x all =
    subst P (get_or-append_seam done x rest x) (All-get_or P (done ++ x ∷ rest) (length done) x (omega (arith, length-append done (x ∷ rest))) all)

before_seam : {X : Type 0} (R : X → X → Type 0) (done rest : List X) (x : X) → AllPairs R (done ++ x ∷ rest) → All (λ y. R y x) done
before_seam {X} R done rest x pairs k other within =
    let first : get_or (done ++ x ∷ rest) k other ≡ get_or done k other = get_or_append_left done (x ∷ rest) other k within in
    let second : get_or (done ++ x ∷ rest) (length done) other ≡ x = get_or-append_seam done x rest other in
    let both : R (get_or (done ++ x ∷ rest) k other) (get_or (done ++ x ∷ rest) (length done) other) = pairs k (length done) other within (omega (arith, length-append done (x ∷ rest))) in
    subst (λ (y : X). R y x) first (subst (λ (y : X). R (get_or (done ++ x ∷ rest) k other) y) second both)

-- the draft that the lines of some statements lead to from a draft
pub record Leads (n : ℕ) (banks : List (List ℕ)) (from : Draft) (made : List Statement) (to : Draft) : Type 0 where
  pub count : ℕ
  pub leads : with_lines (Drafting n from) (lines_for banks made) ≡ Drafting count to
  pub valid : IsDraft to
  pub lines : Each (λ statement. IsLine (spelling banks statement)) made

one_leads : (n : ℕ) (d : Draft) (statement : Statement) (to : Draft) → IsDraft d → CanState d statement → judged (next n) d (Ok statement) ≡ Drafting (next n) to → IsDraft to
    → Leads n d.banks d (statement ∷ []) to
one_leads n d statement to valid can made after = record {
  count = next n;
  leads = line_read n d statement valid can ∙ made;
  valid = after;
  lines = (spelling_line d statement valid can, tt);
}

none_leads : (n : ℕ) (banks : List (List ℕ)) (d : Draft) → IsDraft d → Leads n banks d [] d
none_leads n banks d valid = record { count = n; leads = refl; valid = valid; lines = tt }

-- statements behind others
lead_on : (n : ℕ) (banks : List (List ℕ)) (a b : Draft) (made more : List Statement) → (first : Leads n banks a made b)
    → with_lines (Drafting n a) (lines_for banks (made ++ more)) ≡ with_lines (Drafting first.count b) (lines_for banks more)
lead_on n banks a b made more first =
    ap (with_lines (Drafting n a)) (map-append (line_for banks) made more)
    ∙ with_lines-append (Drafting n a) (lines_for banks made) (lines_for banks more)
    ∙ ap (λ (head : Head). with_lines head (lines_for banks more)) first.leads

both_lead : (n : ℕ) (banks : List (List ℕ)) (a b c : Draft) (made more : List Statement) → Leads n banks a made b → ((m : ℕ) → Leads m banks b more c) → Leads n banks a (made ++ more) c
both_lead n banks a b c made more first second =
    let then = second first.count in
    record {
      count = then.count;
      leads = lead_on n banks a b made more first ∙ then.leads;
      valid = then.valid;
      lines = Each-append (λ statement. IsLine (spelling banks statement)) made more first.lines then.lines;
    }

-- the banks of a header
banks_lead : (n : ℕ) (banks todo : List (List ℕ)) (d : Draft) → IsDraft d → length (d.banks ++ todo) ≤ 64 → All (λ name. IsTrue (is_name name)) (d.banks ++ todo)
    → AllPairs (λ a b. a ≢ b) (d.banks ++ todo) → Leads n banks d (map statements.Bank todo) (record d { banks = d.banks ++ todo })
banks_lead n banks [] d valid few names differ =
    subst (λ (all : List (List ℕ)). Leads n banks d [] (record d { banks = all })) (sym (append-nil d.banks)) (none_leads n banks d valid)
banks_lead n banks (name ∷ rest) d valid few names differ =
    let can : CanState d (statements.Bank name) = (
      omega (arith, length-append d.banks (name ∷ rest)),
      at_seam (λ text. IsTrue (is_name text)) d.banks rest name names,
      before_seam (λ a b. a ≢ b) d.banks rest name differ,
    ) in
    let after : Draft = record d { banks = d.banks ++ name ∷ [] } in
    let valid_after : IsDraft after = IsDraft-bank d name valid can in
    let first : Leads n banks d (statements.Bank name ∷ []) after = one_bank n banks d name valid can in
    let grouped : (d.banks ++ name ∷ []) ++ rest ≡ d.banks ++ name ∷ rest = append_assoc d.banks (name ∷ []) rest in
    both_lead n banks d after (record d { banks = d.banks ++ name ∷ rest }) (statements.Bank name ∷ []) (map statements.Bank rest) first
    (λ m. subst (λ (all : List (List ℕ)). Leads m banks after (map statements.Bank rest) (record d { banks = all })) grouped
    (banks_lead m banks rest after valid_after
    (subst (λ (all : List (List ℕ)). length all ≤ 64) (sym grouped) few)
    (subst (λ (all : List (List ℕ)). All (λ text. IsTrue (is_name text)) all) (sym grouped) names)
    (subst (λ (all : List (List ℕ)). AllPairs (λ a b. a ≢ b) all) (sym grouped) differ)))
  where
    one_bank : (n : ℕ) (banks : List (List ℕ)) (d : Draft) (name : List ℕ) → IsDraft d → CanState d (statements.Bank name) → Leads n banks d (statements.Bank name ∷ []) (record d { banks = d.banks ++ name ∷ [] })
    one_bank n banks d name valid can =
        let it = one_leads n d (statements.Bank name) (record d { banks = d.banks ++ name ∷ [] }) valid can refl (IsDraft-bank d name valid can) in
        record { count = it.count; leads = it.leads; valid = it.valid; lines = (it.lines.0, tt) }

-- the pairs of a header
pairs_lead : (n : ℕ) (banks : List (List ℕ)) (todo : List PairRule) (d : Draft) → IsDraft d → length (d.pairs ++ todo) ≤ 32 → All IsPairRule (d.pairs ++ todo)
    → AllPairs (λ a b. ¬ (AreSamePair a b)) (d.pairs ++ todo) → Leads n banks d (map statements.Pair todo) (record d { pairs = d.pairs ++ todo })
pairs_lead n banks [] d valid few rules differ =
    subst (λ (all : List PairRule). Leads n banks d [] (record d { pairs = all })) (sym (append-nil d.pairs)) (none_leads n banks d valid)
pairs_lead n banks (rule ∷ rest) d valid few rules differ =
    let can : CanState d (statements.Pair rule) = (
      omega (arith, length-append d.pairs (rule ∷ rest)),
      at_seam IsPairRule d.pairs rest rule rules,
      before_seam (λ a b. ¬ (AreSamePair a b)) d.pairs rest rule differ,
    ) in
    let after : Draft = record d { pairs = d.pairs ++ rule ∷ [] } in
    let valid_after : IsDraft after = IsDraft-pair d rule valid can in
    let first : Leads n banks d (statements.Pair rule ∷ []) after = one_pair n banks d rule valid can in
    let grouped : (d.pairs ++ rule ∷ []) ++ rest ≡ d.pairs ++ rule ∷ rest = append_assoc d.pairs (rule ∷ []) rest in
    both_lead n banks d after (record d { pairs = d.pairs ++ rule ∷ rest }) (statements.Pair rule ∷ []) (map statements.Pair rest) first
    (λ m. subst (λ (all : List PairRule). Leads m banks after (map statements.Pair rest) (record d { pairs = all })) grouped
    (pairs_lead m banks rest after valid_after
    (subst (λ (all : List PairRule). length all ≤ 32) (sym grouped) few)
    (subst (λ (all : List PairRule). All IsPairRule all) (sym grouped) rules)
    (subst (λ (all : List PairRule). AllPairs (λ a b. ¬ (AreSamePair a b)) all) (sym grouped) differ)))
  where
    one_pair : (n : ℕ) (banks : List (List ℕ)) (d : Draft) (rule : PairRule) → IsDraft d → CanState d (statements.Pair rule) → Leads n banks d (statements.Pair rule ∷ []) (record d { pairs = d.pairs ++ rule ∷ [] })
    one_pair n banks d rule valid can =
        let it = one_leads n d (statements.Pair rule) (record d { pairs = d.pairs ++ rule ∷ [] }) valid can refl (IsDraft-pair d rule valid can) in
        record { count = it.count; leads = it.leads; valid = it.valid; lines = (it.lines.0, tt) }

-- a header's version, banks and pairs with these limits and totals, and with these limits alone
abbrev with_totals : Header → List ℕ → List (Option ℕ) → Draft
with_totals h limits totals = record { version = h.version; banks = h.banks; pairs = h.pairs; limits = limits; totals = totals }

abbrev with_limits : Header → List ℕ → Draft
with_limits h limits = with_totals h limits no_totals

-- the statement of one limit, where it is above 0
record CellLeads (n : ℕ) (h : Header) (from to : ℕ) (limits : List ℕ) : Type 0 where
  after : List ℕ
  leads : Leads n h.banks (with_limits h limits) (limit_statement h from to) (with_limits h after)
  here : slice_index after (limit_place from to) ≡ opening_limit h from to
  others : (at : ℕ) → at ≢ limit_place from to → slice_index after at ≡ slice_index limits at

cell_leads : (n : ℕ) (h : Header) (from to : ℕ) (limits : List ℕ) → IsSession h → IsDraft (with_limits h limits) → from < bank_count h → to < bank_count h
    → slice_index limits (limit_place from to) ≡ 0 → CellLeads n h from to limits
cell_leads n h from to limits session valid first second zeros =
    elim (cases_Bool (nat_lt 0 (opening_limit h from to))) [
      | inl some ↦
          let stated_is : limit_statement h from to ≡ statements.Line from to (opening_limit h from to) ∷ [] = cond-true _ _ _ some in
          let above : 0 < opening_limit h from to = grind (arith, nat_tests) in
          let apart : from ≢ to = λ same. let own : opening_limit h from to ≡ 0 = ap (opening_limit h from) (sym same) ∙ session.own_limits from first in omega arith in
          let most : opening_limit h from to ≤ 1000000000000000 =
          All-get_or (λ limit. limit ≤ 1000000000000000) h.limits (from * bank_count h + to) 0 (omega (arith, session.limits_full, mul-add-lt from (bank_count h) to (bank_count h) first second)) session.limits_most in
          let can : CanState (with_limits h limits) (statements.Line from to (opening_limit h from to)) = (first, second, apart, most) in
          let after : List ℕ = slice_set limits (limit_place from to) (opening_limit h from to) in
          let valid_after : IsDraft (with_limits h after) = IsDraft-limit (with_limits h limits) from to (opening_limit h from to) valid (omega (arith, session.banks_most)) (omega (arith, session.banks_most)) apart most in
          record {
            after = after;
            leads = subst (λ (made : List Statement). Leads n h.banks (with_limits h limits) made (with_limits h after)) (sym stated_is)
                (one_leads n (with_limits h limits) (statements.Line from to (opening_limit h from to)) (with_limits h after) valid can refl valid_after);
            here = get_or-set_same limits (limit_place from to) (opening_limit h from to) 0 (omega (arith, valid.limits.full, session.banks_most));
            others = λ at other. get_or-set_other limits (limit_place from to) at (opening_limit h from to) 0 other;
          }
      | inr none ↦
          let stated_is : limit_statement h from to ≡ [] = cond-false _ _ _ none in
          let zero_is : opening_limit h from to ≡ 0 = let least : opening_limit h from to ≤ 0 = grind (arith, nat_tests) in omega arith in
          record {
            after = limits;
            leads = subst (λ (made : List Statement). Leads n h.banks (with_limits h limits) made (with_limits h limits)) (sym stated_is) (none_leads n h.banks (with_limits h limits) valid);
            here = zeros ∙ sym zero_is;
            others = λ at other. refl;
          }
    ]

-- the statements of the limits that one bank sets on the first so many
record RowLeads (n : ℕ) (h : Header) (from count : ℕ) (limits : List ℕ) : Type 0 where
  after : List ℕ
  leads : Leads n h.banks (with_limits h limits) (limits_of h from count) (with_limits h after)
  row : (to : ℕ) → to < count → slice_index after (limit_place from to) ≡ opening_limit h from to
  rest : (to : ℕ) → count ≤ to → slice_index after (limit_place from to) ≡ slice_index limits (limit_place from to)
  others : (i to : ℕ) → i ≢ from → to < 64 → slice_index after (limit_place i to) ≡ slice_index limits (limit_place i to)

row_leads : (n : ℕ) (h : Header) (from count : ℕ) (limits : List ℕ) → IsSession h → IsDraft (with_limits h limits) → from < bank_count h → count ≤ bank_count h
    → ((to : ℕ) → to < bank_count h → slice_index limits (limit_place from to) ≡ 0) → RowLeads n h from count limits
row_leads n h from zero limits session valid first within zeros = record {
  after = limits;
  leads = none_leads n h.banks (with_limits h limits) valid;
  row = λ to none. absurd (omega arith);
  rest = λ to past. refl;
  others = λ i to other below. refl;
}
row_leads n h from (suc count) limits session valid first within zeros =
    let before = row_leads n h from count limits session valid first (omega arith) zeros in
    let zero_here : slice_index before.after (limit_place from count) ≡ 0 = before.rest count (omega arith) ∙ zeros count (omega arith) in
    let cell : (m : ℕ) → CellLeads m h from count before.after = λ m. cell_leads m h from count before.after session before.leads.valid first (omega arith) zero_here in
    let last = cell before.leads.count in
    let step = last.leads in
    let joined : Leads n h.banks (with_limits h limits) (limits_of h from count ++ limit_statement h from count) (with_limits h last.after) = record {
      count = step.count;
      leads = lead_on n h.banks (with_limits h limits) (with_limits h before.after) (limits_of h from count) (limit_statement h from count) before.leads ∙ step.leads;
      valid = step.valid;
      lines = Each-append (λ statement. IsLine (spelling h.banks statement)) (limits_of h from count) (limit_statement h from count) before.leads.lines step.lines;
    } in
    record {
      after = last.after;
      leads = subst (λ (stated : List Statement). Leads n h.banks (with_limits h limits) stated (with_limits h last.after)) (sym (flat_map-suc (limit_statement h from) count)) joined;
      row = λ to less. elim (cases_eq to count) [
        | inl same ↦ subst (λ k. slice_index last.after (limit_place from k) ≡ opening_limit h from k) (sym same) last.here
        | inr other ↦ last.others (limit_place from to) (λ same. other (omega arith)) ∙ before.row to (omega arith)
      ];
      rest = λ to past. last.others (limit_place from to) (λ same. absurd (omega arith)) ∙ before.rest to (omega arith);
      others = λ i to other below. last.others (limit_place i to) (λ same. other (omega (arith, session.banks_most))) ∙ before.others i to other below;
    }

-- the statements of the limits that the first so many banks set
record RowsLead (n : ℕ) (h : Header) (count : ℕ) (limits : List ℕ) : Type 0 where
  after : List ℕ
  leads : Leads n h.banks (with_limits h limits) (flat_map (λ from. limits_of h from (bank_count h)) (below count)) (with_limits h after)
  rows : (from to : ℕ) → from < count → to < bank_count h → slice_index after (limit_place from to) ≡ opening_limit h from to
  rest : (from to : ℕ) → count ≤ from → to < 64 → slice_index after (limit_place from to) ≡ slice_index limits (limit_place from to)

rows_lead : (n : ℕ) (h : Header) (count : ℕ) (limits : List ℕ) → IsSession h → IsDraft (with_limits h limits) → count ≤ bank_count h
    → ((from to : ℕ) → from < 64 → to < 64 → slice_index limits (limit_place from to) ≡ 0) → RowsLead n h count limits
rows_lead n h zero limits session valid within zeros = record {
  after = limits;
  leads = none_leads n h.banks (with_limits h limits) valid;
  rows = λ from to none below. absurd (omega arith);
  rest = λ from to past below. refl;
}
rows_lead n h (suc count) limits session valid within zeros =
    let before = rows_lead n h count limits session valid (omega arith) zeros in
    let zeros_here : (to : ℕ) → to < bank_count h → slice_index before.after (limit_place count to) ≡ 0 =
    λ to below. before.rest count to (omega arith) (omega (arith, session.banks_most)) ∙ zeros count to (omega (arith, session.banks_most)) (omega (arith, session.banks_most)) in
    let last = row_leads before.leads.count h count (bank_count h) before.after session before.leads.valid (omega arith) (omega arith) zeros_here in
    let step = last.leads in
    let all : ℕ → List Statement = λ from. limits_of h from (bank_count h) in
    let front : List Statement = flat_map all (below count) in
    let joined : Leads n h.banks (with_limits h limits) (front ++ all count) (with_limits h last.after) = record {
      count = step.count;
      leads = lead_on n h.banks (with_limits h limits) (with_limits h before.after) front (all count) before.leads ∙ step.leads;
      valid = step.valid;
      lines = Each-append (λ statement. IsLine (spelling h.banks statement)) front (all count) before.leads.lines step.lines;
    } in
    record {
      after = last.after;
      leads = subst (λ (stated : List Statement). Leads n h.banks (with_limits h limits) stated (with_limits h last.after)) (sym (flat_map-suc all count)) joined;
      rows = λ from to less below. elim (cases_eq from count) [
        | inl same ↦ subst (λ k. slice_index last.after (limit_place k to) ≡ opening_limit h k to) (sym same) (last.row to below)
        | inr other ↦ last.others from to other (omega (arith, session.banks_most)) ∙ before.rows from to (omega arith) below
      ];
      rest = λ from to past below. last.others from to (λ same. absurd (omega arith)) below ∙ before.rest from to (omega arith) below;
    }

-- the square of these limits is the header's table
square_is : (h : Header) (limits : List ℕ) → IsSession h → ((from to : ℕ) → from < bank_count h → to < bank_count h → slice_index limits (limit_place from to) ≡ opening_limit h from to)
    → square (bank_count h) limits ≡ h.limits
square_is h limits session same =
    let at_place : ℕ → ℕ = λ at. slice_index limits (limit_place (at / bank_count h) (at % bank_count h)) in
    let size : length (square (bank_count h) limits) ≡ bank_count h * bank_count h = length-map_below at_place (bank_count h * bank_count h) in
    ext_get_or 0 (square (bank_count h) limits) h.limits (size ∙ sym session.limits_full) (λ at within.
    let inside : at < bank_count h * bank_count h = omega arith in
    let some : 0 < bank_count h = omega (arith, session.banks_least) in
    get_or_below at_place (bank_count h * bank_count h) at 0 inside
    ∙ same (at / bank_count h) (at % bank_count h) (div_below at (bank_count h) (bank_count h) some inside) (mod_below at (bank_count h) some)
    ∙ ap (λ k. get_or h.limits k 0) (div-add-mod' at (bank_count h)))

zeros_at : (n : ℕ) → 4096 ≤ n → (from to : ℕ) → from < 64 → to < 64 → slice_index (replicate n 0) (limit_place from to) ≡ 0
zeros_at n room from to first second = get_or-replicate n (64 * from + to) 0 0 (omega arith)

no_limits-at : (from to : ℕ) → from < 64 → to < 64 → slice_index no_limits (limit_place from to) ≡ 0
unfolding no_limits
no_limits-at from to first second = zeros_at 4096 (omega arith) from to first second

-- the statements of the totals of the first so many banks
record TotalsLead (n : ℕ) (h : Header) (count : ℕ) (limits : List ℕ) : Type 0 where
  after : List (Option ℕ)
  leads : Leads n h.banks (with_limits h limits) (totals_of h count) (with_totals h limits after)
  totals : (bank : ℕ) → bank < count → get_or after bank None ≡ opening_total h bank
  rest : (bank : ℕ) → count ≤ bank → get_or after bank None ≡ None

-- a bank has a total in version 2 alone
total_second : (h : Header) (bank limit : ℕ) → IsSession h → opening_total h bank ≡ Some limit → h.version ≡ 2
total_second h bank limit session has = elim (cases_eq h.version 2) [
  | inl second ↦ second
  | inr other ↦
      let none : length h.totals ≡ 0 = session.totals_full ∙ cond-false (eqb h.version 2) (bank_count h) 0 (ne_eqb h.version 2 other) in
      absurd (let wrong : None ≡ Some limit = sym (get_or_past h.totals bank None (omega (arith, none))) ∙ has in cc)
]

-- a total that a bank opens with is in its range
pub total_most : (h : Header) (bank : ℕ) → IsSession h → IfSome (opening_total h bank) (λ units. units ≤ 1000000000000000)
total_most h bank session = elim (cases_lt bank (length h.totals)) [
  | inl inside ↦ All-get_or (λ most. IfSome most (λ units. units ≤ 1000000000000000)) h.totals bank None inside session.totals_most
  | inr past ↦ subst (λ (o : Option ℕ). IfSome o (λ units. units ≤ 1000000000000000)) (sym (get_or_past h.totals bank None past)) tt
]

-- the statement of one bank's total, where it has one
record TotalLeads (n : ℕ) (h : Header) (bank : ℕ) (limits : List ℕ) (totals : List (Option ℕ)) : Type 0 where
  after : List (Option ℕ)
  leads : Leads n h.banks (with_totals h limits totals) (total_stated bank (opening_total h bank)) (with_totals h limits after)
  here : get_or after bank None ≡ opening_total h bank
  others : (at : ℕ) → at ≢ bank → get_or after at None ≡ get_or totals at None

total_leads : (n : ℕ) (h : Header) (bank : ℕ) (limits : List ℕ) (totals : List (Option ℕ)) (total : Option ℕ) → IsSession h → IsDraft (with_totals h limits totals) → bank < bank_count h
    → get_or totals bank None ≡ None → opening_total h bank ≡ total → TotalLeads n h bank limits totals
total_leads n h bank limits totals None session valid within none has = record {
  after = totals;
  leads = subst (λ (o : Option ℕ). Leads n h.banks (with_totals h limits totals) (total_stated bank o) (with_totals h limits totals)) (sym has) (none_leads n h.banks (with_totals h limits totals) valid);
  here = none ∙ sym has;
  others = λ at other. refl;
}
total_leads n h bank limits totals (Some limit) session valid within none has =
    let most : IfSome (opening_total h bank) (λ units. units ≤ 1000000000000000) = total_most h bank session in
    let few : limit ≤ 1000000000000000 = subst (λ (o : Option ℕ). IfSome o (λ units. units ≤ 1000000000000000)) has most in
    let can : CanState (with_totals h limits totals) (statements.Total bank limit) = (total_second h bank limit session has, within, few) in
    let after : List (Option ℕ) = slice_set totals bank (Some limit) in
    let valid_after : IsDraft (with_totals h limits after) = IsDraft-total (with_totals h limits totals) bank limit valid few in
    record {
      after = after;
      leads = subst (λ (o : Option ℕ). Leads n h.banks (with_totals h limits totals) (total_stated bank o) (with_totals h limits after)) (sym has)
          (one_leads n (with_totals h limits totals) (statements.Total bank limit) (with_totals h limits after) valid can refl valid_after);
      here = get_or-set_same totals bank (Some limit) None (omega (arith, valid.totals.full, session.banks_most)) ∙ sym has;
      others = λ at other. get_or-set_other totals bank at (Some limit) None other;
    }

totals_lead : (n : ℕ) (h : Header) (count : ℕ) (limits : List ℕ) → IsSession h → IsDraft (with_limits h limits) → count ≤ bank_count h
    → ((bank : ℕ) → get_or no_totals bank None ≡ None) → TotalsLead n h count limits
totals_lead n h zero limits session valid within nones = record {
  after = no_totals;
  leads = none_leads n h.banks (with_limits h limits) valid;
  totals = λ bank none. absurd (omega arith);
  rest = λ bank past. nones bank;
}
totals_lead n h (suc count) limits session valid within nones =
    let before = totals_lead n h count limits session valid (omega arith) nones in
    let stated : ℕ → List Statement = λ bank. total_stated bank (opening_total h bank) in
    let last = total_leads before.leads.count h count limits before.after (opening_total h count) session before.leads.valid (omega arith) (before.rest count (omega arith)) refl in
    let step = last.leads in
    let joined : Leads n h.banks (with_limits h limits) (totals_of h count ++ stated count) (with_totals h limits last.after) = record {
      count = step.count;
      leads = lead_on n h.banks (with_limits h limits) (with_totals h limits before.after) (totals_of h count) (stated count) before.leads ∙ step.leads;
      valid = step.valid;
      lines = Each-append (λ statement. IsLine (spelling h.banks statement)) (totals_of h count) (stated count) before.leads.lines step.lines;
    } in
    record {
      after = last.after;
      leads = subst (λ (all : List Statement). Leads n h.banks (with_limits h limits) all (with_totals h limits last.after)) (sym (flat_map-suc stated count)) joined;
      totals = λ bank less. elim (cases_eq bank count) [
        | inl same ↦ subst (λ k. get_or last.after k None ≡ opening_total h k) (sym same) last.here
        | inr other ↦ last.others bank other ∙ before.totals bank (omega arith)
      ];
      rest = λ bank past. last.others bank (λ same. absurd (omega arith)) ∙ before.rest bank (omega arith);
    }

no_totals-at : (bank : ℕ) → get_or no_totals bank None ≡ None
unfolding no_totals
no_totals-at bank = elim (cases_lt bank 64) [
  | inl within ↦ get_or-replicate 64 bank None None within
  | inr past ↦ get_or_past (replicate 64 None) bank None (omega (arith, length-replicate {A = Option ℕ} 64 None))
]

-- what is kept of these totals is the header's
totals_are : (h : Header) (totals : List (Option ℕ)) → IsSession h → length totals ≡ 64 → ((bank : ℕ) → bank < bank_count h → get_or totals bank None ≡ opening_total h bank)
    → totals_kept h.version (bank_count h) totals ≡ h.totals
totals_are h totals session places same = elim (cases_eq h.version 2) [
  | inl second ↦
      let full : length h.totals ≡ bank_count h = session.totals_full ∙ cond-true (eqb h.version 2) (bank_count h) 0 (eq-eqb h.version 2 second) in
      let size : length (take (bank_count h) totals) ≡ bank_count h = length-take-le (bank_count h) totals (omega (arith, places, session.banks_most)) in
      cond-true (eqb h.version 2) (take (bank_count h) totals) [] (eq-eqb h.version 2 second)
      ∙ ext_get_or None (take (bank_count h) totals) h.totals (size ∙ sym full) (λ at within.
      let inside : at < bank_count h = omega (arith, within, size) in
      get_or-take (bank_count h) totals at None inside ∙ same at inside)
  | inr other ↦
      let none : length h.totals ≡ 0 = session.totals_full ∙ cond-false (eqb h.version 2) (bank_count h) 0 (ne_eqb h.version 2 other) in
      cond-false (eqb h.version 2) (take (bank_count h) totals) [] (ne_eqb h.version 2 other) ∙ sym (nothing_in h.totals none)
]
  where
    nothing_in : (totals : List (Option ℕ)) → length totals ≡ 0 → totals ≡ []
    nothing_in [] none = refl
    nothing_in (total ∷ totals) none = absurd (omega (arith, none))

-- the lines of a session's statements start that session
record Starts (n : ℕ) (h : Header) : Type 0 where
  count : ℕ
  starts : with_lines (Drafting n (empty_draft h.version)) (lines_for h.banks (statements_of h)) ≡ Started count h
  -- all statements before START
  front : List Statement
  all_are : statements_of h ≡ front ++ statements.Start ∷ []
  draft : Draft
  drafted : ℕ
  before : with_lines (Drafting n (empty_draft h.version)) (lines_for h.banks front) ≡ Drafting drafted draft
  lines : Each (λ statement. IsLine (spelling h.banks statement)) (statements_of h)

starts : (n : ℕ) (h : Header) → IsSession h → Starts n h
starts n h session =
    let named : List Statement = map statements.Bank h.banks in
    let paired : List Statement = map statements.Pair h.pairs in
    let limited : List Statement = flat_map (λ from. limits_of h from (bank_count h)) (below (bank_count h)) in
    let totalled : List Statement = totals_of h (bank_count h) in
    let last : List Statement = statements.Start ∷ [] in
    let is_line : Statement → Type 0 = λ statement. IsLine (spelling h.banks statement) in
    let empty : Draft = empty_draft h.version in
    let with_banks : Draft = record empty { banks = h.banks } in
    let empty_valid : IsDraft empty = IsDraft-empty h.version [] [] no_limits no_totals session.version_least session.version_most refl refl refl refl in
    let banks : Leads n h.banks empty named with_banks = banks_lead n h.banks h.banks empty empty_valid session.banks_most session.names session.names_differ in
    let front : Leads n h.banks empty (named ++ paired) (with_limits h no_limits) =
    both_lead n h.banks empty with_banks (with_limits h no_limits) named paired banks
    (λ m. pairs_lead m h.banks h.pairs with_banks banks.valid session.pairs_most session.rules session.pairs_differ) in
    let rows = rows_lead front.count h (bank_count h) no_limits session front.valid (omega arith) no_limits-at in
    let tops = totals_lead rows.leads.count h (bank_count h) rows.after session rows.leads.valid (omega arith) no_totals-at in
    let made : Draft = with_totals h rows.after tops.after in
    let table_is : square (bank_count h) rows.after ≡ h.limits = square_is h rows.after session rows.rows in
    let totals_is : totals_kept h.version (bank_count h) tops.after ≡ h.totals = totals_are h tops.after session tops.leads.valid.totals.full tops.totals in
    let can : CanState made statements.Start = (session.banks_least, session.pairs_least) in
    let read_last : with_lines (Drafting tops.leads.count made) (lines_for h.banks last) ≡ Started (next tops.leads.count) h =
    line_read tops.leads.count made statements.Start tops.leads.valid can
    ∙ ap₂ (λ (limits : List ℕ) (totals : List (Option ℕ)). Started (next tops.leads.count) (record { version = h.version; banks = h.banks; pairs = h.pairs; limits = limits; totals = totals })) table_is totals_is in
    let with_rows : Leads n h.banks empty (named ++ paired ++ limited) (with_limits h rows.after) = record {
      count = rows.leads.count;
      leads = lead_on n h.banks empty (with_limits h no_limits) (named ++ paired) limited front ∙ rows.leads.leads;
      valid = rows.leads.valid;
      lines = Each-append is_line (named ++ paired) limited front.lines rows.leads.lines;
    } in
    let all : Leads n h.banks empty (named ++ paired ++ limited ++ totalled) made = record {
      count = tops.leads.count;
      leads = lead_on n h.banks empty (with_limits h rows.after) (named ++ paired ++ limited) totalled with_rows ∙ tops.leads.leads;
      valid = tops.leads.valid;
      lines = Each-append is_line (named ++ paired ++ limited) totalled with_rows.lines tops.leads.lines;
    } in
    record {
      count = next tops.leads.count;
      starts = lead_on n h.banks empty made (named ++ paired ++ limited ++ totalled) last all ∙ read_last;
      front = named ++ paired ++ limited ++ totalled;
      all_are = refl;
      draft = made;
      drafted = all.count;
      before = all.leads;
      lines = Each-append is_line (named ++ paired ++ limited ++ totalled) last all.lines (spelling_line made statements.Start tops.leads.valid can, tt);
    }

-- the lines of a text of statements
lines_of-statements : (banks : List (List ℕ)) (made : List Statement) → Each (λ statement. IsLine (spelling banks statement)) made → lines_of (lines_text banks made) ≡ lines_for banks made
unfolding lines_of
lines_of-statements banks [] are = refl
lines_of-statements banks (statement ∷ rest) are =
    lines_of-line_text (spelling banks statement) (lines_text banks rest) are.0
    ∙ ap (λ (lines : List Line). line_for banks statement ∷ lines) (lines_of-statements banks rest are.1)

rest_of-statements : (banks : List (List ℕ)) (made : List Statement) → Each (λ statement. IsLine (spelling banks statement)) made → rest_of (lines_text banks made) ≡ []
unfolding rest_of
rest_of-statements banks [] are = refl
rest_of-statements banks (statement ∷ rest) are = rest_of-line_text (spelling banks statement) (lines_text banks rest) are.0 ∙ rest_of-statements banks rest are.1

-- the first line
pub version_line : (version : ℕ) → version ≤ newest → IsLine (version_fields version)
unfolding newest
version_line version most = record { some = omega arith; few = omega arith; fields_are = (IsField-tested (codes "FXBOOK") refl, (IsField-numeral version (omega (arith, most)), tt)) }

version_said : (version : ℕ) → 1 ≤ version → version ≤ newest → version_of (version_fields version) ≡ Some version
unfolding version_of
version_said version least most = number_of-numeral 1 newest version least most

version_told : (version : ℕ) → (eqb (length (version_fields version)) 0 || is_comment (slice_index_or (version_fields version) 0 [])) ≡ false
version_told version = refl

pub version_read : (version : ℕ) → 1 ≤ version → version ≤ newest → with_line (Begun 0) (Whole (join_with_byte 32 (version_fields version))) ≡ Drafting 1 (empty_draft version)
version_read version least most =
    let line : IsLine (version_fields version) = version_line version most in
    let fields : fields_of (join_with_byte 32 (version_fields version)) ≡ version_fields version = fields_of-join (version_fields version) line.some line.fields_are in
    ap₂ (λ (passed : Bool) (head : Head). cond passed (Begun (next 0)) head)
    (ap (λ (fields : List (List ℕ)). eqb (length fields) 0 || is_comment (slice_index_or fields 0 [])) fields ∙ version_told version)
    (ap (begun (next 0)) (ap version_of fields ∙ version_said version least most))

-- the text of a session's header is whole lines, and their reading starts that session
pub head_text-read : (h : Header) → IsSession h → session_of (read_head (lines_of (head_text_of h))) ≡ Some h
head_text-read h session =
    let it = starts 1 h session in
    ap (λ (lines : List Line). session_of (read_head lines)) (lines_of-line_text (version_fields h.version) (lines_text h.banks (statements_of h)) (version_line h.version session.version_most))
    ∙ ap (λ (lines : List Line). session_of (with_lines (with_line (Begun 0) (Whole (join_with_byte 32 (version_fields h.version)))) lines)) (lines_of-statements h.banks (statements_of h) it.lines)
    ∙ ap (λ (head : Head). session_of (with_lines head (lines_for h.banks (statements_of h)))) (version_read h.version session.version_least session.version_most)
    ∙ ap session_of it.starts

pub head_text-whole : (h : Header) → IsSession h → rest_of (head_text_of h) ≡ []
head_text-whole h session =
    let it = starts 1 h session in
    rest_of-line_text (version_fields h.version) (lines_text h.banks (statements_of h)) (version_line h.version session.version_most) ∙ rest_of-statements h.banks (statements_of h) it.lines

-- its last line is START, and the lines before it do not end the header
pub record EndsAtStart (h : Header) : Type 0 where
  pub lines : List Line
  pub last : Line
  pub all_are : lines_of (head_text_of h) ≡ lines ++ last ∷ []
  pub draft : Draft
  pub drafted : ℕ
  pub before : read_head lines ≡ Drafting drafted draft

pub head_text-ends : (h : Header) → IsSession h → EndsAtStart h
head_text-ends h session =
    let it = starts 1 h session in
    let first : Line = Whole (join_with_byte 32 (version_fields h.version)) in
    let cut : lines_for h.banks (statements_of h) ≡ lines_for h.banks it.front ++ line_for h.banks statements.Start ∷ [] =
    ap (lines_for h.banks) it.all_are ∙ map-append (line_for h.banks) it.front (statements.Start ∷ []) in
    record {
      lines = first ∷ lines_for h.banks it.front;
      last = line_for h.banks statements.Start;
      all_are = lines_of-line_text (version_fields h.version) (lines_text h.banks (statements_of h)) (version_line h.version session.version_most)
          ∙ ap (λ (lines : List Line). first ∷ lines) (lines_of-statements h.banks (statements_of h) it.lines ∙ cut);
      draft = it.draft;
      drafted = it.drafted;
      before = ap (λ (head : Head). with_lines head (lines_for h.banks it.front)) (version_read h.version session.version_least session.version_most) ∙ it.before;
    }
