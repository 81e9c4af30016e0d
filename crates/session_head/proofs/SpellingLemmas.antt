-- The spelling of a statement is a line that is not ignored.
use Rattle.std.proofs.Common.{◌≡◌, ℕ, false, ◌||◌, List, [], length, slice_index_or, codes, refl, ap, ◌∙◌, arith, IsTrue, eqb}
use Rattle.std.specs.List.{join_with_byte}
use Rattle.std.proofs.lemmas.List.Elements.{All-get_or}
use Rattle.fx_text.specs.Fields.{is_comment, field_at}
use Rattle.fx_text.specs.Lines.{is_passed_over}
use Rattle.fx_text.specs.declared.line.Line.TheVariants.{Whole}
use Rattle.fx_text.proofs.FieldTexts.{IsField-tested, IsField-numeral}
use Rattle.fx_text.proofs.JoinedFields.{IsField, fields_of-join}
use Rattle.fx_rules.specs.Names.{is_name}
use Rattle.fx_rules.specs.Session.{IsPairRule, pair_text}
use Rattle.fx_rules.specs.declared.session.PairRule.{PairRule}
use Rattle.fx_rules.proofs.NameTexts.{HasNameBytes-name, HasPairBytes-pair_text}
use Rattle.session_head.specs.Draft.{Draft}
use Rattle.session_head.specs.inside.Draft.{IsDraft}
use Rattle.session_head.specs.Statement.{spelling}
use Rattle.session_head.specs.inside.Statement.{CanState}
use Rattle.session_head.specs.declared.statement.Statement.{Statement}
use Rattle.session_head.specs.declared.statement.Statement.TheVariants as statements
use Rattle.session_head.proofs.LineTexts.{IsLine}

-- a name and a pair as fields
name_field : (name : List ℕ) → IsTrue (is_name name) → IsField name
name_field name is = let bytes = HasNameBytes-name name is in record { some = omega (arith, bytes.least); short = omega (arith, bytes.most); visible = bytes.visible }

pair_field : (rule : PairRule) → IsPairRule rule → IsField (pair_text rule)
pair_field rule is = let bytes = HasPairBytes-pair_text rule is in record { some = omega (arith, bytes.size); short = omega (arith, bytes.size); visible = bytes.visible }

-- the line of a statement
pub spelling_line : (d : Draft) (statement : Statement) → IsDraft d → CanState d statement → IsLine (spelling d.banks statement)
spelling_line d (statements.Bank name) valid can =
    record { some = omega arith; few = omega arith; fields_are = (IsField-tested (codes "BANK") refl, (name_field name can.1, tt)) }
spelling_line d (statements.Pair rule) valid can =
    let decimals = IsField-numeral rule.decimals (omega (arith, can.1.decimals)) in
    let lot = IsField-numeral rule.lot (omega (arith, can.1.lot_most)) in
    let weight = IsField-numeral rule.weight (omega (arith, can.1.weight_most)) in
    record { some = omega arith; few = omega arith; fields_are = (IsField-tested (codes "PAIR") refl, (pair_field rule can.1, (decimals, (lot, (weight, tt))))) }
spelling_line d (statements.Line from to limit) valid can =
    let first = name_field (field_at d.banks from) (All-get_or (λ name. IsTrue (is_name name)) d.banks from [] can.0 valid.banks.names) in
    let second = name_field (field_at d.banks to) (All-get_or (λ name. IsTrue (is_name name)) d.banks to [] can.1 valid.banks.names) in
    record { some = omega arith; few = omega arith; fields_are = (IsField-tested (codes "LINE") refl, (first, (second, (IsField-numeral limit (omega (arith, can.3)), tt)))) }
spelling_line d (statements.Total bank limit) valid can =
    let name = name_field (field_at d.banks bank) (All-get_or (λ name. IsTrue (is_name name)) d.banks bank [] can.1 valid.banks.names) in
    record { some = omega arith; few = omega arith; fields_are = (IsField-tested (codes "TOTAL") refl, (name, (IsField-numeral limit (omega (arith, can.2)), tt))) }
spelling_line d statements.Start valid can = record { some = omega arith; few = omega arith; fields_are = (IsField-tested (codes "START") refl, tt) }

word_told : (banks : List (List ℕ)) (statement : Statement) → (eqb (length (spelling banks statement)) 0 || is_comment (slice_index_or (spelling banks statement) 0 [])) ≡ false
word_told banks (statements.Bank name) = refl
word_told banks (statements.Pair rule) = refl
word_told banks (statements.Line from to limit) = refl
word_told banks (statements.Total bank limit) = refl
word_told banks statements.Start = refl

pub spelling_taken : (banks : List (List ℕ)) (statement : Statement) → IsLine (spelling banks statement) → is_passed_over (Whole (join_with_byte 32 (spelling banks statement))) ≡ false
spelling_taken banks statement is =
    ap (λ (fields : List (List ℕ)). eqb (length fields) 0 || is_comment (slice_index_or fields 0 [])) (fields_of-join (spelling banks statement) is.some is.fields_are) ∙ word_told banks statement
