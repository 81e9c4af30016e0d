use Rattle.std.proofs.Common.{◌≡◌, ◌≤◌, ◌∙◌, ◌++◌, ◌∷◌, List, ℕ, suc, ℤ, pos, negsuc, ap, take, length, to_z, of_z, to_z-of_z, arith, SFits}
use Rattle.std.specs.Fmt.{signed_decimal}
use mir.Syntax.{w128}
use Rattle.fx_text.specs.Number.{signed_numeral}
use Rattle.fx_text.proofs.FieldTexts.{length-numeral}
use Rattle.fx_text.proofs.NumberLemmas.{signed_decimal_wide}
use Rattle.fx_text.proofs.line_text.LineText.push_signed_field.Goals as goal

pub returns-clause-text : goal.returns-clause-text
returns-clause-text c =
    let same : to_z w128 (of_z w128 c.args.value) ≡ c.args.value = to_z-of_z c.ranges.value in
    c.push_field.ensures ∙ ap (λ (text : List ℕ). take 256 (c.args.self.now ++ 32 ∷ text)) (c.as_bytes.ensures.value ∙ c.format.ensures.text ∙ ap signed_decimal same ∙ signed_decimal_wide c.args.value c.ranges.value)

length-signed_numeral : (value : ℤ) → SFits w128 value → length (signed_numeral value) ≤ 40
length-signed_numeral (pos n) fits = omega (arith, length-numeral 38 n (omega arith))
length-signed_numeral (negsuc n) fits = omega (arith, length-numeral 38 (suc n) (omega arith))

pub returns-clause-few : goal.returns-clause-few
returns-clause-few c = length-signed_numeral c.args.value c.ranges.value
