use Rattle.std.proofs.Common.{◌≡◌, ◌++◌, ◌∷◌, ◌∙◌, [], List, ℕ, ap, sym, take, codes, length, arith, length-append}
use Rattle.fx_amounts.specs.Numeral.{numeral}
use Rattle.fx_rules.proofs.NameTexts.{HasPairBytes-pair_text}
use Rattle.fx_rules.specs.Session.{pair_name}
use Rattle.fx_text.proofs.LineTexts.{last_field, one_field, pushed_line}
use Rattle.reply_lines.proofs.report.VolumePrint.make_line.Goals as goal

pub returns : goal.returns
returns c =
    let v = c.args.self.now in
    let pair : List ℕ = pair_name c.args.session.now v.pair in
    let fills : List ℕ = numeral v.fills in
    let lots : List ℕ = numeral v.lots in
    let base : List ℕ = numeral v.base in
    let quote : List ℕ = numeral v.quote in
    let start = c.push.new.self in
    let one = c.push_field.new.self in
    let two = c.push_number_field.new.self in
    let three = c.push_number_field-2.new.self in
    let four = c.push_wide_field.new.self in
    let five = c.push_wide_field-2.new.self in
    let short : length pair ≡ 7 = sym (ap length c.rule.ensures.text) ∙ (HasPairBytes-pair_text c.rule.result.now c.rule.ensures.valid).size in
    record {
      made = pushed_line (codes "VOLUME") (pair ∷ fills ∷ lots ∷ base ∷ quote ∷ []) c.clear.new.self start five c.push_byte.new.self c.clear.ensures c.push.ensures
          (one_field start one five pair (fills ∷ lots ∷ base ∷ quote ∷ []) (c.push_field.ensures ∙ ap (λ (t : List ℕ). take 256 (start ++ 32 ∷ t)) (c.text.ensures.value ∙ c.rule.ensures.text))
          (one_field one two five fills (lots ∷ base ∷ quote ∷ []) c.push_number_field.ensures.text
          (one_field two three five lots (base ∷ quote ∷ []) c.push_number_field-2.ensures.text
          (one_field three four five base (quote ∷ []) c.push_wide_field.ensures.text
          (last_field four five quote c.push_wide_field-2.ensures.text)))))
          c.push_byte.ensures (omega arith)
          (omega (
            arith,
            short,
            c.push_number_field.ensures.few,
            c.push_number_field-2.ensures.few,
            c.push_wide_field.ensures.few,
            c.push_wide_field-2.ensures.few,
            length-append (32 ∷ pair) ((32 ∷ fills) ++ ((32 ∷ lots) ++ ((32 ∷ base) ++ ((32 ∷ quote) ++ [])))),
            length-append (32 ∷ fills) ((32 ∷ lots) ++ ((32 ∷ base) ++ ((32 ∷ quote) ++ []))),
            length-append (32 ∷ lots) ((32 ∷ base) ++ ((32 ∷ quote) ++ [])),
            length-append (32 ∷ base) ((32 ∷ quote) ++ []),
            length-append (32 ∷ quote) [],
          ));
    }
