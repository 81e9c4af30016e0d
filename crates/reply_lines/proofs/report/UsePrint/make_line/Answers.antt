use Rattle.std.proofs.Common.{◌≡◌, ◌≤◌, ◌++◌, ◌∷◌, ◌∙◌, [], List, ℕ, ap, take, codes, length, arith}
use Rattle.fx_amounts.specs.Numeral.{numeral}
use Rattle.fx_rules.specs.Session.{bank_name}
use Rattle.fx_text.proofs.LineTexts.{last_field, one_field, pushed_line, length-fields_text}
use Rattle.reply_lines.proofs.report.UsePrint.make_line.Goals as goal

-- the digits of a number that is this one are as few
few : {n value : ℕ} → n ≡ value → length (numeral n) ≤ 20 → length (numeral value) ≤ 20
few is short = omega (arith, short, ap (λ (n : ℕ). length (numeral n)) is)

pub returns : goal.returns
returns c =
    let u = c.args.self.now in
    let h = c.args.session.now in
    let a : List ℕ = bank_name h u.a in
    let b : List ℕ = bank_name h u.b in
    let limit_ab : List ℕ = numeral u.limit_ab in
    let limit_ba : List ℕ = numeral u.limit_ba in
    let used : List ℕ = numeral u.used in
    let eff : List ℕ = numeral u.eff in
    let start = c.push.new.self in
    let one = c.push_field.new.self in
    let two = c.push_field-2.new.self in
    let three = c.push_number_field.new.self in
    let four = c.push_number_field-2.new.self in
    let five = c.push_number_field-3.new.self in
    let six = c.push_number_field-4.new.self in
    let a_few : length a ≤ 20 = omega (arith, c.name.ensures.most, ap length c.name.ensures.value) in
    let b_few : length b ≤ 20 = omega (arith, c.name-2.ensures.most, ap length c.name-2.ensures.value) in
    record {
      made = pushed_line (codes "USE") (a ∷ b ∷ limit_ab ∷ limit_ba ∷ used ∷ eff ∷ []) c.clear.new.self start six c.push_byte.new.self c.clear.ensures c.push.ensures
          (one_field start one six a (b ∷ limit_ab ∷ limit_ba ∷ used ∷ eff ∷ []) (c.push_field.ensures ∙ ap (λ (t : List ℕ). take 256 (start ++ 32 ∷ t)) c.name.ensures.value)
          (one_field one two six b (limit_ab ∷ limit_ba ∷ used ∷ eff ∷ []) (c.push_field-2.ensures ∙ ap (λ (t : List ℕ). take 256 (one ++ 32 ∷ t)) c.name-2.ensures.value)
          (one_field two three six limit_ab (limit_ba ∷ used ∷ eff ∷ []) (c.push_number_field.ensures.text ∙ ap (λ (n : ℕ). take 256 (two ++ 32 ∷ numeral n)) c.get.ensures.value)
          (one_field three four six limit_ba (used ∷ eff ∷ []) (c.push_number_field-2.ensures.text ∙ ap (λ (n : ℕ). take 256 (three ++ 32 ∷ numeral n)) c.get-2.ensures.value)
          (one_field four five six used (eff ∷ []) (c.push_number_field-3.ensures.text ∙ ap (λ (n : ℕ). take 256 (four ++ 32 ∷ numeral n)) c.get-3.ensures.value)
          (last_field five six eff (c.push_number_field-4.ensures.text ∙ ap (λ (n : ℕ). take 256 (five ++ 32 ∷ numeral n)) c.get-4.ensures.value)))))))
          c.push_byte.ensures (omega arith)
          (omega (
            arith,
            length-fields_text (a ∷ b ∷ limit_ab ∷ limit_ba ∷ used ∷ eff ∷ []) (
              a_few,
              (
                b_few,
                (
                  few c.get.ensures.value c.push_number_field.ensures.few,
                  (
                    few c.get-2.ensures.value c.push_number_field-2.ensures.few,
                    (few c.get-3.ensures.value c.push_number_field-3.ensures.few, (few c.get-4.ensures.value c.push_number_field-4.ensures.few, tt)),
                  ),
                ),
              ),
            ),
          ));
    }
