-- The fields stand behind the word, and fit.
use Rattle.std.proofs.Common.{◌≡◌, ◌≤◌, ◌++◌, ◌∷◌, ◌∙◌, [], List, ℕ, ap, sym, take, codes, length, arith, length-append}
use Rattle.fx_amounts.specs.Numeral.{numeral}
use Rattle.fx_rules.proofs.NameTexts.{HasCodeBytes-code}
use Rattle.fx_rules.specs.Session.{bank_name}
use Rattle.fx_text.proofs.LineTexts.{last_field, one_field, pushed_line}
use Rattle.program_calls.proofs.paying.text.make_line.Goals as goal

pub returns : goal.returns
returns c =
    let payment = c.args.payment.now in
    let payer : List ℕ = bank_name c.args.session.now payment.payer in
    let payee : List ℕ = bank_name c.args.session.now payment.payee in
    let currency : List ℕ = payment.currency in
    let amount : List ℕ = numeral payment.amount in
    let start = c.push.new.self in
    let one = c.push_field.new.self in
    let two = c.push_field-2.new.self in
    let three = c.push_field-3.new.self in
    let four = c.push_wide_field.new.self in
    let payer_short : length payer ≤ 8 = rw (sym c.name.ensures.value) c.name.ensures.most in
    let payee_short : length payee ≤ 8 = rw (sym c.name-2.ensures.value) c.name-2.ensures.most in
    let code : length currency ≡ 3 = (HasCodeBytes-code currency c.as_bytes.ensures.valid).size in
    record {
      made = pushed_line (codes "PAY") (payer ∷ payee ∷ currency ∷ amount ∷ []) c.clear.new.self start four c.push_byte.new.self c.clear.ensures c.push.ensures
          (one_field start one four payer (payee ∷ currency ∷ amount ∷ []) (c.push_field.ensures ∙ ap (λ (t : List ℕ). take 256 (start ++ 32 ∷ t)) c.name.ensures.value)
          (one_field one two four payee (currency ∷ amount ∷ []) (c.push_field-2.ensures ∙ ap (λ (t : List ℕ). take 256 (one ++ 32 ∷ t)) c.name-2.ensures.value)
          (one_field two three four currency (amount ∷ []) (c.push_field-3.ensures ∙ ap (λ (t : List ℕ). take 256 (two ++ 32 ∷ t)) c.as_bytes.ensures.text)
          (last_field three four amount c.push_wide_field.ensures.text))))
          c.push_byte.ensures (omega arith)
          (omega (
            arith,
            payer_short,
            payee_short,
            code,
            c.push_wide_field.ensures.few,
            length-append (32 ∷ payer) ((32 ∷ payee) ++ ((32 ∷ currency) ++ ((32 ∷ amount) ++ []))),
            length-append (32 ∷ payee) ((32 ∷ currency) ++ ((32 ∷ amount) ++ [])),
            length-append (32 ∷ currency) ((32 ∷ amount) ++ []),
            length-append (32 ∷ amount) [],
          ));
    }
