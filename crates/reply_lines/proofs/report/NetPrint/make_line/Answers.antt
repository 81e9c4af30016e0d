use Rattle.std.proofs.Common.{◌≡◌, ◌≤◌, ◌++◌, ◌∷◌, ◌∙◌, [], List, ℕ, ℤ, ap, sym, subst, take, codes, length, to_z, of_z, arith, rules, length-append}
use mir.Syntax.{w128}
use Rattle.fx_rules.proofs.NameTexts.{HasCodeBytes-code}
use Rattle.fx_rules.specs.Session.{bank_name}
use Rattle.fx_text.proofs.LineTexts.{last_field, one_field, pushed_line}
use Rattle.fx_text.specs.Number.{signed_numeral}
use Rattle.reply_lines.proofs.report.NetPrint.make_line.Goals as goal

pub returns : goal.returns
returns c =
    let net = c.args.self.now in
    let name : List ℕ = bank_name c.args.session.now net.bank in
    let currency : List ℕ = net.currency in
    let amount : List ℕ = signed_numeral net.amount in
    let start = c.push.new.self in
    let one = c.push_field.new.self in
    let two = c.push_field-2.new.self in
    let three = c.push_signed_field.new.self in
    let short : length name ≤ 8 = rw (sym c.name.ensures.value) c.name.ensures.most in
    let code : length currency ≡ 3 = (HasCodeBytes-code currency c.as_bytes.ensures.valid).size in
    let same : to_z w128 (of_z w128 net.amount) ≡ net.amount = search rules in
    let few : length amount ≤ 40 = subst (λ (z : ℤ). length (signed_numeral z) ≤ 40) same c.push_signed_field.ensures.few in
    record {
      made = pushed_line (codes "NET") (name ∷ currency ∷ amount ∷ []) c.clear.new.self start three c.push_byte.new.self c.clear.ensures c.push.ensures
          (one_field start one three name (currency ∷ amount ∷ []) (c.push_field.ensures ∙ ap (λ (t : List ℕ). take 256 (start ++ 32 ∷ t)) c.name.ensures.value)
          (one_field one two three currency (amount ∷ []) (c.push_field-2.ensures ∙ ap (λ (t : List ℕ). take 256 (one ++ 32 ∷ t)) c.as_bytes.ensures.text)
          (last_field two three amount (c.push_signed_field.ensures.text ∙ ap (λ (z : ℤ). take 256 (two ++ 32 ∷ signed_numeral z)) same))))
          c.push_byte.ensures (omega arith)
          (omega (
            arith,
            short,
            code,
            few,
            length-append (32 ∷ name) ((32 ∷ currency) ++ ((32 ∷ amount) ++ [])),
            length-append (32 ∷ currency) ((32 ∷ amount) ++ []),
            length-append (32 ∷ amount) [],
          ));
    }
