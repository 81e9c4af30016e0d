use Rattle.std.proofs.Common.{◌≤◌, ◌++◌, ◌∷◌, ◌∙◌, [], List, ℕ, ap, sym, take, codes, length, arith, length-append}
use Rattle.fx_amounts.specs.Numeral.{numeral}
use Rattle.order_lines.specs.Words.{sender_name}
use Rattle.fx_text.proofs.LineTexts.{last_field, one_field, pushed_line}
use Rattle.reply_lines.proofs.notices.make_desk.Goals as goal

pub returns : goal.returns
returns c =
    let name : List ℕ = sender_name c.args.session.now c.args.sender in
    let count : List ℕ = numeral c.args.count in
    let one = c.push.new.self in
    let two = c.push_field.new.self in
    let three = c.push_wide_field.new.self in
    let short : length name ≤ 8 = rw (sym c.sender_name.ensures.value) c.sender_name.ensures.most in
    pushed_line (codes "DESK") (name ∷ count ∷ []) c.clear.new.self one three c.push_byte.new.self c.clear.ensures c.push.ensures
    (one_field one two three name (count ∷ []) (c.push_field.ensures ∙ ap (λ (t : List ℕ). take 256 (one ++ 32 ∷ t)) c.sender_name.ensures.value)
    (last_field two three count c.push_wide_field.ensures.text))
    c.push_byte.ensures (omega arith)
    (omega (arith, short, c.push_wide_field.ensures.few, length-append (32 ∷ name) ((32 ∷ count) ++ []), length-append (32 ∷ count) []))
