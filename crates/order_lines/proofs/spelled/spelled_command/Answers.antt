use Rattle.std.proofs.Common.{◌≡◌, ◌∷◌, length, take, refl, sym, ap, ◌∙◌}
use Rattle.std.proofs.lemmas.List.{take_at}
use Rattle.fx_rules.specs.Session.{bank_name}
use Rattle.order_lines.proofs.SaidFields.{bank_named-ok}
use Rattle.order_lines.proofs.SpelledFields.{field_says}
use Rattle.order_lines.proofs.SpelledLines.{BeginsWith, BeginsWith-fields}
use Rattle.order_lines.proofs.spelled.spelled_command.Goals as goal

pub returns-in-Some : goal.returns-in-Some
returns-in-Some c =
    let front : take (length c.in_ok-name.name.now) c.args.text.now ≡ c.in_ok-name.name.now =
    ap (take (length c.in_ok-name.name.now)) c.in_ok-name.ensures ∙ take_at c.in_ok-name.name.now (32 ∷ c.in_ok-name.fields.now) (length c.in_ok-name.name.now) refl in
    let named = bank_named-ok c.args.session.now (take (length c.in_ok-name.name.now) c.args.text.now) c.in_ok-bank.bank (sym c.in_ok-bank.ensures.value) in
    let begins : BeginsWith c.args.session.now c.args.text.now c.in_ok-bank.bank c.in-Some.command c.in-Some.behind.now =
    BeginsWith-fields c.args.session.now c.in_ok-bank.bank c.in_ok-word.word c.args.text.now c.in_ok-name.fields.now c.in_ok-word.fields.now c.in-Some.command c.in-Some.behind.now
    c.banks-banks.ensures.valid named.0
    (field_says c.args.text.now c.in_ok-name.name.now (bank_name c.args.session.now c.in_ok-bank.bank) c.in_ok-name.fields.now 32 c.in_ok-name.ensures (sym front ∙ named.1))
    c.in_ok-word.ensures
    c.in-Some.ensures in
    record { spelled = begins.spelled; line = begins.line; reads = begins.reads; valid = record { command = begins.valid }; shorter = begins.shorter }
