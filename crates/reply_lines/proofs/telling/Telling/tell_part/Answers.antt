-- The bank's name stands before its notice.
use Rattle.std.proofs.Common.{◌≡◌, ◌<◌, ◌∙◌, ap, subst, sym}
use Rattle.fx_rules.specs.Session.{bank_count}
use Rattle.reply_lines.specs.Fills.{notice_to}
use Rattle.reply_lines.specs.Telling.{addressed_to}
use Rattle.reply_lines.specs.inside.Telling.{bank_of, next_of, with_one}
use Rattle.order_lines.specs.Words.{sender_name}
use Rattle.reply_lines.proofs.Counting.{part-within, told-one}
use Rattle.reply_lines.proofs.Outputs.{on_ok}
use Rattle.reply_lines.proofs.Placing.{bank-named}
use Rattle.reply_lines.proofs.telling.Telling.tell_part.Goals as goal

pub returns-clause-ok : goal.returns-clause-ok
returns-clause-ok c =
    let h = c.args.session.now in
    let f = c.args.fill.now in
    let counts = c.args.self.now.counts.items in
    let bank = bank_of c.args.part f in
    let is : c.bank-bank.result ≡ bank = c.bank-bank.ensures in
    let within : c.bank-bank.result < bank_count h = subst (λ b. b < bank_count h) (sym is) (part-within h c.args.part f c.requires.fill) in
    on_ok c.fill.result
    (told-one h (addressed_to bank (notice_to c.args.part f)) c.in_ok-number.number (c.in_ok-number.ensures.number ∙ ap (next_of counts) is)
    (c.in_ok-number.ensures.counted ∙ ap (with_one counts) is) (c.name.ensures.value ∙ bank-named h c.bank-bank.result c.name.ensures.valid within ∙ ap (sender_name h) is) c.in_ok-number.ensures.named)
    c.fill.ensures.ok
