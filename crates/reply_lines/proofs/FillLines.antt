-- The line of a fill is put together from its texts.
use Rattle.std.proofs.Common.{ℕ, ◌≡◌, ◌<◌, append_assoc, rules}
use Rattle.fx_amounts.specs.Numeral.{numeral}
use Rattle.fx_rules.specs.declared.orders.Fill.{Fill}
use Rattle.fx_rules.specs.Session.{Header, bank_count}
use Rattle.reply_lines.specs.Rows.{row}
use Rattle.reply_lines.specs.Notices.{fill_fields, notice_line}
use Rattle.reply_lines.specs.Fills.{AreTextsOf, notice_to}
use Rattle.reply_lines.specs.Prints.{IsFillOf}
use Rattle.reply_lines.specs.inside.Fills.{party_of, fill_line}
use Rattle.reply_lines.specs.declared.notices.FillPart.{FillPart}
use Rattle.reply_lines.specs.declared.notices.FillPart.TheVariants.{Taker, Maker}
use Rattle.reply_lines.specs.declared.notices.FillTexts.{FillTexts}
use Rattle.reply_lines.specs.declared.notices.Party.{Party}

fill-told : (h : Header) (party : Party) (fill : Fill) {texts : FillTexts} → AreTextsOf h fill texts → (number : ℕ) → fill_line h number party texts ≡ row (numeral number) (fill_fields h party.number party.side party.other fill)
fill-told h party fill are number = rw are.trade (rw are.amounts (search (rules, append_assoc)))

-- as the bank with this part in it gets it
pub part-told : (h : Header) (part : FillPart) (fill : Fill) {texts : FillTexts} → AreTextsOf h fill texts → (number : ℕ) → fill_line h number (party_of part fill) texts ≡ notice_line h number (notice_to part fill)
part-told h Taker fill are number = fill-told h (party_of Taker fill) fill are number
part-told h Maker fill are number = fill-told h (party_of Maker fill) fill are number

pub party-named : {h : Header} {fill : Fill} (part : FillPart) → IsFillOf h fill → (party_of part fill).other < bank_count h
party-named Taker is = is.maker
party-named Maker is = is.taker
