-- What the two notices of a fill have in common, made once for both.
use Rattle.std.specs.Prelude.{ℕ, ◌≡◌, ◌≤◌, List, [], ◌∷◌, length}
use Rattle.fx_amounts.specs.Numeral.{numeral}
use Rattle.fx_amounts.specs.PriceText.{price_text}
use Rattle.fx_rules.specs.declared.orders.Fill.{Fill}
use Rattle.fx_rules.specs.Session.{Header, pair_name, decimals_of}
use Rattle.fx_text.specs.Fields.{fields_text}
use Rattle.day_report.specs.Report.{base_of, quote_of}
use Rattle.reply_lines.specs.Notices.{Notice}
use Rattle.reply_lines.specs.Notices.Notice.{Took, Gave}
use Rattle.reply_lines.specs.declared.notices.FillPart.{FillPart}
use Rattle.reply_lines.specs.declared.notices.FillPart.TheVariants.{Taker, Maker}
use Rattle.reply_lines.specs.declared.notices.FillTexts.{FillTexts}

-- what a bank with this part in a fill gets of it
abbrev pub notice_to : FillPart → Fill → Notice
notice_to Taker fill = Took fill
notice_to Maker fill = Gave fill

-- a fill's pair, lots and price
abbrev pub trade_fields : Header → Fill → List (List ℕ)
trade_fields h fill = pair_name h fill.pair ∷ numeral fill.lots ∷ price_text (decimals_of h fill.pair) fill.price ∷ []

-- its base and quote amounts
abbrev pub amount_fields : Header → Fill → List (List ℕ)
amount_fields h fill = numeral (base_of h fill) ∷ numeral (quote_of h fill) ∷ []

-- short enough for the line that they stand in
abbrev pub AreShort : FillTexts → Type 0
AreShort texts = (length texts.trade ≤ 70) × (length texts.amounts ≤ 61)

-- the fill's pair, lots and price, and its amounts
pub record AreTextsOf (h : Header) (fill : Fill) (texts : FillTexts) : Type 0 where
  pub trade : texts.trade ≡ fields_text (trade_fields h fill)
  pub amounts : texts.amounts ≡ fields_text (amount_fields h fill)
  pub short : AreShort texts
