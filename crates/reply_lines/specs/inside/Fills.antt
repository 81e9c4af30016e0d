-- The line of a fill, put together from its texts and from what one of its banks sees.
use Rattle.std.specs.Prelude.{ℕ, List, [], ◌∷◌, ◌++◌, codes}
use Rattle.fx_amounts.specs.Numeral.{numeral}
use Rattle.fx_amounts.specs.Side.{opposite}
use Rattle.fx_rules.specs.declared.orders.Fill.{Fill}
use Rattle.fx_rules.specs.Session.{Header, bank_name}
use Rattle.fx_text.specs.Fields.{fields_text}
use Rattle.order_lines.specs.Words.{word_text, side_word}
use Rattle.reply_lines.specs.declared.notices.FillPart.{FillPart}
use Rattle.reply_lines.specs.declared.notices.FillPart.TheVariants.{Taker, Maker}
use Rattle.reply_lines.specs.declared.notices.FillTexts.{FillTexts}
use Rattle.reply_lines.specs.declared.notices.Party.{Party}

-- a fill as the bank with this part in it sees it
abbrev pub party_of : FillPart → Fill → Party
party_of Taker fill = record { number = fill.taker_number; side = fill.taker_side; other = fill.maker }
party_of Maker fill = record { number = fill.maker_number; side = opposite fill.taker_side; other = fill.taker }

abbrev pub fill_line : Header → ℕ → Party → FillTexts → List ℕ
fill_line h number party texts =
    numeral number ++ fields_text (codes "FILL" ∷ numeral party.number ∷ word_text (side_word party.side) ∷ []) ++ texts.trade ++ 32 ∷ bank_name h party.other ++ texts.amounts ++ 10 ∷ []
