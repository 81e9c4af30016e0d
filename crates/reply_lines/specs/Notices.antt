-- The notices that each sender gets of a history.
use Rattle.std.specs.Prelude.{ℕ, ◌==◌, ◌+◌, if◌then◌else◌, List, [], ◌∷◌, ◌++◌, length, codes}
use Rattle.std.specs.List.{flat_map}
use Rattle.fx_amounts.specs.Numeral.{numeral}
use Rattle.fx_amounts.specs.PriceText.{price_text}
use Rattle.fx_amounts.specs.Side.{opposite}
use Rattle.fx_amounts.specs.declared.side.Side.{Side}
use Rattle.fx_rules.specs.declared.command.Command.{Command}
use Rattle.fx_rules.specs.declared.command.Command.TheVariants.{Book}
use Rattle.fx_rules.specs.declared.orders.Fill.{Fill}
use Rattle.fx_rules.specs.declared.orders.Level.{Level}
use Rattle.fx_rules.specs.declared.outcome.Entry.{Entry}
use Rattle.fx_rules.specs.declared.outcome.Outcome.{Outcome}
use Rattle.fx_rules.specs.declared.outcome.Outcome.TheVariants.{Ordered, Killed, Cancelled, Reduced, NotLess, Nothing, Pulled, LineSet, TotalSet, Settled, Shown, Depth, Rejected}
use Rattle.fx_rules.specs.Reject.{code_of}
use Rattle.fx_rules.specs.Session.{Header, bank_name, decimals_of, pair_name}
use Rattle.fx_rules.specs.Step.{fills_of}
use Rattle.day_report.specs.Report.{base_of, quote_of}
use Rattle.order_lines.specs.Words.{word_text, side_word, sender_name}
use Rattle.reply_lines.specs.Rows.{row}

-- a sender's reply to a command of its own; to a bank a fill in which it was the taker; one in which it was the maker
pub data Notice : Type 0 where
  Replied : Entry → Notice
  Took : Fill → Notice
  Gave : Fill → Notice

-- of a fill the taker's bank gets one notice, and the maker's bank one
abbrev pub fill_notices : ℕ → Fill → List Notice
fill_notices bank fill = (if fill.taker == bank then Took fill ∷ [] else []) ++ (if fill.maker == bank then Gave fill ∷ [] else [])

-- of an entry its sender gets the reply, and then the fills give theirs in order
abbrev pub notices_in : ℕ → Entry → List Notice
notices_in sender entry = (if entry.bank == sender then Replied entry ∷ [] else []) ++ flat_map (fill_notices sender) (fills_of entry.outcome)

-- a sender's notices of a history
abbrev pub notices : ℕ → List Entry → List Notice
notices sender entries = flat_map (notices_in sender) entries

-- the pair whose book a command asks for
abbrev pub booked_pair : Command → ℕ
booked_pair (Book pair) = pair
booked_pair _ = 0

-- the price and the lots of each level, the best first
abbrev pub level_fields : ℕ → List Level → List (List ℕ)
level_fields decimals levels = flat_map (λ level. price_text decimals level.price ∷ numeral level.lots ∷ []) levels

-- a local book of a pair: what its bank could sell now, and then what it could buy
abbrev pub book_fields : Header → ℕ → List Level → List Level → List (List ℕ)
book_fields h pair bids asks =
    pair_name h pair ∷ codes "BIDS" ∷ level_fields (decimals_of h pair) bids ++ codes "ASKS" ∷ level_fields (decimals_of h pair) asks

-- the fields of a reply: what came of the command, and of a credit change what was set or given back alone
abbrev pub reply_fields : Header → Command → Outcome → List (List ℕ)
reply_fields h command (Ordered done rests fills) = codes "ORDERED" ∷ numeral done ∷ numeral rests ∷ []
reply_fields h command Killed = codes "KILLED" ∷ []
reply_fields h command (Cancelled left) = codes "CANCELLED" ∷ numeral left ∷ []
reply_fields h command (Reduced left) = codes "REDUCED" ∷ numeral left ∷ []
reply_fields h command (NotLess left) = codes "NOTLESS" ∷ numeral left ∷ []
reply_fields h command Nothing = codes "NOTHING" ∷ []
reply_fields h command (Pulled count) = codes "PULLED" ∷ numeral count ∷ []
reply_fields h command (LineSet limit fills) = codes "LIMIT" ∷ numeral limit ∷ []
reply_fields h command (TotalSet most fills) = codes "TOTAL" ∷ numeral most ∷ []
reply_fields h command (Settled given fills) = codes "SETTLED" ∷ numeral given ∷ []
reply_fields h command (Shown limit spent eff) = codes "SHOWN" ∷ numeral limit ∷ numeral spent ∷ numeral eff ∷ []
reply_fields h command (Depth bids asks) = codes "BOOK" ∷ book_fields h (booked_pair command) bids asks
reply_fields h command (Rejected reason) = codes "BAD" ∷ numeral (code_of reason) ∷ []

-- the fields of a fill as one of its banks sees it: its own order's number and side; the pair, the lots and the price; the other
-- bank's name; and the base and quote amounts
abbrev pub fill_fields : Header → ℕ → Side → ℕ → Fill → List (List ℕ)
fill_fields h number side other fill =
    codes "FILL" ∷ numeral number ∷ word_text (side_word side) ∷ pair_name h fill.pair ∷ numeral fill.lots
    ∷ price_text (decimals_of h fill.pair) fill.price ∷ bank_name h other ∷ numeral (base_of h fill) ∷ numeral (quote_of h fill) ∷ []

-- the line of a notice, with its number on the desk
abbrev pub notice_line : Header → ℕ → Notice → List ℕ
notice_line h number (Replied e) = row (numeral number) (codes "REPLY" ∷ numeral e.number ∷ reply_fields h e.command e.outcome)
notice_line h number (Took fill) = row (numeral number) (fill_fields h fill.taker_number fill.taker_side fill.maker fill)
notice_line h number (Gave fill) = row (numeral number) (fill_fields h fill.maker_number (opposite fill.taker_side) fill.taker fill)

-- the lines of notices, numbered after so many
abbrev pub notice_lines : Header → ℕ → List Notice → List ℕ
notice_lines h before [] = []
notice_lines h before (notice ∷ rest) = notice_line h (before + 1) notice ++ notice_lines h (before + 1) rest

-- the line that begins a sender's desk
abbrev pub desk_line : Header → ℕ → ℕ → List ℕ
desk_line h sender count = row (codes "DESK") (sender_name h sender ∷ numeral count ∷ [])

-- a sender's desk: how many notices it has, and these
abbrev pub desk_text : Header → List Entry → ℕ → List ℕ
desk_text h entries sender = desk_line h sender (length (notices sender entries)) ++ notice_lines h 0 (notices sender entries)
