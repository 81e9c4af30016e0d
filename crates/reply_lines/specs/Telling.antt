-- The notices of a history told one by one in its order, each to the sender that gets it.
use Rattle.std.specs.Prelude.{ℕ, ◌≡◌, ◌<◌, ◌+◌, ◌==◌, List, [], ◌∷◌, ◌++◌, length, filter, slice_index_or}
use Rattle.std.specs.List.{flat_map}
use Rattle.fx_rules.specs.declared.orders.Fill.{Fill}
use Rattle.fx_rules.specs.declared.outcome.Entry.{Entry}
use Rattle.fx_rules.specs.Session.{Header, sender_places}
use Rattle.fx_rules.specs.Step.{fills_of}
use Rattle.order_lines.specs.Words.{sender_name}
use Rattle.reply_lines.specs.Notices.{Notice, notice_line, notices}
use Rattle.reply_lines.specs.Notices.Notice.{Replied, Took, Gave}

-- a notice, and the sender that gets it
pub record Addressed : Type 0 where
  pub sender : ℕ
  pub notice : Notice

abbrev pub addressed_to : ℕ → Notice → Addressed
addressed_to sender notice = record { sender = sender; notice = notice }

-- of a fill the taker's bank gets one notice, and then the maker's bank one
abbrev pub fill_addressed : Fill → List Addressed
fill_addressed fill = addressed_to fill.taker (Took fill) ∷ addressed_to fill.maker (Gave fill) ∷ []

-- of an entry its sender gets the reply, and then the fills give theirs in order
abbrev pub addressed_in : Entry → List Addressed
addressed_in entry = addressed_to entry.bank (Replied entry) ∷ flat_map fill_addressed (fills_of entry.outcome)

-- all notices of a history, in its order
abbrev pub addressed : List Entry → List Addressed
addressed entries = flat_map addressed_in entries

-- how many of them one sender gets
abbrev pub count_to : ℕ → List Addressed → ℕ
count_to sender all = length (filter (λ a. a.sender == sender) all)

-- a notice as it is told, with its number among those that its sender gets
pub record Told : Type 0 where
  pub sender : ℕ
  pub number : ℕ
  pub notice : Notice

-- notices behind others: each has the number behind those that its sender got before
abbrev pub numbered : List Addressed → List Addressed → List Told
numbered before [] = []
numbered before (a ∷ more) =
    record { sender = a.sender; number = count_to a.sender before + 1; notice = a.notice } ∷ numbered (before ++ a ∷ []) more

-- the notices of a history's next entries, their numbers going on from those before
abbrev pub told : List Entry → List Entry → List Told
told before more = numbered (addressed before) (addressed more)

-- the line of one: behind the sender's name and a space it is the line that stands on the sender's desk
abbrev pub told_line : Header → Told → List ℕ
told_line h t = sender_name h t.sender ++ 32 ∷ notice_line h t.number t.notice

-- the lines of a history's next entries
abbrev pub told_text : Header → List Entry → List Entry → List ℕ
told_text h before more = flat_map (told_line h) (told before more)

-- each sender's count is the number of its notices of a history, and stands at its number
pub record HasCounted (h : Header) (entries : List Entry) (counts : List ℕ) : Type 0 where
  pub places : length counts ≡ sender_places h
  pub each : (sender : ℕ) → sender < sender_places h → slice_index_or counts sender 0 ≡ length (notices sender entries)
