-- What a legal history determines: what was sent, and the text of its day.
use Rattle.std.proofs.Common.{ℕ, ◌≡◌, List, [], ◌∷◌, ◌++◌}
use Rattle.fx_rules.specs.declared.outcome.Entry.{Entry}
use Rattle.fx_rules.specs.Session.{Header}
use Rattle.fx_rules.specs.State.{State}
use Rattle.fx_rules.specs.History.{Steps, after_entry, state}
use Rattle.reply_lines.specs.Books.{books_text}
use Rattle.reply_lines.specs.Report.{report_text}
use Rattle.reply_lines.specs.Output.{journal_text, desks_text, day_text, IsDayText}
use Rattle.session_head.specs.HeadText.{head_text_of}
use Rattle.fx_rules.specs.Sending.{IsSentOf, sent_by}

-- each entry's command is one that its sender may send
abbrev pub AreSentOf : Header → List Entry → Type 0
AreSentOf h [] = Unit {0}
AreSentOf h (e ∷ es) = IsSentOf h (sent_by e) × AreSentOf h es

pub steps_sent : (h : Header) (S : State) (es : List Entry) → Steps h S es → AreSentOf h es
steps_sent h S [] steps = tt
steps_sent h S (e ∷ es) steps = (record { command = steps.0.command }, steps_sent h (after_entry S e) es steps.1)

-- The day

-- the text of a day begins with the header and the journal
pub day_begins : (h : Header) (entries : List Entry) (day : List ℕ) → IsDayText h entries day → (rest : List ℕ) × (day ≡ head_text_of h ++ (journal_text h entries ++ rest))
unfolding day_text
day_begins h entries day is = (desks_text h entries ++ (books_text h is.books ++ report_text h (state h entries)), is.exactly)
