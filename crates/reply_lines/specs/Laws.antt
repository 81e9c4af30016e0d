-- What is true of each output.
use Rattle.std.specs.Prelude.{ℕ, ◌≡◌, ◌==◌, List, ◌++◌, filter, length}
use Rattle.std.specs.List.{flat_map}
use Rattle.fx_rules.specs.Session.{Header}
use Rattle.fx_rules.specs.History.{IsLegal}
use Rattle.fx_rules.specs.declared.outcome.Entry.{Entry}
use Rattle.session_head.specs.HeadText.{head_text_of}
use Rattle.reply_lines.specs.Notices.{notice_line, notice_lines, notices}
use Rattle.reply_lines.specs.Telling.{told}
use Rattle.reply_lines.specs.Output.{IsOutput, IsRestOfOutput, journal_text, desks_text}
use Rattle.reply_lines.specs.declared.output.Ending.{Ending}

-- A legal history has an output with so many strays and an ending, and no other one.
abbrev pub OneOutput : Type 0
OneOutput =
    (h : Header) (entries : List Entry) (strays : ℕ) (ending : Ending) → IsLegal h entries →
    (one : List ℕ) × IsOutput h entries strays ending one × ((other : List ℕ) → IsOutput h entries strays ending other → one ≡ other)

-- The output of a legal history is header, journal and desks, and then what stands from the line `BOOKS` on.
abbrev pub OutputFromBooks : Type 0
OutputFromBooks =
    (h : Header) (entries : List Entry) (strays : ℕ) (ending : Ending) (text rest : List ℕ) →
    IsLegal h entries → IsOutput h entries strays ending text → IsRestOfOutput h entries strays ending rest →
    text ≡ head_text_of h ++ (journal_text h entries ++ (desks_text h entries ++ rest))

-- What one sender is told of a history's next entries is what stands on its desk behind its notices of those before: the same
-- lines in the same order, with the same numbers.
abbrev pub DesksAreTold : Type 0
DesksAreTold =
    (h : Header) (before more : List Entry) (sender : ℕ) →
    flat_map (λ t. notice_line h t.number t.notice) (filter (λ t. t.sender == sender) (told before more))
    ≡ notice_lines h (length (notices sender before)) (notices sender more)
