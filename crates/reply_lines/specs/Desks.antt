-- Each sender's desk, as it is gathered in one walk over a history.
use Rattle.std.specs.Prelude.{ℕ, ◌≡◌, ◌<◌, ◌+◌, List, [], ◌∷◌, ◌++◌, length, slice_index_or}
use Rattle.fx_rules.specs.declared.outcome.Entry.{Entry}
use Rattle.fx_rules.specs.Session.{Header, sender_places}
use Rattle.reply_lines.specs.Notices.{Notice, notice_line, notice_lines, notices}

-- how many notices a desk has so far, and their lines
pub record DeskSoFar : Type 0 where
  pub count : ℕ
  pub lines : List ℕ

abbrev pub desk_with : ℕ → List ℕ → DeskSoFar
desk_with count lines = record { count = count; lines = lines }

-- a desk without a notice
abbrev pub nothing_yet : DeskSoFar
nothing_yet = desk_with 0 []

-- a desk with one notice more, numbered behind those before it
abbrev pub with_notice : Header → DeskSoFar → Notice → DeskSoFar
with_notice h desk notice = desk_with (desk.count + 1) (desk.lines ++ notice_line h (desk.count + 1) notice)

-- a desk with some notices more, in order
abbrev pub with_notices : Header → DeskSoFar → List Notice → DeskSoFar
with_notices h desk [] = desk
with_notices h desk (notice ∷ more) = with_notices h (with_notice h desk notice) more

-- each sender's desk got some more notices
pub record HaveGot (h : Header) (more : ℕ → List Notice) (before after : List DeskSoFar) : Type 0 where
  pub count : length after ≡ length before
  pub each : (sender : ℕ) → sender < length before →
      slice_index_or after sender nothing_yet ≡ with_notices h (slice_index_or before sender nothing_yet) (more sender)

-- each sender's desk has its notices of a history, and stands at its number
pub record AreDesksOf (h : Header) (entries : List Entry) (desks : List DeskSoFar) : Type 0 where
  pub places : length desks ≡ sender_places h
  pub each : (sender : ℕ) → sender < sender_places h →
      slice_index_or desks sender nothing_yet ≡ desk_with (length (notices sender entries)) (notice_lines h 0 (notices sender entries))
