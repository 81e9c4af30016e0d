-- What is found in the blocks of a kept journal.
use Rattle.std.specs.Prelude.{ℕ, ◌≡◌, ◌≤◌, ◌<◌, ◌^◌, List, length, map, Ok, Err}
use Rattle.fx_rules.specs.Session.{Header}
use Rattle.fx_rules.specs.History.{IsLegal}
use Rattle.fx_rules.specs.Sending.{sent_by}
use Rattle.fx_rules.specs.declared.outcome.Entry.{Entry}
use Rattle.kept_history.specs.Blocks.{Listed, kept_in}
use Rattle.kept_history.specs.declared.found.Found.{Found}
use Rattle.kept_history.specs.declared.found.Found.TheVariants.{Whole, Damaged, Full}

-- the most commands of a journal that a session goes on from
abbrev pub most_commands : ℕ
most_commands = 2 ^ 24

-- The blocks hold a session's header and the commands of a legal history, which is the only one with them.
pub record IsWhole (bodies : List (List ℕ)) (h : Header) (entries : List Entry) : Type 0 where
  pub legal : IsLegal h entries
  pub holds : kept_in bodies ≡ Ok (record { session = h; commands = map sent_by entries })
  pub few : length entries ≤ most_commands
  pub only : (others : List Entry) → IsLegal h others → map sent_by others ≡ map sent_by entries → others ≡ entries

-- No block is damaged, and they hold so many commands, which are too many.
pub record IsFull (bodies : List (List ℕ)) (commands : ℕ) : Type 0 where
  pub kept : Listed
  pub holds : kept_in bodies ≡ Ok kept
  pub told : commands ≡ length kept.commands
  pub many : most_commands < commands

-- the answer on blocks. What they hold is one thing, so no other answer is right
abbrev pub IsFound : List (List ℕ) → Found → Type 0
IsFound bodies (Whole session entries) = IsWhole bodies session entries
IsFound bodies (Damaged block) = kept_in bodies ≡ Err block
IsFound bodies (Full commands) = IsFull bodies commands
