-- What is written of a session that is watched.
use Rattle.std.specs.Prelude.{ℕ, ◌≡◌, List, ◌++◌, Option}
use Rattle.session_script.specs.Script.{sent_in}
use Rattle.session_script.specs.declared.ends.TextEnd.{TextEnd}
use Rattle.watched_run.specs.Watched.{IsWatchText}
use Rattle.program_calls.specs.Headline.{IsHeadline}
use Rattle.program_calls.specs.TopCall.{IsOutputOf}

-- The output of one history of the input, as a run on threads has it. Behind it stands what a reader saw of that history.
pub record IsWatchedOf (end : TextEnd) (input : List ℕ) (left : Option (List ℕ)) (text : List ℕ) : Type 0 where
  pub output : List ℕ
  pub is_output : IsOutputOf IsHeadline end input left output
  pub seen : List ℕ
  pub is_seen : IsWatchText is_output.session (sent_in is_output.session input) is_output.history seen
  pub exactly : text ≡ output ++ seen
