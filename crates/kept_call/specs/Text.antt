-- The text of a session, behind what is read in front of it.
use Rattle.std.specs.Prelude.{ℕ, ◌<◌, ◌⊎◌, List, ◌++◌, length, take}
use Rattle.fx_rules.specs.Session.{Header}
use Rattle.session_script.specs.Input.{input_limit}
use Rattle.session_script.specs.Script.{HasSession, HasEnd, EndsWithEnd}

-- The text of a session: behind the front it has a whole header, and an END line among the bytes that are taken at most; or fewer bytes
-- than that end with the END line. The front is empty but where a session goes on that is known: then it is the text of its header.
pub record IsSessionTextBehind (front bytes : List ℕ) : Type 0 where
  pub session : Header
  pub header : HasSession (front ++ bytes) session
  pub ended : HasEnd (front ++ take input_limit bytes) ⊎ ((length bytes < input_limit) × EndsWithEnd (front ++ bytes))
