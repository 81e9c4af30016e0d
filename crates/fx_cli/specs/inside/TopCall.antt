-- What private functions and proofs alone say of it, beside `specs/TopCall.antt`.
use Rattle.std.specs.Prelude.{◌≡◌, [], ◌∷◌}
use Rattle.fx_amounts.specs.OutOfMemory.{refused}
use Rattle.fx_rules.specs.Lists.{Among}
use Rattle.program_calls.specs.declared.status.Status.{Status}
use Rattle.program_calls.specs.declared.status.Status.TheVariants.{Usage, Memory}

-- the words were refused, or memory for reading them was refused: nothing was read or written
pub record Refused {S K : Type 0} (source source' : S) (out out' : K) (status : Status) : Type 0 where
  pub usage : Among status (Usage ∷ Memory refused ∷ [])
  pub unread : source' ≡ source
  pub unwritten : out' ≡ out
