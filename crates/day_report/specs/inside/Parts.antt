-- What private functions and proofs alone say of the sums of a day, beside `specs/Sums.antt`.
use Rattle.std.specs.Prelude.{ℕ, is_some, position, bytes_eq, if◌then◌else◌, List, [], ◌∷◌, ◌++◌}
use Rattle.fx_rules.specs.declared.orders.Fill.{Fill}
use Rattle.fx_rules.specs.Session.{Header}
use Rattle.day_report.specs.Sums.{AreVolumes, AreFlows}
use Rattle.day_report.specs.declared.rows.Volume.{Volume}
use Rattle.day_report.specs.declared.day_sums.DaySums.{DaySums}

-- the volume of a pair without fills
abbrev pub no_volume : ℕ → Volume
no_volume pair = record { pair = pair; fills = 0; lots = 0; base = 0; quote = 0 }

-- the codes, with one more where it is not among them
abbrev pub with_code : List (List ℕ) → List ℕ → List (List ℕ)
with_code codes code = if is_some (position (λ other. bytes_eq other code) codes) then codes else codes ++ code ∷ []

-- the volumes and flows are those of some fills
pub record HasFills (h : Header) (fills : List Fill) (sums : DaySums) : Type 0 where
  pub volumes_are : AreVolumes h fills sums.volumes.items
  pub flows_are : AreFlows h fills sums.flows
