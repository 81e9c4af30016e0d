use Rattle.std.proofs.Common.{ℕ, ◌≡◌, ◌<◌, length, get_or}
use Rattle.day_report.specs.declared.rows.Volume.{Volume}
use Rattle.day_report.specs.inside.Parts.{no_volume}
use Rattle.day_report.proofs.volumes.no_volumes.Given as goal

-- the pairs that were passed have no volume
abbrev pub invariant-loop-place : goal.invariant-loop-place
invariant-loop-place l = record {
  count : length l.volumes.items ≡ l.place;
  each : (pair : ℕ) (d : Volume) → pair < l.place → get_or l.volumes.items pair d ≡ no_volume pair;
}
