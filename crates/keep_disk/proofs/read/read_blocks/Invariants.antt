use Rattle.std.proofs.Common.{◌≡◌, ◌++◌, ◌-◌, ◌≤◌, length, drop}
use Rattle.keep_disk.specs.Blocks.{blocks_from, whole_blocks, space}
use Rattle.keep_disk.proofs.read.read_blocks.Given as goal

abbrev pub invariant-blocks-2 : goal.invariant-blocks-2
invariant-blocks-2 l = record {
  within : l.place ≤ length l.file;
  read : whole_blocks l.file ≡ l.bodies.items ++ blocks_from 0 (drop l.place l.file);
  behind : l.place ≡ space l.bodies.items;
}

abbrev pub decreases-blocks-2 : goal.decreases-blocks-2
decreases-blocks-2 l = length l.file - l.place
