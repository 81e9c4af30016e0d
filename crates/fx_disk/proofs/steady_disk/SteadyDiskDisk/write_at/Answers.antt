use Rattle.std.proofs.Common.{List, ℕ, Some, ap, refl, subst}
use Rattle.fx_disk.specs.Model.{Tape}
use Rattle.fx_disk.specs.inside.Model.{AddedWrite}
use Rattle.fx_disk.proofs.Moments.{written_reads, written_torn_by}
use Rattle.fx_disk.proofs.steady_disk.SteadyDiskDisk.write_at.Goals as goal

pub returns-clause-bytes : goal.returns-clause-bytes
returns-clause-bytes c = ap (λ (file : List ℕ). Some file) (written_reads c.args.self.now _ _ _ (subst (λ (t : Tape). AddedWrite t c.args.at c.args.piece.now c.write.new.self) c.self.view_is c.in_ok-write.ensures.wrote))

pub returns-clause-images : goal.returns-clause-images
returns-clause-images c = written_torn_by c.args.self.now _ _ _ (subst (λ (t : Tape). AddedWrite t c.args.at c.args.piece.now c.write.new.self) c.self.view_is c.in_ok-write.ensures.wrote) (c.requires _ refl)
