use Rattle.std.proofs.Common.{List, ℕ, Some, ap, subst, ◌∙◌}
use Rattle.fx_disk.specs.Model.{Tape}
use Rattle.fx_disk.specs.inside.Model.{Added}
use Rattle.fx_disk.specs.declared.call.Call.TheVariants.{Synced}
use Rattle.fx_disk.proofs.Moments.{synced_reads, synced_only, synced_no_more}
use Rattle.fx_disk.proofs.steady_disk.SteadyDiskDisk.sync.Goals as goal

pub returns-clause-bytes : goal.returns-clause-bytes
returns-clause-bytes c = ap (λ (file : List ℕ). Some file) (synced_reads c.args.self.now _ (subst (λ (t : Tape). Added t Synced c.note_sync.new.self) c.self.view_is c.in_ok-note_sync.ensures.noted))

pub returns-clause-durable : goal.returns-clause-durable
returns-clause-durable c = λ file told image may. synced_only c.args.self.now _ (subst (λ (t : Tape). Added t Synced c.note_sync.new.self) c.self.view_is c.in_ok-note_sync.ensures.noted) image may ∙ cc

pub returns-clause-images : goal.returns-clause-images
returns-clause-images c = synced_no_more c.args.self.now _ (subst (λ (t : Tape). Added t Synced c.note_sync.new.self) c.self.view_is c.in_ok-note_sync.ensures.noted)
