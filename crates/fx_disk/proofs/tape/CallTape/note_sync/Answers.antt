use Rattle.std.proofs.Common.{refl}
use Rattle.fx_disk.specs.declared.call.Call.TheVariants.{Synced}
use Rattle.fx_disk.proofs.Moments.{reads_kept_by}
use Rattle.fx_disk.proofs.tape.CallTape.note_sync.Goals as goal

pub invariant_of-self-2 : goal.invariant_of-self-2
invariant_of-self-2 c = reads_kept_by c.self.inside.first.items c.self.inside.changed c.self.inside.calls.items _ Synced c.in_ok-push.ensures.items refl c.self.invariant
