use Rattle.std.proofs.Common.{length}
use Rattle.keep_disk.proofs.Moments.{torn_call}
use Rattle.keep_disk.proofs.write.write.Goals as goal

pub returns-clause-every_moment : goal.returns-clause-every_moment
returns-clause-every_moment g c =
    torn_call g.D.Disk.bytes g.D.Disk.may_leave g.D.Disk.moment g.D.Disk.left_since g.D.Disk.faults g.met.D.Disk.only_now
    c.args.at (length c.args.piece.now) c.args.disk.now c.write_at.new.self c.write_at.result c.write_at.ensures.called c.write_at.ensures.images
