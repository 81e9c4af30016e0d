use Rattle.std.proofs.Common.{◌≡◌, ◌∙◌, ◌-◌, ◌≤◌, length, sym, arith, rules}
use Rattle.std.proofs.lemmas.Grind.{common_steps}
use Rattle.keep_disk.proofs.Moments.{fill_within, fill_more, fill_length, Untouched-call, not_err}
use Rattle.keep_disk.proofs.read.fill.Goals as goal

pub loop-at-preserved : goal.loop-at-preserved
loop-at-preserved g c =
    let long : length c.read_at.new.into ≡ length c.loop-at.into - c.loop-at.at = first_of (search rules, grind (arith, common_steps)) in
    let room : c.in-Ok.count ≤ length c.read_at.new.into = omega (arith, c.in-Ok.ensures.room, c.read_at.auto.into) in
    let within = c.loop-at.invariant.within in
    record {
      within = fill_within c.loop-at.at c.in-Ok.count c.loop-at.into c.read_at.new.into _ within room;
      untouched = Untouched-call g.D.Disk.bytes g.D.Disk.may_leave g.D.Disk.moment g.D.Disk.left_since g.D.Disk.faults
          c.args.disk.now c.loop-at.disk c.read_at.new.self c.read_at.result c.loop-at.invariant.untouched c.read_at.ensures.called c.read_at.ensures.images c.in-Ok.ensures.bytes (not_err c.in-Ok.is);
      read = λ file told same. fill_more c.loop-at.at c.in-Ok.count c.loop-at.into c.read_at.new.into _ file within room
          (c.loop-at.invariant.read file told (sym (fill_length c.loop-at.at c.loop-at.into c.read_at.new.into within long) ∙ same))
          (c.in-Ok.ensures.gives file (c.loop-at.invariant.untouched.same ∙ told));
    }
