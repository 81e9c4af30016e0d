-- How far a session came that goes on.
use Rattle.std.proofs.Common.{ℕ, List, Err, subst, arith}
use Rattle.keep_disk.proofs.Moments.{not_err}
use Rattle.kept_history.specs.Found.{IsWhole}
use Rattle.kept_call.proofs.Faults.{causes-behind}
use Rattle.kept_call.proofs.Calls.{restart-unopened, restart-refused, restart-short, restart-served}
use Rattle.kept_call.proofs.restarting.restart.Goals as goal

pub returns-in-Err : goal.returns-in-Err
returns-in-Err g c = record {
  did =
      restart-unopened g.D.Disk.bytes g.D.Disk.may_leave g.D.Disk.moment g.D.Disk.left_since g.D.Disk.faults g.K.Sink.written g.K.Sink.faults g.S.Source.left g.S.Source.faults c.args.disk.now c.open_keeper.new.disk c.args.out.now c.args.source.now
      c.in-Err.fault c.open_keeper.result c.in-Err.is c.open_keeper.ensures.cause c.open_keeper.ensures.every_moment (Err c.from.result) c.from.ensures;
}

pub returns-in_err-session : goal.returns-in_err-session
returns-in_err-session g c = record {
  did =
      restart-refused g.D.Disk.bytes g.D.Disk.may_leave g.D.Disk.moment g.D.Disk.left_since g.D.Disk.faults g.K.Sink.written g.K.Sink.faults g.S.Source.left g.S.Source.faults c.args.disk.now c.open_keeper.new.disk c.args.out.now c.args.source.now
      c.in_err-session.field-0.0 c.open_keeper.ensures.every_moment c.in-Ok.ensures.blocks (c.open_keeper.ensures.cause.steady (not_err c.in-Ok.is))
      c.in-Ok.keeper.bodies.items c.in-Ok.ensures.bodies c.in_err-session.ensures.refused c.from_residual.result c.from_residual.ensures.1;
}

pub returns-in_err-blank : goal.returns-in_err-blank
returns-in_err-blank g c = record {
  did =
      restart-short g.D.Disk.bytes g.D.Disk.may_leave g.D.Disk.moment g.D.Disk.left_since g.D.Disk.faults g.K.Sink.written g.K.Sink.faults g.S.Source.left g.S.Source.faults c.args.disk.now c.open_keeper.new.disk c.args.out.now c.args.source.now
      c.in_err-blank.field-0.0 c.open_keeper.ensures.every_moment c.in-Ok.ensures.blocks (c.open_keeper.ensures.cause.steady (not_err c.in-Ok.is)) c.from_residual-in_err-blank.result c.from_residual-in_err-blank.ensures.1;
}

pub returns : goal.returns
returns g c =
    let d0 = c.args.disk.now in
    let d = c.open_keeper.new.disk in
    let k = c.args.out.now in
    let s = c.args.source.now in
    let steady = c.open_keeper.ensures.cause.steady (not_err c.in-Ok.is) in
    let same = c.in-Ok.ensures.blocks in
    let h = c.in_ok-session.session in
    record {
      did =
          restart-served g.D.Disk.bytes g.D.Disk.may_leave g.D.Disk.moment g.D.Disk.left_since g.D.Disk.faults g.K.Sink.written g.K.Sink.faults g.S.Source.left g.S.Source.faults g.met.D.Disk.reads d0 d c.go_on.new.disk k c.go_on.new.out s c.go_on.new.source c.open_keeper.ensures.every_moment same c.in-Ok.ensures.tells h c.go_on.result
          c.in_ok-session.kept (λ file told. subst (λ (bodies : List (List ℕ)). IsWhole bodies h c.in_ok-session.kept) (c.in-Ok.ensures.bodies file told) c.in_ok-session.ensures.whole) c.go_on.ensures.served
          (causes-behind g.D.Disk.faults g.K.Sink.faults d0 d c.go_on.new.disk k k c.go_on.new.out c.go_on.result steady (omega arith) c.go_on.ensures.causes);
    }
