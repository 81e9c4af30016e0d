-- How far a new session came.
use Rattle.std.proofs.Common.{rules, ℕ, ◌≡◌, ◌<◌, ◌≤◌, List, [], Err, length, sym, ◌∙◌, subst, arith}
use Rattle.keep_disk.proofs.Moments.{not_err}
use Rattle.kept_call.proofs.Faults.{causes-behind}
use Rattle.kept_call.proofs.Calls.{none_of, keep-unopened, keep-kept, keep-stopped, keep-served}
use Rattle.kept_call.proofs.keeping.keep.Goals as goal

pub returns-in-Err : goal.returns-in-Err
returns-in-Err g c = record {
  did =
      keep-unopened g.D.Disk.bytes g.D.Disk.may_leave g.D.Disk.moment g.D.Disk.left_since g.D.Disk.faults g.K.Sink.written g.K.Sink.faults g.S.Source.left g.S.Source.faults c.args.disk.now c.open_keeper.new.disk c.args.out.now c.args.source.now
      c.in-Err.fault c.open_keeper.result c.in-Err.is c.open_keeper.ensures.cause c.open_keeper.ensures.every_moment (Err c.from.result) c.from.ensures;
}

pub returns-then-not-is_empty : goal.returns-then-not-is_empty
returns-then-not-is_empty g c =
    let d0 = c.args.disk.now in
    let d = c.open_keeper.new.disk in
    let k = c.args.out.now in
    let s = c.args.source.now in
    let steady = c.open_keeper.ensures.cause.steady (not_err c.in-Ok.is) in
    let same = c.in-Ok.ensures.blocks in
    let some : 0 < length c.in-Ok.keeper.bodies.items = search (rules, arith) in
    record {
      did =
          keep-kept g.D.Disk.bytes g.D.Disk.may_leave g.D.Disk.moment g.D.Disk.left_since g.D.Disk.faults g.K.Sink.written g.K.Sink.faults g.S.Source.left g.S.Source.faults d0 d k s c.open_keeper.ensures.every_moment same
          (λ file told. subst (λ (bodies : List (List ℕ)). 0 < length bodies) (c.in-Ok.ensures.bodies file told) some) steady;
    }

pub returns-in_err-reading : goal.returns-in_err-reading
returns-in_err-reading g c =
    let none : c.in-Ok.keeper.bodies.items ≡ [] = none_of c.in-Ok.keeper.bodies.items (search (rules, arith)) in
    record {
      did =
          keep-stopped g.D.Disk.bytes g.D.Disk.may_leave g.D.Disk.moment g.D.Disk.left_since g.D.Disk.faults g.K.Sink.written g.K.Sink.faults g.S.Source.left g.S.Source.faults c.args.disk.now c.open_keeper.new.disk c.args.out.now c.args.source.now c.begin.new.source
          c.in_err-reading.field-0.0 c.open_keeper.ensures.every_moment c.in-Ok.ensures.blocks (λ file told. sym (c.in-Ok.ensures.bodies file told) ∙ none)
          (c.open_keeper.ensures.cause.steady (not_err c.in-Ok.is)) c.in_err-reading.ensures.begun c.from_residual.result c.from_residual.ensures.1;
    }

pub returns : goal.returns
returns g c =
    let d0 = c.args.disk.now in
    let d = c.open_keeper.new.disk in
    let k = c.args.out.now in
    let s = c.args.source.now in
    let steady = c.open_keeper.ensures.cause.steady (not_err c.in-Ok.is) in
    let same = c.in-Ok.ensures.blocks in
    let short : length c.in-Ok.keeper.bodies.items ≤ 0 = search (rules, arith) in
    let none : c.in-Ok.keeper.bodies.items ≡ [] = none_of c.in-Ok.keeper.bodies.items short in
    let begun = c.in_ok-reading.ensures.begun in
    record {
      did =
          keep-served g.D.Disk.bytes g.D.Disk.may_leave g.D.Disk.moment g.D.Disk.left_since g.D.Disk.faults g.K.Sink.written g.K.Sink.faults g.S.Source.left g.S.Source.faults g.met.D.Disk.reads d0 d c.keep_text.new.disk k c.keep_text.new.out s c.keep_text.new.source c.open_keeper.ensures.every_moment same c.in-Ok.ensures.tells begun.0 c.keep_text.result
          (λ file told. sym (c.in-Ok.ensures.bodies file told) ∙ none) (c.keep_text.ensures.served s begun.0 begun.1)
          (causes-behind g.D.Disk.faults g.K.Sink.faults d0 d c.keep_text.new.disk k k c.keep_text.new.out c.keep_text.result steady (omega arith) c.keep_text.ensures.causes);
    }
