use Rattle.std.proofs.Common.{Option, [], ◌∷◌, ◌++◌, refl, sym, ◌∙◌, subst}
use Rattle.std.specs.Iterator.{Yields}
use Rattle.std.proofs.iter.Next.{Yields-more}
use Rattle.keep_disk.specs.declared.rounds.Round.{Round}
use Rattle.keep_disk.proofs.Moments.{not_err}
use Rattle.keep_disk.proofs.Telling.{kept_none, kept_stopped, kept_more, kept_cut, on_err_always}
use Rattle.keep_disk.proofs.rounds.keep_rounds.Goals as goal

pub loop-round-init : goal.loop-round-init
loop-round-init g c = record {
  kept = record {
    rounds = [];
    came = refl;
    so_far = kept_none g.D.Disk.bytes g.D.Disk.may_leave g.D.Disk.moment g.D.Disk.left_since g.K.Sink.written g.K.Sink.faults
        c.args.disk.now c.args.out.now (g.met.D.Disk.only_now c.args.disk.now) (λ file told. (c.requires file told).1);
  };
  at_rest = c.requires;
  bodies = refl;
  count = refl;
}

pub returns-in_err-round-clause-part : goal.returns-in_err-round-clause-part
returns-in_err-round-clause-part g c =
    let kept = c.loop-round.invariant.kept in
    on_err_always c.from_residual.result (record {
      rounds = kept.rounds;
      last = c.loop-round.rounds;
      came = kept.came;
      up_to = kept_stopped g.D.Disk.bytes g.D.Disk.may_leave g.D.Disk.moment g.D.Disk.left_since g.K.Sink.written g.K.Sink.faults
          c.args.disk.now c.loop-round.disk c.args.out.now c.loop-round.out kept.rounds kept.so_far;
    })

pub returns-in_err-round-clause-given : goal.returns-in_err-round-clause-given
returns-in_err-round-clause-given g c =
    let kept = c.loop-round.invariant.kept in
    on_err_always c.from_residual.result
    (kept.rounds, subst (Yields g.N.Rounds.gives c.args.rounds.now kept.rounds) (sym c.in_err-round.ensures.memory) kept.came)

pub returns-in_err-keep_round-clause-given : goal.returns-in_err-keep_round-clause-given
returns-in_err-keep_round-clause-given g c =
    let kept = c.loop-round.invariant.kept in
    on_err_always c.from_residual-in_err-keep_round.result (
      kept.rounds ++ c.in-Some.round ∷ [],
      Yields-more g.N.Rounds.gives c.args.rounds.now kept.rounds c.loop-round.rounds c.in-Some.round c.next.new.self kept.came
          (subst (λ (round : Option Round). g.N.Rounds.gives c.loop-round.rounds round c.next.new.self) c.in-Some.is c.in_ok-round.ensures.gives),
    )

pub returns-in_err-keep_round-clause-part : goal.returns-in_err-keep_round-clause-part
returns-in_err-keep_round-clause-part g c =
    let kept = c.loop-round.invariant.kept in
    on_err_always c.from_residual-in_err-keep_round.result (record {
      rounds = kept.rounds ++ c.in-Some.round ∷ [];
      last = c.next.new.self;
      came = Yields-more g.N.Rounds.gives c.args.rounds.now kept.rounds c.loop-round.rounds c.in-Some.round c.next.new.self kept.came
          (subst (λ (round : Option Round). g.N.Rounds.gives c.loop-round.rounds round c.next.new.self) c.in-Some.is c.in_ok-round.ensures.gives);
      up_to = kept_cut g.D.Disk.bytes g.D.Disk.may_leave g.D.Disk.moment g.D.Disk.left_since g.K.Sink.written g.K.Sink.faults
          c.args.disk.now c.loop-round.disk c.args.out.now c.loop-round.out kept.rounds kept.so_far
          c.keep_round.new.disk c.keep_round.new.out c.in-Some.round g.met.D.Disk.reads c.keep_round.ensures.every_moment
          g.met.D.Disk.counts_now c.in_err-keep_round.ensures.stopped;
    })

pub loop-round-preserved : goal.loop-round-preserved
loop-round-preserved g c =
    let kept = c.loop-round.invariant.kept in
    record {
      kept = record {
        rounds = kept.rounds ++ c.in-Some.round ∷ [];
        came = Yields-more g.N.Rounds.gives c.args.rounds.now kept.rounds c.loop-round.rounds c.in-Some.round c.next.new.self kept.came
            (subst (λ (round : Option Round). g.N.Rounds.gives c.loop-round.rounds round c.next.new.self) c.in-Some.is c.in_ok-round.ensures.gives);
        so_far = kept_more g.D.Disk.bytes g.D.Disk.may_leave g.D.Disk.moment g.D.Disk.left_since g.K.Sink.written g.K.Sink.faults
            c.args.disk.now c.loop-round.disk c.args.out.now c.loop-round.out kept.rounds kept.so_far
            c.keep_round.new.disk c.keep_round.new.out c.in-Some.round g.met.D.Disk.reads c.keep_round.ensures.every_moment
            c.in_ok-keep_round.ensures.tells c.in_ok-keep_round.ensures.kept c.in_ok-keep_round.ensures.told;
      };
      at_rest = c.in_ok-keep_round.ensures.at_rest;
      bodies = cc;
      count = c.keep_round.ensures.causes.disk_steady (not_err c.in_ok-keep_round.was) ∙ c.loop-round.invariant.count;
    }

pub returns-clause-all : goal.returns-clause-all
returns-clause-all g c = (c.loop-round.rounds, subst (λ (round : Option Round). g.N.Rounds.gives c.loop-round.rounds round c.next.new.self) c.in_default.is c.in_ok-round.ensures.gives, c.loop-round.invariant.kept)
