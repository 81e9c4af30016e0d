-- Each turn serves one more.
use Rattle.std.proofs.Common.{◌<◌, ◌++◌, List, length, take, sym, subst, arith, append-nil, length-append}
use Rattle.std.proofs.lemmas.List.{length-take, take_all}
use Rattle.session_script.specs.Heard.{Heard, IsHeardOf}
use Rattle.client_day.specs.Days.{IsDayOf}
use Rattle.client_day.proofs.Serving.{Each-next}
use Rattle.client_day.proofs.day.ClientDay.take_all.Goals as goal

pub loop-place-init : goal.loop-place-init
loop-place-init c = record {
  taken = λ before is. subst (λ (heard : List Heard). IsDayOf c.args.session.now heard c.args.self.now) (sym (append-nil before)) is;
  valid = c.requires.valid;
}

pub take-requires : goal.take-requires
take-requires c =
    let next = c.requires.next in
    let within : c.loop-place.place < length c.args.heard.now = omega (arith, c.loop-place-test.true, c.len-place-end.ensures) in
    record {
      place = within;
      next = (
        next.0 ++ take c.loop-place.place c.args.heard.now,
        c.loop-place.invariant.taken next.0 next.1,
        omega (arith, next.2, within, length-append next.0 (take c.loop-place.place c.args.heard.now), length-take c.loop-place.place c.args.heard.now),
      );
      valid = c.loop-place.invariant.valid;
    }

pub loop-place-preserved : goal.loop-place-preserved
loop-place-preserved c =
    let within : c.loop-place.place < length c.args.heard.now = omega (arith, c.loop-place-test.true, c.len-place-end.ensures) in
    record {
      taken = λ before is. c.in_ok-take.ensures.taken before (c.loop-place.invariant.taken before is);
      valid = Each-next (IsHeardOf c.args.session.now) c.args.heard.now c.loop-place.place within c.loop-place.invariant.valid;
    }

pub returns : goal.returns
returns c = record {
  taken = λ before is.
      subst (λ (heard : List Heard). IsDayOf c.args.session.now (before ++ heard) c.loop-place.self) (take_all c.loop-place.place c.args.heard.now (omega (arith, c.loop-place-test.false, c.len-place-end.ensures))) (c.loop-place.invariant.taken before is);
}
