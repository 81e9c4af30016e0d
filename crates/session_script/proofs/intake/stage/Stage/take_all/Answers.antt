use Rattle.std.proofs.Common.{◌∙◌}
use Rattle.fx_text.specs.Lines.{line_seen, lines_of}
use Rattle.session_script.proofs.Fronts.{lines_go_on, StandsAt-goes_on}
use Rattle.session_script.proofs.intake.stage.Stage.take_all.Goals as goal

pub loop-line-init : goal.loop-line-init
loop-line-init c =
    let front = c.in_ok-rest.ensures.taken in
    record {
      taken = λ lines former at. (front.done, front.lines, front.stands lines former at);
      behind = front.behind;
      readable = c.in_ok-rest.ensures.readable;
      session = c.in_ok-rest.ensures.session;
    }

pub loop-line-preserved : goal.loop-line-preserved
loop-line-preserved c =
    let front = c.in_ok-rest-2.ensures.taken in
    let first = c.in-Some.ensures.line in
    record {
      taken = λ lines former at.
          let (done, is, stands) = c.loop-line.invariant.taken lines former at in (
            _,
            lines_go_on (lines_of c.args.text.now) done front.done (lines_of c.in_ok-rest-2.rest.now) (lines_of c.loop-line.rest.now) (lines_of c.in-Some.behind.now) (line_seen c.in-Some.line) is first.lines front.lines,
            StandsAt-goes_on _ lines done front.done (line_seen c.in-Some.line) former (front.stands _ former (c.in_ok-take.ensures.taken _ former stands)),
          );
      behind = c.loop-line.invariant.behind ∙ first.rest ∙ front.behind;
      readable = c.in_ok-rest-2.ensures.readable;
      session = λ h is. c.in_ok-rest-2.ensures.session h (c.in_ok-take.ensures.session h (c.loop-line.invariant.session h is));
    }
