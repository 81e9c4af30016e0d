-- The two words of a kept session are followed over the disk, and all others without it.
use Rattle.std.proofs.Common.{◌≡◌, Option, Some, None, refl, sym, ◌∙◌}
use Rattle.kept_call.specs.Call.{DidKeep, DidRestart}
use Rattle.program_calls.specs.declared.kept.KeptTask.{KeptTask}
use Rattle.program_calls.specs.declared.kept.KeptTask.TheVariants.{Keep, Restart}
use Rattle.fx_cli.specs.KeptCall.{asked_kept}
use Rattle.program_calls.proofs.KeptLaws.{told_kept}
use Rattle.fx_cli.proofs.top.fx_top.Goals as goal

same_task : (known : Option KeptTask) (task other : KeptTask) → known ≡ Some task → known ≡ Some other → task ≡ other
same_task known task other is asked = let both : Some task ≡ Some other = sym is ∙ asked in cc

no_task : (known : Option KeptTask) (task : KeptTask) → known ≡ None → known ≡ Some task → ⊥
no_task known task none asked = let both : None ≡ Some task = sym none ∙ asked in cc

pub returns-in-Some : goal.returns-in-Some
returns-in-Some g c =
    let is : asked_kept c.args.words.now ≡ Some c.in-Some.task = sym c.kept_task.ensures ∙ c.in-Some.is in
    let now = c.follow_kept-status.new in
    record {
      answered = record {
        others = λ none. absurd (no_task (asked_kept c.args.words.now) c.in-Some.task none is);
        keep = λ asked.
            told_kept (DidKeep g.D.Disk.bytes g.D.Disk.may_leave g.D.Disk.moment g.D.Disk.left_since g.D.Disk.faults g.K.Sink.written g.K.Sink.faults g.S.Source.left g.S.Source.faults c.args.disk.now now.disk c.args.out.now now.out c.args.source.now now.source) c.follow_kept-status.result c.tell.result
            (c.follow_kept-status.ensures.keep (same_task (asked_kept c.args.words.now) c.in-Some.task Keep is asked)) c.tell.ensures.same;
        restart = λ asked.
            told_kept (DidRestart g.D.Disk.bytes g.D.Disk.may_leave g.D.Disk.moment g.D.Disk.left_since g.D.Disk.faults g.K.Sink.written g.K.Sink.faults g.S.Source.left g.S.Source.faults c.args.disk.now now.disk c.args.out.now now.out c.args.source.now now.source) c.follow_kept-status.result c.tell.result
            (c.follow_kept-status.ensures.restart (same_task (asked_kept c.args.words.now) c.in-Some.task Restart is asked)) c.tell.ensures.same;
        standard_error = c.tell.ensures.err;
      };
    }

pub returns-in-None : goal.returns-in-None
returns-in-None g c =
    let is : asked_kept c.args.words.now ≡ None = sym c.kept_task.ensures ∙ c.in-None.is in
    record {
      answered = record {
        others = λ none. (c.fx_main.ensures.answered, refl);
        keep = λ asked. absurd (no_task (asked_kept c.args.words.now) Keep is asked);
        restart = λ asked. absurd (no_task (asked_kept c.args.words.now) Restart is asked);
        standard_error = c.fx_main.ensures.answered.standard_error;
      };
    }
