use Rattle.std.proofs.Common.{sym, subst, ◌∙◌}
use Rattle.std.proofs.lemmas.Result.{err_from_is_err_and}
use Rattle.journal_check.specs.Reading.{IsReadOf}
use Rattle.journal_check.proofs.JudgeLemmas.{WasRead, judged_header, judged_count, judged_commands, judged_apart, judged_last}
use Rattle.journal_check.proofs.Exactly.{read_last, kept_whole}
use Rattle.journal_check.proofs.judging.judge.Goals as goal

pub returns-in_err-headed : goal.returns-in_err-headed
returns-in_err-headed c = let p = err_from_is_err_and c.from_residual.result c.from_residual.ensures.1 in rw (p.1, p.2) (judged_header c.args.text.now c.args.whole c.in_err-headed.field-0.0 c.in_err-headed.ensures.answers)

pub returns-in_err-counted : goal.returns-in_err-counted
returns-in_err-counted c =
    let p = err_from_is_err_and c.from_residual-in_err-counted.result c.from_residual-in_err-counted.ensures.1 in
    rw (p.1, p.2) (judged_count c.args.text.now c.args.whole c.in_ok-headed.headed c.in_err-counted.field-0.0 c.in_ok-headed.ensures.answers c.in_err-counted.ensures.answers)

pub returns-in_err-served : goal.returns-in_err-served
returns-in_err-served c =
    let p = err_from_is_err_and c.from_residual-in_err-served.result c.from_residual-in_err-served.ensures.1 in
    rw (p.1, p.2) (judged_commands c.args.text.now c.args.whole c.read_entries.new.kept c.in_ok-headed.headed c.in_ok-counted.counted c.in_err-served.field-0.0 c.in_ok-headed.ensures.answers c.in_ok-counted.ensures.answers c.in_err-served.ensures.run)

pub returns-in_err-end : goal.returns-in_err-end
returns-in_err-end c =
    let p = err_from_is_err_and c.from_residual-in_err-end.result c.from_residual-in_err-end.ensures.1 in
    let its = c.in_ok-served.ensures.run in
    rw (p.1, p.2) (judged_apart c.args.text.now c.args.whole c.in_ok-headed.headed c.in_ok-counted.counted its.entries c.in_err-end.field-0.0
    (record { header_is = c.in_ok-headed.ensures.answers; count_is = c.in_ok-counted.ensures.answers; commands_are = its.in_order; legal = its.has_served.run.legal })
    (c.in_err-end.ensures.compared its.entries its.has_served))

pub returns : goal.returns
returns c =
    let its = c.in_ok-served.ensures.run in
    let was : WasRead c.args.text.now c.in_ok-headed.headed c.in_ok-counted.counted its.entries = record { header_is = c.in_ok-headed.ensures.answers; count_is = c.in_ok-counted.ensures.answers; commands_are = its.in_order; legal = its.has_served.run.legal } in
    let compared = c.in_ok-end.ensures.compared its.entries its.has_served in
    record {
      is_verdict = judged_last c.args.text.now c.in_ok-headed.headed c.in_ok-counted.counted its.entries c.in_ok-end.end c.last_lines.result was compared c.last_lines.ensures;
      read = λ whole is.
          subst (λ entries. IsReadOf c.args.text.now c.in_ok-headed.headed.session entries) (sym (kept_whole _ its.entries c.read_entries.new.kept (c.new-kept.ensures.none.same ∙ whole) its.is_kept))
          (read_last c.args.text.now c.in_ok-headed.headed c.in_ok-counted.counted its.entries c.in_ok-end.end c.last_lines.result was compared c.last_lines.ensures is);
    }

pub compare_day-requires : goal.compare_day-requires
compare_day-requires c = record { served = (c.in_ok-served.ensures.run.entries, c.in_ok-served.ensures.run.has_served) }
