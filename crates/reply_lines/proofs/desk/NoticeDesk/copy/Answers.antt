-- Behind another number stands the same.
use Rattle.std.proofs.Common.{ℕ, ◌+◌, ◌++◌, List, ap, ap₂, sym, ◌∙◌}
use Rattle.fx_amounts.specs.Numeral.{numeral}
use Rattle.reply_lines.specs.Desks.{DeskSoFar, desk_with}
use Rattle.reply_lines.proofs.NumberedLines.{notice_rest, numbered}
use Rattle.reply_lines.proofs.desk.NoticeDesk.copy.Goals as goal

pub behind_number-requires : goal.behind_number-requires
behind_number-requires c =
    let its = c.requires.line in
    record { line = (its.1, notice_rest its.0 its.2, its.3 ∙ numbered its.0 its.1 its.2) }

pub returns : goal.returns
returns c = record {
  ok = λ h number notice is.
      let behind = c.behind_number.ensures.behind number (notice_rest h notice) (is ∙ numbered h number notice) in
      ap₂ desk_with (ap (λ (desk : DeskSoFar). desk.count + 1) c.self.view_is)
      (c.in_ok-push_numbered.ensures.ok
      ∙ ap₂ (λ (lines line : List ℕ). lines ++ line) (ap (λ (desk : DeskSoFar). desk.lines) c.self.view_is)
      (ap₂ (λ (n : ℕ) (rest : List ℕ). numeral n ++ rest) c.next_number-number.ensures behind ∙ sym (numbered h (c.args.self.now.count + 1) notice)));
  memory = tt;
}
