-- The line that is made of the fill's texts is the notice's.
use Rattle.std.proofs.Common.{◌++◌, ◌<◌, ◌∙◌, List, ℕ, ap, ap₂, sym, subst}
use Rattle.fx_rules.specs.Session.{bank_count}
use Rattle.reply_lines.specs.Fills.{AreShort}
use Rattle.reply_lines.specs.inside.Fills.{fill_line}
use Rattle.reply_lines.specs.declared.notices.FillTexts.{FillTexts}
use Rattle.reply_lines.specs.declared.notices.Party.{Party}
use Rattle.reply_lines.proofs.FillLines.{part-told, party-named}
use Rattle.reply_lines.proofs.Outputs.{on_ok}
use Rattle.reply_lines.proofs.notice_writer.NoticeWriter.fill.Goals as goal

pub push_fill-requires : goal.push_fill-requires
push_fill-requires c = record {
  other = subst (λ (party : Party). party.other < bank_count c.args.session.now) (sym c.of.ensures) (party-named c.args.part c.requires.fill);
  short = subst AreShort (sym c.self.view_is) c.requires.begun.short;
}

pub returns-clause-ok : goal.returns-clause-ok
returns-clause-ok c =
    let h = c.args.session.now in
    let line : Party → FillTexts → List ℕ = λ party texts. c.args.out.now ++ fill_line h c.args.number party texts in
    on_ok c.push_fill.result
    (λ told. told ∙ ap₂ line c.of.ensures c.self.view_is ∙ ap (λ (text : List ℕ). c.args.out.now ++ text) (part-told h c.args.part c.args.fill.now c.requires.begun c.args.number))
    c.push_fill.ensures.ok
