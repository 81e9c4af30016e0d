use Rattle.fx_text.specs.Lines.{line_seen}
use Rattle.order_lines.specs.declared.spoken.Spoken.TheVariants.{Stray}
use Rattle.session_script.proofs.Fronts.{AddsFront-line, AddsFront-none}
use Rattle.session_script.proofs.script.Script.hear_strays.Goals as goal

pub loop-line-init : goal.loop-line-init
loop-line-init c = AddsFront-none c.args.self.now c.args.text.now

pub loop-line-preserved : goal.loop-line-preserved
loop-line-preserved c =
    let found = c.in-Some.ensures in
    AddsFront-line c.args.self.now c.loop-line.self c.add_stray.new.self c.args.text.now c.loop-line.rest.now c.in-Some.behind.now (line_seen c.in-Some.line) Stray
    c.loop-line.invariant found.line found.shorter (found.stray c.args.self.now.session c.banks-banks.ensures.valid) c.in_ok-add_stray.ensures.adds
