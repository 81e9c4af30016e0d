use Rattle.session_script.proofs.Fronts.{AddsFront-lines}
use Rattle.session_script.proofs.script.Script.add_spelled.Goals as goal

pub returns-clause-adds : goal.returns-clause-adds
returns-clause-adds c =
    let wrote = c.write_lines.ensures.as_before in
    AddsFront-lines c.args.self.now c.write_lines.new.self c.push_spelled.new.sent.items c.args.text.now c.in_ok-rest.rest.now c.front_of.result.now c.in_ok-rest.ensures.adds
    wrote.sent wrote.session wrote.strays wrote.keeps c.if-keeps_strays.ensures c.front_of.ensures.front c.in_ok-write_lines.ensures.journal
