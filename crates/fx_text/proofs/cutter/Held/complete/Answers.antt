use Rattle.std.proofs.Common.{◌∙◌, ◌++◌}
use Rattle.fx_text.proofs.FirstLines.{IsHeld-part, IsHeld-rest, IsFirstLine-held, IsRest-held, held-rest}
use Rattle.fx_text.proofs.cutter.Held.complete.Goals as goal

pub returns-in-Some-clause-held : goal.returns-in-Some-clause-held
returns-in-Some-clause-held c = IsHeld-part c.args.self.now c.args.piece.now c.in-Some.part.now c.in-Some.behind.now c.extend.new.self c.requires c.in-Some.ensures c.extend.ensures

pub returns-in-Some-clause-line : goal.returns-in-Some-clause-line
returns-in-Some-clause-line c = IsFirstLine-held c.args.self.now c.args.piece.now c.extend.new.self c.in-Some.part.now c.in-Some.behind.now c.requires c.in-Some.ensures c.extend.ensures

pub returns-in-None-clause-held : goal.returns-in-None-clause-held
returns-in-None-clause-held c = IsHeld-rest (c.args.self.now ++ c.args.piece.now) c.extend-in-None.new.self (IsRest-held c.args.self.now c.args.piece.now c.requires c.in-None.ensures) c.extend-in-None.ensures

pub returns-in-None-clause-line : goal.returns-in-None-clause-line
returns-in-None-clause-line c =
    let rest = IsRest-held c.args.self.now c.args.piece.now c.requires c.in-None.ensures in
    (rest, c.extend-in-None.ensures ∙ held-rest (c.args.self.now ++ c.args.piece.now) rest)
