use Rattle.std.proofs.Common.{◌∙◌, ◌++◌, ap, take, List, ℕ}
use Rattle.fx_text.proofs.FirstLines.{IsHeld-rest, held-rest}
use Rattle.fx_text.proofs.cutter.LineCutter.hold.Goals as goal

pub invariant_of-self : goal.invariant_of-self
invariant_of-self c = IsHeld-rest c.args.rest.now c.extend.new.self c.requires (c.extend.ensures ∙ ap (λ (held : List ℕ). take 258 (held ++ c.args.rest.now)) c.clear.ensures)

pub returns : goal.returns
returns c = c.extend.ensures ∙ ap (λ (held : List ℕ). take 258 (held ++ c.args.rest.now)) c.clear.ensures ∙ held-rest c.args.rest.now c.requires
