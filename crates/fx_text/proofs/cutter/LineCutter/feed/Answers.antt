use Rattle.std.proofs.Common.{◌∙◌, ap, sym, subst, List, ℕ, ◌++◌}
use Rattle.fx_text.specs.inside.Held.{IsHeld}
use Rattle.fx_text.specs.Lines.{lines_of, held_of}
use Rattle.fx_text.proofs.LinesLemmas.{IsHeld-held_of, lines_of-cut, held_of-cut}
use Rattle.fx_text.proofs.cutter.LineCutter.feed.Goals as goal

pub invariant_of-self : goal.invariant_of-self
invariant_of-self c = subst IsHeld (sym c.in-Ok.ensures.held) (IsHeld-held_of (c.copy.result ++ c.args.piece.now))

pub returns-in-Ok-clause-whole_lines : goal.returns-in-Ok-clause-whole_lines
returns-in-Ok-clause-whole_lines c = λ text is. lines_of-cut text c.args.piece.now ∙ ap (λ (held : List ℕ). lines_of text ++ lines_of (held ++ c.args.piece.now)) (sym is)

pub returns-in-Ok-clause-whole_held : goal.returns-in-Ok-clause-whole_held
returns-in-Ok-clause-whole_held c = λ text is. held_of-cut text c.args.piece.now ∙ ap (λ (held : List ℕ). held_of (held ++ c.args.piece.now)) (sym is)

pub returns-in-Err-clause-whole_lines : goal.returns-in-Err-clause-whole_lines
returns-in-Err-clause-whole_lines c = λ text is. lines_of-cut text c.args.piece.now ∙ ap (λ (held : List ℕ). lines_of text ++ lines_of (held ++ c.args.piece.now)) (sym is)

pub returns-in-Err-clause-whole_held : goal.returns-in-Err-clause-whole_held
returns-in-Err-clause-whole_held c = λ text is. held_of-cut text c.args.piece.now ∙ ap (λ (held : List ℕ). held_of (held ++ c.args.piece.now)) (sym is)
