use Rattle.std.proofs.Common.{◌≡◌, ◌∙◌, ap, sym, subst, List, ℕ, ◌++◌, ◌∷◌, []}
use Rattle.fx_text.specs.Lines.{line_of}
use Rattle.fx_text.specs.declared.line.Line.{Line}
use Rattle.fx_text.proofs.LinesLemmas.{pushed_line}
use Rattle.fx_text.proofs.FirstLines.{CutsOn, CutsOn-line}
use Rattle.fx_text.proofs.cutter.cut.Goals as goal

pub loop-behind-preserved : goal.loop-behind-preserved
loop-behind-preserved c =
    let (lines, items, cuts) = c.loop-behind.invariant in
    let behind : List ℕ = c.in-Some.behind.now in
    let same : Line = line_of c.complete.new.self in
    let line : c.in_ok-line.line ≡ same = c.in_ok-line.ensures ∙ ap line_of c.as_slice.ensures in (
      lines ++ same ∷ [],
      c.in_ok-push.ensures.items ∙ pushed_line c.args.out.now.items lines c.loop-behind.out.items c.in_ok-line.line same items line,
      subst (λ (held : List ℕ). CutsOn c.args.held c.args.piece.now held behind (lines ++ same ∷ [])) (sym c.clear.ensures)
          (CutsOn-line c.args.held c.args.piece.now c.loop-behind.held c.loop-behind.rest.now behind lines same cuts c.in-Some.ensures.line),
    )
