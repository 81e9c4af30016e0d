use Rattle.std.proofs.Common.{◌∙◌, ◌++◌, ◌∷◌, [], List, ℕ, ap, sym, subst}
use Rattle.fx_text.specs.Lines.{line_seen, lines_of, IsFirstLine}
use Rattle.fx_text.specs.declared.line.Line.{Line}
use Rattle.session_script.specs.Stage.{StandsAt}
use Rattle.session_script.specs.declared.intake.stage.Stage.{Stage}
use Rattle.session_script.proofs.Feeding.{lines-all_held, held-all_held, lines-first, held-first}
use Rattle.session_script.proofs.intake.Intake.feed.Goals as goal
use Rattle.session_script.proofs.intake.Intake.feed.Goals.{in-Some+in_ok-take+in_ok-rest, in_default}

pub returns-clause-fed : goal.returns-clause-fed
returns-clause-fed c = λ text former stands.
    let piece : List ℕ = c.args.piece.now in
    let held : List ℕ = c.args.self.now.cutter in
    elim c.match-complete.branch [
      | in-Some+in_ok-take+in_ok-rest w ↦
          let behind : List ℕ = w.in-Some.behind.now in
          let line : Line = line_seen w.line.result in
          let first : IsFirstLine (held ++ piece) line behind = subst (λ (l : Line). IsFirstLine (held ++ piece) l behind) (sym w.line.ensures) w.in-Some.ensures.line in
          let taken : StandsAt w.take_all.new.self ((lines_of text ++ line ∷ []) ++ lines_of behind) former =
          w.in_ok-rest.ensures.taken (lines_of text ++ line ∷ []) former (w.in_ok-take.ensures.taken (lines_of text) former stands.stage) in
          record {
            held = ap (λ s. s.1.0) w.self-is ∙ held-first text piece held behind w.in_ok-rest.rest.now w.hold.new.self line stands.held first w.in_ok-rest.ensures.rest w.in_ok-rest.ensures.behind w.hold.ensures;
            stage = subst (λ (stage : Stage). StandsAt stage (lines_of (text ++ piece)) former) (sym (ap (λ s. s.1.1.1.0) w.self-is))
                (subst (λ (lines : List Line). StandsAt w.take_all.new.self lines former) (lines-first text piece held behind line stands.held first) taken);
          }
      | in_default w ↦ record {
        held = ap (λ s. s.1.0) w.self-is ∙ held-all_held text piece held c.complete.new.self stands.held w.in_default.ensures.line.1;
        stage = subst (λ (stage : Stage). StandsAt stage (lines_of (text ++ piece)) former) (sym (ap (λ s. s.1.1.1.0) w.self-is))
            (subst (λ (lines : List Line). StandsAt c.args.self.now.stage lines former) (lines-all_held text piece held stands.held w.in_default.ensures.line.0) stands.stage);
      }
    ]
