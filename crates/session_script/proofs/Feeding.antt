-- What a piece adds to a text.
use Rattle.std.proofs.Common.{◌≡◌, ◌∙◌, ◌++◌, ◌∷◌, [], List, ℕ, take, sym, ap, append_assoc, append-nil}
use Rattle.fx_text.specs.Lines.{lines_of, rest_of, held_of, IsRest, IsFirstLine}
use Rattle.fx_text.specs.declared.line.Line.{Line}
use Rattle.fx_text.proofs.LinesLemmas.{lines_of-cut, held_of-cut}

-- what is cut of what is held and of a piece is cut of the text and the piece
lines_after : (text piece held : List ℕ) → held ≡ held_of text → lines_of (text ++ piece) ≡ lines_of text ++ lines_of (held ++ piece)
lines_after text piece held is = lines_of-cut text piece ∙ ap (λ (h : List ℕ). lines_of text ++ lines_of (h ++ piece)) (sym is)

held_after : (text piece held : List ℕ) → held ≡ held_of text → held_of (text ++ piece) ≡ held_of (held ++ piece)
held_after text piece held is = held_of-cut text piece ∙ ap (λ (h : List ℕ). held_of (h ++ piece)) (sym is)

-- the piece ends no line
pub lines-all_held : (text piece held : List ℕ) → held ≡ held_of text → IsRest (held ++ piece) → lines_of text ≡ lines_of (text ++ piece)
lines-all_held text piece held is rest =
    sym (lines_after text piece held is ∙ ap (λ (more : List Line). lines_of text ++ more) rest.lines ∙ append-nil (lines_of text))

pub held-all_held : (text piece held new : List ℕ) → held ≡ held_of text → new ≡ held_of (held ++ piece) → new ≡ held_of (text ++ piece)
held-all_held text piece held new is now = now ∙ sym (held_after text piece held is)

-- the piece ends a line
pub lines-first : (text piece held behind : List ℕ) (line : Line) → held ≡ held_of text → IsFirstLine (held ++ piece) line behind
    → (lines_of text ++ line ∷ []) ++ lines_of behind ≡ lines_of (text ++ piece)
lines-first text piece held behind line is first =
    append_assoc (lines_of text) (line ∷ []) (lines_of behind)
    ∙ sym (lines_after text piece held is ∙ ap (λ (more : List Line). lines_of text ++ more) first.lines)

pub held-first : (text piece held behind rest new : List ℕ) (line : Line) → held ≡ held_of text → IsFirstLine (held ++ piece) line behind → IsRest rest → rest ≡ rest_of behind → new ≡ held_of rest
    → new ≡ held_of (text ++ piece)
held-first text piece held behind rest new line is first whole last now =
    now ∙ ap (take 258) (whole.whole ∙ last ∙ sym first.rest) ∙ sym (held_after text piece held is)
