-- The header of some lines, read one after another.
use Rattle.std.proofs.Common.{◌≡◌, List, [], ◌∷◌, ◌++◌, refl, sym, ap, ◌∙◌}
use Rattle.fx_text.specs.declared.line.Line.{Line}
use Rattle.session_head.specs.Head.{Head, Begun, with_line, with_lines, read_head}

pub with_lines-append : (head : Head) (lines more : List Line) → with_lines head (lines ++ more) ≡ with_lines (with_lines head lines) more
with_lines-append head [] more = refl
with_lines-append head (line ∷ lines) more = with_lines-append (with_line head line) lines more

-- one line more
pub read_head-push : (lines : List Line) (line : Line) (head : Head) → head ≡ read_head lines → with_line head line ≡ read_head (lines ++ line ∷ [])
read_head-push lines line head is = ap (λ (h : Head). with_line h line) is ∙ sym (with_lines-append (Begun 0) lines (line ∷ []))
