use Rattle.std.proofs.Common.{◌∙◌, ◌+◌, ◌++◌, List, ℕ, ap, take, length, arith}
use Rattle.std.proofs.lemmas.Slice.{take-put_mid}
use Rattle.fx_text.proofs.LineTexts.{put_within}
use Rattle.fx_text.proofs.line_text.LineText.push_word.Goals as goal

pub returns-then-self : goal.returns-then-self
returns-then-self g c =
    let bytes : List ℕ = c.self.inside.bytes in
    let len : ℕ = c.self.inside.len in
    let end : ℕ = len + g.row.N in
    put_within 256 bytes _ c.args.self.now c.args.word.now len end c.self.view_is
    (take-put_mid len _ bytes c.copy_from_slice.new.self end (omega (arith, ap (λ (xs : List ℕ). length xs) c.copy_from_slice.ensures.after)) (omega (arith, c.self.told, c.self.invariant))
    ∙ ap (λ (xs : List ℕ). take len bytes ++ xs) c.copy_from_slice.ensures.after)
    (omega (arith, c.self.invariant))
