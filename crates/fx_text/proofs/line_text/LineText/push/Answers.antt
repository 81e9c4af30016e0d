use Rattle.std.proofs.Common.{◌∙◌, ◌+◌, ◌++◌, ◌≡◌, List, ℕ, ap, take, length, arith}
use Rattle.std.proofs.lemmas.List.{length-take}
use Rattle.std.proofs.lemmas.Slice.{take-put_mid}
use Rattle.fx_text.proofs.LineTexts.{extended_within}
use Rattle.fx_text.proofs.line_text.LineText.push.Goals as goal

pub returns : goal.returns
returns c =
    let bytes : List ℕ = c.self.inside.bytes in
    let len : ℕ = c.self.inside.len in
    let count : ℕ = c.min-count.result in
    let added : List ℕ = c.copy_from_slice.new.self in
    let size : length added ≡ count = omega (arith, ap (λ (xs : List ℕ). length xs) c.copy_from_slice.ensures.after, length-take count c.args.text.now) in
    take-put_mid len _ bytes added (len + count) (omega (arith, size)) (omega (arith, c.self.told, c.self.invariant))
    ∙ ap (λ (xs : List ℕ). take len bytes ++ xs) c.copy_from_slice.ensures.after
    ∙ extended_within 256 bytes c.args.self.now c.args.text.now len count c.self.told c.self.invariant c.self.view_is c.min-count.ensures
