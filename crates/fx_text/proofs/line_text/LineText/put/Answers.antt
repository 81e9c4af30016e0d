use Rattle.std.proofs.Common.{◌≡◌, ◌∙◌, ◌+◌, ◌++◌, List, ℕ, ap, sym, take, length, arith}
use Rattle.std.proofs.lemmas.List.{length-take-le, take-take}
use Rattle.std.proofs.lemmas.Slice.{take-put_mid}
use Rattle.std.proofs.Math.Seq.{take-append-add}
use Rattle.fx_text.proofs.line_text.LineText.put.Goals as goal

pub returns-then-room-at-ge-SHORT-clause-written : goal.returns-then-room-at-ge-SHORT-clause-written
returns-then-room-at-ge-SHORT-clause-written c =
    let room : List ℕ = c.args.room.now in
    let at : ℕ = c.args.at in
    let len : ℕ = c.self.inside.len in
    let bytes : List ℕ = c.self.inside.bytes in
    let added : List ℕ = c.copy_from_slice.new.self in
    let size : length added ≡ 32 = omega (arith, ap (λ (xs : List ℕ). length xs) c.copy_from_slice.ensures.after) in
    let front : length (take at room) ≡ at = length-take-le at room (omega arith) in
    let whole = take-put_mid at _ room added (at + 32) (omega (arith, size)) (omega arith) in
    sym (take-take (at + len) (at + 32) _ (omega arith))
    ∙ ap (take (at + len)) whole
    ∙ ap (λ (n : ℕ). take (n + len) (take at room ++ added)) (sym front)
    ∙ take-append-add (take at room) added len
    ∙ ap (λ (xs : List ℕ). take at room ++ xs) (ap (take len) c.copy_from_slice.ensures.after ∙ take-take len 32 bytes (omega arith) ∙ c.self.view_is)
