use Rattle.std.proofs.Common.{◌∙◌, ◌++◌, ◌≡◌, ◌∷◌, [], List, ℕ, ap, length, arith}
use Rattle.std.proofs.lemmas.List.{length-take, take_more_set}
use Rattle.fx_text.proofs.LineTexts.{full_room, one_more_within}
use Rattle.fx_text.proofs.line_text.LineText.push_byte.Goals as goal

pub returns-then-self-lt-ROOM : goal.returns-then-self-lt-ROOM
returns-then-self-lt-ROOM c =
    let bytes : List ℕ = c.self.inside.bytes in
    let len : ℕ = c.self.inside.len in
    let size : length c.args.self.now ≡ len = omega (arith, ap (λ (xs : List ℕ). length xs) c.self.view_is, length-take len bytes, c.self.told, c.self.invariant) in
    take_more_set bytes len c.args.byte (omega (arith, c.self.told, c.if-self-lt-ROOM.true))
    ∙ ap (λ (xs : List ℕ). xs ++ c.args.byte ∷ []) c.self.view_is
    ∙ one_more_within 256 c.args.self.now c.args.byte (omega (arith, c.if-self-lt-ROOM.true))

pub returns-else-self-lt-ROOM : goal.returns-else-self-lt-ROOM
returns-else-self-lt-ROOM c =
    let size : length c.args.self.now ≡ c.self.inside.len = omega (arith, ap (λ (xs : List ℕ). length xs) c.self.view_is, length-take c.self.inside.len c.self.inside.bytes, c.self.told, c.self.invariant) in
    full_room 256 c.args.self.now (c.args.byte ∷ []) (omega (arith, c.if-self-lt-ROOM.false, c.self.invariant))
