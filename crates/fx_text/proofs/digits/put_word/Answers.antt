use Rattle.std.proofs.Common.{◌∙◌, ◌+◌, ◌++◌, List, ℕ, ap, take, length, arith}
use Rattle.std.proofs.lemmas.Slice.{take-put_mid}
use Rattle.fx_text.proofs.digits.put_word.Goals as goal

pub returns-clause-written : goal.returns-clause-written
returns-clause-written g c =
    let room : List ℕ = c.args.room.now in
    let at : ℕ = c.args.at in
    let end : ℕ = at + g.row.N in
    take-put_mid at _ room c.copy_from_slice.new.self end (omega (arith, ap (λ (xs : List ℕ). length xs) c.copy_from_slice.ensures.after)) (omega arith)
    ∙ ap (λ (xs : List ℕ). take at room ++ xs) c.copy_from_slice.ensures.after
