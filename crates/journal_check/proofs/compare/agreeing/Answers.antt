-- A text that starts with a piece agrees with all of it.
use Rattle.std.proofs.Common.{length, take_all, sym, ◌∙◌, arith}
use Rattle.std.proofs.lemmas.Bool.Decides.{Decides-eqb}
use Rattle.std.proofs.lemmas.Slice.Eq.{slice_eq-Decides}
use Rattle.journal_check.proofs.compare.agreeing.Goals as goal

pub returns-then-starts_with-clause-same : goal.returns-then-starts_with-clause-same
returns-then-starts_with-clause-same c =
    sym ((slice_eq-Decides Decides-eqb c.args.piece.now _ c.starts_with.result c.starts_with.ensures.value).0 c.if-starts_with.true)
    ∙ sym (take_all (length c.args.piece.now) c.args.piece.now (omega arith))
