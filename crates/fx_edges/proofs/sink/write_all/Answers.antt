use Rattle.std.proofs.Common.{◌≡◌, ℕ, ◌+◌, ◌-◌, List, ◌++◌, length, take, drop, arith, ap, ◌∙◌, sym, length-take, length-drop, take-append-drop}
use Rattle.std.proofs.Math.Seq.{take-add}
use Rattle.std.proofs.lemmas.List.{take_rest}
use Rattle.fx_edges.specs.Writing.{IsPrefixOf}
use Rattle.fx_edges.proofs.Writing.{Appended-append, CutShort-stopped, Wrote-stopped}
use Rattle.fx_edges.proofs.sink.write_all.Goals as goal

-- the bytes up to the next place: those so far, and what a write took of the rest
next : (xs : List ℕ) (at count : ℕ) → take (at + count) xs ≡ take at xs ++ take count (take (length xs - at) (drop at xs))
next xs at count = take-add at count xs ∙ ap (λ ys. take at xs ++ take count ys) (sym (take_rest xs at))

pub loop-at-preserved : goal.loop-at-preserved
loop-at-preserved g c = record {
  within = omega (arith, length-take {A = ℕ}, length-drop {A = ℕ}, c.in-Ok.ensures.most);
  so_far = rw (next c.args.piece.now c.loop-at.at c.in-Ok.count) (Appended-append c.loop-at.invariant.so_far c.in-Ok.ensures.ok);
}

-- what is written so far begins the piece
begun : (xs : List ℕ) (at : ℕ) → IsPrefixOf (take at xs) xs
begun xs at = record { rest = drop at xs; joined = sym (take-append-drop at xs) }

pub returns-in-Err : goal.returns-in-Err
returns-in-Err g c = record {
  wrote = Wrote-stopped c.loop-at.invariant.so_far (begun c.args.piece.now c.loop-at.at) c.in-Err.ensures.fault c.in-Err.ensures.count c.in-Err.ensures.cause;
  cut = CutShort-stopped c.loop-at.invariant.so_far (begun c.args.piece.now c.loop-at.at) (omega (arith, length-take {A = ℕ})) c.in-Err.ensures.fault c.in-Err.ensures.count;
}
