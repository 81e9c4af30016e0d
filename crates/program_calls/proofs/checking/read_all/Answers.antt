-- Where there is no memory for a piece, it was read all the same.
use Rattle.std.proofs.Common.{rules, ℕ, ◌≡◌, ◌+◌, ◌-◌, ◌<◌, ◌≤◌, min, List, ◌++◌, Result, Ok, Err, length, take, ap, sym, subst, arith, length-take, length-append}
use Rattle.std.specs.Prelude.{IsErrAnd}
use Rattle.std.specs.declared.alloc.Global.{Global}
use Rattle.std.specs.declared.vec.Vec.{Vec}
use Rattle.fx_amounts.specs.OutOfMemory.{refused}
use Rattle.fx_edges.proofs.Reading.{Took-append}
use Rattle.program_calls.specs.Check.{output_limit, HasTaken}
use Rattle.program_calls.specs.declared.checking.Halt.{Halt}
use Rattle.program_calls.specs.declared.checking.Halt.TheVariants.{Memory}
use Rattle.program_calls.proofs.checking.read_all.Goals as goal

-- a piece that was read fits into what may still be taken
fits : (into before : List ℕ) (count room taken : ℕ) → count ≡ length (take count into) → count ≤ length into → length into ≡ length (take room before) → room ≡ min 65536 (output_limit - taken) → taken < output_limit
    → taken + length (take count into) ≤ output_limit
fits into before count room taken whole within same asked below = omega (arith, length-take room before)

memory_halt : (result : Result (Vec ℕ Global) Halt) → IsErrAnd result (λ halt. halt ≡ Memory refused) → result ≡ Err (Memory refused)
memory_halt (Ok bytes) is = absurd is
memory_halt (Err halt) is = ap Err is

pub returns-in_err-map_err : goal.returns-in_err-map_err
returns-in_err-map_err g c =
    let bytes = c.loop-piece.bytes.items in
    let piece = take c.in-Ok.count c.read.new.into in
    let within : length bytes + length piece ≤ output_limit =
    fits c.read.new.into c.loop-piece.piece c.in-Ok.count c.min-room.result (length bytes) c.in-Ok.ensures.room.1 c.in-Ok.ensures.room.0 c.read.auto.into (search rules) (search rules) in
    record {
      taken = subst (λ (result : Result (Vec ℕ Global) Halt). HasTaken g.S.Source.left g.S.Source.faults c.args.source.now c.read.new.self result)
          (sym (memory_halt c.from_residual.result c.from_residual.ensures.1))
          (record {
            bytes = bytes ++ piece;
            took = Took-append c.loop-piece.invariant.took c.in-Ok.ensures.ok;
            within = omega (arith, within, length-append bytes piece);
            ended = tt;
            cause = λ is. absurd cc;
          });
    }
