use Rattle.std.proofs.Common.{◌∙◌, ◌++◌, List, ℕ, ap, take, arith}
use Rattle.fx_text.proofs.Formatted.{is-formatted, length-formatted}
use Rattle.fx_text.proofs.digits.put_long.Goals as goal

pub put_text-requires : goal.put_text-requires
put_text-requires c = omega (arith, length-formatted 19 c.args.value c.as_bytes.ensures.value c.format.ensures.text (omega arith) (omega arith))

pub returns-clause-written : goal.returns-clause-written
returns-clause-written c = c.put_text.ensures.written ∙ ap (λ (text : List ℕ). take c.args.at c.args.room.now ++ text) (is-formatted c.args.value c.as_bytes.ensures.value c.format.ensures.text (omega arith))

pub returns-clause-within : goal.returns-clause-within
returns-clause-within c = omega (arith, length-formatted 19 c.args.value c.as_bytes.ensures.value c.format.ensures.text (omega arith) (omega arith))
