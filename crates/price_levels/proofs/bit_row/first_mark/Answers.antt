use Rattle.std.proofs.Common.{◌*◌, ◌+◌, ◌/◌, inl, inr, arith}
use Rattle.std.proofs.lemmas.Bool.{cases_lt}
use Rattle.price_levels.proofs.Marking.{first_behind, first_of_rest, none_in_rest}
use Rattle.price_levels.proofs.bit_row.first_mark.Goals as goal

pub returns-then-kept-ne0-clause-found : goal.returns-then-kept-ne0-clause-found
returns-then-kept-ne0-clause-found c = first_of_rest c.args.words.now c.args.from (omega (arith, c.if-first-words.false)) (omega (arith, c.type_inv.words (c.args.from / 64))) c.if-kept-ne0.true

pub returns-clause-found : goal.returns-clause-found
returns-clause-found c = first_behind c.args.words.now c.args.from c.first_in.result c.if-kept-ne0.false c.first_in.ensures.found

pub returns-clause-none : goal.returns-clause-none
returns-clause-none c = λ none at from within.
    elim (cases_lt at (64 * (c.args.from / 64 + 1))) [
      | inl early ↦ none_in_rest c.args.words.now c.args.from c.if-kept-ne0.false at from early
      | inr late ↦ c.first_in.ensures.none none at late within
    ]
