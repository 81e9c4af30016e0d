use Rattle.std.proofs.Common.{◌∙◌, ap, List, ℕ, ◌++◌, arith}
use Rattle.fx_text.proofs.NumberLemmas.{number_of-numeral, decimal_wide}
use Rattle.fx_text.proofs.push.push_number.Goals as goal

pub returns-in_err-extend_from_slice-clause-read_back : goal.returns-in_err-extend_from_slice-clause-read_back
returns-in_err-extend_from_slice-clause-read_back c = λ least most low high. number_of-numeral least most c.args.value low high

pub returns-clause-read_back : goal.returns-clause-read_back
returns-clause-read_back c = λ least most low high. number_of-numeral least most c.args.value low high

pub returns-clause-ok : goal.returns-clause-ok
returns-clause-ok c = c.in_ok-extend_from_slice.ensures.items ∙ ap (λ (text : List ℕ). c.args.out.now.items ++ text) (c.as_bytes.ensures.value ∙ c.format.ensures.text ∙ decimal_wide c.args.value (omega arith))
