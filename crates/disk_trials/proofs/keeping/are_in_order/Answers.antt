use Rattle.std.proofs.Common.{◌≡◌, ◌<◌, ◌∙◌, ◌+◌, ◌++◌, ◌∷◌, [], ℕ, suc, List, length, take, get_or, sym, ap, rules, arith, Bool, true, not, true≢false}
use Rattle.std.proofs.lemmas.List.{take_more}
use Rattle.std.proofs.lemmas.Slice.Eq.{bytes_eq-Decides}
use Rattle.std.specs.Str.{bytes_eq}
use Rattle.disk_trials.specs.Numbered.{body, bodies}
use Rattle.disk_trials.proofs.Counting.{bodies_more, bodies_at}
use Rattle.disk_trials.proofs.keeping.are_in_order.Goals as goal

differ : (a b : List ℕ) (they_do : Bool) → they_do ≡ not (bytes_eq a b) → they_do ≡ true → a ≡ b → ⊥
differ a b they_do is said same = true≢false (sym said ∙ is ∙ ap not ((bytes_eq-Decides a b).1 same))

-- where all bodies are in order, so is one of them
one_of_all : (dots at number : ℕ) (found : List (List ℕ)) (one : List ℕ) → at < length found → one ≡ get_or found at one → number ≡ at → found ≡ bodies dots 1 (length found)
    → one ≡ body dots (number + 1)
one_of_all dots at number found one within is numbered all =
    let same : 1 + at ≡ number + 1 = omega (arith, numbered) in
    is ∙ ap (λ (bs : List (List ℕ)). get_or bs at one) all ∙ bodies_at dots 1 (length found) at one within ∙ ap (body dots) same

pub returns-then-ne : goal.returns-then-ne
returns-then-ne c = (
  λ is. absurd (true≢false (sym is)),
  λ all. absurd (differ c.as_slice.result.now c.as_slice-in-loop-body.result.now c.ne.result c.ne.ensures c.if-ne.true
      (c.as_slice.ensures
      ∙ one_of_all c.args.dots c.loop-body.body-index c.loop-body.number c.args.found.now c.body-item.result c.loop-body-test.true c.body-item.is c.loop-body.invariant.number all
      ∙ sym (c.as_slice-in-loop-body.ensures.value ∙ c.in_ok-wanted.ensures))),
)

pub loop-body-preserved : goal.loop-body-preserved
loop-body-preserved c =
    let item : c.body-item.result ≡ body c.args.dots (c.loop-body.number + 1) = search rules in
    let number : c.loop-body.number + 1 ≡ 1 + c.loop-body.body-index = omega arith in
    let next : suc c.loop-body.body-index ≡ c.loop-body.body-index + 1 = omega arith in
    record {
      number = omega arith;
      read =
          take_more c.args.found.now c.loop-body.body-index c.body-item.result c.loop-body-test.true
          ∙ ap (λ (b : List ℕ). take c.loop-body.body-index c.args.found.now ++ b ∷ []) (sym c.body-item.is)
          ∙ ap (λ (bs : List (List ℕ)). bs ++ c.body-item.result ∷ []) c.loop-body.invariant.read
          ∙ ap (λ (b : List ℕ). bodies c.args.dots 1 c.loop-body.body-index ++ b ∷ []) (item ∙ ap (body c.args.dots) number)
          ∙ sym (bodies_more c.args.dots 1 c.loop-body.body-index)
          ∙ ap (bodies c.args.dots 1) next;
    }
