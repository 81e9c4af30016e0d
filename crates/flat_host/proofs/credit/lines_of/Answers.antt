-- 65 lines in their range have a sum in range.
use Rattle.std.proofs.Common.{ℕ, zero, suc, ◌≡◌, ◌<◌, ◌≤◌, ◌^◌, List, inl, inr, arith, sym, ap, ◌∙◌, get_or, get_or-set_same, get_or-set_other, length, replicate}
use Rattle.std.proofs.Math.ListN.{set, length-set}
use Rattle.std.proofs.lemmas.Bool.{cases_eq, false≢true}
use Rattle.std.proofs.lemmas.List.{length-replicate}
use Rattle.flat_host.proofs.Counting.{total-most}
use Rattle.flat_host.specs.FlatState.{line_in}
use Rattle.flat_host.proofs.credit.lines_of.Goals as goal
use Rattle.flat_host.proofs.credit.lines_of.Goals.{in-Some, in_default}

zeros_small : (n k : ℕ) → get_or (replicate n 0) k 0 ≤ 10 ^ 15
zeros_small zero k = omega arith
zeros_small (suc n) zero = omega arith
zeros_small (suc n) (suc k) = zeros_small n k

pub loop-place-init : goal.loop-place-init
loop-place-init c = record {
  lines = λ other below. absurd (omega arith);
  small = zeros_small 65;
  full = length-replicate {A = ℕ} 65 0;
}

-- a line is written at its bank's place
line_set : (lines lines' : List ℕ) (place other line : ℕ) → lines' ≡ set lines place line → place < length lines → other ≡ place → get_or lines' other 0 ≡ line
line_set lines lines' place other line is within same =
    ap (λ (ls : List ℕ). get_or ls other 0) is ∙ ap (λ p. get_or (set lines place line) p 0) same ∙ get_or-set_same lines place line 0 within

line_left : (lines lines' : List ℕ) (place other line : ℕ) → lines' ≡ set lines place line → (other ≡ place → ⊥) → get_or lines' other 0 ≡ get_or lines other 0
line_left lines lines' place other line is apart =
    ap (λ (ls : List ℕ). get_or ls other 0) is ∙ get_or-set_other lines place other line 0 apart

pub loop-place-preserved : goal.loop-place-preserved
loop-place-preserved c =
    let lines : List ℕ = c.loop-place.lines in
    let place : ℕ = c.loop-place.place in
    let within : place < length lines = omega (arith, c.loop-place.invariant.full, c.loop-place-test.true) in
    elim c.match-new.branch [
      | in-Some w ↦ record {
        lines = λ other below. elim (cases_eq other place) [
          | inl same ↦ line_set lines c.match-new.lines place other w.line.result w.lines-is within same
              ∙ w.line.ensures.value ∙ ap (line_in c.args.credit.now c.args.bank) (w.in-Some.ensures.value ∙ sym same)
          | inr apart ↦ line_left lines c.match-new.lines place other w.line.result w.lines-is apart ∙ c.loop-place.invariant.lines other (omega (arith, below, apart))
        ];
        small = λ other. elim (cases_eq other place) [
          | inl same ↦ omega (arith, line_set lines c.match-new.lines place other w.line.result w.lines-is within same, w.line.ensures.most)
          | inr apart ↦ omega (arith, line_left lines c.match-new.lines place other w.line.result w.lines-is apart, c.loop-place.invariant.small other)
        ];
        full = ap length w.lines-is ∙ length-set lines place w.line.result ∙ c.loop-place.invariant.full;
      }
      | in_default w ↦ absurd (false≢true (w.in_default.ensures.valid.1 c.loop-place-test.true))
    ]

pub returns-clause-most : goal.returns-clause-most
returns-clause-most c =
    omega (arith, total-most c.loop-place.lines (10 ^ 15) c.loop-place.invariant.small, c.loop-place.invariant.full)
