-- Along every legal history the lines hold and nothing rests crossed.
use Rattle.std.proofs.Common.{ℕ, zero, suc, ◌≡◌, List, [], ◌∷◌, take, subst}
use Rattle.std.specs.Prelude.{Some, None}
use Rattle.std.specs.List.{slice_get}
use Rattle.fx_rules.specs.declared.outcome.Entry.{Entry}
use Rattle.fx_rules.specs.Session.{Header}
use Rattle.fx_rules.specs.State.{State, opening}
use Rattle.fx_rules.specs.History.{IsStep, Steps, IsLegal, after_entry, after_all}
use Rattle.fx_rules.proofs.Soundness.{legal-sound}
use Rattle.fx_rules.proofs.Falling.{lines-fall}
use Rattle.fx_rules.proofs.Uncrossed.{legal-uncrossed}
use Rattle.fx_chronicle.specs.Along.{state_before, IsOrderly}

Steps-take : (h : Header) (S : State) (entries : List Entry) (n : ℕ) → Steps h S entries → Steps h S (take n entries)
Steps-take h S entries zero steps = tt
Steps-take h S [] (suc n) steps = tt
Steps-take h S (e ∷ es) (suc n) steps = (steps.0, Steps-take h (after_entry S e) es n steps.1)

-- the entries before a place of a legal history are one
pub IsLegal-take : (h : Header) (entries : List Entry) (n : ℕ) → IsLegal h entries → IsLegal h (take n entries)
IsLegal-take h entries n legal = record { session = legal.session; steps = Steps-take h (opening h) entries n legal.steps }

some_entry : (a b : Entry) → Some a ≡ Some b → a ≡ b
some_entry a b e = cc

no_entry : (e : Entry) → None ≡ Some e → ⊥
no_entry e is = cc

-- each entry of a legal history is a step in the state before it
step_at : (h : Header) (S : State) (entries : List Entry) (place : ℕ) (e : Entry) → Steps h S entries → slice_get entries place ≡ Some e → IsStep h (after_all S (take place entries)) e
step_at h S [] place e steps is = absurd (no_entry e is)
step_at h S (x ∷ es) zero e steps is = subst (IsStep h S) (some_entry x e is) steps.0
step_at h S (x ∷ es) (suc place) e steps is = step_at h (after_entry S x) es place e steps.1 is

pub legal-orderly : (h : Header) (entries : List Entry) → IsLegal h entries → IsOrderly h entries
legal-orderly h entries legal = record {
  no_line_exceeded = λ place. (legal-sound h (take place entries) (IsLegal-take h entries place legal)).within;
  lines_fall = λ place e is.
      let before = legal-sound h (take place entries) (IsLegal-take h entries place legal) in
      lines-fall h (state_before h entries place) e legal.session before (step_at h (opening h) entries place e legal.steps is);
  no_orders_crossed = λ place. legal-uncrossed h (take place entries) (IsLegal-take h entries place legal);
}
