-- A history's last entry is a step of the state before it. Its bank and its command determine it, and the commands determine a history.
use Rattle.std.proofs.Common.{ℕ, ◌≡◌, ◌+◌, List, [], ◌∷◌, ◌++◌, map, refl, ap, sym, subst, ◌∙◌}
use Rattle.fx_rules.specs.declared.command.Command.{Command}
use Rattle.fx_rules.specs.declared.outcome.Outcome.{Outcome}
use Rattle.fx_rules.specs.declared.outcome.Entry.{Entry}
use Rattle.fx_rules.specs.declared.command.Sent.{Sent}
use Rattle.fx_rules.specs.Session.{Header, IsSession}
use Rattle.fx_rules.specs.State.{State, opening, count_of}
use Rattle.fx_rules.specs.Step.{IsOutcome}
use Rattle.fx_rules.specs.History.{IsStep, Steps, IsLegal, after_entry, after_all, state}
use Rattle.fx_rules.specs.Sending.{sent_by}
use Rattle.fx_rules.specs.Sound.{IsSound}
use Rattle.fx_rules.proofs.Soundness.{legal-sound, after-sound, opening-sound}
use Rattle.fx_rules.proofs.Determined.{outcome-same}

-- the steps before the last, and the last
pub Steps-last : (h : Header) (S : State) (entries : List Entry) (e : Entry) → Steps h S (entries ++ e ∷ []) → Steps h S entries × IsStep h (after_all S entries) e
Steps-last h S [] e steps = (tt, steps.0)
Steps-last h S (x ∷ es) e steps =
    let rest = Steps-last h (after_entry S x) es e steps.1 in
    ((steps.0, rest.0), rest.1)

pub legal-last : (h : Header) (entries : List Entry) (e : Entry) → IsLegal h (entries ++ e ∷ []) → IsLegal h entries × IsStep h (state h entries) e
legal-last h entries e legal =
    let parts = Steps-last h (opening h) entries e legal.steps in
    (record { session = legal.session; steps = parts.0 }, parts.1)

make : ℕ → ℕ → Command → Outcome → Entry
make bank number command outcome = record { bank = bank; number = number; command = command; outcome = outcome }

make_same : (bank bank' number number' : ℕ) (command command' : Command) (outcome outcome' : Outcome) → bank ≡ bank' → number ≡ number' → command ≡ command' → outcome ≡ outcome' → make bank number command outcome ≡ make bank' number' command' outcome'
make_same bank bank' number number' command command' outcome outcome' a b c d = cc

pub entry_same : (a b : Entry) → a.bank ≡ b.bank → a.number ≡ b.number → a.command ≡ b.command → a.outcome ≡ b.outcome → a ≡ b
unfolding make
entry_same a b bank number command outcome =
    make_same a.bank b.bank a.number b.number a.command b.command a.outcome b.outcome bank number command outcome

-- two steps of one state by the same command of the same bank
pub step_same : (h : Header) (S : State) (one other : Entry) → IsSession h → IsSound h S → IsStep h S one → IsStep h S other → one.bank ≡ other.bank → one.command ≡ other.command → one ≡ other
step_same h S one other session sound a b bank command =
    let moved : IsOutcome h S one.bank one.command other.outcome =
    subst (λ (k : ℕ). IsOutcome h S k one.command other.outcome) (sym bank)
    (subst (λ (k : Command). IsOutcome h S other.bank k other.outcome) (sym command) b.outcome) in
    let number : one.number ≡ other.number = a.number ∙ ap (λ (k : ℕ). count_of S k + 1) bank ∙ sym b.number in
    entry_same one other bank number command (outcome-same h S one.bank one.command one.outcome other.outcome session sound a.command a.outcome moved)

pub next-same : (h : Header) (entries : List Entry) (one other : Entry) → IsLegal h (entries ++ one ∷ []) → IsLegal h (entries ++ other ∷ []) → one.bank ≡ other.bank → one.command ≡ other.command → one ≡ other
next-same h entries one other legal_one legal_other bank command =
    let a = legal-last h entries one legal_one in
    let b = legal-last h entries other legal_other in
    step_same h (state h entries) one other legal_one.session (legal-sound h entries a.0) a.1 b.1 bank command

-- the commands of a legal history determine it
apart : (x y : Sent) (xs ys : List Sent) → x ∷ xs ≡ y ∷ ys → (x ≡ y) × (xs ≡ ys)
apart x y xs ys same = (cc, cc)

joined : (e f : Entry) (es fs : List Entry) → e ≡ f → es ≡ fs → e ∷ es ≡ f ∷ fs
joined e f es fs head tail = cc

steps_same : (h : Header) (S : State) (es fs : List Entry) → IsSession h → IsSound h S → Steps h S es → Steps h S fs → map sent_by es ≡ map sent_by fs → es ≡ fs
steps_same h S [] [] session sound a b same = refl
steps_same h S [] (f ∷ fs) session sound a b same = absurd cc
steps_same h S (e ∷ es) [] session sound a b same = absurd cc
steps_same h S (e ∷ es) (f ∷ fs) session sound a b same =
    let parts = apart (sent_by e) (sent_by f) (map sent_by es) (map sent_by fs) same in
    let one : e ≡ f = step_same h S e f session sound a.0 b.0 (ap (λ (s : Sent). s.bank) parts.0) (ap (λ (s : Sent). s.command) parts.0) in
    let sound_next : IsSound h (after_entry S e) = after-sound h S e.bank e.command e.outcome session sound a.0.command a.0.outcome in
    joined e f es fs one
    (steps_same h (after_entry S e) es fs session sound_next a.1 (subst (λ (x : Entry). Steps h (after_entry S x) fs) (sym one) b.1) parts.1)

pub histories_agree : (h : Header) (es fs : List Entry) → IsLegal h es → IsLegal h fs → map sent_by es ≡ map sent_by fs → es ≡ fs
histories_agree h es fs a b same = steps_same h (opening h) es fs a.session (opening-sound h a.session) a.steps b.steps same
