-- A pair's book stays as it is through entries that do not touch the pair's key.
use Rattle.std.proofs.Common.{ℕ, ◌≡◌, ◌==◌, ◌||◌, nat_le, Bool, true, false, true≢false, List, [], ◌∷◌, ◌++◌, refl, ap, sym, subst, ◌∙◌, eq-eqb, ne_eqb, arith}
use Rattle.std.proofs.lemmas.Bool.{le-leb}
use Rattle.fx_rules.specs.declared.command.Command.{Command}
use Rattle.fx_rules.specs.declared.command.Command.TheVariants.{Order, Cancel, Reduce, Pull, Line, Total, Settle, Show, Book, Bad}
use Rattle.fx_rules.specs.declared.outcome.Entry.{Entry}
use Rattle.fx_rules.specs.Lists.{Each}
use Rattle.fx_rules.specs.Session.{Header, IsSession}
use Rattle.fx_rules.specs.State.{State, opening, orders_in}
use Rattle.fx_rules.specs.Step.{may_change}
use Rattle.fx_rules.specs.History.{Steps, IsLegal, after_entry, after_all, state}
use Rattle.fx_rules.specs.Keyed.{pair_key, is_about, touches_key}
use Rattle.fx_rules.specs.Sound.{IsSound}
use Rattle.fx_rules.proofs.Soundness.{after-sound, legal-sound}
use Rattle.fx_rules.proofs.Staying.{other_pairs-stay}
use Rattle.fx_chronicle.specs.Touching.{Untouched}

-- ---- an entry that does not touch a pair's key changes nothing in it

later_false : (a b : Bool) → (a || b) ≡ false → b ≡ false
later_false true b is = absurd (true≢false is)
later_false false b is = is

same_pair : (pair its : ℕ) → (pair_key pair == pair_key its) ≡ false → (its == pair) ≡ false
same_pair pair its is = ne_eqb its pair (λ same. true≢false (sym (eq-eqb (pair_key pair) (pair_key its) (ap pair_key (sym same))) ∙ is))

each_pair : (pair : ℕ) → nat_le (pair_key 0) (pair_key pair) ≡ true
each_pair pair = le-leb (pair_key 0) (pair_key pair) (omega arith)

not_changed : (command : Command) (pair : ℕ) → is_about command (pair_key pair) ≡ false → may_change pair command ≡ false
not_changed (Order side its price lots life) pair is = same_pair pair its is
not_changed (Cancel its number) pair is = same_pair pair its is
not_changed (Reduce its number lots) pair is = same_pair pair its is
not_changed (Pull its) pair is = same_pair pair its is
not_changed (Line bank limit) pair is = absurd (true≢false (sym (each_pair pair) ∙ is))
not_changed (Total limit) pair is = absurd (true≢false (sym (each_pair pair) ∙ is))
not_changed (Settle a b units) pair is = absurd (true≢false (sym (each_pair pair) ∙ is))
not_changed (Show bank) pair is = refl
not_changed (Book its) pair is = refl
not_changed (Bad reason) pair is = refl

-- ---- nor do several

stays : (h : Header) (pair : ℕ) (S : State) (rest : List Entry) → IsSession h → IsSound h S → Steps h S rest → Each (λ (e : Entry). touches_key e (pair_key pair) ≡ false) rest → orders_in pair (after_all S rest).orders ≡ orders_in pair S.orders
stays h pair S [] session sound steps free = refl
stays h pair S (e ∷ es) session sound steps free =
    let step = steps.0 in
    stays h pair (after_entry S e) es session (after-sound h S e.bank e.command e.outcome session sound step.command step.outcome) steps.1 free.1
    ∙ other_pairs-stay h S e pair session sound step (not_changed e.command pair (later_false (pair_key pair == e.bank) (is_about e.command (pair_key pair)) free.0))

Steps-behind : (h : Header) (S : State) (met rest : List Entry) → Steps h S (met ++ rest) → Steps h (after_all S met) rest
Steps-behind h S [] rest steps = steps
Steps-behind h S (e ∷ es) rest steps = Steps-behind h (after_entry S e) es rest steps.1

after_all-append : (S : State) (met rest : List Entry) → after_all S (met ++ rest) ≡ after_all (after_all S met) rest
after_all-append S [] rest = refl
after_all-append S (e ∷ es) rest = after_all-append (after_entry S e) es rest

-- the pair has the orders that it had where its front had met the history
pub untouched-orders : (h : Header) (pair : ℕ) (met entries : List Entry) → IsLegal h met → IsLegal h entries → Untouched touches_key (pair_key pair) met entries → orders_in pair (state h entries).orders ≡ orders_in pair (state h met).orders
untouched-orders h pair met entries legal_met legal missed =
    let rest : List Entry = missed.0 in
    let whole : state h entries ≡ after_all (state h met) rest = ap (state h) (sym missed.1) ∙ after_all-append (opening h) met rest in
    ap (λ (S : State). orders_in pair S.orders) whole
    ∙ stays h pair (state h met) rest legal.session (legal-sound h met legal_met) (Steps-behind h (opening h) met rest (subst (Steps h (opening h)) (sym missed.1) legal.steps)) missed.2
