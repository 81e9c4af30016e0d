-- What may be sent, and which pair it is about.
use Rattle.std.proofs.Common.{ℕ, ◌≡◌, ◌≢◌, ◌+◌, ◌<◌, ◌^◌, true, false, List, get_or, Some, None, refl, sym, subst, ◌∙◌}
use Rattle.std.proofs.lemmas.Bool.{ne_eqb}
use Rattle.fx_rules.specs.declared.command.Command.{Command}
use Rattle.fx_rules.specs.declared.command.Command.TheVariants.{Order, Cancel, Reduce, Pull, Line, Total, Settle, Show, Book, Bad}
use Rattle.fx_rules.specs.Session.{Header}
use Rattle.fx_rules.specs.State.{State}
use Rattle.fx_rules.specs.Step.{IsCommand, may_change}
use Rattle.fx_rules.specs.History.{state}
use Rattle.fx_rules.specs.Market.{InSome, MaySend}
use Rattle.fx_rules.specs.Sending.{pair_of}
use Rattle.fx_rules.proofs.Senders.{one_pair}
use Rattle.credit_raise.specs.UnderWay.{is_change}
use Rattle.credit_lines.specs.Table.{is_of_no_pair}
use Rattle.pair_host.specs.Standing.{HostState, StandsFor, stands}

none_some : (pair : ℕ) → None ≡ Some pair → ⊥
none_some pair same = cc

-- what may be sent in one state that a host stands for may be sent in each
pub may-send : (host : HostState) (bank : ℕ) (command : Command) → InSome (stands host) (MaySend bank command) → (h : Header) (S : State) → StandsFor h S host → MaySend bank command h S
may-send host bank command some h S stood =
    let T : State = state some.0 some.1 in
    let its : StandsFor some.0 T host = some.3 in
    let may : MaySend bank command some.0 T = some.4 in
    let same : some.0 ≡ h = sym its.credit.session ∙ stood.credit.session in
    let counts : T.counts ≡ S.counts = sym its.credit.counts ∙ stood.credit.counts in
    record {
      allowed = subst (λ (g : Header). IsCommand g bank command) same may.allowed;
      number = subst (λ (cs : List ℕ). get_or cs bank 0 + 1 < 2 ^ 32) counts may.number;
    }

-- it changes nothing in any other
pub changes_none : (command : Command) (pair other : ℕ) → pair_of command ≡ Some pair → other ≢ pair → may_change other command ≡ false
changes_none (Order side its price lots life) pair other is differ = ne_eqb its other (λ same. differ (sym same ∙ one_pair its pair is))
changes_none (Cancel its number) pair other is differ = ne_eqb its other (λ same. differ (sym same ∙ one_pair its pair is))
changes_none (Reduce its number lots) pair other is differ = ne_eqb its other (λ same. differ (sym same ∙ one_pair its pair is))
changes_none (Pull its) pair other is differ = ne_eqb its other (λ same. differ (sym same ∙ one_pair its pair is))
changes_none (Line to asked) pair other is differ = absurd (none_some pair is)
changes_none (Total asked) pair other is differ = absurd (none_some pair is)
changes_none (Settle a b asked) pair other is differ = absurd (none_some pair is)
changes_none (Show to) pair other is differ = refl
changes_none (Book its) pair other is differ = refl
changes_none (Bad reason) pair other is differ = refl

-- what is neither about one pair nor a credit change is about no pair
pub told_by-table : (command : Command) → pair_of command ≡ None → is_change command ≡ false → is_of_no_pair command ≡ true
told_by-table (Order side its price lots life) about other = cc
told_by-table (Cancel its number) about other = cc
told_by-table (Reduce its number lots) about other = cc
told_by-table (Pull its) about other = cc
told_by-table (Line to asked) about other = cc
told_by-table (Total asked) about other = cc
told_by-table (Settle a b asked) about other = cc
told_by-table (Show to) about other = refl
told_by-table (Book its) about other = cc
told_by-table (Bad reason) about other = refl
