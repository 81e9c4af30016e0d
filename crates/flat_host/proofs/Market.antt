-- What is planned over the host's orders and tables is the market's.
use Rattle.std.proofs.Common.{ℕ, zero, suc, ◌≡◌, ◌≢◌, ◌+◌, ◌/◌, ◌≤◌, ◌<◌, Bool, true, false, ◌&&◌, List, [], ◌∷◌, ◌++◌, inl, inr, refl, ap, sym, subst, ◌∙◌, arith, length, get_or, map, None, Some, Option, MatchOption, find}
use Rattle.std.proofs.lemmas.Bool.{cases_eq}
use Rattle.fx_rules.specs.declared.orders.ActiveOrder.{ActiveOrder}
use Rattle.fx_rules.specs.declared.orders.Resting.{Resting}
use Rattle.fx_rules.specs.declared.orders.Fill.{Fill}
use Rattle.fx_rules.specs.Lists.{Among}
use Rattle.fx_rules.specs.Session.{Header, IsSession, bank_count, pair_count, weight_of}
use Rattle.fx_rules.specs.State.{State, orders_in, left_of_limits, headroom, at_most, line, reach}
use Rattle.fx_rules.specs.Sweep.{Taker, Swept, is_open, is_order, open_orders, filled_all}
use Rattle.fx_rules.specs.Raise.{order_of, taker_of_resting, Turned, PairsTurned}
use Rattle.fx_rules.specs.Sound.{IsSound, IsKept}
use Rattle.fx_rules.specs.Plan.{Planned, is_behind, open_behind}
use Rattle.fx_rules.proofs.ListLemmas.{Each-among, filter_agree_on}
use Rattle.fx_rules.proofs.Opens.{orders_in-among}
use Rattle.fx_rules.proofs.SweepSound.{swept-sound, weight_of-least}
use Rattle.fx_rules.proofs.RaiseSound.{match_cases, turn_of, turn-sender, turned-sound}
use Rattle.fx_rules.proofs.Staying.{turned-elsewhere}
use Rattle.fx_rules.proofs.Planning.{orders_in-rising, open_own}
use Rattle.fx_rules.proofs.PlanSwept.{planned-swept}
use Rattle.flat_host.specs.inside.FlatState.{TablesFor}
use Rattle.flat_host.specs.FlatState.{FlatCredit, room_in}
use Rattle.flat_host.specs.Parts.{PlannedBy, both_lowered, credit_after, affordable}
use Rattle.fx_rules.specs.inside.Orders.{in_pair}
use Rattle.flat_host.specs.Turns.{TurnedIn, RaisedIn}
use Rattle.flat_host.proofs.Carrying.{length-credit_after}
use Rattle.flat_host.proofs.Tables.{line-same, room-same, tables-swept, tables-turned}
use Rattle.flat_host.proofs.Pairs.{orders_in-in_pair, swept-in_pair, turn-only}

and_true_right : (a : Bool) → (a && true) ≡ a
and_true_right true = refl
and_true_right false = refl

owners_in : (h : Header) (S : State) (pair : ℕ) → IsSound h S → (o : Resting) → Among o (orders_in pair S.orders) → o.bank < bank_count h
owners_in h S pair sound o there =
    let found = orders_in-among pair S.orders o there in
    let kept : IsKept h S.counts found.0 = Each-among (IsKept h S.counts) S.orders found.0 sound.kept found.1 in
    omega (arith, kept.bank, ap (λ (q : Resting). q.bank) found.3)

-- as the sweep begins, the orders behind none are the open ones
opens_first : (h : Header) (S : State) (t : Taker) (lines : ℕ → ℕ) → IsSound h S → ((b : ℕ) → b < bank_count h → b ≢ t.bank → lines b ≡ line h S t.bank b) → open_behind (λ bank. lines bank / weight_of h t.pair) t None (orders_in t.pair S.orders) ≡ open_orders h S t
opens_first h S t lines sound agrees =
    filter_agree_on (λ o. is_open t (lines o.bank / weight_of h t.pair) o && is_behind t.side None o) (λ o. is_open t (reach h S t.bank o.bank t.pair) o) (orders_in t.pair S.orders)
    (λ o there. and_true_right (is_open t (lines o.bank / weight_of h t.pair) o)
    ∙ elim (cases_eq o.bank t.bank) [
      | inl own ↦ open_own t (lines o.bank / weight_of h t.pair) o own ∙ sym (open_own t (reach h S t.bank o.bank t.pair) o own)
      | inr other ↦ ap (λ n. is_open t (n / weight_of h t.pair) o) (agrees o.bank (owners_in h S t.pair sound o there) other)
    ])

most_twice : (room : Option ℕ) (n : ℕ) → at_most room (at_most room n) ≡ at_most room n
most_twice None n = refl
most_twice (Some most) n = omega arith

-- a sweep planned over a state's orders and tables is the state's sweep
pub swept-planned : (h : Header) (S : State) (weights : List ℕ) (credit : FlatCredit) (t : Taker) (fills : List Fill) (left : ℕ) → IsSession h → IsSound h S → TablesFor h S weights credit → t.bank < bank_count h → t.pair < pair_count h → PlannedBy (get_or weights t.pair 0) credit (orders_in t.pair S.orders) t fills left → Swept h S t fills left
swept-planned h S weights credit t fills left session sound tables bank pair planned =
    let room : room_in credit t.bank ≡ headroom h S t.bank = room-same h S weights credit t.bank tables bank in
    let weight : get_or weights t.pair 0 ≡ weight_of h t.pair = ap (λ (ws : List ℕ). get_or ws t.pair 0) tables.weighs in
    let agrees : (b : ℕ) → b < bank_count h → b ≢ t.bank → at_most (headroom h S t.bank) (planned.lines b) ≡ line h S t.bank b = λ b b_in differ.
    ap (at_most (headroom h S t.bank))
    (planned.lines_are b (omega (arith, session.banks_most, b_in)) ∙ line-same h S weights credit t.bank b tables bank b_in (λ e. differ (sym e)))
    ∙ most_twice (headroom h S t.bank) (at_most (headroom h S b) (left_of_limits h S t.bank b)) in
    planned-swept h S t planned.lines (headroom h S t.bank) (orders_in t.pair S.orders) None fills planned.rest left
    (record {
      sound = sound;
      bank = bank;
      weight = weight_of-least h t.pair session pair;
      purse_is = refl;
      agrees = agrees;
      rising = orders_in-rising t.pair S.orders sound.rising;
      owners = owners_in h S t.pair sound;
      opens = λ _. opens_first h S t (λ b. at_most (headroom h S t.bank) (planned.lines b)) sound agrees;
    })
    (subst (λ (purse : Option ℕ). left + (affordable purse (weight_of h t.pair) t).left ≡ t.left + planned.rest) room
    (subst (λ w. left + (affordable (room_in credit t.bank) w t).left ≡ t.left + planned.rest) weight planned.sum))
    (subst (λ (purse : Option ℕ). Planned (weight_of h t.pair) planned.lines (orders_in t.pair S.orders) (affordable purse (weight_of h t.pair) t) None fills planned.rest) room
    (subst (λ w. Planned w planned.lines (orders_in t.pair S.orders) (affordable (room_in credit t.bank) w t) None fills planned.rest) weight planned.planned))

pub match_none : {X : Type 0} (o : Option X) (P : Type 0) (Q : X → Type 0) → o ≡ None → P → MatchOption o P Q
match_none o P Q is holds = subst (λ o. MatchOption o P Q) (sym is) holds

pub match_some : {X : Type 0} (o : Option X) (x : X) (P : Type 0) (Q : X → Type 0) → o ≡ Some x → Q x → MatchOption o P Q
match_some o x P Q is holds = subst (λ o. MatchOption o P Q) (sym is) holds

-- turns over a pair's book are the market's
pub turned-market : (h : Header) (pair : ℕ) (S : State) (weights : List ℕ) (credit : FlatCredit) (book : List ActiveOrder) (turns : List Resting) (fills : List Fill) → IsSession h → pair < pair_count h → IsSound h S → length credit.uses ≡ 4225 → TablesFor h S weights credit → book ≡ in_pair pair S.orders → TurnedIn weights pair book credit turns fills → Turned h pair S turns fills
turned-market h pair S weights credit book [] fills session pair_in sound full tables is turned = turned
turned-market h pair S weights credit book (order ∷ turns) fills session pair_in sound full tables is turned =
    let same : orders_in pair book ≡ orders_in pair S.orders = ap (orders_in pair) is ∙ orders_in-in_pair pair S.orders in
    let found_same : find (λ (o : Resting). is_order order.bank order.number o) (orders_in pair book) ≡ order_of S pair order.bank order.number =
    ap (find (λ (o : Resting). is_order order.bank order.number o)) same in
    let Then : Resting → Type 0 = λ now. (own more : List Fill) × (left : ℕ) × Swept h S (taker_of_resting pair now) own left × (fills ≡ own ++ more) × Turned h pair (filled_all S own) turns more in
    elim (match_cases (find (λ (o : Resting). is_order order.bank order.number o) (orders_in pair book)) (TurnedIn weights pair book credit turns fills)
    (λ now. (own more : List Fill) × (left : ℕ) × PlannedBy (get_or weights pair 0) credit (orders_in pair book) (taker_of_resting pair now) own left
    × (fills ≡ own ++ more) × TurnedIn weights pair (both_lowered book own) (credit_after weights credit own) turns more)
    turned) [
      | inl gone ↦ match_none (order_of S pair order.bank order.number) (Turned h pair S turns fills) Then (sym found_same ∙ gone.0)
          (turned-market h pair S weights credit book turns fills session pair_in sound full tables is gone.1)
      | inr found ↦
          let now : Resting = found.0 in
          let own : List Fill = found.2.0 in
          let more : List Fill = found.2.1 in
          let left : ℕ = found.2.2 in
          let some : 0 < weight_of h pair = weight_of-least h pair session pair_in in
          let here : order_of S pair order.bank order.number ≡ Some now = sym found_same ∙ found.1 in
          let turn = turn_of h S pair order.bank order.number now sound here in
          let sender : now.bank < bank_count h = turn-sender h S pair order.bank order.number now turn in
          let swept : Swept h S (taker_of_resting pair now) own left =
          swept-planned h S weights credit (taker_of_resting pair now) own left session sound tables sender pair_in
          (subst (λ (os : List Resting). PlannedBy (get_or weights pair 0) credit os (taker_of_resting pair now) own left) same found.2.3) in
          let next : IsSound h (filled_all S own) = (swept-sound h S (taker_of_resting pair now) own left sound sender some swept).0 in
          let pairs : in_pair pair (filled_all S own).orders ≡ both_lowered (in_pair pair S.orders) own = swept-in_pair h S (taker_of_resting pair now) own left sound sender some (turn-only h S pair order.bank order.number now sound turn) swept in
          match_some (order_of S pair order.bank order.number) now (Turned h pair S turns fills) Then here (
            own,
            more,
            left,
            swept,
            found.2.4,
            turned-market h pair (filled_all S own) weights (credit_after weights credit own) (both_lowered book own) turns more session pair_in next
                (length-credit_after weights credit own ∙ full)
                (tables-swept h S weights credit (taker_of_resting pair now) own left session.banks_most full sound sender some tables swept)
                (ap (λ (os : List ActiveOrder). both_lowered os own) is ∙ sym pairs)
                found.2.5,
          )
    ]

-- and so is all that a credit change makes
pub raised-market : (h : Header) (pairs pair : ℕ) (orders : List ActiveOrder) (S : State) (weights : List ℕ) (credit : FlatCredit) (fills : List Fill) → IsSession h → pair + pairs ≤ pair_count h → IsSound h S → length credit.uses ≡ 4225 → TablesFor h S weights credit → ((other : ℕ) → pair ≤ other → in_pair other S.orders ≡ in_pair other orders) → RaisedIn weights orders pairs pair credit fills → PairsTurned h pairs pair S fills
raised-market h zero pair orders S weights credit fills session within sound full tables rest raised = raised
raised-market h (suc pairs) pair orders S weights credit fills session within sound full tables rest raised =
    let own : List Fill = raised.0 in
    let more : List Fill = raised.1 in
    let some : 0 < weight_of h pair = weight_of-least h pair session (omega arith) in
    let book : in_pair pair S.orders ≡ in_pair pair orders = rest pair (omega arith) in
    let turns : orders_in pair orders ≡ orders_in pair S.orders = ap (map (λ (a : ActiveOrder). a.order)) (sym book) in
    let turned : Turned h pair S (orders_in pair S.orders) own =
    subst (λ (os : List Resting). Turned h pair S os own) turns
    (turned-market h pair S weights credit (in_pair pair orders) (orders_in pair orders) own session (omega arith) sound full tables (sym book) raised.2) in
    let next : IsSound h (filled_all S own) = turned-sound h pair S (orders_in pair S.orders) own some sound turned in (
      own,
      more,
      turned,
      raised.3,
      raised-market h pairs (pair + 1) orders (filled_all S own) weights (credit_after weights credit own) more session (omega arith) next
          (length-credit_after weights credit own ∙ full)
          (tables-turned h pair S weights credit (orders_in pair S.orders) own session.banks_most full sound some tables turned)
          (λ other from. turned-elsewhere h pair S (orders_in pair S.orders) own other (omega arith) some sound turned ∙ rest other (omega arith))
          raised.4,
    )
