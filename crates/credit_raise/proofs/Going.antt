-- From one pair to the next: what a host that plans a credit change pair by pair may rest on.
use Rattle.std.proofs.Common.{ℕ, ◌≡◌, ◌≢◌, ◌-◌, ◌*◌, ◌/◌, ◌≤◌, ◌<◌, false, ◌&&◌, eqb, List, [], ◌∷◌, min, inl, inr, refl, ap, ◌∙◌, arith}
use Rattle.std.proofs.Math.Nat.{add-mul}
use Rattle.std.proofs.lemmas.Bool.{cond-false, and_left, and_right, and_from, or_left, or_right, ne_eqb, eq-eqb, cases_eq, both_ways}
use Rattle.fx_amounts.specs.Quantity.{IsUnits}
use Rattle.fx_rules.specs.declared.orders.Fill.{Fill}
use Rattle.fx_rules.specs.declared.outcome.Entry.{Entry}
use Rattle.fx_rules.specs.Lists.{Each}
use Rattle.fx_rules.specs.Session.{Header, bank_count, weight_of}
use Rattle.fx_rules.specs.State.{State, orders_in, headroom, at_most, line, used, reach}
use Rattle.fx_rules.specs.Sweep.{filled, filled_all}
use Rattle.fx_rules.specs.Raise.{limit_set, limited, Turned}
use Rattle.fx_rules.specs.History.{IsLegal, state}
use Rattle.fx_rules.specs.NoCross.{NoCross}
use Rattle.fx_rules.specs.Sound.{IsCovered}
use Rattle.fx_rules.proofs.Following.{filled_all-follows}
use Rattle.fx_rules.proofs.Credit.{covered-filled}
use Rattle.fx_rules.proofs.Staying.{turned-stays}
use Rattle.fx_rules.proofs.RaiseSound.{turned-sound, limited-sound}
use Rattle.fx_rules.proofs.Soundness.{legal-sound}
use Rattle.fx_rules.proofs.Uncrossed.{legal-uncrossed}
use Rattle.global_book.specs.Book.{Book}
use Rattle.credit_raise.specs.Two.{are_the_two, NoCrossBut, IsRaised, IsFillOf, lots_of}
use Rattle.credit_raise.proofs.Apart.{apart-follows}
use Rattle.credit_raise.proofs.Meeting.{line-filled}

-- ---- the limit

limit_other : (S : State) (i j limit a b : ℕ) → (a ≡ i → b ≡ j → ⊥) → (limited i j limit S).limits a b ≡ S.limits a b
limit_other S i j limit a b differ =
    cond-false (eqb a i && eqb b j) limit (S.limits a b) (elim (cases_eq a i) [
      | inl same ↦ and_right (eqb a i) (eqb b j) (ne_eqb b j (differ same))
      | inr other ↦ and_left (eqb a i) (eqb b j) (ne_eqb a i other)
    ])

-- a limit between two banks leaves what two others can reach of each other
reach-limited : (h : Header) (S : State) (i j limit a b pair : ℕ) → are_the_two i j a b ≡ false → reach h (limited i j limit S) a b pair ≡ reach h S a b pair
reach-limited h S i j limit a b pair not_two =
    let one : a ≡ i → b ≡ j → ⊥ = λ is also. both_ways (are_the_two i j a b) not_two
    (or_left (eqb a i && eqb b j) (eqb a j && eqb b i) (and_from (eqb a i) (eqb b j) (eq-eqb a i is) (eq-eqb b j also))) in
    let two : b ≡ i → a ≡ j → ⊥ = λ is also. both_ways (are_the_two i j a b) not_two
    (or_right (eqb a i && eqb b j) (eqb a j && eqb b i) (and_from (eqb a j) (eqb b i) (eq-eqb a j also) (eq-eqb b i is))) in
    let reached : ℕ → ℕ = λ left. at_most (headroom h S a) (at_most (headroom h S b) left) / weight_of h pair in
    ap (λ m. reached (min m ((limited i j limit S).limits b a) - used h S a b)) (limit_other S i j limit a b one)
    ∙ ap (λ m. reached (min (S.limits a b) m - used h S a b)) (limit_other S i j limit b a two)

-- Where nothing rested crossed before a limit was set, nothing rests crossed behind it but between the two banks.
pub limited-apart : (h : Header) (S : State) (pair i j limit : ℕ) → NoCross h S → NoCrossBut h (limited i j limit S) pair i j
limited-apart h S pair i j limit uncrossed buy sell b_rests s_rests buys sells others not_two reached =
    uncrossed pair buy sell b_rests s_rests buys sells others
    (omega (arith, reached, reach-limited h S i j limit buy.bank sell.bank pair not_two))

-- ---- the line

-- what the fills between two banks leave of their line
pub line-fills : (h : Header) (S : State) (pair weight i j : ℕ) (fills : List Fill) → i < bank_count h → j < bank_count h → i ≢ j → weight_of h pair ≡ weight → Each (IsFillOf pair i j) fills → IsCovered h S → line h (filled_all S fills) i j ≡ line h S i j - lots_of fills * weight
line-fills h S pair weight i j [] i_in j_in differ weight_is all covered = omega arith
line-fills h S pair weight i j (f ∷ fills) i_in j_in differ weight_is all covered =
    let first : line h (filled S f) i j ≡ line h S i j - f.lots * weight = line-filled h S f pair weight i j (line h S i j) i_in j_in differ weight_is refl all.0.pair_is all.0.between covered in
    let rest : line h (filled_all (filled S f) fills) i j ≡ line h (filled S f) i j - lots_of fills * weight = line-fills h (filled S f) pair weight i j fills i_in j_in differ weight_is all.1 (covered-filled h S f covered) in
    omega (arith, first, rest, add-mul f.lots (lots_of fills) weight)

-- ---- the first pair

-- The limit is set, in the state of a legal history.
pub raised-first : (h : Header) (entries : List Entry) (book : Book) (weight i j asked eff : ℕ) → IsLegal h entries → i < bank_count h → j < bank_count h → j ≢ i → IsUnits asked
    → orders_in book.pair (state h entries).orders ≡ book.orders → weight_of h book.pair ≡ weight → line h (limited i j (limit_set h (state h entries) i j asked) (state h entries)) i j ≡ eff
    → IsRaised h (limited i j (limit_set h (state h entries) i j asked) (state h entries)) book weight i j eff
raised-first h entries book weight i j asked eff legal i_in j_in differ units orders weight_is line_is =
    let S : State = state h entries in
    let limit : ℕ = limit_set h S i j asked in
    record {
      sound = limited-sound h S i j asked limit (legal-sound h entries legal) i_in j_in differ units refl;
      orders = orders;
      weight_is = weight_is;
      line_is = line_is;
      apart = limited-apart h S book.pair i j limit (legal-uncrossed h entries legal);
    }

-- ---- the next pair

-- With the fills of one pair's plan added, the state is one in which the next pair's turn comes, with what they leave of the line.
pub raised-next : (h : Header) (S : State) (book next : Book) (weight next_weight i j eff : ℕ) (fills : List Fill) → i < bank_count h → j < bank_count h → i ≢ j → book.pair ≢ next.pair → 1 ≤ weight → 1 ≤ next_weight
    → IsRaised h S book weight i j eff → Turned h book.pair S book.orders fills → Each (IsFillOf book.pair i j) fills
    → orders_in next.pair S.orders ≡ next.orders → weight_of h next.pair ≡ next_weight → NoCrossBut h S next.pair i j
    → IsRaised h (filled_all S fills) next next_weight i j (eff - lots_of fills * weight)
raised-next h S book next weight next_weight i j eff fills i_in j_in apart_banks differ some next_some raised turned parties next_orders next_weight_is apart =
    let heavy : 0 < weight_of h book.pair = omega (arith, some, raised.weight_is) in
    record {
      sound = turned-sound h book.pair S book.orders fills heavy raised.sound turned;
      orders = turned-stays h book.pair S book.orders fills next.pair differ heavy raised.sound turned ∙ next_orders;
      weight_is = next_weight_is;
      line_is = line-fills h S book.pair weight i j fills i_in j_in apart_banks raised.weight_is parties raised.sound.covered ∙ ap (λ n. n - lots_of fills * weight) raised.line_is;
      apart = apart-follows h S (filled_all S fills) next.pair i j (omega (arith, next_some, next_weight_is)) (filled_all-follows h S fills) apart;
    }
