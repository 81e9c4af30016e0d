-- A play of two banks' orders in a state in which their line was raised.
use Rattle.std.proofs.Common.{ℕ, ◌≡◌, ◌≢◌, ◌≤◌, List, [], ◌⊎◌, ap, arith}
use Rattle.std.specs.List.{filter}
use Rattle.fx_rules.specs.declared.orders.Resting.{Resting}
use Rattle.fx_rules.specs.declared.orders.Fill.{Fill}
use Rattle.fx_rules.specs.Lists.{Each}
use Rattle.fx_rules.specs.Session.{Header}
use Rattle.fx_rules.specs.State.{State}
use Rattle.fx_rules.specs.Raise.{Turned}
use Rattle.fx_rules.proofs.ListLemmas.{Each-of, Among-filter}
use Rattle.global_book.specs.Book.{Book}
use Rattle.credit_raise.specs.Two.{is_of_two, IsRaised}
use Rattle.credit_raise.specs.inside.Two.{turns}
use Rattle.credit_raise.specs.inside.Playing.{Played}
use Rattle.credit_raise.proofs.Apart.{two-owner}
use Rattle.credit_raise.proofs.Meeting.{Meets, played-turned, turned-two}

pub turns-owners : (i j : ℕ) (orders : List Resting) → Each (λ (o : Resting). (o.bank ≡ i) ⊎ (o.bank ≡ j)) (turns i j orders)
turns-owners i j orders =
    Each-of (λ (o : Resting). (o.bank ≡ i) ⊎ (o.bank ≡ j)) (turns i j orders) (λ o there. two-owner i j o (Among-filter (is_of_two i j) orders o there).1)

-- Where nothing rests crossed but between two banks, the play of their orders makes the fills of the full sweep.
pub raised-turned : (h : Header) (S : State) (book : Book) (weight i j eff : ℕ) (fills : List Fill) → i ≢ j → 1 ≤ weight → IsRaised h S book weight i j eff
    → Played book.pair weight i j eff [] (turns i j book.orders) fills → Turned h book.pair S book.orders fills
raised-turned h S book weight i j eff fills differ some raised played =
    let meets : Meets h S book.pair weight i j eff [] (filter (is_of_two i j) book.orders) = record {
      sound = raised.sound;
      weight_is = raised.weight_is;
      line_is = raised.line_is;
      apart = raised.apart;
      orders = ap (filter (is_of_two i j)) raised.orders;
    } in
    turned-two h S book.pair i j book.orders fills (omega (arith, some, raised.weight_is)) raised.sound raised.apart
    (played-turned h S book.pair weight i j eff [] (filter (is_of_two i j) book.orders) fills differ some meets played)
