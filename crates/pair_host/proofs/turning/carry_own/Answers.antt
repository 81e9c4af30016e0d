-- A fill of the pair is made, and any other is passed over.
use Rattle.std.proofs.Common.{◌≡◌, ◌≢◌, ◌+◌, List, [], ◌∷◌, take, get_or, ap, sym, subst, ◌∙◌, arith}
use Rattle.std.proofs.lemmas.Bool.{eqb-true, eqb-false}
use Rattle.fx_rules.specs.declared.orders.Fill.{Fill}
use Rattle.fx_rules.specs.declared.orders.Resting.{Resting}
use Rattle.global_book.specs.Book.{Book}
use Rattle.global_book.specs.Room.{KeepsRoom, Room}
use Rattle.match_sweep.specs.Carries.{carried}
use Rattle.pair_host.specs.Turns.{fills_in}
use Rattle.pair_host.proofs.RecordedTurns.{own-next, other-next, one-piece}
use Rattle.pair_host.proofs.turning.carry_own.Goals as goal
use Rattle.pair_host.proofs.turning.carry_own.Goals.{then-eq, else-eq}

room-trans : (a b c : Room) → KeepsRoom a b → KeepsRoom b c → KeepsRoom a c
room-trans a b c first second = record {
  places = λ bank. omega (arith, first.places bank, second.places bank);
  ready = λ bank side price is. second.ready bank side price (first.ready bank side price is);
}

pub loop-at-preserved : goal.loop-at-preserved
loop-at-preserved c =
    let was : Book = c.args.book.now in
    let fills : List Fill = c.args.fills.now in
    let f : Fill = c.index-fills-at.result in
    let is : f ≡ get_or fills c.loop-at.at f = c.index-fills-at.is in
    elim c.if-eq.branch [
      | then-eq w ↦
          let its : f.pair ≡ was.pair = ap (λ (g : Fill). g.pair) is ∙ eqb-true _ _ (sym c.eq.ensures ∙ w.if-eq.true) ∙ c.pair-pair.ensures.value in
          let made : w.carry_fills.new.book.orders ≡ carried was.orders (fills_in was.pair (take (c.loop-at.at + 1) fills)) =
          w.carry_fills.ensures.orders ∙ ap (carried c.loop-at.book.orders) (one-piece c.loop-at.at fills f c.loop-at-test.true is)
          ∙ ap (λ (os : List Resting). carried os (f ∷ [])) c.loop-at.invariant.orders
          ∙ sym (own-next was.pair c.loop-at.at was.orders fills f c.loop-at-test.true is its) in
          record {
            orders = ap (λ (b : Book). b.orders) w.book-is ∙ made;
            pair = ap (λ (b : Book). b.pair) w.book-is ∙ w.carry_fills.ensures.pair ∙ c.loop-at.invariant.pair;
            banks = ap (λ (b : Book). b.banks) w.book-is ∙ w.carry_fills.ensures.banks ∙ c.loop-at.invariant.banks;
            room = subst (λ (b : Book). KeepsRoom was.room b.room) (sym w.book-is) (room-trans was.room c.loop-at.book.room w.carry_fills.new.book.room c.loop-at.invariant.room w.carry_fills.ensures.room);
          }
      | else-eq w ↦
          let other : f.pair ≢ was.pair = λ same. eqb-false _ _ (sym c.eq.ensures ∙ w.if-eq.false) (ap (λ (g : Fill). g.pair) (sym is) ∙ same ∙ sym c.pair-pair.ensures.value) in
          record {
            orders = ap (λ (b : Book). b.orders) w.book-is ∙ c.loop-at.invariant.orders
                ∙ ap (carried was.orders) (sym (other-next was.pair c.loop-at.at fills f c.loop-at-test.true is other));
            pair = ap (λ (b : Book). b.pair) w.book-is ∙ c.loop-at.invariant.pair;
            banks = ap (λ (b : Book). b.banks) w.book-is ∙ c.loop-at.invariant.banks;
            room = subst (λ (b : Book). KeepsRoom was.room b.room) (sym w.book-is) c.loop-at.invariant.room;
          }
    ]
