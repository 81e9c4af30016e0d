use Rattle.std.proofs.Common.{ℕ, ◌≡◌, ◌≤◌, List, length, get_or, refl, ap, sym, subst, ◌∙◌, arith}
use Rattle.std.proofs.Math.ListN.{set}
use Rattle.fx_rules.specs.declared.orders.ActiveOrder.{ActiveOrder}
use Rattle.fx_rules.specs.Step.{without_orders}
use Rattle.client_desk.specs.Standing.{Book, row_of}
use Rattle.client_desk.specs.inside.UnderWay.{IsUnderWay, counts_of}
use Rattle.client_desk.proofs.Pulling.{none-pulled, pulled_to, take-pulled}
use Rattle.client_desk.proofs.Recording.{pull-end}
use Rattle.client_desk.proofs.book.ClientBook.pull.Goals as goal

pub swept-first-requires : goal.swept-first-requires
swept-first-requires c = record { sender = omega (arith, c.requires.sender.6, c.requires.sender.5.stands.senders) }

pub loop-place-init : goal.loop-place-init
loop-place-init c = record {
  clients = refl;
  swept = sym c.swept-first.ensures.value;
  taken = λ h tagged t orders fills way sender last.
      subst (λ (os : List ActiveOrder). IsUnderWay h tagged t os fills c.args.self.now) (sym (none-pulled c.args.pair c.args.bank c.swept-first.result orders)) way;
}

pub take_out-requires : goal.take_out-requires
take_out-requires c = record {
  rests = (
    c.requires.sender.0,
    c.requires.sender.1,
    c.requires.sender.2,
    pulled_to c.args.pair c.args.bank c.swept-first.result c.loop-place.place c.requires.sender.3,
    c.requires.sender.4,
    c.loop-place.invariant.taken c.requires.sender.0 c.requires.sender.1 c.requires.sender.2 c.requires.sender.3 c.requires.sender.4 c.requires.sender.5 c.requires.sender.6 c.requires.sender.7,
    record { sender = c.requires.sender.6; least = omega arith; most = omega (arith, c.requires.sender.7) },
    c.requires.sender.8,
  );
}

pub loop-place-preserved : goal.loop-place-preserved
loop-place-preserved c = record {
  clients = c.take_out.ensures.clients ∙ c.loop-place.invariant.clients;
  swept = ap (λ (xs : List ℕ). get_or xs c.args.pair 0) c.take_out.ensures.swept ∙ c.loop-place.invariant.swept;
  taken = λ h tagged t orders fills way sender last.
      subst (λ (os : List ActiveOrder). IsUnderWay h tagged t os fills c.take_out.new.self) (take-pulled c.args.pair c.args.bank c.swept-first.result c.loop-place.place orders (omega arith))
      (c.take_out.ensures.taken h tagged t (pulled_to c.args.pair c.args.bank c.swept-first.result c.loop-place.place orders) fills (c.loop-place.invariant.taken h tagged t orders fills way sender last)
      (record { sender = sender; least = omega arith; most = omega (arith, last) }));
}

pub sweep-requires : goal.sweep-requires
sweep-requires c =
    let way = c.loop-place.invariant.taken c.requires.sender.0 c.requires.sender.1 c.requires.sender.2 c.requires.sender.3 c.requires.sender.4 c.requires.sender.5 c.requires.sender.6 c.requires.sender.7 in
    record { sender = omega (arith, c.requires.sender.6, way.stands.senders) }

pub returns : goal.returns
returns c = record {
  clients = ap (λ (b : Book). b.clients) c.sweep.ensures.value ∙ c.loop-place.invariant.clients;
  pulled = λ h tagged t orders fills way sender last.
      let rows = way.stands.rows c.args.bank sender in
      let first : c.swept-first.result ≤ c.args.last = omega (arith, c.swept-first.ensures.value, rows.swept_most c.args.pair, last) in
      let ends : c.loop-place.place ≡ c.args.last = omega arith in
      let taken : IsUnderWay h tagged t (pulled_to c.args.pair c.args.bank c.swept-first.result (get_or (counts_of h tagged t) c.args.bank 0) orders) fills c.loop-place.self =
      subst (λ n. IsUnderWay h tagged t (pulled_to c.args.pair c.args.bank c.swept-first.result n orders) fills c.loop-place.self) (ends ∙ last) (c.loop-place.invariant.taken h tagged t orders fills way sender last) in
      let count : length (row_of c.loop-place.self c.args.bank).slots ≡ c.args.last = (taken.stands.rows c.args.bank sender).count_is ∙ sym last in
      subst (IsUnderWay h tagged t (without_orders c.args.pair c.args.bank orders) fills)
      (sym (c.sweep.ensures.value
      ∙ ap (λ n. record c.loop-place.self { rows = set c.loop-place.self.rows c.args.bank (record (row_of c.loop-place.self c.args.bank) { swept = set (row_of c.loop-place.self c.args.bank).swept c.args.pair n }) }) (sym count)))
      (pull-end h tagged t orders fills c.loop-place.self c.args.pair c.args.bank c.swept-first.result sender (sym c.loop-place.invariant.swept) taken);
}
