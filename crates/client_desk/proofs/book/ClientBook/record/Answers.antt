use Rattle.std.proofs.Common.{◌≡◌, List, [], ◌∷◌, ◌++◌, length, refl, ap, sym, subst, ◌∙◌}
use Rattle.fx_rules.specs.declared.orders.Fill.{Fill}
use Rattle.fx_rules.specs.Session.{Header}
use Rattle.fx_rules.specs.Step.{fills_of}
use Rattle.client_desk.specs.Clients.{IsTagged, Tagged, tag, state_of}
use Rattle.client_desk.specs.Standing.{Book, StandsFor}
use Rattle.client_desk.specs.Draws.{AreDrawn, drawn_all, entered}
use Rattle.client_desk.specs.inside.Changes.{CanEnter, entered_with, slot_for}
use Rattle.client_desk.specs.inside.UnderWay.{FillsAll, IsUnderWay, drawn_here}
use Rattle.client_desk.proofs.Draws.{fills-drawn}
use Rattle.client_desk.proofs.Within.{IsLast, last-of}
use Rattle.client_desk.proofs.Recording.{can-enter, enter-way, settled-stands}
use Rattle.client_desk.proofs.book.ClientBook.record.Goals as goal

pub enter-requires : goal.enter-requires
enter-requires c = record {
  fits = subst (CanEnter c.args.self.now c.args.entry.now.bank) (sym c.slot_for-slot.ensures.value)
      (can-enter c.requires.next.0 c.requires.next.1 (tag c.args.who c.args.entry.now) c.args.self.now c.requires.next.2 c.requires.next.3 c.limit_fits.ensures.full c.limit_fits.ensures.most);
}

module _ (h : Header) (tagged : List Tagged) (t : Tagged) (old now : Book) (fills : List Fill) (stands : StandsFor h tagged old) (is : IsTagged h old.clients (tagged ++ t ∷ [])) (full : length old.accounts ≡ length old.clients)
    (enters : now ≡ entered_with old t.entry.bank (slot_for t.who t.entry.command)) (are : fills ≡ fills_of t.entry.outcome) where
  -- the entry is entered, and its fills can be made
  way-entered : IsUnderWay h tagged t (entered (state_of h tagged) t.entry) [] now
  way-entered = subst (IsUnderWay h tagged t (entered (state_of h tagged) t.entry) []) (sym enters) (enter-way h tagged t old stands is full)

  fills-fit : AreDrawn (entered (state_of h tagged) t.entry) fills
  fills-fit =
      let last : IsLast h old.clients tagged t = last-of h old.clients tagged t is in
      subst (AreDrawn (entered (state_of h tagged) t.entry)) (sym are) (fills-drawn h (state_of h tagged) t.entry is.legal.session last.sound last.step)

  -- and they are made
  way-filled : (new : Book) → FillsAll now new fills → IsUnderWay h tagged t (drawn_here h tagged t.entry) (fills_of t.entry.outcome) new
  way-filled new filled =
      subst (λ (fs : List Fill). IsUnderWay h tagged t (drawn_all (entered (state_of h tagged) t.entry) fs) fs new) are
      (filled h tagged t (entered (state_of h tagged) t.entry) way-entered fills-fit)

pub fill_all-requires : goal.fill_all-requires
fill_all-requires c =
    let h = c.requires.next.0 in
    let tagged = c.requires.next.1 in
    let t : Tagged = tag c.args.who c.args.entry.now in
    let enters : c.enter.new.self ≡ entered_with c.args.self.now c.args.entry.now.bank (slot_for c.args.who c.args.entry.now.command) =
    c.in_ok-enter.ensures.entered ∙ ap (entered_with c.args.self.now c.args.entry.now.bank) c.slot_for-slot.ensures.value in
    record {
      drawn = (
        h,
        tagged,
        t,
        entered (state_of h tagged) c.args.entry.now,
        way-entered h tagged t c.args.self.now c.enter.new.self c.fills.result.now c.requires.next.2 c.requires.next.3 c.limit_fits.ensures.full enters c.fills.ensures.fills,
        fills-fit h tagged t c.args.self.now c.enter.new.self c.fills.result.now c.requires.next.2 c.requires.next.3 c.limit_fits.ensures.full enters c.fills.ensures.fills,
      );
    }

pub settle-requires : goal.settle-requires
settle-requires c =
    let h = c.requires.next.0 in
    let tagged = c.requires.next.1 in
    let t : Tagged = tag c.args.who c.args.entry.now in
    record {
      made = (
        h,
        tagged,
        t,
        refl,
        way-filled h tagged t c.args.self.now c.enter.new.self c.fills.result.now c.requires.next.2 c.requires.next.3 c.limit_fits.ensures.full
            (c.in_ok-enter.ensures.entered ∙ ap (entered_with c.args.self.now c.args.entry.now.bank) c.slot_for-slot.ensures.value) c.fills.ensures.fills c.fill_all.new.self c.fill_all.ensures.filled,
      );
    }

pub returns-clause-recorded : goal.returns-clause-recorded
returns-clause-recorded c h tagged stands is =
    let t : Tagged = tag c.args.who c.args.entry.now in
    settled-stands h tagged t c.settle.new.self
    (c.settle.ensures.settled h tagged t refl
    (way-filled h tagged t c.args.self.now c.enter.new.self c.fills.result.now stands is c.limit_fits.ensures.full
    (c.in_ok-enter.ensures.entered ∙ ap (entered_with c.args.self.now c.args.entry.now.bank) c.slot_for-slot.ensures.value) c.fills.ensures.fills c.fill_all.new.self c.fill_all.ensures.filled))
