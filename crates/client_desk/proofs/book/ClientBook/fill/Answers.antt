use Rattle.std.proofs.Common.{◌≡◌, ◌++◌, [], ◌∷◌, length, ap, sym, subst, ◌∙◌}
use Rattle.client_desk.specs.Standing.{Book}
use Rattle.client_desk.specs.Draws.{drawn}
use Rattle.client_desk.specs.inside.Changes.{CanGive, filled_sums, side_with}
use Rattle.client_desk.specs.inside.UnderWay.{IsUnderWay}
use Rattle.client_desk.proofs.UnderWay.{can-fill-maker, can-fill-taker, fill-way}
use Rattle.client_desk.proofs.book.ClientBook.fill.Goals as goal

pub fill_side-requires : goal.fill_side-requires
fill_side-requires c =
    let full : length c.args.self.now.accounts ≡ length c.args.self.now.clients = subst (λ (b : Book). length b.accounts ≡ length b.clients) c.self.view_is c.self.invariant.accounts_full in
    record {
      gives = subst (CanGive c.args.self.now c.args.fill.now.maker c.args.fill.now.maker_number c.args.fill.now.pair) (sym c.count-lots.ensures.value)
          (can-fill-maker c.requires.drawn.0 c.requires.drawn.1 c.requires.drawn.2 c.requires.drawn.3 c.requires.drawn.4 c.args.fill.now c.args.self.now c.requires.drawn.5 c.requires.drawn.6 full);
    }

pub fill_side-requires-2 : goal.fill_side-requires-2
fill_side-requires-2 c =
    let full : length c.args.self.now.accounts ≡ length c.args.self.now.clients = subst (λ (b : Book). length b.accounts ≡ length b.clients) c.self.view_is c.self.invariant.accounts_full in
    let first : c.fill_side.new.self ≡ side_with filled_sums c.args.self.now c.args.fill.now.maker c.args.fill.now.maker_number c.args.fill.now.pair c.args.fill.now.lots =
    c.fill_side.ensures.value ∙ ap (side_with filled_sums c.args.self.now c.args.fill.now.maker c.args.fill.now.maker_number c.args.fill.now.pair) c.count-lots.ensures.value in
    record {
      gives = subst (λ (b : Book). CanGive b c.args.fill.now.taker c.args.fill.now.taker_number c.args.fill.now.pair c.count-lots.result) (sym first)
          (subst (CanGive (side_with filled_sums c.args.self.now c.args.fill.now.maker c.args.fill.now.maker_number c.args.fill.now.pair c.args.fill.now.lots) c.args.fill.now.taker c.args.fill.now.taker_number c.args.fill.now.pair) (sym c.count-lots.ensures.value)
          (can-fill-taker c.requires.drawn.0 c.requires.drawn.1 c.requires.drawn.2 c.requires.drawn.3 c.requires.drawn.4 c.args.fill.now c.args.self.now c.requires.drawn.5 c.requires.drawn.6 full));
    }

pub returns : goal.returns
returns c =
    let full : length c.args.self.now.accounts ≡ length c.args.self.now.clients = subst (λ (b : Book). length b.accounts ≡ length b.clients) c.self.view_is c.self.invariant.accounts_full in
    let first : c.fill_side.new.self ≡ side_with filled_sums c.args.self.now c.args.fill.now.maker c.args.fill.now.maker_number c.args.fill.now.pair c.args.fill.now.lots =
    c.fill_side.ensures.value ∙ ap (side_with filled_sums c.args.self.now c.args.fill.now.maker c.args.fill.now.maker_number c.args.fill.now.pair) c.count-lots.ensures.value in
    let second : c.fill_side-2.new.self ≡ side_with filled_sums (side_with filled_sums c.args.self.now c.args.fill.now.maker c.args.fill.now.maker_number c.args.fill.now.pair c.args.fill.now.lots) c.args.fill.now.taker c.args.fill.now.taker_number c.args.fill.now.pair c.args.fill.now.lots =
    c.fill_side-2.ensures.value ∙ ap (λ (b : Book). side_with filled_sums b c.args.fill.now.taker c.args.fill.now.taker_number c.args.fill.now.pair c.count-lots.result) first
    ∙ ap (side_with filled_sums (side_with filled_sums c.args.self.now c.args.fill.now.maker c.args.fill.now.maker_number c.args.fill.now.pair c.args.fill.now.lots) c.args.fill.now.taker c.args.fill.now.taker_number c.args.fill.now.pair) c.count-lots.ensures.value in
    record {
      clients = ap (λ (b : Book). b.clients) second;
      filled = λ h tagged t orders fills way is.
          subst (IsUnderWay h tagged t (drawn orders c.args.fill.now) (fills ++ c.args.fill.now ∷ [])) (sym second) (fill-way h tagged t orders fills c.args.fill.now c.args.self.now way is full);
    }
