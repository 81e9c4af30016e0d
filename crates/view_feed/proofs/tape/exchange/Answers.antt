use Rattle.std.proofs.Common.{◌≡◌, length, sym, ◌∙◌, ap}
use Rattle.view_feed.specs.Feeds.{Stretch}
use Rattle.view_feed.proofs.Adding.{adds_moves}
use Rattle.view_feed.proofs.tape.exchange.Goals as goal

pub compare_exchange-found-requires : goal.compare_exchange-found-requires
compare_exchange-found-requires c =
    let h = c.requires.word in
    let offer = c.plain-offer.ensures in
    let pen = c.no_pen-pen.ensures in
    let book : c.again-seen.result.book ≡ c.args.word.now.book = ap (λ s. s.book) c.again-seen.ensures ∙ ap (λ (s : Stretch). s.tape) c.whole.view_is ∙ sym (ap (λ w. w.book) h) in
    let count : length c.again-seen.result.log ≡ c.whole.inside.count = ap (λ s. length s.log) c.again-seen.ensures ∙ sym c.whole.invariant in (
      ap (λ w. w.tracked) h,
      book,
      pen.0 ∙ book,
      offer.0,
      rw (ap (λ w. w.key) h, pen.1, offer.1, offer.3) (adds_moves c.again-seen.result.log c.args.entry.now c.whole.inside.count count),
    )
