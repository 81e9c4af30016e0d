use Rattle.std.proofs.Common.{◌∙◌, arith}
use Rattle.day_report.proofs.Bounds.{last-trade}
use Rattle.day_report.proofs.VolumeSums.{volume-fits, volumes-add, raised-from}
use Rattle.day_report.proofs.volumes.add_volume.Goals as goal

pub overflow_add-before : goal.overflow_add-before
overflow_add-before c =
    let fits = volume-fits c.args.session.now _ _ _ _ c.requires.can c.index-at.ensures.value c.index-before.ensures in omega (arith, fits.fills)

pub overflow_add-before-2 : goal.overflow_add-before-2
overflow_add-before-2 c =
    let fits = volume-fits c.args.session.now _ _ _ _ c.requires.can c.index-at.ensures.value c.index-before.ensures in
    omega (arith, fits.lots, c.count.ensures.value, c.from.ensures)

pub overflow_add-before-3 : goal.overflow_add-before-3
overflow_add-before-3 c =
    let fits = volume-fits c.args.session.now _ _ _ _ c.requires.can c.index-at.ensures.value c.index-before.ensures in
    omega (arith, fits.base, c.requires.base)

pub overflow_add-before-4 : goal.overflow_add-before-4
overflow_add-before-4 c =
    let fits = volume-fits c.args.session.now _ _ _ _ c.requires.can c.index-at.ensures.value c.index-before.ensures in
    omega (arith, fits.quote, c.requires.quote)

pub index_mut-requires : goal.index_mut-requires
index_mut-requires c =
    let trade = last-trade c.args.session.now c.requires.can.0 _ c.requires.can.2.each in
    omega (arith, c.requires.can.1.count, trade.pair, c.index-at.ensures.value)

pub returns : goal.returns
returns c =
    let trade = last-trade c.args.session.now c.requires.can.0 _ c.requires.can.2.each in
    record {
      adds = λ fills are. volumes-add c.args.session.now fills _ _ _ _ _ trade.pair are c.index-at.ensures.value c.index-before.ensures
          (raised-from c.args.session.now c.index-before.result.now c.args.fill.now _ _ _ (c.from.ensures ∙ c.count.ensures.value) c.requires.base c.requires.quote);
    }
