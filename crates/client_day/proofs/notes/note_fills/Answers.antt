-- Each turn adds one fill.
use Rattle.std.proofs.Common.{◌∙◌, List, arith, subst}
use Rattle.std.proofs.lemmas.List.{take_all}
use Rattle.std.specs.List.{flat_map}
use Rattle.fx_rules.specs.declared.orders.Fill.{Fill}
use Rattle.client_desk.specs.Clients.{owner_in}
use Rattle.reply_lines.specs.Desks.{HaveGot}
use Rattle.reply_lines.specs.Notices.{fill_notices}
use Rattle.reply_lines.specs.Prints.{IsFillOf}
use Rattle.reply_lines.proofs.Gathering.{got-more, got-nothing}
use Rattle.reply_lines.proofs.Items.{at-place}
use Rattle.client_day.specs.inside.Desks.{HaveNoted}
use Rattle.client_day.specs.Notes.{fill_notes}
use Rattle.client_day.proofs.Noting.{noted-more, noted-nothing}
use Rattle.client_day.proofs.notes.note_fills.Goals as goal

pub loop-fill-init : goal.loop-fill-init
loop-fill-init c = record {
  noted = λ h tagged stands. noted-nothing c.args.session.now c.args.desks.now.items;
  got = got-nothing c.args.session.now c.args.senders.now.items;
  count = c.requires.desks;
  banks = c.requires.banks;
  fills = c.requires.fills;
}

pub loop-fill-preserved : goal.loop-fill-preserved
loop-fill-preserved c = record {
  noted = λ h tagged stands.
      noted-more c.args.session.now (fill_notes (owner_in tagged)) c.args.fills.now c.loop-fill.fill-index c.fill-item.result c.args.desks.now.items c.loop-fill.desks.items c.note_fill.new.desks.items c.loop-fill-test.true c.fill-item.is
      (c.loop-fill.invariant.noted h tagged stands) (c.in_ok-note_fill.ensures.noted h tagged stands);
  got = got-more c.args.session.now fill_notices c.args.fills.now c.loop-fill.fill-index c.fill-item.result c.args.senders.now.items c.loop-fill.senders.items c.note_fill.new.senders.items c.loop-fill-test.true c.fill-item.is c.loop-fill.invariant.got c.in_ok-note_fill.ensures.got;
  banks = omega (arith, c.in_ok-note_fill.ensures.got.count, c.loop-fill.invariant.banks);
  count = (c.in_ok-note_fill.ensures.noted c.requires.known.0 c.requires.known.1 c.requires.known.2).count ∙ c.loop-fill.invariant.count;
  fills = (at-place (IsFillOf c.args.session.now) c.args.fills.now c.loop-fill.fill-index c.fill-item.result c.loop-fill-test.true c.fill-item.is c.loop-fill.invariant.fills).1;
}

pub returns : goal.returns
returns c = record {
  got = subst (λ (fills : List Fill). HaveGot c.args.session.now (λ bank. flat_map (fill_notices bank) fills) c.args.senders.now.items c.loop-fill.senders.items) (take_all c.loop-fill.fill-index c.args.fills.now c.loop-fill-test.false) c.loop-fill.invariant.got;
  noted = λ h tagged stands.
      subst (λ (fills : List Fill). HaveNoted c.args.session.now (λ k. flat_map (fill_notes (owner_in tagged) k) fills) c.args.desks.now.items c.loop-fill.desks.items) (take_all c.loop-fill.fill-index c.args.fills.now c.loop-fill-test.false)
      (c.loop-fill.invariant.noted h tagged stands);
}
