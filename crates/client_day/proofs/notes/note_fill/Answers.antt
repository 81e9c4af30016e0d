-- The taker's bank and the owner of its order, and then the maker's.
use Rattle.std.proofs.Common.{◌<◌, ◌++◌, ℕ, Option, arith, sym, subst, ap₂, ◌∙◌}
use Rattle.reply_lines.specs.Fills.{AreTextsOf}
use Rattle.reply_lines.specs.Notices.Notice.{Took, Gave}
use Rattle.reply_lines.proofs.Gathering.{got-both}
use Rattle.reply_lines.proofs.Outputs.{on_ok}
use Rattle.client_day.specs.Notes.{note_for}
use Rattle.client_day.specs.Notes.Note.{Told}
use Rattle.client_day.proofs.Events.{owner-within}
use Rattle.client_day.proofs.Noting.{noted-same, noted-then}
use Rattle.client_day.proofs.notes.note_fill.Goals as goal

pub note_part-requires : goal.note_part-requires
note_part-requires c =
    let known = c.requires.known in
    record {
      fill = c.requires.fill;
      begun = c.begin_fill.ensures.texts;
      who = λ k is. subst (λ n. k < n) (sym c.requires.desks)
          (owner-within c.args.book.now.clients known.1 c.args.fill.now.taker c.args.fill.now.taker_number k known.2.tagged_is.tags (sym (c.owner-taker.ensures.owner known.0 known.1 known.2) ∙ is));
    }

pub note_part-requires-2 : goal.note_part-requires-2
note_part-requires-2 c =
    let known = c.requires.known in
    record {
      fill = c.requires.fill;
      begun = subst (AreTextsOf c.args.session.now c.args.fill.now) (sym c.note_part.ensures.begun) c.begin_fill.ensures.texts;
      who = λ k is. subst (λ n. k < n) (sym (c.in_ok-note_part.ensures.noted.count ∙ c.requires.desks))
          (owner-within c.args.book.now.clients known.1 c.args.fill.now.maker c.args.fill.now.maker_number k known.2.tagged_is.tags (sym (c.owner-maker.ensures.owner known.0 known.1 known.2) ∙ is));
    }

pub returns : goal.returns
returns c =
    let h = c.args.session.now in
    let f = c.args.fill.now in
    record {
      got = on_ok c.note_part-2.result
          (got-both h f.taker f.maker c.index.result c.index-2.result (Took f) (Gave f) c.args.senders.now.items c.index.ensures.value (omega (arith, c.requires.fill.taker, c.requires.banks)) c.index_mut-sender.ensures.value c.in_ok-note_part.ensures.got
          c.index-2.ensures.value (omega (arith, c.requires.fill.maker, c.requires.banks)) c.index_mut-sender-2.ensures.value)
          c.note_part-2.ensures.got;
      noted = on_ok c.note_part-2.result (λ given g tagged stands.
          noted-same h (λ k. note_for c.owner-taker.result k (Told (Took f)) ++ note_for c.owner-maker.result k (Told (Gave f))) _ c.args.desks.now.items c.note_part-2.new.desks.items
          (λ k. ap₂ (λ (a b : Option ℕ). note_for a k (Told (Took f)) ++ note_for b k (Told (Gave f))) (c.owner-taker.ensures.owner g tagged stands) (c.owner-maker.ensures.owner g tagged stands))
          (noted-then h (λ k. note_for c.owner-taker.result k (Told (Took f))) (λ k. note_for c.owner-maker.result k (Told (Gave f))) c.args.desks.now.items c.note_part.new.desks.items c.note_part-2.new.desks.items
          c.in_ok-note_part.ensures.noted given))
          c.note_part-2.ensures.noted;
    }
