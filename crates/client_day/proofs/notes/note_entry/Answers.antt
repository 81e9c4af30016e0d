-- The reply, and then the fills.
use Rattle.std.proofs.Common.{◌<◌, ◌∷◌, [], List, arith, if◌then◌else◌, eqb, sym, subst, ◌∙◌, length, set}
use Rattle.std.proofs.lemmas.List.{length-set}
use Rattle.std.specs.List.{flat_map}
use Rattle.fx_rules.specs.declared.orders.Fill.{Fill}
use Rattle.fx_rules.specs.Lists.{Each}
use Rattle.fx_rules.specs.Step.{fills_of}
use Rattle.fx_rules.proofs.Senders.{command-place}
use Rattle.client_desk.specs.Clients.{owner_in}
use Rattle.reply_lines.specs.Desks.{DeskSoFar, HaveGot}
use Rattle.reply_lines.specs.Notices.{fill_notices}
use Rattle.reply_lines.specs.Notices.Notice.{Replied}
use Rattle.reply_lines.specs.Prints.{IsFillOf}
use Rattle.reply_lines.proofs.Gathering.{got-at, got-then}
use Rattle.reply_lines.proofs.Placing.{banks-placed}
use Rattle.reply_lines.proofs.Printable.{last-prints}
use Rattle.client_day.specs.inside.Desks.{HaveNoted}
use Rattle.client_day.specs.Notes.{fill_notes, note_for}
use Rattle.client_day.specs.Notes.Note.{Told}
use Rattle.client_day.proofs.Noting.{noted-then}
use Rattle.client_day.proofs.notes.note_entry.Goals as goal

pub index_mut-requires : goal.index_mut-requires
index_mut-requires c =
    let next = c.requires.next in
    let prints = last-prints c.args.session.now next.0 c.args.entry.now next.1 in
    omega (arith, c.index.ensures.value, next.2.desks.places, command-place c.args.session.now c.args.entry.now.bank c.args.entry.now.command next.1.session prints.command)

pub note_reply-requires : goal.note_reply-requires
note_reply-requires c =
    let next = c.requires.next in
    record { answer = (last-prints c.args.session.now next.0 c.args.entry.now next.1).answer; who = c.requires.who }

pub note_fills-requires : goal.note_fills-requires
note_fills-requires c =
    let next = c.requires.next in
    let desks : List DeskSoFar = c.args.notices.now.desks.items in
    record {
      fills = subst (Each (IsFillOf c.args.session.now)) (sym c.fills.ensures.fills) (last-prints c.args.session.now next.0 c.args.entry.now next.1).fills;
      banks = omega (arith, next.2.desks.places, banks-placed c.args.session.now next.1.session, length-set desks c.index.result c.note_reply.new.sender);
      known = c.requires.known;
      desks = c.in_ok-note_reply.ensures.noted.count ∙ c.requires.desks;
    }

pub follow-requires : goal.follow-requires
follow-requires c = let next = c.requires.next in record { next = (next.0, next.1, next.2.sums) }

pub returns : goal.returns
returns c =
    let h = c.args.session.now in
    let e = c.args.entry.now in
    let desks : List DeskSoFar = c.args.notices.now.desks.items in
    let between : List DeskSoFar = set desks c.index.result c.note_reply.new.sender in
    record {
      told = λ entries legal are.
          let prints = last-prints h entries e legal in
          let within : e.bank < length desks = omega (arith, are.desks.places, command-place h e.bank e.command legal.session prints.command) in
          let replied : HaveGot h (λ sender. if eqb e.bank sender then Replied e ∷ [] else []) desks between = got-at h e.bank c.index.result (Replied e) desks c.index.ensures.value within c.index_mut.ensures.value c.in_ok-note_reply.ensures.got in
          let filled : HaveGot h (λ sender. flat_map (fill_notices sender) (fills_of e.outcome)) between c.note_fills.new.senders.items =
          subst (λ (fills : List Fill). HaveGot h (λ sender. flat_map (fill_notices sender) fills) between c.note_fills.new.senders.items) c.fills.ensures.fills c.in_ok-note_fills.ensures.got in
          c.follow.ensures.follows entries desks legal are.sums are.desks
          (got-then h (λ sender. if eqb e.bank sender then Replied e ∷ [] else []) (λ sender. flat_map (fill_notices sender) (fills_of e.outcome)) desks between c.note_fills.new.senders.items replied filled);
      noted = λ g tagged stands.
          noted-then h (λ k. note_for c.args.who.now k (Told (Replied e))) (λ k. flat_map (fill_notes (owner_in tagged) k) (fills_of e.outcome))
          c.args.desks.now.items c.note_reply.new.desks.items c.note_fills.new.desks.items c.in_ok-note_reply.ensures.noted
          (subst (λ (fills : List Fill). HaveNoted h (λ k. flat_map (fill_notes (owner_in tagged) k) fills) c.note_reply.new.desks.items c.note_fills.new.desks.items) c.fills.ensures.fills (c.in_ok-note_fills.ensures.noted g tagged stands));
    }
