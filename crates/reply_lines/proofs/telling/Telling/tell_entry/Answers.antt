-- The sender is told the reply, and then the banks of the fills theirs.
use Rattle.std.proofs.Common.{List, ℕ, [], ◌∷◌, ◌∙◌, sym, subst}
use Rattle.std.proofs.lemmas.List.{take_all}
use Rattle.std.specs.List.{flat_map}
use Rattle.fx_edges.proofs.Writing.{IsPrefixOf-trans}
use Rattle.fx_rules.specs.declared.orders.Fill.{Fill}
use Rattle.fx_rules.specs.Step.{fills_of}
use Rattle.fx_rules.proofs.Senders.{suits-sender}
use Rattle.reply_lines.specs.Notices.Notice.{Replied, Took, Gave}
use Rattle.reply_lines.specs.Telling.{Addressed, addressed_to, fill_addressed}
use Rattle.reply_lines.specs.inside.Telling.{CanCount, HasTold, with_one}
use Rattle.reply_lines.proofs.Counting.{can-behind, can-first, can-more, can-turn, told-begins, told-more, told-none, told-then}
use Rattle.reply_lines.proofs.telling.Telling.tell_entry.Goals as goal

pub tell_reply-requires : goal.tell_reply-requires
tell_reply-requires c =
    let e = c.args.entry.now in
    record {
      answer = c.requires.entry.answer;
      sender = suits-sender c.args.session.now e.bank e.command c.requires.entry.command.sends;
      can = can-first (addressed_to e.bank (Replied e) ∷ []) (flat_map fill_addressed (fills_of e.outcome)) c.requires.can;
    }

pub loop-fill-init : goal.loop-fill-init
loop-fill-init c =
    let e = c.args.entry.now in
    let fills : List Addressed = flat_map fill_addressed (fills_of e.outcome) in
    let rest : CanCount fills (with_one c.args.self.now.counts.items e.bank) = can-behind (addressed_to e.bank (Replied e) ∷ []) fills c.requires.can in
    record {
      told = told-none c.args.session.now c.tell_reply.new.self.counts.items c.tell_reply.new.text;
      can = subst (λ (fs : List Fill). CanCount (flat_map fill_addressed fs) c.tell_reply.new.self.counts.items) (sym c.fills-fill-items.ensures.fills)
          (subst (λ (cs : List ℕ). CanCount fills cs) (sym c.in_ok-tell_reply.ensures.ok.counted) rest);
    }

pub tell_part-requires-clause-can : goal.tell_part-requires-clause-can
tell_part-requires-clause-can c =
    let f = c.fill-item.result in
    can-first (addressed_to f.taker (Took f) ∷ []) (addressed_to f.maker (Gave f) ∷ [])
    (can-turn fill_addressed c.fills-fill-items.result.now c.loop-fill.fill-index f c.loop-fill-test.true c.fill-item.is c.loop-fill.invariant.can)

pub returns-in_err-tell_part-clause-begins : goal.returns-in_err-tell_part-clause-begins
returns-in_err-tell_part-clause-begins c = IsPrefixOf-trans c.in_ok-tell_reply.ensures.begins (IsPrefixOf-trans (told-begins c.loop-fill.invariant.told) c.in_err-tell_part.ensures.begins)

pub tell_part-requires-in-loop-fill-clause-can : goal.tell_part-requires-in-loop-fill-clause-can
tell_part-requires-in-loop-fill-clause-can c =
    let f = c.fill-item.result in
    let maker : List Addressed = addressed_to f.maker (Gave f) ∷ [] in
    subst (λ (cs : List ℕ). CanCount maker cs) (sym c.in_ok-tell_part.ensures.ok.counted) (can-behind (addressed_to f.taker (Took f) ∷ []) maker
    (can-turn fill_addressed c.fills-fill-items.result.now c.loop-fill.fill-index f c.loop-fill-test.true c.fill-item.is c.loop-fill.invariant.can))

pub returns-in_err-tell_part-2-clause-begins : goal.returns-in_err-tell_part-2-clause-begins
returns-in_err-tell_part-2-clause-begins c = IsPrefixOf-trans c.in_ok-tell_reply.ensures.begins
    (IsPrefixOf-trans (told-begins c.loop-fill.invariant.told) (IsPrefixOf-trans c.in_ok-tell_part.ensures.begins c.in_err-tell_part-2.ensures.begins))

pub loop-fill-preserved : goal.loop-fill-preserved
loop-fill-preserved c =
    let f = c.fill-item.result in
    let one = told-then c.args.session.now (addressed_to f.taker (Took f) ∷ []) (addressed_to f.maker (Gave f) ∷ []) c.in_ok-tell_part.ensures.ok c.in_ok-tell_part-2.ensures.ok in
    record {
      told = told-more fill_addressed c.fills-fill-items.result.now c.loop-fill.fill-index f c.loop-fill-test.true c.fill-item.is c.args.session.now c.loop-fill.invariant.told one;
      can = can-more fill_addressed c.fills-fill-items.result.now c.loop-fill.fill-index f c.loop-fill-test.true c.fill-item.is one.counted c.loop-fill.invariant.can;
    }

pub returns-clause-ok : goal.returns-clause-ok
returns-clause-ok c =
    let e = c.args.entry.now in
    let h = c.args.session.now in
    told-then h (addressed_to e.bank (Replied e) ∷ []) (flat_map fill_addressed (fills_of e.outcome)) c.in_ok-tell_reply.ensures.ok
    (subst (λ (fs : List Fill). HasTold h (flat_map fill_addressed fs) c.tell_reply.new.self.counts.items c.loop-fill.self.counts.items c.tell_reply.new.text c.loop-fill.text)
    (take_all c.loop-fill.fill-index c.fills-fill-items.result.now c.loop-fill-test.false ∙ c.fills-fill-items.ensures.fills) c.loop-fill.invariant.told)

pub returns-clause-begins : goal.returns-clause-begins
returns-clause-begins c = IsPrefixOf-trans c.in_ok-tell_reply.ensures.begins (told-begins c.loop-fill.invariant.told)
