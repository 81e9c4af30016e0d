-- The taker's bank has one notice more, and then the maker's.
use Rattle.std.proofs.Common.{◌∙◌, List, ℕ, [], ◌∷◌, ap, sym, subst}
use Rattle.reply_lines.specs.Notices.Notice.{Took, Gave}
use Rattle.reply_lines.specs.Telling.{Addressed, addressed_to}
use Rattle.reply_lines.specs.inside.Telling.{CanCount, with_one}
use Rattle.reply_lines.proofs.Counting.{can-behind_one, can-next}
use Rattle.reply_lines.proofs.telling.Telling.count_fill.Goals as goal

pub count_one-requires : goal.count_one-requires
count_one-requires c =
    let next = can-next (addressed_to c.args.fill.now.taker (Took c.args.fill.now)) c.requires.can in
    record { sender = next.0; few = next.1 }

pub count_one-requires-2 : goal.count_one-requires-2
count_one-requires-2 c =
    let f = c.args.fill.now in
    let maker : Addressed = addressed_to f.maker (Gave f) in
    let rest : CanCount (maker ∷ []) (with_one c.args.self.now.counts.items f.taker) = can-behind_one (addressed_to f.taker (Took f)) (maker ∷ []) c.requires.can in
    let next = can-next maker (subst (λ (cs : List ℕ). CanCount (maker ∷ []) cs) (sym c.count_one.ensures.counted) rest) in
    record { sender = next.0; few = next.1 }

pub returns : goal.returns
returns c = record { counted = c.count_one-2.ensures.counted ∙ ap (λ (cs : List ℕ). with_one cs c.args.fill.now.maker) c.count_one.ensures.counted }
