use Rattle.std.proofs.Common.{drop, ap, ◌∙◌}
use Rattle.std.proofs.lemmas.List.{drop-drop}
use Rattle.order_lines.proofs.SpelledLines.{text_around}
use Rattle.order_lines.proofs.fronts.field_before.Goals as goal

pub returns : goal.returns
returns c = text_around c.args.text.now c.split_at.result.0.now c.split_at-2.result.1.now c.in_ok-at.at c.args.end
    c.in_ok-at.ensures.0 c.in_ok-at.ensures.1 c.split_at.ensures.front
    (c.split_at-2.ensures.back ∙ ap (drop 1) c.split_at.ensures.back ∙ drop-drop 1 c.in_ok-at.at c.args.text.now)
