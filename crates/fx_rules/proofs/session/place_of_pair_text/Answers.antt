use Rattle.std.proofs.Common.{◌∙◌, ◌&&◌, ap, ap₂, List, ℕ, position, bytes_eq, drop, drop-drop}
use Rattle.fx_rules.proofs.Sought.{place_by_parts, no_place}
use Rattle.fx_rules.proofs.session.place_of_pair_text.Goals as goal
use Rattle.fx_rules.proofs.session.place_of_pair_text.Goals.{then-text-ne7-via-then-text-ne7, then-text-ne7-via-else-text-ne7+then-text-ne47}

pub returns-then-text-ne7 : goal.returns-then-text-ne7
returns-then-text-ne7 c = record {
  value = no_place c.args.pairs.now c.args.text.now c.requires.valid (λ form. elim c.then-text-ne7.branch [
    | then-text-ne7-via-then-text-ne7 w ↦ w.if-text-ne7.true form.0
    | then-text-ne7-via-else-text-ne7+then-text-ne47 w ↦ w.if-text-ne47.true form.1
  ]);
}

pub returns : goal.returns
returns c = record {
  value = c.place_of_pair_by.ensures.value
      ∙ ap₂ (λ (base quote : List ℕ). position (λ rule. bytes_eq rule.base base && bytes_eq rule.quote quote) c.args.pairs.now)
      c.split_at.ensures.front
      (c.split_at-2.ensures.back ∙ ap (drop 1) c.split_at.ensures.back ∙ drop-drop 1 3 c.args.text.now)
      ∙ place_by_parts c.args.pairs.now c.args.text.now c.requires.valid c.if-text-ne7.false c.if-text-ne47.false;
}
