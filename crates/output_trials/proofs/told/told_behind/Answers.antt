-- The entries that are counted begin the history, and those that are told go on from them.
use Rattle.std.proofs.Common.{◌≡◌, ◌++◌, ◌∙◌, List, [], ap₂, sym, subst, take-append-drop}
use Rattle.fx_rules.specs.declared.outcome.Entry.{Entry}
use Rattle.fx_rules.specs.History.{IsLegal}
use Rattle.flat_host.proofs.GoingOn.{legal_taken}
use Rattle.output_trials.proofs.told.told_behind.Goals as goal

pub count-requires : goal.count-requires
count-requires c =
    let h = c.args.session.now in
    record {
      next = (h, [], subst (IsLegal h) (sym c.split_at.ensures.front) (legal_taken h c.args.entries.now c.args.counted c.requires.legal), c.in_ok-telling.ensures.opens);
    }

pub tell-requires : goal.tell-requires
tell-requires c =
    let h = c.args.session.now in
    let before : List Entry = c.split_at.result.0.now in
    let more : List Entry = c.split_at.result.1.now in
    let whole : before ++ more ≡ c.args.entries.now =
    ap₂ (λ (xs ys : List Entry). xs ++ ys) c.split_at.ensures.front c.split_at.ensures.back ∙ take-append-drop c.args.counted c.args.entries.now in
    record { next = (before, subst (IsLegal h) (sym whole) c.requires.legal, c.count.ensures.counted h [] c.in_ok-telling.ensures.opens) }
