-- A local book has none of these fields.
use Rattle.std.proofs.Common.{◌∙◌, ◌++◌, List, ℕ, ap, sym, take, append-nil}
use Rattle.fx_text.specs.Fields.{fields_text}
use Rattle.reply_lines.specs.inside.Replies.{plain_fields}
use Rattle.reply_lines.proofs.notices.put_other_outcome.Goals as goal

pub returns-in-Depth-clause-written : goal.returns-in-Depth-clause-written
returns-in-Depth-clause-written c =
    let front : List ℕ = take c.args.at c.args.room.now in
    sym (append-nil front) ∙ ap (λ (fields : List (List ℕ)). front ++ fields_text fields) (sym (ap plain_fields c.in-Depth.is))
