use Rattle.std.proofs.Common.{◌∙◌, ◌++◌, ◌∷◌, List, ℕ, ap, take}
use Rattle.fx_rules.specs.Session.{pair_name, decimals_of}
use Rattle.fx_text.specs.Fields.{fields_text}
use Rattle.reply_lines.specs.Notices.{level_fields}
use Rattle.reply_lines.proofs.Levels.{book_written}
use Rattle.reply_lines.proofs.notices.put_book.Goals as goal

pub returns-clause-written : goal.returns-clause-written
returns-clause-written c =
    let h = c.args.session.now in
    let front : List ℕ = take c.args.at c.args.room.now in
    let one : List ℕ = take c.put_field-end.result c.put_field-end.new.room in
    let two : List ℕ = take c.put_word_field-end.result c.put_word_field-end.new.room in
    let three : List ℕ = take c.put_levels-end.result c.put_levels-end.new.room in
    let four : List ℕ = take c.put_word_field-end-2.result c.put_word_field-end-2.new.room in
    book_written front one two three four (take c.put_levels.result c.put_levels.new.room) (pair_name h c.args.pair)
    (level_fields (decimals_of h c.args.pair) c.args.bids.now) (level_fields (decimals_of h c.args.pair) c.args.asks.now)
    (c.put_field-end.ensures.written ∙ ap (λ (t : List ℕ). front ++ 32 ∷ t) (c.text.ensures.value ∙ c.rule-rule.ensures.text))
    c.put_word_field-end.ensures.written
    (c.put_levels-end.ensures.written ∙ ap (λ (d : ℕ). two ++ fields_text (level_fields d c.args.bids.now)) c.rule-rule.ensures.decimals)
    c.put_word_field-end-2.ensures.written
    (c.put_levels.ensures.written ∙ ap (λ (d : ℕ). four ++ fields_text (level_fields d c.args.asks.now)) c.rule-rule.ensures.decimals)
