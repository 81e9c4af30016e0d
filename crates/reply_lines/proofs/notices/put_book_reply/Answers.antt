use Rattle.std.proofs.Common.{◌∷◌, [], List, ℕ, take, codes}
use Rattle.fx_amounts.specs.Numeral.{numeral}
use Rattle.reply_lines.specs.Notices.{book_fields}
use Rattle.reply_lines.proofs.WrittenLines.{field_written, row_written}
use Rattle.reply_lines.proofs.notices.put_book_reply.Goals as goal

pub returns-clause-written : goal.returns-clause-written
returns-clause-written c =
    let one : List ℕ = take c.put_wide-end.result c.put_wide-end.new.room in
    let two : List ℕ = take c.put_count-end.result c.put_count-end.new.room in
    let three : List ℕ = take c.put_word_field-end.result c.put_word_field-end.new.room in
    row_written (take c.args.at c.args.room.now) one three (take c.put_book-end.result c.put_book-end.new.room) (take c.put_byte.result c.put_byte.new.room)
    (numeral c.args.notice) (codes "REPLY" ∷ numeral c.args.number ∷ codes "BOOK" ∷ []) (book_fields c.args.session.now c.args.pair c.args.bids.now c.args.asks.now)
    c.put_wide-end.ensures.written
    (field_written one two three (codes "REPLY" ∷ numeral c.args.number ∷ []) (codes "BOOK") c.put_count-end.ensures.written c.put_word_field-end.ensures.written)
    c.put_book-end.ensures.written c.put_byte.ensures.written
