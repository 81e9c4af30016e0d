-- One look behind all, and its line.
use Rattle.std.proofs.Common.{◌∙◌, sym}
use Rattle.reply_lines.proofs.Outputs.{on_ok}
use Rattle.watched_run.proofs.Showing.{whole-seen, whole-sees}
use Rattle.watched_run.proofs.screen.Screen.show_behind.Goals as goal

pub returns-clause-shows : goal.returns-clause-shows
returns-clause-shows g c =
    on_ok c.push_look.result
    (λ line. whole-seen c.args.session.now c.args.bank c.args.pair c.args.all c.in_ok-book.book c.args.self.now (record { reader = c.look_behind.new.reader; lines = c.push_look.new.lines; rounds = c.args.self.now.rounds }) c.in_ok-book.ensures.seen (c.look_behind.ensures.feed.session ∙ sym c.requires.session) line)
    c.push_look.ensures.line

pub returns-clause-seen : goal.returns-clause-seen
returns-clause-seen g c =
    on_ok c.push_look.result
    (λ line. whole-sees c.args.session.now c.args.bank c.args.pair c.args.all c.in_ok-book.book c.args.self.now (record { reader = c.look_behind.new.reader; lines = c.push_look.new.lines; rounds = c.args.self.now.rounds }) c.in_ok-book.ensures.seen (c.look_behind.ensures.feed.session ∙ sym c.requires.session) line)
    c.push_look.ensures.line
