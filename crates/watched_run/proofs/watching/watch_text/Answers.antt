-- All rounds were watched, and then every local book behind the whole history.
use Rattle.std.proofs.Common.{◌≡◌, Result, sym, ◌∙◌, length, arith}
use Rattle.std.specs.declared.alloc.Global.{Global}
use Rattle.std.specs.declared.vec.Vec.{Vec}
use Rattle.fx_amounts.specs.declared.memory.Memory.{Memory}
use Rattle.fx_rules.specs.declared.outcome.Entry.{Entry}
use Rattle.pair_host.specs.Standing.{HostState}
use Rattle.session_script.specs.declared.ends.TextEnd.{TextEnd}
use Rattle.watched_run.specs.inside.Watching.{TextWatched}
use Rattle.session_script.proofs.RoundLaws.{promptly, same_session}
use Rattle.watched_run.proofs.Rounds.{for_memory, watched-whole}
use Rattle.watched_run.proofs.watching.watch_text.Goals as goal

pub returns-in_err-end-clause-watched : goal.returns-in_err-end-clause-watched
returns-in_err-end-clause-watched g c = λ before first.
    for_memory c.from_residual.result _ (λ (r : Result (TextEnd × Vec Entry Global × HostState) Memory). TextWatched g.S.Source.left g.S.Source.faults before c.watch_rounds.new.source c.watch_rounds.new.reading g.N.Naming.session c.watch_rounds.new.screen r) c.from_residual.ensures.1
    (λ memory. c.in_err-end.ensures.watched before first)

pub close-requires-clause-session : goal.close-requires-clause-session
close-requires-clause-session g c κs within =
    let all = c.in_ok-end.ensures.watched c.requires.watching.0 c.requires.watching.1 in
    same_session c.script.result.now.session all.has_read c.script.ensures.session

pub returns-in_err-history-clause-watched : goal.returns-in_err-history-clause-watched
returns-in_err-history-clause-watched g c = λ before first.
    for_memory c.from_residual-in_err-history.result _ (λ (r : Result (TextEnd × Vec Entry Global × HostState) Memory). TextWatched g.S.Source.left g.S.Source.faults before c.watch_rounds.new.source c.watch_rounds.new.reading g.N.Naming.session c.watch_rounds.new.screen r) c.from_residual-in_err-history.ensures.1
    (λ memory. promptly (c.in_ok-end.ensures.watched before first).has_read)

pub show_all-requires : goal.show_all-requires
show_all-requires g c =
    let all = c.in_ok-end.ensures.watched c.requires.watching.0 c.requires.watching.1 in
    record { session = same_session c.script.result.now.session all.has_read c.script.ensures.session ∙ sym all.watching.reads }

pub returns-in_err-show_all-clause-watched : goal.returns-in_err-show_all-clause-watched
returns-in_err-show_all-clause-watched g c = λ before first.
    for_memory c.from_residual-in_err-show_all.result _ (λ (r : Result (TextEnd × Vec Entry Global × HostState) Memory). TextWatched g.S.Source.left g.S.Source.faults before c.watch_rounds.new.source c.watch_rounds.new.reading g.N.Naming.session c.show_all.new.self r) c.from_residual-in_err-show_all.ensures.1
    (λ memory. promptly (c.in_ok-end.ensures.watched before first).has_read)

pub returns-clause-watched : goal.returns-clause-watched
returns-clause-watched g c = λ before first.
    let h = g.N.Naming.session in
    let all = c.in_ok-end.ensures.watched before first in
    let same = same_session c.script.result.now.session all.has_read c.script.ensures.session in
    let counted : c.len.result ≡ length c.in_ok-history.history.items = omega (arith, c.len.ensures, c.in_ok-history.history.ok) in
    record {
      ended = all.ended;
      sent = all.sent;
      has_read = all.has_read;
      legal = c.in_ok-history.ensures.legal;
      streams = c.in_ok-history.ensures.streams all.sent all.watching.has_gathered.served;
      at_the_end = c.in_ok-history.ensures.market;
      watched_so = watched-whole h c.script.result.now.session all.sent c.watch_rounds.new.run.gathered c.watch_rounds.new.run.lanes.items c.watch_rounds.new.feed c.watch_rounds.new.screen c.show_all.new.self all.watching
          c.in_ok-history.history.items c.len.result same (c.in_ok-history.ensures.gathered all.sent all.watching.entries all.watching.has_gathered) counted
          c.in_ok-show_all.ensures.shows c.in_ok-show_all.ensures.seen c.show_all.ensures.rounds;
    }
