-- A text served round by round, and what came of it.
use Rattle.std.specs.Prelude.{ℕ, ◌≡◌, List, [], ◌++◌, length, map, Option, Some, Result, Ok, Err}
use Rattle.std.specs.declared.alloc.Global.{Global}
use Rattle.std.specs.declared.vec.Vec.{Vec}
use Rattle.fx_amounts.specs.declared.memory.Memory.{Memory}
use Rattle.fx_rules.specs.declared.command.Sent.{Sent}
use Rattle.fx_rules.specs.declared.outcome.Entry.{Entry}
use Rattle.fx_rules.specs.Session.{Header}
use Rattle.fx_rules.specs.Sending.{sent_by}
use Rattle.fx_rules.specs.History.{IsLegal, state}
use Rattle.fx_chronicle.specs.Faces.{Witness}
use Rattle.fx_chronicle.specs.Streams.{HasStreams}
use Rattle.gateway_workers.specs.declared.lane.Lane.{Lane}
use Rattle.market_run.specs.Ran.{Ran}
use Rattle.market_run.specs.Running.{HasServed}
use Rattle.reply_lines.specs.Day.{AreNoticesOf}
use Rattle.reply_lines.specs.declared.day_notices.DayNotices.{DayNotices}
use Rattle.pair_host.specs.Standing.{HostState, stands}
use Rattle.session_script.specs.Stage.{sent_at}
use Rattle.session_script.specs.Rounds.{HasJournal, HasRead, TookPromptlyBehind}
use Rattle.session_script.specs.declared.ends.TextEnd.{TextEnd}
use Rattle.session_script.specs.declared.reading.Reading.{Reading}
use Rattle.gateway_workers.specs.SenderLanes.{HaveServed}

module _ {S : Type 0} (left : S → Option (List ℕ)) (faults : S → ℕ) where
  -- lanes have served what was read of their session in former rounds, each bank's in its order
  pub record AreServing (now : S) (reading : Reading) (h : Header) (lanes : List (Lane (Witness Entry))) : Type 0 where
    pub before : S
    pub sent : List Sent
    pub has_read : HasRead left faults before now reading h (sent ++ sent_at reading.intake.stage)
    pub served : HaveServed h sent lanes

  module _ (before now : S) (reading : Reading) (h : Header) where
    -- a run has served what was read of its session in former rounds, in the order of the lines, and it was so many commands; the
    -- reading keeps the journal
    pub record IsServing (run : Ran HostState DayNotices) (count : ℕ) : Type 0 where
      pub entries : List Entry
      pub has_journal : HasJournal left faults before now reading h (map sent_by entries ++ sent_at reading.intake.stage)
      pub has_served : HasServed stands AreNoticesOf h entries run
      pub counted : count ≡ length entries

    -- and what was read in this round too
    pub record HasServedRound (run : Ran HostState DayNotices) (count : ℕ) : Type 0 where
      pub entries : List Entry
      pub has_journal : HasJournal left faults before now reading h (map sent_by entries)
      pub has_served : HasServed stands AreNoticesOf h entries run
      pub counted : count ≡ length entries

    -- the text ended so, and the run has served all its commands in the order of the lines, of which the reading has the journal
    pub record IsServed (run : Ran HostState DayNotices) (count : ℕ) (end : TextEnd) : Type 0 where
      pub ended : reading.end ≡ Some end
      pub all : HasServedRound run count

    abbrev pub ServedText : Ran HostState DayNotices → ℕ → Result TextEnd Memory → Type 0
    ServedText run count (Ok end) = IsServed run count end
    ServedText run count (Err memory) = TookPromptlyBehind [] left faults before now

    -- so have the lanes, each bank's in its order
    pub record AreServed (lanes : List (Lane (Witness Entry))) (end : TextEnd) : Type 0 where
      pub ended : reading.end ≡ Some end
      pub sent : List Sent
      pub has_read : HasRead left faults before now reading h sent
      pub served : HaveServed h sent lanes

    abbrev pub LanesServedText : List (Lane (Witness Entry)) → Result TextEnd Memory → Type 0
    LanesServedText lanes (Ok end) = AreServed lanes end
    LanesServedText lanes (Err memory) = TookPromptlyBehind [] left faults before now

    -- and this is the history that they made, with the market in the state after it
    pub record IsHistoryOfText (end : TextEnd) (history : List Entry) (market : HostState) : Type 0 where
      pub ended : reading.end ≡ Some end
      pub sent : List Sent
      pub has_read : HasRead left faults before now reading h sent
      pub legal : IsLegal h history
      pub streams : HasStreams sent history
      pub at_the_end : stands market h (state h history)

    abbrev pub ThreadsServedText : Result (TextEnd × Vec Entry Global × HostState) Memory → Type 0
    ThreadsServedText (Ok done) = IsHistoryOfText done.0 done.1.items done.2
    ThreadsServedText (Err memory) = TookPromptlyBehind [] left faults before now
