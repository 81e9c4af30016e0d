-- A session that is watched, from look to look and from round to round.
use Rattle.std.specs.Prelude.{ℕ, ◌≡◌, ◌≤◌, List, [], ◌++◌, length, Option, Some, Result, Ok, Err}
use Rattle.std.specs.declared.alloc.Global.{Global}
use Rattle.std.specs.declared.vec.Vec.{Vec}
use mathlib.Core.List.{IsPrefix}
use Rattle.fx_amounts.specs.declared.memory.Memory.{Memory}
use Rattle.fx_rules.specs.declared.command.Sent.{Sent}
use Rattle.fx_rules.specs.declared.outcome.Entry.{Entry}
use Rattle.fx_rules.specs.declared.outcome.Outcome.{Outcome}
use Rattle.fx_rules.specs.declared.outcome.Outcome.TheVariants.{Depth}
use Rattle.fx_rules.specs.History.{state}
use Rattle.fx_rules.specs.Market.{IsDepthOf}
use Rattle.fx_rules.specs.Session.{Header}
use Rattle.fx_chronicle.specs.Faces.{Witness}
use Rattle.gateway_workers.specs.declared.lane.Lane.{Lane}
use Rattle.pair_host.specs.Standing.{HostState}
use Rattle.reply_lines.specs.Books.{LocalBook}
use Rattle.session_script.specs.Stage.{sent_at}
use Rattle.session_script.specs.Rounds.{HasRead, TookPromptlyBehind}
use Rattle.session_script.specs.declared.ends.TextEnd.{TextEnd}
use Rattle.session_script.specs.declared.reading.Reading.{Reading as TextReading}
use Rattle.gateway_workers.specs.Gathering.{HaveGatheredAll}
use Rattle.view_feed.specs.Feeds.{Feeding, Reading}
use Rattle.watched_run.specs.Looks.{Due, Shows, rounds_due}
use Rattle.watched_run.specs.Watched.{AreRounds, IsWatched}
use Rattle.watched_run.specs.declared.screen.Screen.{Screen}

-- the local book of an outcome that is one
abbrev pub book_of : Outcome → LocalBook
book_of (Depth bids asks) = record { bids = bids; asks = asks }
book_of _ = record { bids = []; asks = [] }

-- a reader is of the same feed as before
pub record IsOfFeed (was now : Reading) : Type 0 where
  pub session : now.session ≡ was.session
  pub tape : now.tape ≡ was.tape

-- A reader saw a local book behind so many entries. They go on from all that it had seen and was told, and are what it has seen and knows
-- from then on.
pub record HasSeen (bank pair : ℕ) (was now : Reading) (count : ℕ) (book : Outcome) : Type 0 where
  pub counted : count ≡ length now.seen
  pub depth : IsDepthOf bank pair book now.session (state now.session now.seen)
  pub from_seen : IsPrefix was.seen now.seen
  pub from_known : IsPrefix was.known now.seen
  pub knows : now.known ≡ now.seen

-- A feed has published more entries, and none waits.
pub record HasPublished (more : List Entry) (was now : Feeding) : Type 0 where
  pub session : now.session ≡ was.session
  pub published : now.published ≡ was.published ++ more
  pub pending : now.pending ≡ []

-- The screen shows more looks, behind what its reader had seen and was told.
pub record ShowsMore (h : Header) (more : ℕ → List Due) (was now : Screen) : Type 0 where
  pub known : IsPrefix was.reader.known now.reader.known
  pub shows : (dues : List Due) (known : ℕ) → known ≤ length was.reader.known → Shows h dues was.reader.seen was.lines.items → Shows h (dues ++ more known) now.reader.seen now.lines.items

-- The screen shows more looks behind all of a history, of which its reader was told.
pub record ShowsWhole (h : Header) (all : ℕ) (more : List Due) (was now : Screen) : Type 0 where
  pub known : IsPrefix was.reader.known now.reader.known
  pub shows : (dues : List Due) (history : List Entry) → length history ≡ all → IsPrefix history was.reader.known → Shows h dues was.reader.seen was.lines.items → Shows h (dues ++ more) now.reader.seen now.lines.items

-- its reader has then seen just the history
abbrev pub SeesWhole : ℕ → Screen → Screen → Type 0
SeesWhole all was now = (history : List Entry) → length history ≡ all → IsPrefix history was.reader.known → now.reader.seen ≡ history

-- The entries of these commands, which came in rounds, are gathered and published, the reader was told of them, and the screen shows what
-- was due after each round.
pub record IsWatching (h : Header) (sent : List Sent) (gathered : ℕ) (lanes : List (Lane (Witness Entry))) (feed : Feeding) (screen : Screen) : Type 0 where
  pub rounds : List (List Sent)
  pub are_rounds : AreRounds sent rounds
  pub entries : List Entry
  pub has_gathered : HaveGatheredAll h sent entries gathered lanes
  pub session : feed.session ≡ h
  pub published : feed.published ≡ entries
  pub pending : feed.pending ≡ []
  pub reads : screen.reader.session ≡ h
  pub tape : screen.reader.tape ≡ feed.tape
  pub told : IsPrefix entries screen.reader.known
  pub counted : screen.rounds ≡ length rounds
  pub shows : Shows h (rounds_due h 0 0 rounds) screen.reader.seen screen.lines.items

module _ {S : Type 0} (left : S → Option (List ℕ)) (faults : S → ℕ) (before now : S) (reading : TextReading) (h : Header) where
  -- what was read in former rounds was watched
  pub record IsWatchingText (gathered : ℕ) (lanes : List (Lane (Witness Entry))) (feed : Feeding) (screen : Screen) : Type 0 where
    pub sent : List Sent
    pub watching : IsWatching h sent gathered lanes feed screen
    pub has_read : HasRead left faults before now reading h (sent ++ sent_at reading.intake.stage)

  -- the text ended so, and all its rounds were watched
  pub record AreWatched (gathered : ℕ) (lanes : List (Lane (Witness Entry))) (feed : Feeding) (screen : Screen) (end : TextEnd) : Type 0 where
    pub ended : reading.end ≡ Some end
    pub sent : List Sent
    pub watching : IsWatching h sent gathered lanes feed screen
    pub has_read : HasRead left faults before now reading h sent

  abbrev pub RoundsWatched : (gathered : ℕ) → List (Lane (Witness Entry)) → Feeding → Screen → Result TextEnd Memory → Type 0
  RoundsWatched gathered lanes feed screen (Ok end) = AreWatched gathered lanes feed screen end
  RoundsWatched gathered lanes feed screen (Err memory) = TookPromptlyBehind [] left faults before now

  -- and the screen shows what was seen
  abbrev pub TextWatched : Screen → Result (TextEnd × Vec Entry Global × HostState) Memory → Type 0
  TextWatched screen (Ok done) = IsWatched left faults before now reading h (record { end = done.0; history = done.1; market = done.2; rounds = screen.rounds; lines = screen.lines })
  TextWatched screen (Err memory) = TookPromptlyBehind [] left faults before now
