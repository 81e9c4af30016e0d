-- A session that was watched, and its text.
use Rattle.std.specs.Prelude.{ℕ, ◌≡◌, ◌+◌, ◌*◌, ◌<◌, List, [], ◌∷◌, ◌++◌, length, codes, Option, Some, Result, Ok, Err}
use Rattle.std.specs.List.{flat_map}
use Rattle.fx_amounts.specs.Numeral.{numeral}
use Rattle.fx_amounts.specs.declared.memory.Memory.{Memory}
use Rattle.fx_rules.specs.declared.command.Sent.{Sent}
use Rattle.fx_rules.specs.declared.outcome.Entry.{Entry}
use Rattle.fx_rules.specs.History.{IsLegal, state}
use Rattle.fx_rules.specs.Lists.{Each}
use Rattle.fx_rules.specs.Session.{Header, bank_count, pair_count}
use Rattle.fx_chronicle.specs.Streams.{HasStreams}
use Rattle.pair_host.specs.Standing.{stands}
use Rattle.reply_lines.specs.Output.{IsOutput}
use Rattle.reply_lines.specs.Rows.{row}
use Rattle.reply_lines.specs.declared.output.Ending.{Ending}
use Rattle.session_script.specs.Rounds.{HasRead, TookPromptlyBehind}
use Rattle.session_script.specs.declared.reading.Reading.{Reading}
use Rattle.watched_run.specs.Looks.{Shows, rounds_due, all_due}
use Rattle.watched_run.specs.declared.watching.Watched.{Watched}

-- the commands came in these rounds, of which none is empty
pub record AreRounds (sent : List Sent) (rounds : List (List Sent)) : Type 0 where
  pub joined : sent ≡ flat_map (λ round. round) rounds
  pub some : Each (λ round. 0 < length round) rounds

-- The lines show what a reader saw of a session of these commands with this history, which had so many rounds: after each round a look at
-- each bank's local book in one pair, behind the entries of all rounds before at least; and then looks at all local books, behind all.
pub record HasWatched (h : Header) (sent : List Sent) (history : List Entry) (count : ℕ) (lines : List ℕ) : Type 0 where
  pub rounds : List (List Sent)
  pub are_rounds : AreRounds sent rounds
  pub counted : count ≡ length rounds
  pub shows : Shows h (rounds_due h 0 0 rounds ++ all_due h (length history)) history lines

-- how many looks there are for so many rounds
abbrev pub look_count : Header → ℕ → ℕ
look_count h rounds = bank_count h * rounds + bank_count h * pair_count h

-- The text of what was seen: how many looks there are, and these.
pub record IsWatchText (h : Header) (sent : List Sent) (history : List Entry) (text : List ℕ) : Type 0 where
  pub rounds : ℕ
  pub lines : List ℕ
  pub watched : HasWatched h sent history rounds lines
  pub exactly : text ≡ row (codes "WATCHED") (numeral (look_count h rounds) ∷ []) ++ lines

-- the output of a history, and then the text of what was seen
pub record IsWatchedOutput (h : Header) (sent : List Sent) (history : List Entry) (strays : ℕ) (ending : Ending) (text : List ℕ) : Type 0 where
  pub output : List ℕ
  pub is_output : IsOutput h history strays ending output
  pub seen : List ℕ
  pub is_seen : IsWatchText h sent history seen
  pub exactly : text ≡ output ++ seen

module _ {S : Type 0} (left : S → Option (List ℕ)) (faults : S → ℕ) (before now : S) (reading : Reading) (h : Header) where
  -- the session of a text that ended so: its history, the market in the state after it, and what was seen
  pub record IsWatched (watched : Watched) : Type 0 where
    pub ended : reading.end ≡ Some watched.end
    pub sent : List Sent
    pub has_read : HasRead left faults before now reading h sent
    pub legal : IsLegal h watched.history.items
    pub streams : HasStreams sent watched.history.items
    pub at_the_end : stands watched.market h (state h watched.history.items)
    pub watched_so : HasWatched h sent watched.history.items watched.rounds watched.lines.items

  abbrev pub WatchedText : Result Watched Memory → Type 0
  WatchedText (Ok watched) = IsWatched watched
  WatchedText (Err memory) = TookPromptlyBehind [] left faults before now
