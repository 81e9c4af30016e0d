use Rattle.std.proofs.Common.{◌++◌, ap, refl}
use Rattle.session_script.specs.Stage.{heard_at, sent_at}
use Rattle.session_script.proofs.ScriptReading.{ReadsOn-reading, HasRead-round, HasJournal-round, HasHeard-round, TookOn-round}
use Rattle.session_script.proofs.reading.Reading.read_round.Goals as goal

pub returns-in-Ok-clause-read : goal.returns-in-Ok-clause-read
returns-in-Ok-clause-read g c = λ front before h all has.
    let round = c.in-Ok.ensures.took front before has.former has.input (ReadsOn-reading has c.requires.goes_on) in
    HasRead-round c.read_round.new.self c.in-Ok.end _ h (all ++ sent_at c.read_round.new.self.stage) round (c.in-Ok.ensures.session h has.session) refl refl
    (ap (λ sent. sent ++ sent_at c.read_round.new.self.stage) has.all_is) has.is_front

pub returns-in-Ok-clause-journal : goal.returns-in-Ok-clause-journal
returns-in-Ok-clause-journal g c = λ front before h all writes.
    let has = writes.has_read in
    let round = c.in-Ok.ensures.took front before has.former has.input (ReadsOn-reading has c.requires.goes_on) in
    HasJournal-round c.read_round.new.self c.in-Ok.end _ h (all ++ sent_at c.read_round.new.self.stage) round (c.in-Ok.ensures.session h has.session) refl refl
    (ap (λ sent. sent ++ sent_at c.read_round.new.self.stage) has.all_is) has.is_front writes.keeps

pub returns-in-Ok-clause-heard : goal.returns-in-Ok-clause-heard
returns-in-Ok-clause-heard g c = λ front before h all heard hears.
    let has = hears.has_read in
    let round = c.in-Ok.ensures.took front before has.former has.input (ReadsOn-reading has c.requires.goes_on) in
    HasHeard-round c.read_round.new.self c.in-Ok.end _ h (all ++ sent_at c.read_round.new.self.stage) (heard ++ heard_at c.read_round.new.self.stage) round (c.in-Ok.ensures.session h has.session) refl refl
    (ap (λ sent. sent ++ sent_at c.read_round.new.self.stage) has.all_is) has.is_front hears.keeps (ap (λ lines. lines ++ heard_at c.read_round.new.self.stage) hears.heard_is)

pub returns-in-Err-Memory-clause-memory : goal.returns-in-Err-Memory-clause-memory
returns-in-Err-Memory-clause-memory g c = λ front before h all has.
    TookOn-round (c.read_round.ensures.took front before has.former has.input (ReadsOn-reading has c.requires.goes_on))
