use Rattle.std.proofs.Common.{rules, ◌∙◌, ◌≡◌, ◌+◌, ◌-◌, ◌<◌, ◌≤◌, min, ℕ, [], ◌++◌, List, Option, Result, Ok, Err, length, take, drop, refl, ap, sym, subst, arith, length-take}
use Rattle.std.proofs.lemmas.List.{take-append-le}
use Rattle.std.specs.Prelude.{IsErrAnd}
use Rattle.std.specs.Io.KnownBytes.{IsAtEnd}
use Rattle.fx_amounts.specs.OutOfMemory.{refused}
use Rattle.fx_edges.specs.Reading.{Took}
use Rattle.fx_text.specs.Lines.{lines_of}
use Rattle.session_script.specs.Stage.{Past}
use Rattle.session_script.specs.inside.Stage.{past_behind}
use Rattle.session_script.specs.Intake.{StandsFor}
use Rattle.session_script.specs.inside.Rounds.{TookRound}
use Rattle.session_script.specs.declared.ends.TextEnd.{TextEnd}
use Rattle.session_script.specs.declared.ends.Stop.{Stop}
use Rattle.session_script.specs.declared.ends.Stop.TheVariants.{Memory}
use Rattle.session_script.proofs.ScriptReading.{InRound-begun, InRound-piece, TookRound-fault, TookRound-end, TookRound-memory, TookRound-settled, TookRound-much, TookRound-on}
use Rattle.session_script.proofs.intake.Intake.read_round.Goals as goal

-- what one read gave, in the room that it was given
record IsPiece (piece : List ℕ) (taken end : ℕ) : Type 0 where
  pub short : length piece ≤ 4096
  pub fits : taken + length piece ≤ end

IsPiece-read : (into before : List ℕ) (count room taken end : ℕ) → count ≡ length (take count into) → count ≤ length into → length into ≡ length (take room before) → room ≡ min 4096 (end - taken) → taken < end
    → IsPiece (take count into) taken end
IsPiece-read into before count room taken end whole within same asked below = record {
  short = omega (arith, length-take room before);
  fits = omega (arith, length-take room before);
}

-- the piece that is fed is what was read
fed : (into behind : List ℕ) (count : ℕ) → count ≤ length into → take count (into ++ behind) ≡ take count into
fed into behind count within = take-append-le count into behind within

memory_result : (result : Result (Option TextEnd) Stop) → IsErrAnd result (λ stop. stop ≡ Memory refused) → result ≡ Err (Memory refused)
memory_result (Ok end) is = absurd is
memory_result (Err stop) is = ap Err is

pub loop-self-init : goal.loop-self-init
loop-self-init g c = record {
  round = λ front before former input reads.
      InRound-begun (past_behind former c.args.self.now.stage) _ refl refl reads (c.begin_round.ensures.begun (lines_of (front ++ input)) former reads.stands.stage);
  session = c.begin_round.ensures.session;
  within = omega (arith, c.min-end.ensures, c.args.self.now.within);
}

pub returns-in_default-clause-took : goal.returns-in_default-clause-took
returns-in_default-clause-took g c = λ front before former input reads.
    TookRound-fault (c.loop-self.invariant.round front before former input reads) (search rules) (search rules) (search rules) (search rules)

pub returns-then-count-eq0-clause-took : goal.returns-then-count-eq0-clause-took
returns-then-count-eq0-clause-took g c = λ front before former input reads.
    let nothing : Took g.S.Source.left g.S.Source.faults c.loop-self.source c.read.new.self [] =
    subst (λ (n : ℕ). Took g.S.Source.left g.S.Source.faults c.loop-self.source c.read.new.self (take n c.read.new.into)) c.if-count-eq0.true c.in-Ok.ensures.ok in
    let at_end : IsAtEnd (g.S.Source.left c.loop-self.source) = c.in-Ok.ensures.end c.if-count-eq0.true (search rules) in
    TookRound-end (c.loop-self.invariant.round front before former input reads) (search rules) nothing at_end c.close.ensures.closed

pub returns-in_err-feed-clause-took : goal.returns-in_err-feed-clause-took
returns-in_err-feed-clause-took g c = λ front before former input reads.
    let taken = c.loop-self.self.taken in
    let piece = IsPiece-read c.read.new.into c.loop-self.piece c.in-Ok.count c.min-room.result taken c.min-end.result c.in-Ok.ensures.room.1 c.in-Ok.ensures.room.0 c.read.auto.into c.min-room.ensures c.loop-self-test.true in
    subst (λ (result : Result (Option TextEnd) Stop). TookRound front g.S.Source.left g.S.Source.faults before c.read.new.self c.feed.new.self (past_behind former c.args.self.now.stage) input result) (sym (memory_result c.from_residual.result c.from_residual.ensures.1))
    (TookRound-memory c.feed.new.self (c.loop-self.invariant.round front before former input reads) c.in-Ok.ensures.ok piece.short (omega (arith, piece.fits, c.min-end.ensures)))

pub returns-then-is_settled-clause-took : goal.returns-then-is_settled-clause-took
returns-then-is_settled-clause-took g c = λ front before former input reads.
    let into = c.read.new.into in
    let piece = IsPiece-read into c.loop-self.piece c.in-Ok.count c.min-room.result c.loop-self.self.taken c.min-end.result c.in-Ok.ensures.room.1 c.in-Ok.ensures.room.0 c.read.auto.into c.min-room.ensures c.loop-self-test.true in
    let feeds : (text : List ℕ) (past : Past) → StandsFor c.loop-self.self text past → StandsFor c.feed.new.self (text ++ take c.in-Ok.count into) past =
    subst (λ (bytes : List ℕ). (text : List ℕ) (past : Past) → StandsFor c.loop-self.self text past → StandsFor c.feed.new.self (text ++ bytes) past)
    (fed into (drop c.min-room.result c.loop-self.piece) c.in-Ok.count c.in-Ok.ensures.room.0) c.in_ok-feed.ensures.fed in
    let taken : c.feed.new.self.taken ≡ c.loop-self.self.taken + length (take c.in-Ok.count into) =
    c.in_ok-feed.ensures.taken ∙ ap (λ (bytes : List ℕ). c.loop-self.self.taken + length bytes) (fed into (drop c.min-room.result c.loop-self.piece) c.in-Ok.count c.in-Ok.ensures.room.0) in
    TookRound-settled (c.loop-self.invariant.round front before former input reads) c.in-Ok.ensures.ok piece.short (omega (arith, piece.fits, c.min-end.ensures)) feeds taken c.if-is_settled.ensures c.close-then-is_settled.ensures.closed

pub loop-self-preserved : goal.loop-self-preserved
loop-self-preserved g c =
    let into = c.read.new.into in
    let feeds : (text : List ℕ) (past : Past) → StandsFor c.loop-self.self text past → StandsFor c.feed.new.self (text ++ take c.in-Ok.count into) past =
    subst (λ (bytes : List ℕ). (text : List ℕ) (past : Past) → StandsFor c.loop-self.self text past → StandsFor c.feed.new.self (text ++ bytes) past)
    (fed into (drop c.min-room.result c.loop-self.piece) c.in-Ok.count c.in-Ok.ensures.room.0) c.in_ok-feed.ensures.fed in
    let piece = IsPiece-read into c.loop-self.piece c.in-Ok.count c.min-room.result c.loop-self.self.taken c.min-end.result c.in-Ok.ensures.room.1 c.in-Ok.ensures.room.0 c.read.auto.into c.min-room.ensures c.loop-self-test.true in
    record {
      round = λ front before former input reads. InRound-piece (c.loop-self.invariant.round front before former input reads) c.in-Ok.ensures.ok feeds
          (c.in_ok-feed.ensures.taken ∙ ap (λ (bytes : List ℕ). c.loop-self.self.taken + length bytes) (fed into (drop c.min-room.result c.loop-self.piece) c.in-Ok.count c.in-Ok.ensures.room.0))
          c.if-is_settled.ensures;
      session = λ h is. c.in_ok-feed.ensures.session h (c.loop-self.invariant.session h is);
      within = omega (arith, piece.fits, c.in_ok-feed.ensures.taken, ap length (fed into (drop c.min-room.result c.loop-self.piece) c.in-Ok.count c.in-Ok.ensures.room.0));
    }

pub returns-then-end-eq-INPUT_LIMIT-clause-took : goal.returns-then-end-eq-INPUT_LIMIT-clause-took
returns-then-end-eq-INPUT_LIMIT-clause-took g c = λ front before former input reads.
    TookRound-much (c.loop-self.invariant.round front before former input reads) (search rules) c.loop-self.self.within

pub returns-clause-took : goal.returns-clause-took
returns-clause-took g c = λ front before former input reads. TookRound-on (c.loop-self.invariant.round front before former input reads) c.loop-self.self.within
