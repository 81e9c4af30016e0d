use Rattle.std.proofs.Common.{◌≡◌, ◌∙◌, ◌++◌, ◌∷◌, [], List, Bool, true, false, sym, ap, subst, append_assoc}
use Rattle.fx_rules.specs.declared.command.Sent.{Sent}
use Rattle.fx_text.specs.Lines.{line_seen}
use Rattle.order_lines.specs.Grammar.{command_line}
use Rattle.session_head.specs.Head.{read_head}
use Rattle.session_script.specs.Script.{sent_among}
use Rattle.session_script.specs.Stage.{Past, StandsAt, Tells}
use Rattle.session_script.specs.inside.Script.{is_started}
use Rattle.session_script.specs.inside.Stage.{goes_on, is_open}
use Rattle.session_script.specs.declared.intake.stage.Stage.{Stage}
use Rattle.session_script.specs.declared.intake.stage.Stage.TheVariants.{Commanding}
use Rattle.session_script.proofs.Hearing.{Hears-behind, Hears-line, Hears-start}
use Rattle.session_script.proofs.ScriptLaws.{read_head-faulted}
use Rattle.session_script.proofs.Taking.{goes_on-not_started, Tells-start, Tells-line, Tells-behind}
use Rattle.session_script.proofs.intake.stage.Stage.take.Goals as goal

-- the commands of all rounds grow as the last one's do
grown : (former old new more : List Sent) → new ≡ old ++ more → former ++ new ≡ (former ++ old) ++ more
grown former old new more is = ap (λ (sent : List Sent). former ++ sent) is ∙ sym (append_assoc former old more)

pub returns-in-Ok-Start-clause-taken : goal.returns-in-Ok-Start-clause-taken
returns-in-Ok-Start-clause-taken c = λ lines former at.
    let heading = subst (λ (stage : Stage). StandsAt stage lines former) c.in-Heading.is at in
    let before : c.in-Heading.reader ≡ read_head lines = heading.0 in
    let readable : goes_on c.in-Heading.reader ≡ true = subst (λ (stage : Stage). is_open stage ≡ true) c.in-Heading.is c.requires in
    let started = c.started-script.result in
    let none : former.sent ++ started.sent.items ≡ [] = ap (λ (sent : List Sent). former.sent ++ sent) c.started-script.ensures.sent ∙ ap (λ (past : Past). past.sent ++ []) heading.1 in (
      Tells-start lines (line_seen c.args.line.now) c.in-Heading.reader c.line_in.new.self started.session (former.sent ++ started.sent.items) started.strays
          before readable (c.in-Ok-Start.ensures.read ∙ c.line_in.ensures.whole lines before)
          c.started-script.ensures.session none c.started-script.ensures.strays,
      Hears-start lines (line_seen c.args.line.now) former started c.in-Heading.keeps (ap is_started (sym before) ∙ goes_on-not_started c.in-Heading.reader readable) heading.1 c.started-script.ensures.keeps c.started-script.ensures.sent c.started-script.ensures.journal c.started-script.ensures.heard,
    )

pub returns-in_ok-ended-in-Commanding-clause-taken : goal.returns-in_ok-ended-in-Commanding-clause-taken
returns-in_ok-ended-in-Commanding-clause-taken c = λ lines former at.
    let old = c.in-Commanding.script in
    let new = c.add.new.self in
    let added = c.in_ok-ended-in-Commanding.ensures.adds in
    let before : StandsAt (Commanding old c.in-Commanding.ended) lines former = subst (λ (stage : Stage). StandsAt stage lines former) c.in-Commanding.is at in
    let going : Tells lines old.session (former.sent ++ old.sent.items) old.strays false = subst (λ (ended : Bool). Tells lines old.session (former.sent ++ old.sent.items) old.strays ended) c.if-not-ended.true before.0 in
    let more : former.sent ++ new.sent.items ≡ (former.sent ++ old.sent.items) ++ sent_among (command_line old.session (line_seen c.args.line.now) ∷ []) = grown former.sent old.sent.items new.sent.items _ added.sent in (
      Tells-line lines (line_seen c.args.line.now) old.session new.session (former.sent ++ old.sent.items) (former.sent ++ new.sent.items) old.strays new.strays c.in_ok-ended-in-Commanding.field-0
          going added.session more added.strays added.ended added.valid,
      Hears-line lines (line_seen c.args.line.now) former old new (former.sent ++ old.sent.items) old.strays c.in_ok-ended-in-Commanding.field-0 going before.1 added,
    )

pub returns-else-not-ended-clause-taken : goal.returns-else-not-ended-clause-taken
returns-else-not-ended-clause-taken c = λ lines former at.
    let script = c.in-Commanding.script in
    let sent : List Sent = former.sent ++ script.sent.items in
    let before : StandsAt (Commanding script c.in-Commanding.ended) lines former = subst (λ (stage : Stage). StandsAt stage lines former) c.in-Commanding.is at in
    let over : Tells lines script.session sent script.strays true = subst (λ (ended : Bool). Tells lines script.session sent script.strays ended) c.if-not-ended.false before.0 in (
      subst (λ (ended : Bool). Tells (lines ++ (line_seen c.args.line.now) ∷ []) script.session sent script.strays ended) (sym c.if-not-ended.false)
          (Tells-behind lines (line_seen c.args.line.now) script.session sent script.strays over),
      Hears-behind lines (line_seen c.args.line.now) former script sent script.strays over before.1,
    )

pub returns-in-Faulted-clause-taken : goal.returns-in-Faulted-clause-taken
returns-in-Faulted-clause-taken c = λ lines former at.
    subst (λ (stage : Stage). StandsAt stage (lines ++ (line_seen c.args.line.now) ∷ []) former) (sym c.in-Faulted.is)
    (read_head-faulted lines ((line_seen c.args.line.now) ∷ []) c.in-Faulted.line c.in-Faulted.reason (subst (λ (stage : Stage). StandsAt stage lines former) c.in-Faulted.is at))
