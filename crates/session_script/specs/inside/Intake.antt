-- What private functions and proofs alone say of it, beside `specs/Intake.antt`.
use Rattle.std.specs.Prelude.{ℕ, List, Option, Some, None, Result, Ok, Err, ◌⊎◌}
use Rattle.session_head.specs.declared.reason.HeadReason.{HeadReason}
use Rattle.session_script.specs.Script.{HasFault, HasEnd, EndsWithEnd}
use Rattle.session_script.specs.Reading.{HasNoFault}
use Rattle.session_script.specs.declared.ends.EarlyEnd.TheVariants.{Cut, ReadFault, TooMuch}
use Rattle.session_script.specs.declared.ends.TextEnd.{TextEnd}
use Rattle.session_script.specs.declared.ends.TextEnd.TheVariants.{EndLine, Early}
use Rattle.session_script.specs.declared.ends.Stop.{Stop}
use Rattle.session_script.specs.declared.ends.Stop.TheVariants.{Header, Early as EarlyStop, Memory}

-- the text has its END line, or its header has a fault
abbrev pub IsSettled : List ℕ → Type 0
IsSettled text = HasEnd text ⊎ ((line : ℕ) × (reason : HeadReason) × HasFault text line reason)

-- what a text is that nothing follows
abbrev pub Closed : List ℕ → Result (Option TextEnd) Stop → Type 0
Closed text (Ok (Some EndLine)) = HasEnd text ⊎ EndsWithEnd text
Closed text (Ok (Some (Early Cut))) = HasNoFault text × ¬ (HasEnd text) × ¬ (EndsWithEnd text)
Closed text (Ok (Some (Early ReadFault))) = ⊥
Closed text (Ok (Some (Early TooMuch))) = ⊥
Closed text (Ok None) = ⊥
Closed text (Err (Header line reason)) = HasFault text line reason
Closed text (Err (EarlyStop early)) = ⊥
Closed text (Err (Memory memory)) = ⊥
