-- What private functions and proofs alone say of it, beside `specs/Reading.antt`.
use Rattle.std.specs.Prelude.{ℕ, List, ◌++◌, Option, Result, Ok, Err}
use Rattle.session_script.specs.Script.{HasFault}
use Rattle.session_script.specs.declared.ends.TextEnd.{TextEnd}
use Rattle.session_script.specs.declared.ends.Stop.{Stop}
use Rattle.session_script.specs.declared.ends.Stop.TheVariants.{Header, Early as EarlyStop, Memory}
use Rattle.session_script.specs.Reading.{ProgressedBehind}

-- what a round came to
abbrev pub RoundCame : List ℕ → Option (List ℕ) → List ℕ → Result (Option TextEnd) Stop → Type 0
RoundCame front known input (Ok progress) = ProgressedBehind front known input progress
RoundCame front known input (Err (Header line reason)) = HasFault (front ++ input) line reason
RoundCame front known input (Err (EarlyStop early)) = ⊥
RoundCame front known input (Err (Memory memory)) = Unit {0}
