-- What a reading of blocks answers.
use Rattle.std.specs.Prelude.{ℕ, ◌≡◌, List, Result, Ok, Err}
use Rattle.std.specs.declared.alloc.Global.{Global}
use Rattle.std.specs.declared.vec.Vec.{Vec}
use Rattle.fx_rules.specs.declared.command.Sent.{Sent}
use Rattle.kept_history.specs.Blocks.{Listed}
use Rattle.kept_history.specs.declared.blocks.Kept.{Kept}
use Rattle.kept_history.specs.declared.stop.Stop.{Stop}
use Rattle.kept_history.specs.declared.stop.Stop.TheVariants.{Damaged, Memory}

-- where a reading of blocks stopped
abbrev pub StopsAs : {A : Type 0} → Stop → Result A ℕ → Type 0
StopsAs (Damaged block) there = there ≡ Err block
StopsAs (Memory memory) there = Unit {0}

-- unless memory ran out, the answer is what is there
abbrev pub AnswersKept : Result Kept Stop → Result Listed ℕ → Type 0
AnswersKept (Ok kept) there = there ≡ Ok (record { session = kept.session; commands = kept.sent.items })
AnswersKept (Err stop) there = StopsAs stop there

abbrev pub AnswersSent : Result (Vec Sent Global) Stop → Result (List Sent) ℕ → Type 0
AnswersSent (Ok sent) there = there ≡ Ok sent.items
AnswersSent (Err stop) there = StopsAs stop there
