use Rattle.std.proofs.Common.{inl, inr, refl}
use Rattle.program_calls.proofs.checking.write_answer.Goals as goal

pub returns-in-Ok : goal.returns-in-Ok
returns-in-Ok g c = inl (refl, c.in-Ok.ensures.wrote.ok)

pub returns-in-Err-Failed : goal.returns-in-Err-Failed
returns-in-Err-Failed g c = inr (inl (refl, (c.in-Err-Failed.ensures.wrote.fault, c.in-Err-Failed.ensures.wrote.cause c.in-Err-Failed.field-0-is)))

pub returns-in-Err-Memory : goal.returns-in-Err-Memory
returns-in-Err-Memory g c = inr (inr (refl, c.in-Err-Memory.ensures.wrote.fault))
