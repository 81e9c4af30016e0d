use Rattle.fx_amounts.specs.declared.memory.Memory.{Memory}

-- that a growth was refused: the one Memory, which says nothing of the growth
abbrev pub refused : Memory
refused = record { 0 = tt }
