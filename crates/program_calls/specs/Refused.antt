-- What is said of words that `clap` refused.
use Rattle.clap.specs.declared.error.kind.ErrorKind.{ErrorKind}
use Rattle.clap.specs.declared.error.kind.ErrorKind.TheVariants as kinds
use Rattle.fx_amounts.specs.OutOfMemory.{refused}
use Rattle.program_calls.specs.declared.reading.WordsFault.{WordsFault}
use Rattle.program_calls.specs.declared.reading.WordsFault.TheVariants.{Usage, Memory}

-- the fault that an error of this kind is
abbrev pub fault_at : ErrorKind → WordsFault
fault_at kinds.OutOfMemory = Memory refused
fault_at _ = Usage
