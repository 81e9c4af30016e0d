-- The statuses that the program ends with: the code of each, and what it writes on standard error.
use Rattle.std.specs.Prelude.{ℕ, List, [], ◌∷◌, ◌++◌, codes, Result, Ok, Err}
use Rattle.fx_amounts.specs.Numeral.{numeral}
use Rattle.session_head.specs.declared.reason.HeadReason.{HeadReason}
use Rattle.session_head.specs.Reason.{reason_code}
use Rattle.session_script.specs.declared.ends.EarlyEnd.TheVariants as early
use Rattle.session_script.specs.declared.ends.TextEnd.{TextEnd}
use Rattle.session_script.specs.declared.ends.TextEnd.TheVariants.{EndLine, Early}
use Rattle.session_script.specs.declared.ends.Stop.{Stop}
use Rattle.session_script.specs.declared.ends.Stop.TheVariants as stops
use Rattle.kept_call.specs.declared.fault.KeptFault.{KeptFault}
use Rattle.kept_call.specs.declared.fault.KeptFault.TheVariants as kepts
use Rattle.program_calls.specs.declared.status.Status.{Status}
use Rattle.program_calls.specs.declared.status.Status.TheVariants.{Done, Usage, Header, Cut, ReadFault, WriteFault, Memory, TooMuch, Differs, Damaged, DiskFault, Kept, Empty, Full}

-- what the program ends with where the text of a session ended so, and its output was written
abbrev pub status_at : TextEnd → Status
status_at EndLine = Done
status_at (Early early.Cut) = Cut
status_at (Early early.ReadFault) = ReadFault
status_at (Early early.TooMuch) = TooMuch

-- what it ends with where the reading stopped before START
abbrev pub status_of : Stop → Status
status_of (stops.Header line reason) = Header line reason
status_of (stops.Early end) = status_at (Early end)
status_of (stops.Memory memory) = Memory memory

-- what it ends with where a session that is kept ended so
abbrev pub fault_status : KeptFault → Status
fault_status (kepts.Header line reason) = Header line reason
fault_status (kepts.Early end) = status_at (Early end)
fault_status kepts.Kept = Kept
fault_status kepts.Empty = Empty
fault_status (kepts.Damaged block) = Damaged block
fault_status kepts.Full = Full
fault_status kepts.Disk = DiskFault
fault_status kepts.Write = WriteFault
fault_status (kepts.Memory memory) = Memory memory

abbrev pub kept_status : Result TextEnd KeptFault → Status
kept_status (Ok end) = status_at end
kept_status (Err fault) = fault_status fault

abbrev pub status_code : Status → ℕ
status_code Done = 0
status_code Usage = 1
status_code (Header line reason) = 2
status_code Cut = 3
status_code ReadFault = 4
status_code WriteFault = 5
status_code (Memory memory) = 6
status_code TooMuch = 7
status_code Differs = 8
status_code (Damaged block) = 10
status_code DiskFault = 11
status_code Kept = 12
status_code Empty = 13
status_code Full = 14

-- the line of a header's fault
unfoldable pub fault_text : ℕ → HeadReason → List ℕ
fault_text line reason = codes "header line " ++ numeral line ++ codes " reason " ++ numeral (reason_code reason) ++ 10 ∷ []

-- the line of a damaged block of the journal file
unfoldable pub block_text : ℕ → List ℕ
block_text block = codes "journal block " ++ numeral block ++ codes " damaged\n"

-- the line for standard error, none where all went well
unfoldable pub err_text : Status → List ℕ
err_text Done = []
err_text Usage = codes "usage: fx_cli run [--workers N] | serial | check | load SEED BANKS PAIRS COMMANDS [--workers N] | clients | payments bilateral | payments net | watch | keep | restart\n"
err_text (Header line reason) = fault_text line reason
err_text Cut = codes "input ended before END\n"
err_text ReadFault = codes "read failed\n"
err_text WriteFault = codes "write failed\n"
err_text (Memory memory) = codes "out of memory\n"
err_text TooMuch = codes "too much input\n"
err_text Differs = codes "output differs\n"
err_text (Damaged block) = block_text block
err_text DiskFault = codes "disk failed\n"
err_text Kept = codes "journal exists\n"
err_text Empty = codes "journal empty\n"
err_text Full = codes "journal full\n"
