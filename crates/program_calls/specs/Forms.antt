-- The forms of the words, and what each asks for.
use Rattle.std.specs.Prelude.{ℕ, ◌^◌, ◌-◌, ◌≤◌, List, [], ◌∷◌, Option, Some, None, if◌then◌else◌, bytes_eq, codes}
use Rattle.fx_text.specs.Number.{number_of}
use Rattle.net_settle.specs.declared.form.Form.{Form}
use Rattle.net_settle.specs.declared.form.Form.TheVariants.{Bilateral, Net}
use Rattle.program_calls.specs.declared.task.Task.{Task}
use Rattle.program_calls.specs.declared.task.Task.TheVariants.{Run, Serial, Check, Load, Clients, Payments, Watch}
use Rattle.program_calls.specs.declared.kept.KeptTask.{KeptTask}
use Rattle.program_calls.specs.declared.kept.KeptTask.TheVariants.{Keep, Restart}

infixl 10 ◌>>=◌
-- what all steps give, where each gives something
abbrev pub ◌>>=◌ : {A B : Type 0} → Option A → (A → Option B) → Option B
(Some x) >>= f = f x
None >>= f = None

-- the workers that the words at the end ask for: 4 where there are none, and else N by `--workers N`
abbrev pub workers_of : List (List ℕ) → Option ℕ
workers_of [] = Some 4
workers_of (option ∷ count ∷ []) = if bytes_eq option (codes "--workers") then number_of 1 64 count else None
workers_of _ = None

-- a word that stands alone
abbrev pub alone : Task → List (List ℕ) → Option Task
alone task [] = Some task
alone task _ = None

-- `load SEED BANKS PAIRS COMMANDS`, or that and `--workers N`, by the words behind `load`
abbrev pub load_of : List (List ℕ) → Option Task
load_of (seed_said ∷ banks_said ∷ pairs_said ∷ commands_said ∷ rest) = do
  seed ← number_of 0 (2 ^ 64 - 1) seed_said
  banks ← number_of 2 64 banks_said
  pairs ← number_of 1 32 pairs_said
  commands ← number_of 1 20000 commands_said
  workers ← workers_of rest
  Some (Load seed banks pairs commands workers)
load_of _ = None

-- a form of payments, by its word
abbrev pub form_of : List ℕ → Option Form
form_of word =
    if bytes_eq word (codes "bilateral") then Some Bilateral
    else if bytes_eq word (codes "net") then Some Net
    else None

-- `payments bilateral` or `payments net`, by the words behind `payments`
abbrev pub payments_of : List (List ℕ) → Option Task
payments_of (word ∷ []) = form_of word >>= (λ form. Some (Payments form))
payments_of _ = None

-- what the words ask for; none where they are in none of the forms
abbrev pub task_of : List (List ℕ) → Option Task
task_of [] = None
task_of (word ∷ rest) =
    if bytes_eq word (codes "run") then workers_of rest >>= (λ workers. Some (Run workers))
    else if bytes_eq word (codes "serial") then alone Serial rest
    else if bytes_eq word (codes "check") then alone Check rest
    else if bytes_eq word (codes "load") then load_of rest
    else if bytes_eq word (codes "clients") then alone Clients rest
    else if bytes_eq word (codes "payments") then payments_of rest
    else if bytes_eq word (codes "watch") then alone Watch rest
    else None

-- what is asked for of a kept session, by its word
abbrev pub kept_task_named : List ℕ → Option KeptTask
kept_task_named word =
    if bytes_eq word (codes "keep") then Some Keep
    else if bytes_eq word (codes "restart") then Some Restart
    else None

-- and by the words: it stands alone. `task_of` knows neither
abbrev pub kept_task_of : List (List ℕ) → Option KeptTask
kept_task_of (word ∷ []) = kept_task_named word
kept_task_of _ = None

-- so many workers can be asked for
abbrev pub AreWorkers : ℕ → Type 0
AreWorkers workers = (1 ≤ workers) × (workers ≤ 64)

-- the numbers of a task are in their ranges
abbrev pub IsTask : Task → Type 0
IsTask (Run workers) = AreWorkers workers
IsTask (Load seed banks pairs commands workers) =
    ((2 ≤ banks) × (banks ≤ 64)) × ((1 ≤ pairs) × (pairs ≤ 32)) × ((1 ≤ commands) × (commands ≤ 20000)) × AreWorkers workers
IsTask _ = Unit {0}
