-- The numbers of a task that words ask for are in their ranges.
use Rattle.std.proofs.Common.{ℕ, ◌≡◌, ◌≤◌, ◌-◌, ◌^◌, Bool, true, false, List, [], ◌∷◌, arith, Option, Some, None, subst, codes, if◌then◌else◌}
use Rattle.std.specs.Str.{bytes_eq}
use Rattle.std.proofs.lemmas.Option.{none-some}
use Rattle.fx_text.specs.Number.{number_of}
use Rattle.fx_text.proofs.NumberLemmas.{Reads, Reads-number_of}
use Rattle.clap.specs.Words.{Text}
use Rattle.program_calls.specs.declared.task.Task.{Task}
use Rattle.program_calls.specs.declared.task.Task.TheVariants.{Run, Serial, Check, Load, Clients, Payments, Watch}
use Rattle.program_calls.specs.Forms.{◌>>=◌, workers_of, alone, load_of, form_of, payments_of, task_of, AreWorkers, IsTask}
use Rattle.program_calls.proofs.MatchedLemmas.{some_is}
use Rattle.program_calls.proofs.Complete.{gave, run_of}

record InRange (least most value : ℕ) : Type 0 where
  low : least ≤ value
  high : value ≤ most

in_range : (least most value : ℕ) (text : Text) → number_of least most text ≡ Some value → InRange least most value
in_range least most value text e =
    let reads : Reads least most text (Some value) = subst (λ (read : Option ℕ). Reads least most text read) e (Reads-number_of least most text) in
    record { low = reads.least; high = reads.most }

-- the workers that are asked for
are_workers : (rest : List Text) (workers : ℕ) → workers_of rest ≡ Some workers → AreWorkers workers
are_workers [] workers e = subst AreWorkers (some_is 4 workers e) (omega arith, omega arith)
are_workers (option ∷ []) workers e = absurd (none-some workers e)
are_workers (option ∷ count ∷ []) workers e = at (bytes_eq option (codes "--workers")) e
  where
    at : (b : Bool) → (if b then number_of 1 64 count else None) ≡ Some workers → AreWorkers workers
    at true given = let range = in_range 1 64 workers count given in (range.low, range.high)
    at false given = absurd (none-some workers given)
are_workers (option ∷ count ∷ more ∷ rest) workers e = absurd (none-some workers e)

run_is_task : (rest : List Text) (task : Task) → run_of rest ≡ Some task → IsTask task
run_is_task rest task e =
    let workers = gave (workers_of rest) (λ n. Some (Run n)) task e in
    subst IsTask (some_is (Run workers.value) task workers.rest) (are_workers rest workers.value workers.is)

alone_is_task : (its : Task) (rest : List Text) (task : Task) → IsTask its → alone its rest ≡ Some task → IsTask task
alone_is_task its [] task is e = subst IsTask (some_is its task e) is
alone_is_task its (word ∷ rest) task is e = absurd (none-some task e)

-- the numbers of `load`, from the last one on

of_workers : (seed banks pairs commands : ℕ) (rest : List Text) (task : Task) → InRange 2 64 banks → InRange 1 32 pairs → InRange 1 20000 commands
    → (workers_of rest >>= (λ w. Some (Load seed banks pairs commands w))) ≡ Some task → IsTask task
of_workers seed banks pairs commands rest task b p n e =
    let workers = gave (workers_of rest) (λ w. Some (Load seed banks pairs commands w)) task e in
    subst IsTask (some_is (Load seed banks pairs commands workers.value) task workers.rest) ((b.low, b.high), (p.low, p.high), (n.low, n.high), are_workers rest workers.value workers.is)

of_commands : (seed banks pairs : ℕ) (d : Text) (rest : List Text) (task : Task) → InRange 2 64 banks → InRange 1 32 pairs
    → (number_of 1 20000 d >>= (λ n. workers_of rest >>= (λ w. Some (Load seed banks pairs n w)))) ≡ Some task → IsTask task
of_commands seed banks pairs d rest task b p e =
    let commands = gave (number_of 1 20000 d) (λ n. workers_of rest >>= (λ w. Some (Load seed banks pairs n w))) task e in
    of_workers seed banks pairs commands.value rest task b p (in_range 1 20000 commands.value d commands.is) commands.rest

of_pairs : (seed banks : ℕ) (c d : Text) (rest : List Text) (task : Task) → InRange 2 64 banks
    → (number_of 1 32 c >>= (λ p. number_of 1 20000 d >>= (λ n. workers_of rest >>= (λ w. Some (Load seed banks p n w))))) ≡ Some task → IsTask task
of_pairs seed banks c d rest task b e =
    let pairs = gave (number_of 1 32 c) (λ p. number_of 1 20000 d >>= (λ n. workers_of rest >>= (λ w. Some (Load seed banks p n w)))) task e in
    of_commands seed banks pairs.value d rest task b (in_range 1 32 pairs.value c pairs.is) pairs.rest

of_banks : (seed : ℕ) (b c d : Text) (rest : List Text) (task : Task)
    → (number_of 2 64 b >>= (λ k. number_of 1 32 c >>= (λ p. number_of 1 20000 d >>= (λ n. workers_of rest >>= (λ w. Some (Load seed k p n w)))))) ≡ Some task → IsTask task
of_banks seed b c d rest task e =
    let banks = gave (number_of 2 64 b) (λ k. number_of 1 32 c >>= (λ p. number_of 1 20000 d >>= (λ n. workers_of rest >>= (λ w. Some (Load seed k p n w))))) task e in
    of_pairs seed banks.value c d rest task (in_range 2 64 banks.value b banks.is) banks.rest

load_is_task : (rest : List Text) (task : Task) → load_of rest ≡ Some task → IsTask task
load_is_task [] task e = absurd (none-some task e)
load_is_task (a ∷ []) task e = absurd (none-some task e)
load_is_task (a ∷ b ∷ []) task e = absurd (none-some task e)
load_is_task (a ∷ b ∷ c ∷ []) task e = absurd (none-some task e)
load_is_task (a ∷ b ∷ c ∷ d ∷ rest) task e =
    let seed = gave (number_of 0 (2 ^ 64 - 1) a) (λ s. number_of 2 64 b >>= (λ k. number_of 1 32 c >>= (λ p. number_of 1 20000 d >>= (λ n. workers_of rest >>= (λ w. Some (Load s k p n w)))))) task e in
    of_banks seed.value b c d rest task seed.rest

payments_is_task : (rest : List Text) (task : Task) → payments_of rest ≡ Some task → IsTask task
payments_is_task [] task e = absurd (none-some task e)
payments_is_task (word ∷ []) task e =
    let form = gave (form_of word) (λ f. Some (Payments f)) task e in
    subst IsTask (some_is (Payments form.value) task form.rest) tt
payments_is_task (word ∷ more ∷ rest) task e = absurd (none-some task e)

pub task_is_task : (words : List Text) (task : Task) → task_of words ≡ Some task → IsTask task
task_is_task [] task e = absurd (none-some task e)
task_is_task (word ∷ rest) task e = go (bytes_eq word (codes "run")) (bytes_eq word (codes "serial")) (bytes_eq word (codes "check")) (bytes_eq word (codes "load")) (bytes_eq word (codes "clients")) (bytes_eq word (codes "payments")) (bytes_eq word (codes "watch")) e
  where
    go : (run serial check load clients pay watch : Bool)
        → (if run then run_of rest else if serial then alone Serial rest else if check then alone Check rest else if load then load_of rest else if clients then alone Clients rest else if pay then payments_of rest else if watch then alone Watch rest else None) ≡ Some task
        → IsTask task
    go true serial check load clients pay watch given = run_is_task rest task given
    go false true check load clients pay watch given = alone_is_task Serial rest task tt given
    go false false true load clients pay watch given = alone_is_task Check rest task tt given
    go false false false true clients pay watch given = load_is_task rest task given
    go false false false false true pay watch given = alone_is_task Clients rest task tt given
    go false false false false false true watch given = payments_is_task rest task given
    go false false false false false false true given = alone_is_task Watch rest task tt given
    go false false false false false false false given = absurd (none-some task given)
