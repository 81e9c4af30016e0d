-- Words tried by hand, and what they ask for.
use Rattle.std.proofs.Common.{◌≡◌, [], ◌∷◌, Some, None, refl, codes}
use Rattle.fx_amounts.specs.Numeral.{is_numeral}
use Rattle.fx_text.specs.Number.{number_of}
use Rattle.net_settle.specs.declared.form.Form.TheVariants.{Bilateral, Net}
use Rattle.program_calls.specs.declared.task.Task.TheVariants.{Run, Serial, Check, Load, Clients, Payments, Watch}
use Rattle.program_calls.specs.declared.kept.KeptTask.TheVariants.{Keep, Restart}
use Rattle.program_calls.specs.Forms.{task_of, kept_task_of}

run_alone : task_of (codes "run" ∷ []) ≡ Some (Run 4)
run_alone = refl

serial : task_of (codes "serial" ∷ []) ≡ Some Serial
serial = refl

check : task_of (codes "check" ∷ []) ≡ Some Check
check = refl

run_with_most : task_of (codes "run" ∷ codes "--workers" ∷ codes "64" ∷ []) ≡ Some (Run 64)
unfolding number_of is_numeral
run_with_most = refl

load : task_of (codes "load" ∷ codes "1" ∷ codes "2" ∷ codes "1" ∷ codes "2" ∷ []) ≡ Some (Load 1 2 1 2 4)
unfolding number_of is_numeral
load = refl

load_with_option : task_of (codes "load" ∷ codes "18446744073709551615" ∷ codes "64" ∷ codes "32" ∷ codes "20000" ∷ codes "--workers" ∷ codes "1" ∷ [])
    ≡ Some (Load 18446744073709551615 64 32 20000 1)
unfolding number_of is_numeral
load_with_option = refl

payments_of_each_two : task_of (codes "payments" ∷ codes "bilateral" ∷ []) ≡ Some (Payments Bilateral)
payments_of_each_two = refl

payments_netted : task_of (codes "payments" ∷ codes "net" ∷ []) ≡ Some (Payments Net)
payments_netted = refl

clients : task_of (codes "clients" ∷ []) ≡ Some Clients
clients = refl

watch : task_of (codes "watch" ∷ []) ≡ Some Watch
watch = refl

keep : kept_task_of (codes "keep" ∷ []) ≡ Some Keep
keep = refl

restart : kept_task_of (codes "restart" ∷ []) ≡ Some Restart
restart = refl

-- The words of a kept session ask for nothing else, and no other words for one.
keep_alone : task_of (codes "keep" ∷ []) ≡ None
keep_alone = refl

keep_more : kept_task_of (codes "keep" ∷ codes "restart" ∷ []) ≡ None
keep_more = refl

run_is_not_kept : kept_task_of (codes "run" ∷ []) ≡ None
run_is_not_kept = refl

-- Words in none of the forms: a number out of its range or with a leading zero, an option in another spelling or in front, a
-- word too many, another word, no word.
no_worker : task_of (codes "run" ∷ codes "--workers" ∷ codes "0" ∷ []) ≡ None
unfolding number_of is_numeral
no_worker = refl

leading_zero : task_of (codes "run" ∷ codes "--workers" ∷ codes "02" ∷ []) ≡ None
unfolding number_of is_numeral
leading_zero = refl

one_bank : task_of (codes "load" ∷ codes "1" ∷ codes "1" ∷ codes "1" ∷ codes "2" ∷ []) ≡ None
unfolding number_of is_numeral
one_bank = refl

seed_too_great : task_of (codes "load" ∷ codes "18446744073709551616" ∷ codes "2" ∷ codes "1" ∷ codes "2" ∷ []) ≡ None
unfolding number_of is_numeral
seed_too_great = refl

other_spelling : task_of (codes "run" ∷ codes "--workers=2" ∷ []) ≡ None
other_spelling = refl

option_in_front : task_of (codes "--workers" ∷ codes "2" ∷ codes "run" ∷ []) ≡ None
option_in_front = refl

word_too_many : task_of (codes "serial" ∷ codes "now" ∷ []) ≡ None
word_too_many = refl

no_form : task_of (codes "payments" ∷ []) ≡ None
no_form = refl

other_form : task_of (codes "payments" ∷ codes "gross" ∷ []) ≡ None
other_form = refl

help : task_of (codes "--help" ∷ []) ≡ None
help = refl

nothing : task_of [] ≡ None
nothing = refl
