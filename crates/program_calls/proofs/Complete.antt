-- Words that ask for a task are taken, and printed back as they were.
use Rattle.std.proofs.Common.{ℕ, ◌≡◌, Bool, true, false, ◌==◌, List, [], ◌∷◌, Option, Some, None, inl, inr, refl, ap, sym, subst, ◌∙◌, arith, codes, if◌then◌else◌, option_map, IsTrue, ◌↔◌, true≢false}
use Rattle.std.specs.Str.{bytes_eq}
use Rattle.std.specs.Char.{is_ascii_digit}
use Rattle.std.proofs.lemmas.Bool.{cases_Bool}
use Rattle.std.proofs.lemmas.Option.{none-some}
use Rattle.std.proofs.lemmas.Slice.Eq.{bytes_eq-Decides}
use Rattle.std.proofs.lemmas.Bool.Decides.{nat_tests}
use Rattle.fx_amounts.specs.OutOfMemory.{refused}
use Rattle.fx_text.specs.Number.{number_of}
use Rattle.fx_text.proofs.NumberLemmas.{number_of-no_byte, number_of-other_byte}
use Rattle.clap.specs.Words.{Row, Text, takes, subcommand_of}
use Rattle.net_settle.specs.declared.form.Form.{Form}
use Rattle.net_settle.specs.declared.form.Form.TheVariants.{Bilateral, Net}
use Rattle.program_calls.specs.inside.Tool.{tool}
use Rattle.program_calls.specs.inside.Printed.{printed, matched_words}
use Rattle.program_calls.specs.declared.matched.Matched.{Matched}
use Rattle.program_calls.specs.declared.reading.WordsFault.{WordsFault}
use Rattle.program_calls.specs.declared.reading.WordsFault.TheVariants.{Usage, Memory}
use Rattle.program_calls.proofs.MatchedLemmas.{some_is}
use Rattle.program_calls.specs.declared.task.Task.{Task}
use Rattle.program_calls.specs.declared.task.Task.TheVariants.{Run, Serial, Check, Clients, Payments, Watch}
use Rattle.program_calls.specs.Forms.{◌>>=◌, workers_of, alone, load_of, form_of, payments_of, task_of}
use Rattle.program_calls.proofs.Walking.{IsPlain, plain}
use Rattle.program_calls.proofs.Taken.{IsTaken, load_alone, load_with, run_with, run_alone, serial_alone, check_alone, clients_alone, watch_alone, payments_taken_by}

-- what a step gave
pub record Gave {A B : Type 0} (given : Option A) (f : A → Option B) (b : B) : Type 0 where
  pub value : A
  pub is : given ≡ Some value
  pub rest : f value ≡ Some b

pub gave : {A B : Type 0} (given : Option A) (f : A → Option B) (b : B) → (given >>= f) ≡ Some b → Gave given f b
gave None f b e = absurd (none-some b e)
gave (Some a) f b e = record { value = a; is = refl; rest = e }

-- a number begins with a digit, and so with no hyphen

hyphen : (a : ℕ) → (a == 45) ≡ true → is_ascii_digit a ≡ false
hyphen a is = grind (arith, nat_tests)

no_hyphen : (least most value : ℕ) (text : Text) → number_of least most text ≡ Some value → IsPlain text
no_hyphen least most value [] e = absurd (none-some value (sym (number_of-no_byte least most) ∙ e))
no_hyphen least most value (a ∷ rest) e = elim (cases_Bool (a == 45)) [
  | inl is ↦ absurd (none-some value (sym (number_of-other_byte least most (a ∷ rest) 0 (omega arith) (hyphen a is)) ∙ e))
  | inr other ↦ plain a rest other
]

-- the option's words

record HasOption (word count : Text) : Type 0 where
  name : word ≡ codes "--workers"
  plain : IsPlain count

has_option : (word count : Text) (value : ℕ) → workers_of (word ∷ count ∷ []) ≡ Some value → HasOption word count
has_option word count value e = go (bytes_eq word (codes "--workers")) refl e
  where
    go : (test : Bool) → bytes_eq word (codes "--workers") ≡ test → (if test then number_of 1 64 count else None) ≡ Some value → HasOption word count
    go true is given = record { name = (bytes_eq-Decides word (codes "--workers")).0 is; plain = no_hyphen 1 64 value count given }
    go false is given = absurd (none-some value given)

-- `run` or `run --workers N`, by the words behind `run`
abbrev pub run_of : List (List ℕ) → Option Task
run_of rest = workers_of rest >>= (λ workers. Some (Run workers))

run_taken : (rest : List Text) (task : Task) → run_of rest ≡ Some task → IsTaken (codes "run" ∷ rest)
run_taken [] task e = run_alone
run_taken (word ∷ []) task e = absurd (none-some task e)
run_taken (word ∷ count ∷ []) task e =
    let workers = gave (workers_of (word ∷ count ∷ [])) (λ n. Some (Run n)) task e in
    let option = has_option word count workers.value workers.is in
    subst (λ (w : Text). IsTaken (codes "run" ∷ w ∷ count ∷ [])) (sym option.name) (run_with count option.plain)
run_taken (word ∷ count ∷ more ∷ rest) task e = absurd (none-some task e)

-- a word alone
alone_taken : (name : Text) (its : Task) (rest : List Text) (task : Task) → IsTaken (name ∷ []) → alone its rest ≡ Some task → IsTaken (name ∷ rest)
alone_taken name its [] task is e = is
alone_taken name its (word ∷ rest) task is e = absurd (none-some task e)

-- `load`
load_behind : (a b c d : Text) (rest : List Text) (workers : ℕ) → IsPlain a → IsPlain b → IsPlain c → IsPlain d → workers_of rest ≡ Some workers → IsTaken (codes "load" ∷ a ∷ b ∷ c ∷ d ∷ rest)
load_behind a b c d [] workers pa pb pc pd e = load_alone a b c d pa pb pc pd
load_behind a b c d (word ∷ []) workers pa pb pc pd e = absurd (none-some workers e)
load_behind a b c d (word ∷ count ∷ []) workers pa pb pc pd e =
    let option = has_option word count workers e in
    subst (λ (w : Text). IsTaken (codes "load" ∷ a ∷ b ∷ c ∷ d ∷ w ∷ count ∷ [])) (sym option.name) (load_with a b c d count pa pb pc pd option.plain)
load_behind a b c d (word ∷ count ∷ more ∷ rest) workers pa pb pc pd e = absurd (none-some workers e)

load_taken : (rest : List Text) (task : Task) → load_of rest ≡ Some task → IsTaken (codes "load" ∷ rest)
load_taken [] task e = absurd (none-some task e)
load_taken (a ∷ []) task e = absurd (none-some task e)
load_taken (a ∷ b ∷ []) task e = absurd (none-some task e)
load_taken (a ∷ b ∷ c ∷ []) task e = absurd (none-some task e)
load_taken (a ∷ b ∷ c ∷ d ∷ rest) task e =
    let seed = gave _ _ task e in
    let banks = gave _ _ task seed.rest in
    let pairs = gave _ _ task banks.rest in
    let commands = gave _ _ task pairs.rest in
    let workers = gave _ _ task commands.rest in
    load_behind a b c d rest workers.value (no_hyphen _ _ _ a seed.is) (no_hyphen _ _ _ b banks.is) (no_hyphen _ _ _ c pairs.is) (no_hyphen _ _ _ d commands.is) workers.is

-- `payments`

form_plain : (word : Text) (form : Form) → form_of word ≡ Some form → IsPlain word
form_plain word form e = go (bytes_eq word (codes "bilateral")) (bytes_eq word (codes "net")) refl refl e
  where
    go : (two net : Bool) → bytes_eq word (codes "bilateral") ≡ two → bytes_eq word (codes "net") ≡ net → (if two then Some Bilateral else if net then Some Net else None) ≡ Some form → IsPlain word
    go true net t n given = subst IsPlain (sym ((bytes_eq-Decides word (codes "bilateral")).0 t)) (plain 98 (codes "ilateral") refl)
    go false true t n given = subst IsPlain (sym ((bytes_eq-Decides word (codes "net")).0 n)) (plain 110 (codes "et") refl)
    go false false t n given = absurd (none-some form given)

payments_taken : (rest : List Text) (task : Task) → payments_of rest ≡ Some task → IsTaken (codes "payments" ∷ rest)
payments_taken [] task e = absurd (none-some task e)
payments_taken (word ∷ []) task e =
    let form = gave (form_of word) (λ f. Some (Payments f)) task e in
    payments_taken_by word (form_plain word form.value form.is)
payments_taken (word ∷ more ∷ rest) task e = absurd (none-some task e)

named : (word name : Text) (rest : List Text) → bytes_eq word name ≡ true → IsTaken (name ∷ rest) → IsTaken (word ∷ rest)
named word name rest is taken = subst (λ (w : Text). IsTaken (w ∷ rest)) (sym ((bytes_eq-Decides word name).0 is)) taken

-- Words that ask for a task are taken.
pub all_taken : (words : List Text) (task : Task) → task_of words ≡ Some task → IsTaken words
all_taken [] task e = absurd (none-some task e)
all_taken (word ∷ rest) task e = go (bytes_eq word (codes "run")) (bytes_eq word (codes "serial")) (bytes_eq word (codes "check")) (bytes_eq word (codes "load")) (bytes_eq word (codes "clients")) (bytes_eq word (codes "payments")) (bytes_eq word (codes "watch")) refl refl refl refl refl refl refl e
  where
    go : (run serial check load clients pay watch : Bool) → bytes_eq word (codes "run") ≡ run → bytes_eq word (codes "serial") ≡ serial → bytes_eq word (codes "check") ≡ check → bytes_eq word (codes "load") ≡ load → bytes_eq word (codes "clients") ≡ clients → bytes_eq word (codes "payments") ≡ pay → bytes_eq word (codes "watch") ≡ watch
        → (if run then run_of rest else if serial then alone Serial rest else if check then alone Check rest else if load then load_of rest else if clients then alone Clients rest else if pay then payments_of rest else if watch then alone Watch rest else None) ≡ Some task
        → IsTaken (word ∷ rest)
    go true serial check load clients pay watch r s k l n p w given = named word (codes "run") rest r (run_taken rest task given)
    go false true check load clients pay watch r s k l n p w given = named word (codes "serial") rest s (alone_taken (codes "serial") Serial rest task serial_alone given)
    go false false true load clients pay watch r s k l n p w given = named word (codes "check") rest k (alone_taken (codes "check") Check rest task check_alone given)
    go false false false true clients pay watch r s k l n p w given = named word (codes "load") rest l (load_taken rest task given)
    go false false false false true pay watch r s k l n p w given = named word (codes "clients") rest n (alone_taken (codes "clients") Clients rest task clients_alone given)
    go false false false false false true watch r s k l n p w given = named word (codes "payments") rest p (payments_taken rest task given)
    go false false false false false false true r s k l n p w given = named word (codes "watch") rest w (alone_taken (codes "watch") Watch rest task watch_alone given)
    go false false false false false false false r s k l n p w given = absurd (none-some task given)

-- Why words are in no form.

none_unless : (words : List Text) → ((task : Task) → task_of words ≡ Some task → ⊥) → task_of words ≡ None
none_unless words never = go (task_of words) refl
  where
    go : (asked : Option Task) → task_of words ≡ asked → task_of words ≡ None
    go None e = e
    go (Some task) e = absurd (never task e)

-- the command line did not take them, though memory was not refused
pub not_taken : (words : List Text) (fault : WordsFault) → (takes tool words ≡ true → fault ≡ Memory refused) → fault ≡ Usage → task_of words ≡ None
not_taken words fault else_memory usage = none_unless words (λ task e. memory_or_usage (sym (else_memory (all_taken words task e).taken) ∙ usage))
  where
    memory_or_usage : Memory refused ≡ Usage → ⊥
    memory_or_usage e = cc

-- no command was matched
pub unmatched : (words : List Text) → printed (subcommand_of tool words) ≡ None → task_of words ≡ None
unmatched words nothing = none_unless words (λ task e. none-some words (sym nothing ∙ (all_taken words task e).back))

-- other words were matched
pub unlike : (words back : List Text) → printed (subcommand_of tool words) ≡ Some back → (words ≡ back → ⊥) → task_of words ≡ None
unlike words back printed_back differ = none_unless words (λ task e. differ (some_is words back (sym (all_taken words task e).back ∙ printed_back)))

pub unlike_said : (words : List Text) (rows : Option (Text × List Row)) (made : Option Matched) (matched : Matched) (back : List Text) (same : Bool)
    → rows ≡ subcommand_of tool words → option_map matched_words made ≡ printed rows → made ≡ Some matched → back ≡ matched_words matched
    → (IsTrue same ↔ (words ≡ back)) → same ≡ false → task_of words ≡ None
unlike_said words rows made matched back same met is some said test differ =
    let printed_back : printed (subcommand_of tool words) ≡ Some (matched_words matched) = ap printed (sym met) ∙ sym is ∙ ap (option_map matched_words) some in
    unlike words (matched_words matched) printed_back (λ like. true≢false (sym (test.1 (like ∙ sym said)) ∙ differ))
