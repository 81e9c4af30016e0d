-- The command line takes the words of each form, and finds them again in its matches.
use Rattle.std.proofs.Common.{ℕ, ◌≡◌, true, false, List, [], ◌∷◌, Some, refl, ap, ◌∙◌, codes, slice_index_or}
use Rattle.clap.specs.Walk.{Held, Text, Walk, idle, arg_by_index, finished, nothing_held, pushed, settled, to_positional, walk, walk_from, walked}
use Rattle.clap.specs.Simple.{Shape, built, is_simple, names_of, new_shape, subcommand_of}
use Rattle.clap.specs.Takes.{level_passes, takes, turn_passes, walk_passes}
use Rattle.clap.proofs.OnLiterals.{clap_on_literals}
use Rattle.program_calls.specs.inside.Tool.{tool}
use Rattle.program_calls.specs.inside.Printed.{printed, printed_of}
use Rattle.program_calls.proofs.Walking.{IsPlain, at_place, at_option, step, turn, option_turn, option_step, goes_on, no_more, level, takes-by, subcommand-by}

-- The command line itself: the walk over its words ends at the subcommand.

simple : is_simple tool ≡ true
simple = refl

abbrev top : Shape
top = (built tool).top

abbrev leaf : ℕ → Shape
leaf k = slice_index_or (built tool).subs k (new_shape [])

abbrev met : Text → List Text → Walk
met name rest = record { held = nothing_held; waiting = idle; position = 1; is_trailing = false; stopped = Some (name, rest) }

-- `load`, with the numbers alone

abbrev load_leaf : Shape
load_leaf = leaf 3

abbrev put : ℕ → Held → Text → Held
put position h w = (to_positional load_leaf.rules (arg_by_index load_leaf.rules position) w (at_place position h) h).held

abbrev held_4 : Text → Text → Text → Text → Held
held_4 a b c d = put 4 (put 3 (put 2 (put 1 nothing_held a) b) c) d

module _ (a b c d : Text) (pa : IsPlain a) (pb : IsPlain b) (pc : IsPlain c) (pd : IsPlain d) where
  first : walked load_leaf.rules [] (walk_from nothing_held) a ≡ at_place 2 (put 1 nothing_held a)
  first = step load_leaf.rules 1 nothing_held a pa

  second : walked load_leaf.rules [] (at_place 2 (put 1 nothing_held a)) b ≡ at_place 3 (put 2 (put 1 nothing_held a) b)
  second = step load_leaf.rules 2 (put 1 nothing_held a) b pb

  third : walked load_leaf.rules [] (at_place 3 (put 2 (put 1 nothing_held a) b)) c ≡ at_place 4 (put 3 (put 2 (put 1 nothing_held a) b) c)
  third = step load_leaf.rules 3 (put 2 (put 1 nothing_held a) b) c pc

  fourth : walked load_leaf.rules [] (at_place 4 (put 3 (put 2 (put 1 nothing_held a) b) c)) d ≡ at_place 5 (held_4 a b c d)
  fourth = step load_leaf.rules 4 (put 3 (put 2 (put 1 nothing_held a) b) c) d pd

  numbers : walk load_leaf.rules [] nothing_held (a ∷ b ∷ c ∷ d ∷ []) ≡ at_place 5 (held_4 a b c d)
  numbers =
      ap (λ (k : Walk). walked load_leaf.rules [] (walked load_leaf.rules [] (walked load_leaf.rules [] k b) c) d) first
      ∙ ap (λ (k : Walk). walked load_leaf.rules [] (walked load_leaf.rules [] k c) d) second
      ∙ ap (λ (k : Walk). walked load_leaf.rules [] k d) third
      ∙ fourth

  numbers_pass : (rest : List Text) → walk_passes load_leaf [] (at_place 5 (held_4 a b c d)) rest ≡ true → walk_passes load_leaf [] (walk_from nothing_held) (a ∷ b ∷ c ∷ d ∷ rest) ≡ true
  numbers_pass rest more =
      goes_on load_leaf _ _ a _ (turn load_leaf 1 nothing_held a pa refl) first
      (goes_on load_leaf _ _ b _ (turn load_leaf 2 (put 1 nothing_held a) b pb refl) second
      (goes_on load_leaf _ _ c _ (turn load_leaf 3 (put 2 (put 1 nothing_held a) b) c pc refl) third
      (goes_on load_leaf _ _ d _ (turn load_leaf 4 (put 3 (put 2 (put 1 nothing_held a) b) c) d pd refl) fourth more)))

  load_level : level_passes load_leaf [] nothing_held (a ∷ b ∷ c ∷ d ∷ []) false ≡ true
  load_level = level load_leaf _ (at_place 5 (held_4 a b c d)) numbers (numbers_pass [] (no_more load_leaf _)) refl

load_met : (a b c d : Text) → walk top.rules (names_of (built tool)) nothing_held (codes "load" ∷ a ∷ b ∷ c ∷ d ∷ []) ≡ met (codes "load") (a ∷ b ∷ c ∷ d ∷ [])
unfolding clap_on_literals
load_met a b c d = refl

load_walks : (a b c d : Text) → walk_passes top (names_of (built tool)) (walk_from nothing_held) (codes "load" ∷ a ∷ b ∷ c ∷ d ∷ []) ≡ true
unfolding clap_on_literals
load_walks a b c d = refl

load_back : (a b c d : Text) → IsPlain a → IsPlain b → IsPlain c → IsPlain d → printed (subcommand_of tool (codes "load" ∷ a ∷ b ∷ c ∷ d ∷ [])) ≡ Some (codes "load" ∷ a ∷ b ∷ c ∷ d ∷ [])
load_back a b c d pa pb pc pd =
    ap printed (subcommand-by tool (codes "load" ∷ a ∷ b ∷ c ∷ d ∷ []) (met (codes "load") (a ∷ b ∷ c ∷ d ∷ [])) (load_met a b c d))
    ∙ ap (λ (k : Walk). printed_of (codes "load") (finished load_leaf.rules k.held)) (numbers a b c d pa pb pc pd)

-- the words are taken, and printed back as they were
pub record IsTaken (words : List Text) : Type 0 where
  pub taken : takes tool words ≡ true
  pub back : printed (subcommand_of tool words) ≡ Some words

pub load_alone : (a b c d : Text) → IsPlain a → IsPlain b → IsPlain c → IsPlain d → IsTaken (codes "load" ∷ a ∷ b ∷ c ∷ d ∷ [])
load_alone a b c d pa pb pc pd = record {
  taken = takes-by tool _ (met (codes "load") (a ∷ b ∷ c ∷ d ∷ [])) simple (load_met a b c d) (load_walks a b c d) (load_level a b c d pa pb pc pd) refl;
  back = load_back a b c d pa pb pc pd;
}

-- `load` with `--workers`

abbrev option_id : Text
option_id = codes "workers"

-- what is held as the option waits, and once it has its value
abbrev waiting_held : Held → Held
waiting_held h = record (settled load_leaf.rules h) { pending = Some (option_id, []) }

abbrev option_held : Held → Text → Held
option_held h n = pushed option_id n (waiting_held h)

load_option : (a b c d : Text) → walked load_leaf.rules [] (at_place 5 (held_4 a b c d)) (codes "--workers") ≡ at_option option_id 5 (waiting_held (held_4 a b c d))
unfolding clap_on_literals
load_option a b c d = refl

load_option_turn : (a b c d : Text) → turn_passes load_leaf [] (at_place 5 (held_4 a b c d)) (codes "--workers") ≡ true
unfolding clap_on_literals
load_option_turn a b c d = refl

load_value : (a b c d n : Text) → IsPlain n → walked load_leaf.rules [] (at_option option_id 5 (waiting_held (held_4 a b c d))) n ≡ at_place 5 (option_held (held_4 a b c d) n)
load_value a b c d n pn = option_step load_leaf.rules option_id 5 (waiting_held (held_4 a b c d)) n pn

all_numbers : (a b c d n : Text) → IsPlain a → IsPlain b → IsPlain c → IsPlain d → IsPlain n
    → walk load_leaf.rules [] nothing_held (a ∷ b ∷ c ∷ d ∷ codes "--workers" ∷ n ∷ []) ≡ at_place 5 (option_held (held_4 a b c d) n)
all_numbers a b c d n pa pb pc pd pn =
    ap (λ (k : Walk). walked load_leaf.rules [] (walked load_leaf.rules [] k (codes "--workers")) n) (numbers a b c d pa pb pc pd)
    ∙ ap (λ (k : Walk). walked load_leaf.rules [] k n) (load_option a b c d)
    ∙ load_value a b c d n pn

all_level : (a b c d n : Text) → IsPlain a → IsPlain b → IsPlain c → IsPlain d → IsPlain n → level_passes load_leaf [] nothing_held (a ∷ b ∷ c ∷ d ∷ codes "--workers" ∷ n ∷ []) false ≡ true
all_level a b c d n pa pb pc pd pn =
    level load_leaf _ (at_place 5 (option_held (held_4 a b c d) n)) (all_numbers a b c d n pa pb pc pd pn)
    (numbers_pass a b c d pa pb pc pd (codes "--workers" ∷ n ∷ [])
    (goes_on load_leaf _ _ (codes "--workers") _ (load_option_turn a b c d) (load_option a b c d)
    (goes_on load_leaf _ _ n _ (option_turn load_leaf option_id 5 (waiting_held (held_4 a b c d)) n pn) (load_value a b c d n pn) (no_more load_leaf _)))) refl

all_met : (a b c d n : Text) → walk top.rules (names_of (built tool)) nothing_held (codes "load" ∷ a ∷ b ∷ c ∷ d ∷ codes "--workers" ∷ n ∷ []) ≡ met (codes "load") (a ∷ b ∷ c ∷ d ∷ codes "--workers" ∷ n ∷ [])
unfolding clap_on_literals
all_met a b c d n = refl

all_walks : (a b c d n : Text) → walk_passes top (names_of (built tool)) (walk_from nothing_held) (codes "load" ∷ a ∷ b ∷ c ∷ d ∷ codes "--workers" ∷ n ∷ []) ≡ true
unfolding clap_on_literals
all_walks a b c d n = refl

pub load_with : (a b c d n : Text) → IsPlain a → IsPlain b → IsPlain c → IsPlain d → IsPlain n → IsTaken (codes "load" ∷ a ∷ b ∷ c ∷ d ∷ codes "--workers" ∷ n ∷ [])
load_with a b c d n pa pb pc pd pn = record {
  taken = takes-by tool _ (met (codes "load") (a ∷ b ∷ c ∷ d ∷ codes "--workers" ∷ n ∷ [])) simple (all_met a b c d n) (all_walks a b c d n) (all_level a b c d n pa pb pc pd pn) refl;
  back =
      ap printed (subcommand-by tool (codes "load" ∷ a ∷ b ∷ c ∷ d ∷ codes "--workers" ∷ n ∷ []) (met (codes "load") (a ∷ b ∷ c ∷ d ∷ codes "--workers" ∷ n ∷ [])) (all_met a b c d n))
      ∙ ap (λ (k : Walk). printed_of (codes "load") (finished load_leaf.rules k.held)) (all_numbers a b c d n pa pb pc pd pn);
}

-- `run`

abbrev run_leaf : Shape
run_leaf = leaf 0

abbrev run_waiting : Held
run_waiting = record nothing_held { pending = Some (option_id, []) }

run_option : walked run_leaf.rules [] (walk_from nothing_held) (codes "--workers") ≡ at_option option_id 1 run_waiting
unfolding clap_on_literals
run_option = refl

run_option_turn : turn_passes run_leaf [] (walk_from nothing_held) (codes "--workers") ≡ true
unfolding clap_on_literals
run_option_turn = refl

module _ (n : Text) (pn : IsPlain n) where
  run_value : walked run_leaf.rules [] (at_option option_id 1 run_waiting) n ≡ at_place 1 (pushed option_id n run_waiting)
  run_value = option_step run_leaf.rules option_id 1 run_waiting n pn

  run_numbers : walk run_leaf.rules [] nothing_held (codes "--workers" ∷ n ∷ []) ≡ at_place 1 (pushed option_id n run_waiting)
  run_numbers = ap (λ (k : Walk). walked run_leaf.rules [] k n) run_option ∙ run_value

  run_level : level_passes run_leaf [] nothing_held (codes "--workers" ∷ n ∷ []) false ≡ true
  run_level =
      level run_leaf _ (at_place 1 (pushed option_id n run_waiting)) run_numbers
      (goes_on run_leaf _ _ (codes "--workers") _ run_option_turn run_option
      (goes_on run_leaf _ _ n _ (option_turn run_leaf option_id 1 run_waiting n pn) run_value (no_more run_leaf _))) refl

run_met : (n : Text) → walk top.rules (names_of (built tool)) nothing_held (codes "run" ∷ codes "--workers" ∷ n ∷ []) ≡ met (codes "run") (codes "--workers" ∷ n ∷ [])
unfolding clap_on_literals
run_met n = refl

run_walks : (n : Text) → walk_passes top (names_of (built tool)) (walk_from nothing_held) (codes "run" ∷ codes "--workers" ∷ n ∷ []) ≡ true
unfolding clap_on_literals
run_walks n = refl

pub run_with : (n : Text) → IsPlain n → IsTaken (codes "run" ∷ codes "--workers" ∷ n ∷ [])
run_with n pn = record {
  taken = takes-by tool _ (met (codes "run") (codes "--workers" ∷ n ∷ [])) simple (run_met n) (run_walks n) (run_level n pn) refl;
  back =
      ap printed (subcommand-by tool (codes "run" ∷ codes "--workers" ∷ n ∷ []) (met (codes "run") (codes "--workers" ∷ n ∷ [])) (run_met n))
      ∙ ap (λ (k : Walk). printed_of (codes "run") (finished run_leaf.rules k.held)) (run_numbers n pn);
}

-- `payments`

abbrev payments_leaf : Shape
payments_leaf = leaf 5

abbrev payments_held : Text → Held
payments_held w = (to_positional payments_leaf.rules (arg_by_index payments_leaf.rules 1) w (at_place 1 nothing_held) nothing_held).held

module _ (w : Text) (pw : IsPlain w) where
  form_word : walk payments_leaf.rules [] nothing_held (w ∷ []) ≡ at_place 2 (payments_held w)
  form_word = step payments_leaf.rules 1 nothing_held w pw

  form_level : level_passes payments_leaf [] nothing_held (w ∷ []) false ≡ true
  form_level = level payments_leaf _ (at_place 2 (payments_held w)) form_word (goes_on payments_leaf _ _ w _ (turn payments_leaf 1 nothing_held w pw refl) form_word (no_more payments_leaf _)) refl

payments_met : (w : Text) → walk top.rules (names_of (built tool)) nothing_held (codes "payments" ∷ w ∷ []) ≡ met (codes "payments") (w ∷ [])
unfolding clap_on_literals
payments_met w = refl

payments_walks : (w : Text) → walk_passes top (names_of (built tool)) (walk_from nothing_held) (codes "payments" ∷ w ∷ []) ≡ true
unfolding clap_on_literals
payments_walks w = refl

pub payments_taken_by : (w : Text) → IsPlain w → IsTaken (codes "payments" ∷ w ∷ [])
payments_taken_by w pw = record {
  taken = takes-by tool _ (met (codes "payments") (w ∷ [])) simple (payments_met w) (payments_walks w) (form_level w pw) refl;
  back =
      ap printed (subcommand-by tool (codes "payments" ∷ w ∷ []) (met (codes "payments") (w ∷ [])) (payments_met w))
      ∙ ap (λ (k : Walk). printed_of (codes "payments") (finished payments_leaf.rules k.held)) (form_word w pw);
}

-- the words that stand alone

pub run_alone : IsTaken (codes "run" ∷ [])
unfolding clap_on_literals
run_alone = record { taken = refl; back = refl }

pub serial_alone : IsTaken (codes "serial" ∷ [])
unfolding clap_on_literals
serial_alone = record { taken = refl; back = refl }

pub check_alone : IsTaken (codes "check" ∷ [])
unfolding clap_on_literals
check_alone = record { taken = refl; back = refl }

pub clients_alone : IsTaken (codes "clients" ∷ [])
unfolding clap_on_literals
clients_alone = record { taken = refl; back = refl }

pub watch_alone : IsTaken (codes "watch" ∷ [])
unfolding clap_on_literals
watch_alone = record { taken = refl; back = refl }
