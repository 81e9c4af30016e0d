-- How `clap` walks over words that begin with no hyphen.
use Rattle.std.proofs.Common.{ℕ, ◌≡◌, true, false, ◌&&◌, ◌==◌, List, [], ◌∷◌, None, is_some, refl, ap}
use Rattle.std.specs.Str.{bytes_eq}
use Rattle.std.specs.List.{list_all}
use Rattle.clap.specs.Lexer.{long_of, short_of}
use Rattle.clap.specs.Walk.{Held, Rule, Text, Walk, Waiting, after_step, idle, option, value, arg_by_index, finished, nothing_held, plain_word, to_positional, walk, walk_from, walked, word_met}
use Rattle.clap.specs.Simple.{App, Shape, argument_words, built, entered, is_simple, names_of, subcommand_of}
use Rattle.clap.specs.Takes.{default_passes, entered_passes, is_valid, level_passes, settle_passes, step_passes, takes, turn_passes, walk_passes, word_passes}

-- a word that begins with no hyphen
pub record IsPlain (w : Text) : Type 0 where
  pub long : long_of w ≡ None
  pub short : short_of w ≡ None
  pub dashes : bytes_eq w (45 ∷ 45 ∷ []) ≡ false

pub plain : (a : ℕ) (rest : Text) → (a == 45) ≡ false → IsPlain (a ∷ rest)
plain a rest other = record { long = rw other refl; short = rw other refl; dashes = rw other refl }

met_idle : (c : List Rule) (position : ℕ) (w : Text) (h : Held) → IsPlain w → word_met c [] false idle position w h ≡ (h, value)
met_idle c position w h is = rw (is.dashes, is.long, is.short) refl

met_option : (c : List Rule) (id : Text) (position : ℕ) (w : Text) (h : Held) → IsPlain w → word_met c [] false (option id) position w h ≡ plain_word c (option id) w h
met_option c id position w h is = rw (is.dashes, is.long, is.short) refl

passes : (s : Shape) (waiting : Waiting) (w : Text) (h : Held) → waiting ≡ idle → IsPlain w → word_passes s [] false waiting w h ≡ true
passes s waiting w h at is = rw (at, is.dashes, is.long, is.short) refl

passes_option : (s : Shape) (id : Text) (w : Text) (h : Held) → IsPlain w → word_passes s [] false (option id) w h ≡ true
passes_option s id w h is = rw (is.dashes, is.long, is.short) refl

-- a walk between two words, that waits for none
abbrev pub at_place : ℕ → Held → Walk
at_place position h = record { held = h; waiting = idle; position = position; is_trailing = false; stopped = None }

-- the same, where an option waits for its value
abbrev pub at_option : Text → ℕ → Held → Walk
at_option id position h = record { held = h; waiting = option id; position = position; is_trailing = false; stopped = None }

-- the word goes to the positional
pub step : (c : List Rule) (position : ℕ) (h : Held) (w : Text) → IsPlain w → walked c [] (at_place position h) w ≡ to_positional c (arg_by_index c position) w (at_place position h) h
unfolding walked
step c position h w is = rw (met_idle c position w h is) refl

pub turn : (s : Shape) (position : ℕ) (h : Held) (w : Text) → IsPlain w → step_passes s position h value ≡ true → turn_passes s [] (at_place position h) w ≡ true
turn s position h w is ok = rw (met_idle s.rules position w h is, passes s idle w h refl is, ok) refl

-- the word goes to the option
pub option_turn : (s : Shape) (id : Text) (position : ℕ) (h : Held) (w : Text) → IsPlain w → turn_passes s [] (at_option id position h) w ≡ true
option_turn s id position h w is = rw (met_option s.rules id position w h is, passes_option s id w h is) refl

-- a walk goes on by a word
pub goes_on : (s : Shape) (k k' : Walk) (w : Text) (rest : List Text) → turn_passes s [] k w ≡ true → walked s.rules [] k w ≡ k' → walk_passes s [] k' rest ≡ true → walk_passes s [] k (w ∷ rest) ≡ true
unfolding walk_passes
goes_on s k k' w rest ok is more = rw (ok, is, more) refl

-- a level passes by where its walk ends
pub level : (s : Shape) (words : List Text) (k : Walk) → walk s.rules [] nothing_held words ≡ k → walk_passes s [] (walk_from nothing_held) words ≡ true
    → (settle_passes s.rules s.args_override_self k.held && (list_all default_passes s.rules && is_valid s (finished s.rules k.held) false)) ≡ true
    → level_passes s [] nothing_held words false ≡ true
level s words k is ok ends = rw (ok, is, ends) refl

-- a walk with an option that waits takes the word as its value
pub option_step : (c : List Rule) (id : Text) (position : ℕ) (h : Held) (w : Text) → IsPlain w
    → walked c [] (at_option id position h) w ≡ after_step c w (at_option id position h) (plain_word c (option id) w h).0 (plain_word c (option id) w h).1
unfolding walked
option_step c id position h w is = rw (met_option c id position w h is) refl

pub no_more : (s : Shape) (k : Walk) → walk_passes s [] k [] ≡ true
unfolding walk_passes
no_more s k = refl

-- a command takes words by where its walk ends
pub takes-by : (a : App) (words : List Text) (k : Walk) → is_simple a ≡ true
    → walk (built a).top.rules (names_of (built a)) nothing_held (argument_words a words) ≡ k
    → walk_passes (built a).top (names_of (built a)) (walk_from nothing_held) (argument_words a words) ≡ true
    → entered_passes (built a) k.stopped ≡ true
    → (settle_passes (built a).top.rules (built a).top.args_override_self k.held
    && (list_all default_passes (built a).top.rules && is_valid (built a).top (finished (built a).top.rules k.held) (is_some (entered (built a) k.stopped)))) ≡ true
    → takes a words ≡ true
takes-by a words k simple is ok inside ends = rw (simple, is, ok, inside, ends) refl

-- and names a subcommand by it
pub subcommand-by : (a : App) (words : List Text) (k : Walk)
    → walk (built a).top.rules (names_of (built a)) nothing_held (argument_words a words) ≡ k → subcommand_of a words ≡ entered (built a) k.stopped
subcommand-by a words k is = ap (λ (x : Walk). entered (built a) x.stopped) is
