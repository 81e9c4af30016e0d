-- The rule of the table, which ties all views to one history, and what each step tells.
use Rattle.std.specs.Prelude.{ℕ, ◌≡◌, ◌<◌, Bool, true, false, List, [], ◌∷◌, ◌++◌, length}
use mathlib.Core.Option.{Option, none, some}
use mathlib.Core.List.{IsPrefix}
use lib.ListN.{get_elem?}
use Rattle.atomic_table.specs.Table.{State, Me, Step}
use Rattle.fx_chronicle.specs.declared.rule.View.{View}
use Rattle.fx_chronicle.specs.Touching.{Untouched, touched, pends, but_last}
use Rattle.fx_chronicle.specs.Faces.{longer}
use Rattle.fx_chronicle.specs.Views.{writer, met_all, learned}

module _ {E : Type 0} (touches : E → ℕ → Bool) where
  -- no entry behind `met` touches the key; where the key has still to sign, the last one alone may
  pub record Settled (key : ℕ) (pending : List ℕ) (met log : List E) : Type 0 where
    pub signed : pends pending key ≡ false → Untouched touches key met log
    pub waits : pends pending key ≡ true → Untouched touches key met (but_last log)

  -- what a view knows is true of the history: its log, the keys that have still to sign, the number of keys dealt, the
  -- seat that writes, and the seat at which each key is
  pub record Fits (log : List E) (pending : List ℕ) (keys seat : ℕ) (place : ℕ → ℕ) (id : ℕ) (v : View E) : Type 0 where
    pub writes : v.writes ≡ true → (id ≡ seat) × (v.seen ≡ log) × (v.pending ≡ pending) × (v.keys ≡ keys)
    pub seen : IsPrefix v.seen log
    pub told : IsPrefix v.told log
    pub keyed : v.keyed ≡ true → (v.key < keys) × (place v.key ≡ id) × Settled v.key pending v.met log

  -- the word is the length of a history that all views fit
  pub record Kept (s : State E (View E)) : Type 0 where
    pub log : List E
    pub pending : List ℕ
    pub keys : ℕ
    pub seat : ℕ
    pub place : ℕ → ℕ
    pub words : s.words ≡ length log ∷ []
    pub fits : (id : ℕ) (v : View E) → get_elem? s.views id ≡ some v → Fits log pending keys seat place id v

  -- a commit adds the entry, and the keys that it touches have to sign
  abbrev pub CommittedAs : Option E → Me E (View E) → Me E (View E) → Type 0
  CommittedAs none me after = Unit {0}
  CommittedAs (some e) me after = after ≡ (writer (me.0.seen ++ e ∷ []) (touched touches e me.0.keys) me.0.keys, me.1)

  abbrev pub Commits : Step E → Me E (View E) → ℕ → Me E (View E) → Type 0
  Commits s me found after = CommittedAs s.said me after

  -- a look at a front that was taken in: it had seen a beginning, and missed nothing that touches its key
  abbrev pub Meets : Step E → Me E (View E) → ℕ → Me E (View E) → Type 0
  Meets s me found after =
      (after ≡ (met_all me.0, me.1))
      × IsPrefix me.0.told me.0.seen
      × Settled me.0.key me.0.pending me.0.met me.0.seen

-- a front learns what a slip tells: both are beginnings of the longer
abbrev pub Learns : {E : Type 0} → Step E → Me E (View E) → ℕ → Me E (View E) → Type 0
Learns s me found after =
    (after ≡ (learned me.0, me.1))
    × IsPrefix me.0.seen (longer me.0.seen me.0.told)
    × IsPrefix me.0.told (longer me.0.seen me.0.told)
