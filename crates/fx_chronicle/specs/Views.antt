-- What a seat at the table knows: its view.
use Rattle.std.specs.Prelude.{ℕ, ◌≡◌, ◌+◌, true, false, List, []}
use Rattle.fx_chronicle.specs.declared.rule.View.{View}
use Rattle.fx_chronicle.specs.Touching.{without}
use Rattle.fx_chronicle.specs.Faces.{longer}

module _ {E : Type 0} where
  -- the writer's: all entries, the keys that have still to sign, the number of keys dealt
  abbrev pub writer : List E → List ℕ → ℕ → View E
  writer entries pending keys = record { writes = true; keyed = false; key = 0; seen = entries; told = []; met = []; pending = pending; keys = keys }

  -- a front's
  abbrev pub front : ℕ → List E → List E → View E
  front key seen met = record { writes = false; keyed = true; key = key; seen = seen; told = []; met = met; pending = []; keys = 0 }

  -- the writer's, with a front's seat taken in
  abbrev pub holder : List E → List ℕ → ℕ → ℕ → List E → List E → View E
  holder entries pending keys key told met = record { writes = true; keyed = true; key = key; seen = entries; told = told; met = met; pending = pending; keys = keys }

  -- a front's, with a slip taken in
  abbrev pub learner : ℕ → List E → List E → List E → View E
  learner key seen met told = record { writes = false; keyed = true; key = key; seen = seen; told = told; met = met; pending = []; keys = 0 }

  -- a slip's
  abbrev pub slip : List E → View E
  slip seen = record { writes = false; keyed = false; key = 0; seen = seen; told = []; met = []; pending = []; keys = 0 }

  abbrev pub IsWriter : View E → Type 0
  IsWriter v = v ≡ writer v.seen v.pending v.keys

  abbrev pub IsFront : View E → Type 0
  IsFront v = v ≡ front v.key v.seen v.met

  abbrev pub IsSlip : View E → Type 0
  IsSlip v = v ≡ slip v.seen

  -- the writer deals the next key
  abbrev pub dealt : View E → View E
  dealt v = writer v.seen v.pending (v.keys + 1)

  abbrev pub next_front : View E → View E
  next_front v = front v.keys v.seen v.seen

  -- the writer takes a front in
  abbrev pub taken_in : View E → View E → View E
  taken_in v w = holder v.seen v.pending v.keys w.key w.seen w.met

  -- the front that was taken in has met all entries
  abbrev pub met_all : View E → View E
  met_all v = holder v.seen (without v.key v.pending) v.keys v.key [] v.seen

  -- the two parts again
  abbrev pub let_go : View E → View E
  let_go v = writer v.seen v.pending v.keys

  abbrev pub front_again : View E → View E
  front_again v = front v.key v.seen v.met

  -- a front gives a slip
  abbrev pub slip_of : View E → View E
  slip_of v = slip v.seen

  -- a front takes a slip in, and keeps the longer list
  abbrev pub told : View E → View E → View E
  told v w = learner v.key v.seen v.met w.seen

  abbrev pub learned : View E → View E
  learned v = front v.key (longer v.seen v.told) v.met

  -- a seat that knows nothing
  abbrev pub nobody : View E
  nobody = slip []
  -- the view of a badge that has one
