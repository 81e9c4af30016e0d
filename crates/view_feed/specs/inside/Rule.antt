-- The rule of the two copies: what is shown is of the feed of which each seat knows.
use Rattle.std.specs.Prelude.{ℕ, ◌≡◌, true, false, List, []}
use mathlib.Core.Option.{some}
use lib.ListN.{get_elem?}
use Rattle.logbook.specs.Pages.{Book}
use Rattle.fx_rules.specs.Session.{Header}
use Rattle.view_feed.specs.declared.rule.View.{View}
use Rattle.view_feed.specs.inside.Tape.{head_of}
use Rattle.view_feed.specs.inside.Shown.{Exhibit, IsOf}

-- a seat that knows the feed of a session with a tape
abbrev pub knower : Header → Book → View
knower h tape = record { known = true; session = h; head = head_of tape }

-- a seat that knows nothing
abbrev pub newcomer : View
newcomer = record { known = false; session = record { version = 1; banks = []; pairs = []; limits = []; totals = [] }; head = head_of (record { number = 0; log_name = 0; cells_name = 0 }) }

-- what is shown is of the feed that the seat knows
abbrev pub Fits : Exhibit → View → Type 0
Fits x v = v.known ≡ true → IsOf v.session v.head.book x

abbrev pub Keeps : Exhibit → List View → Type 0
Keeps x views = (seat : ℕ) (v : View) → get_elem? views seat ≡ some v → Fits x v

-- the seat then knows the feed of what is shown, which is the one that it knew
abbrev pub Sees : View → Exhibit → Exhibit → View → Type 0
Sees v x y w = (w ≡ knower y.session y.tape) × Fits y v
