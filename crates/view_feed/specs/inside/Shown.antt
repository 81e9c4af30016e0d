-- What readers are shown, and what one operation does to it.
use Rattle.std.specs.Prelude.{◌≡◌, List, [], ◌∷◌, ◌++◌}
use Rattle.std.specs.Arc.{arc_value}
use Rattle.logbook.specs.Pages.{Book}
use Rattle.fx_rules.specs.declared.outcome.Entry.{Entry}
use Rattle.fx_rules.specs.Session.{Header}
use Rattle.fx_rules.specs.History.{IsLegal, state}
use Rattle.pair_host.specs.Standing.{HostState, StandsFor}
use Rattle.view_feed.specs.declared.operation.Operation.{Operation}
use Rattle.view_feed.specs.declared.operation.Operation.TheVariants.{Add, Mark}

-- a market that is shown: its session, the entries that were taken in, and the stretch of the tape that was marked last
pub record Exhibit : Type 0 where
  pub session : Header
  pub entries : List Entry
  pub tape : Book
  pub marked : List Entry

-- The host is in the state after a legal history of the session, which is what was taken in, if that is legal.
pub record IsShown (h : Header) (entries : List Entry) (host : HostState) : Type 0 where
  pub history : List Entry
  pub legal : IsLegal h history
  pub stood : StandsFor h (state h history) host
  pub whole : IsLegal h entries → history ≡ entries

-- an entry is taken in, or a stretch of the tape is marked
abbrev pub with_operation : Exhibit → Operation → Exhibit
with_operation x (Add entry) = record { session = x.session; entries = x.entries ++ arc_value entry ∷ []; tape = x.tape; marked = x.marked }
with_operation x (Mark front) = record { session = x.session; entries = x.entries; tape = front.tape; marked = front.entries }

-- the entries that operations add, in order
abbrev pub added : List Operation → List Entry
added [] = []
added (Add entry ∷ operations) = arc_value entry ∷ added operations
added (Mark front ∷ operations) = added operations

-- It is one that a feed of the session shows: its entries are legal, and just those of the tape that were marked.
pub record IsOf (h : Header) (its_tape : Book) (x : Exhibit) : Type 0 where
  pub session : x.session ≡ h
  pub tape : x.tape ≡ its_tape
  pub marked : x.marked ≡ x.entries
  pub legal : IsLegal h x.entries
