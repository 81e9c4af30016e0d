-- Steps that keep the rule of the two copies.
use Rattle.std.proofs.Common.{◌≡◌, ℕ, ◌≢◌, true, List, [], ◌∷◌, set, refl, ap, sym, subst, ◌∙◌, ⊎_elim}
use mathlib.Core.Option.{some}
use lib.ListN.{get_elem?}
use Rattle.atomic_table.proofs.Lists.{at_set, at_snoc}
use Rattle.left_right.specs.Register.{Admits, TurnsAt, Turns, Forks, Merges}
use Rattle.logbook.specs.Pages.{Book}
use Rattle.fx_rules.specs.Session.{Header}
use Rattle.fx_rules.specs.History.{IsLegal}
use Rattle.view_feed.specs.declared.rule.View.{View}
use Rattle.view_feed.specs.inside.Shown.{Exhibit, IsOf}
use Rattle.view_feed.specs.inside.Rule.{Fits, Keeps, Sees, knower, newcomer}

-- what goes on of one feed is still of it
still : (h : Header) (tape : Book) (x y : Exhibit) → IsOf x.session x.tape y → IsOf h tape x → IsOf h tape y
still h tape x y on of = record {
  session = on.session ∙ of.session;
  tape = on.tape ∙ of.tape;
  marked = on.marked;
  legal = subst (λ (k : Header). IsLegal k y.entries) of.session on.legal;
}

pub of_itself : (h : Header) (tape : Book) (x : Exhibit) → IsOf h tape x → IsOf x.session x.tape x
of_itself h tape x of = record { session = refl; tape = refl; marked = of.marked; legal = subst (λ (k : Header). IsLegal k x.entries) (sym of.session) of.legal }

set_fits : (x : Exhibit) (views : List View) (seat : ℕ) (w : View) → Keeps x views → Fits x w → Keeps x (set views seat w)
set_fits x views seat w keeps fits j u e = ⊎_elim
    (λ (t : (j ≡ seat) × (w ≡ u)). subst (Fits x) t.1 fits)
    (λ (t : (j ≢ seat) × (get_elem? views j ≡ some u)). keeps j u t.1)
    (at_set views seat j w u e)

-- the feed shows more
pub shows : (seat : ℕ) (v : View) (x y : Exhibit) → IsOf x.session x.tape y → TurnsAt Keeps seat v x y Sees
shows seat v x y on views keeps at =
    let all : Keeps y views = λ j u e known. still u.session u.head.book x y on (keeps j u e known) in
    let here : Fits y (knower y.session y.tape) = λ _. of_itself x.session x.tape y on in (
      knower y.session y.tape,
      set_fits y views seat (knower y.session y.tape) all here,
      (refl, all seat v at),
    )

-- a reader looks
pub looks : (seat : ℕ) (v : View) → v.known ≡ true → Turns Keeps seat v (λ x. x) Sees
looks seat v known x views keeps at = shows seat v x x (of_itself v.session v.head.book x (keeps seat v at known)) views keeps at

-- a reader comes
pub admits : Admits Keeps newcomer
admits x views keeps seat v at = ⊎_elim (λ h. keeps seat v h) (λ (e : newcomer ≡ v). subst (Fits x) e (λ known. absurd cc)) (at_snoc views newcomer v seat at)

-- the writer is there alone
pub alone : (x : Exhibit) → Keeps x (newcomer ∷ [])
alone x seat v at = ⊎_elim (λ (none : get_elem? [] seat ≡ some v). absurd cc) (λ (e : newcomer ≡ v). subst (Fits x) e (λ known. absurd cc)) (at_snoc [] newcomer v seat at)

-- the writer tells it of the feed
pub forks : (seat : ℕ) (v : View) → Forks Keeps seat v v v
forks seat v x views keeps at j u e = ⊎_elim
    (set_fits x views seat v keeps (keeps seat v at) j u)
    (λ (same : v ≡ u). subst (Fits x) same (keeps seat v at))
    (at_snoc (set views seat v) v u j e)

pub merges : (seat : ℕ) (v : View) (other : ℕ) (w : View) → Merges Keeps seat v other w w newcomer
merges seat v other w x views keeps at apart there =
    let fits : Fits x w = ⊎_elim
    (λ (t : (other ≡ seat) × (w ≡ w)). absurd (apart t.0))
    (λ (t : (other ≢ seat) × (get_elem? views other ≡ some w)). keeps other w t.1)
    (at_set views seat other w w there) in
    set_fits x (set views seat w) other newcomer (set_fits x views seat w keeps fits) (λ known. absurd cc)

-- what a seat that knows the feed sees is of it
pub seen_of : (h : Header) (tape : Book) (v : View) (x : Exhibit) → v ≡ knower h tape → Fits x v → IsOf h tape x
seen_of h tape v x is fits = subst (λ (w : View). IsOf w.session w.head.book x) is (fits (ap (λ (w : View). w.known) is))
