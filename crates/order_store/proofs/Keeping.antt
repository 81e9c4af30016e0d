-- All that a list keeps as an order comes, goes or is lowered.
use Rattle.std.proofs.Common.{ℕ, ◌≡◌, ◌+◌, ◌-◌, ◌≤◌, ◌<◌, ◌^◌, true, false, List, [], ◌∷◌, ◌++◌, Option, Some, None, length, get_or, refl, ap, sym, subst, ◌∙◌, arith}
use Rattle.std.proofs.Math.ListN.{set, length-set}
use Rattle.std.proofs.lemmas.List.{length-map}
use Rattle.std.specs.Option.{IfSome, IsSome}
use Rattle.fx_amounts.specs.Quantity.{IsLots}
use Rattle.fx_rules.specs.declared.orders.Resting.{Resting}
use Rattle.order_store.specs.Linked.{AreListed, IsFirstFrom, IsInLevel, IsLastBelow}
use Rattle.order_store.specs.Orders.{Lacks, Orders, order_at}
use Rattle.order_store.specs.inside.Chains.{IsKept, Linked, in_node, no_node, node_at, slots_of, with_before, with_behind}
use Rattle.order_store.specs.inside.Orders.{AreNamed}
use Rattle.order_store.specs.inside.Rows.{Row, key_in, with_key}
use Rattle.order_store.proofs.Listing.{in_node-past, in_node-within, lowered, lowered-nodes, lowered-slots, pushed, pushed-length, pushed-new, pushed-nodes, pushed-others, removed, removed-gone, removed-length, removed-nodes, removed-others}
use Rattle.order_store.proofs.Naming.{named_added, named_lowered, named_removed, named_reserved, seen_orders}
use Rattle.order_store.proofs.Rooms.{Written}

pub if_some : (P : ℕ → Type 0) (link : Option ℕ) → ((place : ℕ) → link ≡ Some place → P place) → IfSome link P
if_some P None holds = tt
if_some P (Some place) holds = holds place refl

pub some_of : (X : Type 0) (o : Option X) → IsSome o → (x : X) × (o ≡ Some x)
some_of X None is = let it : false ≡ true = is in cc
some_of X (Some x) is = (x, refl)

pub if_some_order : (found : Option Resting) (P : Resting → Type 0) → ((order : Resting) → found ≡ Some order → P order) → IfSome found P
if_some_order None P holds = tt
if_some_order (Some order) P holds = holds order refl

pub slots-length : (nodes : List Linked) → length (slots_of nodes) ≡ length nodes
slots-length nodes = length-map nodes (λ node. node.order)

-- What callers see.
pub kept-listed : (nodes : List Linked) (count : ℕ) (rows : List Row) (room : List ℕ) (orders : Orders) → record { slots = slots_of nodes; room = room } ≡ orders → IsKept nodes count rows → AreListed orders
kept-listed nodes count rows room orders seen kept =
    let here : Orders = record { slots = slots_of nodes; room = room } in
    subst AreListed seen (record {
      valid = seen_orders (slots_of nodes) room rows here refl kept.named;
      rising = kept.are.rising;
      lots = kept.are.lots;
      few = subst (λ n. n ≤ 2 ^ 28) (sym (slots-length nodes)) kept.few;
    })

-- An order is at a place.
pub live_within : (nodes : List Linked) (count : ℕ) (rows : List Row) (place : ℕ) (order : Resting) → IsKept nodes count rows → in_node nodes place ≡ Some order → place < 2 ^ 28
live_within nodes count rows place order kept is = let within = in_node-within nodes place order is in let few = kept.few in omega (arith, within, few)

-- the places of an order's neighbours have orders, below 2^28
pub behind_live : (nodes : List Linked) (count : ℕ) (rows : List Row) (place : ℕ) (order : Resting) → IsKept nodes count rows → in_node nodes place ≡ Some order
    → (at : ℕ) → (node_at nodes place).behind ≡ Some at → (other : Resting) × (in_node nodes at ≡ Some other)
behind_live nodes count rows place order kept is at link =
    let first = subst (IsFirstFrom (IsInLevel (in_node nodes) order) (place + 1)) link (kept.are.chained.behind_is place order is) in
    (first.is.order, first.is.is)

-- An order comes.
pub pushed_is : (nodes one two : List Linked) (order : Resting) (before : Option ℕ) (place : ℕ) → one ≡ nodes ++ record { order = Some order; before = before; behind = None } ∷ []
    → two ≡ with_behind one before (Some place) → place ≡ length nodes → two ≡ pushed nodes order before
pushed_is nodes one two order before place one_is two_is place_is =
    let new : Linked = record { order = Some order; before = before; behind = None } in
    two_is ∙ ap (λ (ns : List Linked). with_behind ns before (Some place)) one_is ∙ ap (λ (n : ℕ). with_behind (nodes ++ new ∷ []) before (Some n)) place_is

pub kept-pushed : (nodes nodes' : List Linked) (count : ℕ) (rows rows' : List Row) (room : List ℕ) (orders : Orders) (order : Resting) (before : Option ℕ) (place : ℕ) (row row' : Row)
    → record { slots = slots_of nodes; room = room } ≡ orders → IsKept nodes count rows → nodes' ≡ pushed nodes order before → place ≡ length nodes → length nodes < 2 ^ 28
    → Lacks orders order.bank order.number → ((at : ℕ) (other : Resting) → order_at orders at ≡ Some other → other.arrival < order.arrival)
    → IsLastBelow (IsInLevel (order_at orders) order) (length orders.slots) before
    → Written rows rows' order.bank row row' → row'.entries ≡ with_key order.number place row.entries → order.bank < 65 → order.number < 2 ^ 32 → IsLots order.left
    → IsKept nodes' (count + 1) rows'
kept-pushed nodes nodes' count rows rows' room orders order before place row row' seen kept is place_is few lacks later last written with bank number own =
    subst (λ (ns : List Linked). IsKept ns (count + 1) rows') (sym is) (record {
      are = pushed-nodes nodes order before count kept.are
          (subst (λ n. IsLastBelow (IsInLevel (in_node nodes) order) n before) (slots-length nodes)
          (subst (λ (o : Orders). IsLastBelow (IsInLevel (order_at o) order) (length o.slots) before) (sym seen) last))
          (subst (λ (o : Orders). (at : ℕ) (other : Resting) → order_at o at ≡ Some other → other.arrival < order.arrival) (sym seen) later) own;
      named = named_added (slots_of nodes) (slots_of (pushed nodes order before)) rows rows' orders place order row row' kept.named (ap (λ (o : Orders). o.slots) seen) lacks
          (in_node-past nodes place (omega (arith, place_is)))
          (ap (in_node (pushed nodes order before)) place_is ∙ pushed-new nodes order before)
          (λ other differ. pushed-others nodes order before other (λ same. differ (same ∙ sym place_is))) written with bank number;
      few = omega (arith, few, pushed-length nodes order before);
    })

-- An order goes.
pub removed_is : (nodes one two three : List Linked) (before behind : Option ℕ) (place : ℕ) → before ≡ (node_at nodes place).before → behind ≡ (node_at nodes place).behind
    → one ≡ with_behind nodes before behind → two ≡ with_before one behind before → three ≡ set two place no_node → three ≡ removed nodes place
removed_is nodes one two three before behind place before_is behind_is one_is two_is three_is =
    three_is ∙ ap (λ (ns : List Linked). set ns place no_node) (two_is ∙ ap (λ (ns : List Linked). with_before ns behind before) one_is)
    ∙ ap (λ (b : Option ℕ). set (with_before (with_behind nodes b behind) behind b) place no_node) before_is
    ∙ ap (λ (b : Option ℕ). set (with_before (with_behind nodes (node_at nodes place).before b) b (node_at nodes place).before) place no_node) behind_is

pub kept-removed : (nodes nodes' : List Linked) (count : ℕ) (rows : List Row) (place : ℕ) (order : Resting) → IsKept nodes count rows → nodes' ≡ removed nodes place → in_node nodes place ≡ Some order
    → IsKept nodes' (count - 1) rows
kept-removed nodes nodes' count rows place order kept is was =
    subst (λ (ns : List Linked). IsKept ns (count - 1) rows) (sym is) (record {
      are = removed-nodes nodes place order count kept.are was;
      named = named_removed (slots_of nodes) (slots_of (removed nodes place)) rows place kept.named (removed-gone nodes place order was) (removed-others nodes place);
      few = subst (λ n. n ≤ 2 ^ 28) (sym (removed-length nodes place)) kept.few;
    })

-- An order is lowered.
pub kept-lowered : (nodes nodes' : List Linked) (count : ℕ) (rows : List Row) (place left : ℕ) (order : Resting) → IsKept nodes count rows
    → nodes' ≡ lowered nodes place (record order { left = left }) → in_node nodes place ≡ Some order → IsLots left → IsKept nodes' count rows
kept-lowered nodes nodes' count rows place left order kept is was own =
    let lower : Resting = record order { left = left } in
    subst (λ (ns : List Linked). IsKept ns count rows) (sym is) (record {
      are = lowered-nodes nodes place order lower count kept.are was (record { bank = refl; side = refl; price = refl }) refl own;
      named = subst (λ (ss : List (Option Resting)). AreNamed ss rows) (sym (lowered-slots nodes place lower)) (named_lowered (slots_of nodes) rows place left order kept.named was);
      few = subst (λ n. n ≤ 2 ^ 28) (sym (length-set nodes place (record (node_at nodes place) { order = Some lower }))) kept.few;
    })

-- Room is made.
pub kept-reserved : (nodes nodes' : List Linked) (count : ℕ) (rows rows' : List Row) (bank : ℕ) (row row' : Row) → IsKept nodes count rows → nodes' ≡ nodes → Written rows rows' bank row row'
    → row'.entries ≡ row.entries → IsKept nodes' count rows'
kept-reserved nodes nodes' count rows rows' bank row row' kept same written entries =
    subst (λ (ns : List Linked). IsKept ns count rows') (sym same) (record {
      are = kept.are;
      named = named_reserved (slots_of nodes) (slots_of nodes) rows rows' bank row row' kept.named refl written
          (λ number key found there. ap (λ es. key_in es number) entries ∙ found);
      few = kept.few;
    })

pub kept-same : (nodes nodes' : List Linked) (count : ℕ) (rows : List Row) → IsKept nodes count rows → nodes' ≡ nodes → IsKept nodes' count rows
kept-same nodes nodes' count rows kept same = subst (λ (ns : List Linked). IsKept ns count rows) (sym same) kept

-- What a removal asks of the nodes.
pub neighbour : (nodes one : List Linked) (count : ℕ) (rows : List Row) (link own : Option ℕ) → IsKept nodes count rows → link ≡ own → slots_of one ≡ slots_of nodes
    → ((at : ℕ) → own ≡ Some at → (other : Resting) × (in_node nodes at ≡ Some other)) → IfSome link (λ at. IsSome (in_node one at)) × IfSome link (λ at. at < 2 ^ 28)
neighbour nodes one count rows link own kept is same live = (
  if_some (λ at. IsSome (in_node one at)) link (λ at at_is.
      let it = live at (sym is ∙ at_is) in
      subst (λ (o : Option Resting). IsSome o) (sym (ap (λ (ss : List (Option Resting)). get_or ss at None) same ∙ it.1)) refl),
  if_some (λ at. at < 2 ^ 28) link (λ at at_is.
      let it = live at (sym is ∙ at_is) in live_within nodes count rows at it.0 kept it.1),
)

-- The order that is at a place, where there is one.
pub order_there : (nodes : List Linked) (room : List ℕ) (orders : Orders) (place : ℕ) → record { slots = slots_of nodes; room = room } ≡ orders → IsSome (order_at orders place)
    → (order : Resting) × (in_node nodes place ≡ Some order)
order_there nodes room orders place seen live =
    some_of Resting (in_node nodes place) (subst (λ (o : Orders). IsSome (order_at o place)) (sym seen) live)

-- The neighbours that callers see.
pub seen_before : (nodes : List Linked) (count : ℕ) (rows : List Row) (room : List ℕ) (orders : Orders) (place : ℕ) (link : Option ℕ) → record { slots = slots_of nodes; room = room } ≡ orders → IsKept nodes count rows
    → link ≡ (node_at nodes place).before → IfSome (order_at orders place) (λ order. IsLastBelow (IsInLevel (order_at orders) order) place link)
seen_before nodes count rows room orders place link seen kept link_is =
    subst (λ (o : Orders). IfSome (order_at o place) (λ order. IsLastBelow (IsInLevel (order_at o) order) place link)) seen
    (subst (λ (l : Option ℕ). IfSome (in_node nodes place) (λ order. IsLastBelow (IsInLevel (in_node nodes) order) place l)) (sym link_is)
    (if_some_order (in_node nodes place) (λ order. IsLastBelow (IsInLevel (in_node nodes) order) place (node_at nodes place).before) (λ order is. kept.are.chained.before_is place order is)))

pub seen_behind : (nodes : List Linked) (count : ℕ) (rows : List Row) (room : List ℕ) (orders : Orders) (place : ℕ) (link : Option ℕ) → record { slots = slots_of nodes; room = room } ≡ orders → IsKept nodes count rows
    → link ≡ (node_at nodes place).behind → IfSome (order_at orders place) (λ order. IsFirstFrom (IsInLevel (order_at orders) order) (place + 1) link)
seen_behind nodes count rows room orders place link seen kept link_is =
    subst (λ (o : Orders). IfSome (order_at o place) (λ order. IsFirstFrom (IsInLevel (order_at o) order) (place + 1) link)) seen
    (subst (λ (l : Option ℕ). IfSome (in_node nodes place) (λ order. IsFirstFrom (IsInLevel (in_node nodes) order) (place + 1) l)) (sym link_is)
    (if_some_order (in_node nodes place) (λ order. IsFirstFrom (IsInLevel (in_node nodes) order) (place + 1) (node_at nodes place).behind) (λ order is. kept.are.chained.behind_is place order is)))

pub lowered_is : (nodes nodes' : List Linked) (place left : ℕ) (order : Resting) → in_node nodes place ≡ Some order
    → IfSome (in_node nodes place) (λ o. nodes' ≡ set nodes place (record (node_at nodes place) { order = Some (record o { left = left }) })) → nodes' ≡ lowered nodes place (record order { left = left })
lowered_is nodes nodes' place left order is holds =
    subst (λ (found : Option Resting). IfSome found (λ o. nodes' ≡ set nodes place (record (node_at nodes place) { order = Some (record o { left = left }) }))) is holds

pub lowered_seen : (nodes nodes' : List Linked) (room : List ℕ) (orders : Orders) (place left : ℕ) → record { slots = slots_of nodes; room = room } ≡ orders
    → IfSome (in_node nodes place) (λ o. nodes' ≡ set nodes place (record (node_at nodes place) { order = Some (record o { left = left }) }))
    → IfSome (order_at orders place) (λ o. slots_of nodes' ≡ set orders.slots place (Some (record o { left = left })))
lowered_seen nodes nodes' room orders place left seen holds =
    subst (λ (os : Orders). IfSome (order_at os place) (λ o. slots_of nodes' ≡ set os.slots place (Some (record o { left = left })))) seen
    (if_some_order (in_node nodes place) (λ o. slots_of nodes' ≡ set (slots_of nodes) place (Some (record o { left = left })))
    (λ order is. ap slots_of (lowered_is nodes nodes' place left order is holds) ∙ lowered-slots nodes place (record order { left = left })))
