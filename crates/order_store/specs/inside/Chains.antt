-- The links of orders in a list: the place of the order before each one in its level, and of that behind it.
use Rattle.std.specs.Prelude.{ℕ, ◌≡◌, ◌+◌, ◌≤◌, ◌^◌, ◌==◌, nat_lt, if◌then◌else◌, List, length, map, Option, Some, None, slice_index_or, slice_set, count_by, is_some}
use Rattle.fx_rules.specs.declared.orders.Resting.{Resting}
use Rattle.order_store.specs.Linked.{AreRising, HaveLots, IsFirstFrom, IsInLevel, IsLastBelow}
use Rattle.order_store.specs.declared.nodes.Node.{Node}
use Rattle.order_store.specs.inside.Orders.{AreNamed}
use Rattle.order_store.specs.inside.Rows.{Row}

-- an order that rests, or the place of one that is gone, and the places of its neighbours in its level
pub record Linked : Type 0 where
  pub order : Option Resting
  pub before : Option ℕ
  pub behind : Option ℕ

-- a place without an order
abbrev pub no_node : Linked
no_node = record { order = None; before = None; behind = None }

-- what a node has at a place
abbrev pub node_at : List Linked → ℕ → Linked
node_at nodes place = slice_index_or nodes place no_node

-- the orders of nodes, or nothing, at each place from 0 on
abbrev pub slots_of : List Linked → List (Option Resting)
slots_of nodes = map (λ node. node.order) nodes

-- how a place is written down: any number from 2^28 on is none, and 2^32 - 2 behind an order tells that it is gone
abbrev pub link_of : ℕ → Option ℕ
link_of place = if nat_lt place (2 ^ 28) then Some place else None

abbrev pub link_to : Option ℕ → ℕ
link_to None = 4294967295
link_to (Some place) = place

abbrev pub order_of : Node → Option Resting
order_of node = if node.behind == 4294967294 then None else Some node.order

abbrev pub linked_of : Node → Linked
linked_of node = record { order = order_of node; before = link_of node.before; behind = link_of node.behind }

-- nodes, and how many more can be added
pub record Listed : Type 0 where
  pub nodes : List Linked
  pub room : ℕ

-- the nodes with another order behind that at a place, where there is one
abbrev pub with_behind : List Linked → Option ℕ → Option ℕ → List Linked
with_behind nodes None behind = nodes
with_behind nodes (Some place) behind = slice_set nodes place (record (node_at nodes place) { behind = behind })

-- and with another one before it
abbrev pub with_before : List Linked → Option ℕ → Option ℕ → List Linked
with_before nodes None before = nodes
with_before nodes (Some place) before = slice_set nodes place (record (node_at nodes place) { before = before })

-- each order has the places of its neighbours
pub record AreChained (there : ℕ → Option Resting) (before behind : ℕ → Option ℕ) : Type 0 where
  pub behind_is : (place : ℕ) (order : Resting) → there place ≡ Some order → IsFirstFrom (IsInLevel there order) (place + 1) (behind place)
  pub before_is : (place : ℕ) (order : Resting) → there place ≡ Some order → IsLastBelow (IsInLevel there order) place (before place)

-- the order at a place of nodes
abbrev pub in_node : List Linked → ℕ → Option Resting
in_node nodes place = slice_index_or (slots_of nodes) place None

-- nodes stand by arrival, are linked, and so many of them have an order
pub record AreNodes (nodes : List Linked) (count : ℕ) : Type 0 where
  pub chained : AreChained (in_node nodes) (λ place. (node_at nodes place).before) (λ place. (node_at nodes place).behind)
  pub rising : AreRising (in_node nodes)
  pub lots : HaveLots (in_node nodes)
  pub count_is : count ≡ count_by is_some (slots_of nodes)

-- all that a list keeps: its nodes, and the places of each bank's orders by number
pub record IsKept (nodes : List Linked) (count : ℕ) (rows : List Row) : Type 0 where
  pub are : AreNodes nodes count
  pub named : AreNamed (slots_of nodes) rows
  pub few : length nodes ≤ 2 ^ 28
