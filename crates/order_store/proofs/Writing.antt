-- What a list of nodes is once one of them is written.
use Rattle.std.proofs.Common.{ℕ, ◌≡◌, ◌<◌, ◌^◌, true, false, eqb, ltb, List, Option, Some, None, length, map, get_or, inl, inr, refl, ap, sym, subst, ◌∙◌, arith}
use Rattle.std.proofs.Math.ListN.{set}
use Rattle.std.proofs.lemmas.Bool.{cases_Bool, cond-false, cond-true, lt-ltb, ne_eqb}
use Rattle.std.proofs.lemmas.List.{get_or-map, length-map, map-set}
use Rattle.std.specs.Option.{IfSome, IsSome}
use Rattle.fx_rules.specs.declared.orders.Resting.{Resting}
use Rattle.order_store.specs.declared.nodes.Node.{Node}
use Rattle.order_store.specs.inside.Chains.{Linked, Listed, in_node, link_of, link_to, linked_of, no_node, node_at, order_of, with_before, with_behind}
use Rattle.order_store.proofs.Keeping.{if_some_order, some_of}
use Rattle.order_store.proofs.Listing.{in_node-is, in_node-within}

-- A link that is written down is read again.
link-back : (link : Option ℕ) → IfSome link (λ place. place < 2 ^ 28) → link_of (link_to link) ≡ link
link-back None fits = refl
link-back (Some place) fits = cond-true (ltb place (2 ^ 28)) (Some place) None (lt-ltb place (2 ^ 28) fits)

link-live : (link : Option ℕ) → IfSome link (λ place. place < 2 ^ 28) → eqb (link_to link) 4294967294 ≡ false
link-live None fits = refl
link-live (Some place) fits = ne_eqb place 4294967294 (λ same. omega (arith, fits, same))

-- A node is read.
pub node-is : (items : List Node) (place : ℕ) (item : Node) → place < length items → item ≡ get_or items place item → node_at (map linked_of items) place ≡ linked_of item
node-is items place item within is = get_or-map linked_of items place item no_node within ∙ ap linked_of (sym is)

pub live-within : (items : List Node) (place : ℕ) → IsSome (in_node (map linked_of items) place) → place < length items
live-within items place live =
    let at = some_of Resting (in_node (map linked_of items) place) live in
    subst (λ n. place < n) (length-map items linked_of) (in_node-within (map linked_of items) place at.0 at.1)

order-live : (item : Node) → IsSome (order_of item) → order_of item ≡ Some item.order
order-live item live =
    elim (cases_Bool (eqb item.behind 4294967294)) [
      | inl gone ↦ let it : false ≡ true = subst (λ (o : Option Resting). IsSome o) (cond-true (eqb item.behind 4294967294) None (Some item.order) gone) live in cc
      | inr stays ↦ cond-false (eqb item.behind 4294967294) None (Some item.order) stays
    ]

not_gone : (item : Node) → IsSome (order_of item) → eqb item.behind 4294967294 ≡ false
not_gone item live =
    elim (cases_Bool (eqb item.behind 4294967294)) [
      | inl gone ↦ let it : false ≡ true = subst (λ (o : Option Resting). IsSome o) (cond-true (eqb item.behind 4294967294) None (Some item.order) gone) live in cc
      | inr stays ↦ stays
    ]

module _ (items : List Node) (place : ℕ) (item : Node) (live : IsSome (in_node (map linked_of items) place)) (is : item ≡ get_or items place item) where
  here : node_at (map linked_of items) place ≡ linked_of item
  here = node-is items place item (live-within items place live) is

  lives : IsSome (order_of item)
  lives = subst (λ (o : Option Resting). IsSome o) (in_node-is (map linked_of items) place ∙ ap (λ (node : Linked). node.order) here) live

  pub order-here : in_node (map linked_of items) place ≡ Some item.order
  order-here = in_node-is (map linked_of items) place ∙ ap (λ (node : Linked). node.order) here ∙ order-live item lives

  pub behind-written : (link : Option ℕ) → IfSome link (λ at. at < 2 ^ 28) → map linked_of (set items place (record item { behind = link_to link })) ≡ with_behind (map linked_of items) (Some place) link
  behind-written link fits =
      let made : Option Resting → Option ℕ → Linked = λ o l. record { order = o; before = link_of item.before; behind = l } in
      map-set linked_of items place (record item { behind = link_to link })
      ∙ ap (set (map linked_of items) place)
      (ap (λ o. made o (link_of (link_to link))) (cond-false (eqb (link_to link) 4294967294) None (Some item.order) (link-live link fits) ∙ sym (order-live item lives))
      ∙ ap (made (order_of item)) (link-back link fits)
      ∙ ap (λ (node : Linked). record node { behind = link }) (sym here))

  pub before-written : (link : Option ℕ) → IfSome link (λ at. at < 2 ^ 28) → map linked_of (set items place (record item { before = link_to link })) ≡ with_before (map linked_of items) (Some place) link
  before-written link fits =
      let made : Option ℕ → Linked = λ l. record { order = order_of item; before = l; behind = link_of item.behind } in
      map-set linked_of items place (record item { before = link_to link })
      ∙ ap (set (map linked_of items) place) (ap made (link-back link fits) ∙ ap (λ (node : Linked). record node { before = link }) (sym here))

  pub lots-written : (left : ℕ) → map linked_of (set items place (record item { order = record item.order { left = left } }))
      ≡ set (map linked_of items) place (record (node_at (map linked_of items) place) { order = Some (record item.order { left = left }) })
  lots-written left =
      let lower : Resting = record item.order { left = left } in
      let made : Option Resting → Linked = λ o. record { order = o; before = link_of item.before; behind = link_of item.behind } in
      map-set linked_of items place (record item { order = lower })
      ∙ ap (set (map linked_of items) place)
      (ap made (cond-false (eqb item.behind 4294967294) None (Some lower) (not_gone item lives)) ∙ ap (λ (node : Linked). record node { order = Some lower }) (sym here))

node-cleared : (items : List Node) (place : ℕ) (order : Resting) → map linked_of (set items place (record { order = order; before = 4294967295; behind = 4294967294 })) ≡ set (map linked_of items) place no_node
node-cleared items place order = map-set linked_of items place (record { order = order; before = 4294967295; behind = 4294967294 })

-- The same, as a list's own calls see it.
module _ (items : List Node) (room : ℕ) (listed : Listed) (seen : record { nodes = map linked_of items; room = room } ≡ listed) (place : ℕ) (item : Node) where
  pub behind-made : (at link : Option ℕ) (made : ℕ) → at ≡ Some place → IfSome at (λ p. IsSome (in_node listed.nodes p)) → item ≡ get_or items place item → IfSome link (λ p. p < 2 ^ 28) → made ≡ link_to link
      → map linked_of (set items place (record item { behind = made })) ≡ with_behind listed.nodes at link
  behind-made at link made at_is live is fits made_is =
      let here' : IsSome (in_node listed.nodes place) = subst (λ (a : Option ℕ). IfSome a (λ p. IsSome (in_node listed.nodes p))) at_is live in
      let live' : IsSome (in_node (map linked_of items) place) = subst (λ (l : Listed). IsSome (in_node l.nodes place)) (sym seen) here' in
      ap (λ (m : ℕ). map linked_of (set items place (record item { behind = m }))) made_is ∙ behind-written items place item live' is link fits
      ∙ ap (λ (l : Listed). with_behind l.nodes (Some place) link) seen ∙ ap (λ (a : Option ℕ). with_behind listed.nodes a link) (sym at_is)

  pub before-made : (at link : Option ℕ) (made : ℕ) → at ≡ Some place → IfSome at (λ p. IsSome (in_node listed.nodes p)) → item ≡ get_or items place item → IfSome link (λ p. p < 2 ^ 28) → made ≡ link_to link
      → map linked_of (set items place (record item { before = made })) ≡ with_before listed.nodes at link
  before-made at link made at_is live is fits made_is =
      let here' : IsSome (in_node listed.nodes place) = subst (λ (a : Option ℕ). IfSome a (λ p. IsSome (in_node listed.nodes p))) at_is live in
      let live' : IsSome (in_node (map linked_of items) place) = subst (λ (l : Listed). IsSome (in_node l.nodes place)) (sym seen) here' in
      ap (λ (m : ℕ). map linked_of (set items place (record item { before = m }))) made_is ∙ before-written items place item live' is link fits
      ∙ ap (λ (l : Listed). with_before l.nodes (Some place) link) seen ∙ ap (λ (a : Option ℕ). with_before listed.nodes a link) (sym at_is)

  pub lots-made : (left : ℕ) → IsSome (in_node listed.nodes place) → item ≡ get_or items place item
      → IfSome (in_node listed.nodes place) (λ order. map linked_of (set items place (record item { order = record item.order { left = left } }))
      ≡ set listed.nodes place (record (node_at listed.nodes place) { order = Some (record order { left = left }) }))
  lots-made left live is =
      let live' : IsSome (in_node (map linked_of items) place) = subst (λ (l : Listed). IsSome (in_node l.nodes place)) (sym seen) live in
      let new : List Linked = map linked_of (set items place (record item { order = record item.order { left = left } })) in
      subst (λ (l : Listed). IfSome (in_node l.nodes place) (λ order. new ≡ set l.nodes place (record (node_at l.nodes place) { order = Some (record order { left = left }) }))) seen
      (if_some_order (in_node (map linked_of items) place)
      (λ order. new ≡ set (map linked_of items) place (record (node_at (map linked_of items) place) { order = Some (record order { left = left }) }))
      (λ order order_is.
      let both : Some item.order ≡ Some order = sym (order-here items place item live' is) ∙ order_is in
      let same : item.order ≡ order = cc in
      lots-written items place item live' is left
      ∙ ap (λ (o : Resting). set (map linked_of items) place (record (node_at (map linked_of items) place) { order = Some (record o { left = left }) })) same))

  pub cleared-made : (order : Resting) → map linked_of (set items place (record { order = order; before = 4294967295; behind = 4294967294 })) ≡ set listed.nodes place no_node
  cleared-made order = node-cleared items place order ∙ ap (λ (l : Listed). set l.nodes place no_node) seen

  pub order-read : (read : List Node) (found : Option Resting) → read ≡ items → place < length read → item ≡ get_or read place item → found ≡ order_of item → found ≡ in_node listed.nodes place
  order-read read found read_is within is found_is =
      found_is
      ∙ sym (ap (λ (node : Linked). node.order) (node-is items place item (subst (λ (xs : List Node). place < length xs) read_is within) (subst (λ (xs : List Node). item ≡ get_or xs place item) read_is is)))
      ∙ sym (in_node-is (map linked_of items) place) ∙ ap (λ (l : Listed). in_node l.nodes place) seen
