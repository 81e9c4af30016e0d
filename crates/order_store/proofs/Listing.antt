-- The nodes of a list as an order comes, goes or is lowered.
use Rattle.std.proofs.Common.{ℕ, zero, suc, ◌≡◌, ◌≢◌, ◌+◌, ◌-◌, ◌≤◌, ◌<◌, cond, List, [], ◌∷◌, ◌++◌, Option, Some, None, length, map, get_or, inl, inr, refl, ap, sym, subst, ◌∙◌, arith}
use Rattle.std.proofs.Math.ListN.{set, length-set}
use Rattle.std.proofs.Math.Seq.{map-set_same}
use Rattle.std.proofs.lemmas.Bool.{cases_eq, cases_lt}
use Rattle.std.proofs.lemmas.List.Sums.{sum_by-append, sum_by-set}
use Rattle.std.proofs.lemmas.List.{get_or-set_same, get_or-set_other, get_or_past, length-map, map-append, map-set}
use Rattle.std.specs.List.{count_by}
use Rattle.std.specs.Option.{is_some}
use Rattle.fx_amounts.specs.Quantity.{IsLots}
use Rattle.fx_rules.specs.declared.orders.Resting.{Resting}
use Rattle.order_store.specs.Linked.{IsAlike, IsFirstFrom, IsInLevel, IsLastBelow}
use Rattle.order_store.specs.inside.Chains.{AreNodes, Linked, in_node, no_node, node_at, slots_of, with_before, with_behind}
use Rattle.order_store.proofs.Chaining.{chained-lowered, chained-pushed, chained-removed, rising-lowered, rising-pushed, rising-removed}

-- What a node has at a place.
map-at : {B : Type 0} (f : Linked → B) (nodes : List Linked) (place : ℕ) → get_or (map f nodes) place (f no_node) ≡ f (node_at nodes place)
map-at f [] place = refl
map-at f (node ∷ nodes) zero = refl
map-at f (node ∷ nodes) (suc place) = map-at f nodes place

pub in_node-is : (nodes : List Linked) (place : ℕ) → in_node nodes place ≡ (node_at nodes place).order
in_node-is nodes place = map-at (λ node. node.order) nodes place

field-same : {B : Type 0} (f : Linked → B) (nodes nodes' : List Linked) (place : ℕ) → map f nodes' ≡ map f nodes → f (node_at nodes' place) ≡ f (node_at nodes place)
field-same f nodes nodes' place same = sym (map-at f nodes' place) ∙ ap (λ xs. get_or xs place (f no_node)) same ∙ map-at f nodes place

pub in_node-within : (nodes : List Linked) (place : ℕ) (order : Resting) → in_node nodes place ≡ Some order → place < length nodes
in_node-within nodes place order is =
    elim (cases_lt place (length nodes)) [
      | inl within ↦ within
      | inr past ↦ let it : None ≡ Some order = sym (get_or_past (slots_of nodes) place None (subst (λ n. n ≤ place) (sym (length-map nodes (λ node. node.order))) past)) ∙ is in cc
    ]

pub in_node-past : (nodes : List Linked) (place : ℕ) → length nodes ≤ place → in_node nodes place ≡ None
in_node-past nodes place past = in_node-is nodes place ∙ ap (λ (node : Linked). node.order) (get_or_past nodes place no_node past)

end-new : (nodes : List Linked) (node : Linked) → node_at (nodes ++ node ∷ []) (length nodes) ≡ node
end-new [] node = refl
end-new (other ∷ nodes) node = end-new nodes node

end-others : (nodes : List Linked) (node : Linked) (place : ℕ) → place ≢ length nodes → node_at (nodes ++ node ∷ []) place ≡ node_at nodes place
end-others [] node zero differ = absurd (differ refl)
end-others [] node (suc place) differ = refl
end-others (other ∷ nodes) node zero differ = refl
end-others (other ∷ nodes) node (suc place) differ = end-others nodes node place (λ same. differ (ap suc same))

end-length : (nodes : List Linked) (node : Linked) → length (nodes ++ node ∷ []) ≡ suc (length nodes)
end-length [] node = refl
end-length (other ∷ nodes) node = ap suc (end-length nodes node)

-- A link is written.
differ_in : (at place : ℕ) → Some at ≢ Some place → place ≢ at
differ_in at place apart same = apart (ap Some (sym same))

same_in : (at place : ℕ) → Some at ≡ Some place → place ≡ at
same_in at place same = cc

pub behind-slots : (nodes : List Linked) (at link : Option ℕ) → slots_of (with_behind nodes at link) ≡ slots_of nodes
behind-slots nodes None link = refl
behind-slots nodes (Some at) link = map-set_same (λ node. node.order) nodes at (record (node_at nodes at) { behind = link }) no_node refl

pub before-slots : (nodes : List Linked) (at link : Option ℕ) → slots_of (with_before nodes at link) ≡ slots_of nodes
before-slots nodes None link = refl
before-slots nodes (Some at) link = map-set_same (λ node. node.order) nodes at (record (node_at nodes at) { before = link }) no_node refl

behind-length : (nodes : List Linked) (at link : Option ℕ) → length (with_behind nodes at link) ≡ length nodes
behind-length nodes None link = refl
behind-length nodes (Some at) link = length-set nodes at (record (node_at nodes at) { behind = link })

before-length : (nodes : List Linked) (at link : Option ℕ) → length (with_before nodes at link) ≡ length nodes
before-length nodes None link = refl
before-length nodes (Some at) link = length-set nodes at (record (node_at nodes at) { before = link })

behind-before : (nodes : List Linked) (at link : Option ℕ) (place : ℕ) → (node_at (with_behind nodes at link) place).before ≡ (node_at nodes place).before
behind-before nodes None link place = refl
behind-before nodes (Some at) link place =
    field-same (λ node. node.before) nodes (set nodes at (record (node_at nodes at) { behind = link })) place
    (map-set_same (λ node. node.before) nodes at (record (node_at nodes at) { behind = link }) no_node refl)

before-behind : (nodes : List Linked) (at link : Option ℕ) (place : ℕ) → (node_at (with_before nodes at link) place).behind ≡ (node_at nodes place).behind
before-behind nodes None link place = refl
before-behind nodes (Some at) link place =
    field-same (λ node. node.behind) nodes (set nodes at (record (node_at nodes at) { before = link })) place
    (map-set_same (λ node. node.behind) nodes at (record (node_at nodes at) { before = link }) no_node refl)

behind-there : (nodes : List Linked) (at link : Option ℕ) (place : ℕ) → place < length nodes → at ≡ Some place → (node_at (with_behind nodes at link) place).behind ≡ link
behind-there nodes None link place within is = let it : None ≡ Some place = is in cc
behind-there nodes (Some at) link place within is =
    let same : place ≡ at = same_in at place is in
    ap (λ p. (node_at (set nodes at (record (node_at nodes at) { behind = link })) p).behind) same
    ∙ ap (λ (node : Linked). node.behind) (get_or-set_same nodes at (record (node_at nodes at) { behind = link }) no_node (omega (arith, within, same)))

before-there : (nodes : List Linked) (at link : Option ℕ) (place : ℕ) → place < length nodes → at ≡ Some place → (node_at (with_before nodes at link) place).before ≡ link
before-there nodes None link place within is = let it : None ≡ Some place = is in cc
before-there nodes (Some at) link place within is =
    let same : place ≡ at = same_in at place is in
    ap (λ p. (node_at (set nodes at (record (node_at nodes at) { before = link })) p).before) same
    ∙ ap (λ (node : Linked). node.before) (get_or-set_same nodes at (record (node_at nodes at) { before = link }) no_node (omega (arith, within, same)))

behind-apart : (nodes : List Linked) (at link : Option ℕ) (place : ℕ) → at ≢ Some place → node_at (with_behind nodes at link) place ≡ node_at nodes place
behind-apart nodes None link place apart = refl
behind-apart nodes (Some at) link place apart = get_or-set_other nodes at place (record (node_at nodes at) { behind = link }) no_node (differ_in at place apart)

before-apart : (nodes : List Linked) (at link : Option ℕ) (place : ℕ) → at ≢ Some place → node_at (with_before nodes at link) place ≡ node_at nodes place
before-apart nodes None link place apart = refl
before-apart nodes (Some at) link place apart = get_or-set_other nodes at place (record (node_at nodes at) { before = link }) no_node (differ_in at place apart)

-- An order comes.
abbrev pub pushed : List Linked → Resting → Option ℕ → List Linked
pushed nodes order before = with_behind (nodes ++ record { order = Some order; before = before; behind = None } ∷ []) before (Some (length nodes))

pub pushed-slots : (nodes : List Linked) (order : Resting) (before : Option ℕ) → slots_of (pushed nodes order before) ≡ slots_of nodes ++ Some order ∷ []
pushed-slots nodes order before =
    let new : Linked = record { order = Some order; before = before; behind = None } in
    behind-slots (nodes ++ new ∷ []) before (Some (length nodes)) ∙ map-append (λ node. node.order) nodes (new ∷ [])

pub pushed-new : (nodes : List Linked) (order : Resting) (before : Option ℕ) → in_node (pushed nodes order before) (length nodes) ≡ Some order
pushed-new nodes order before =
    let new : Linked = record { order = Some order; before = before; behind = None } in
    ap (λ (ss : List (Option Resting)). get_or ss (length nodes) None) (behind-slots (nodes ++ new ∷ []) before (Some (length nodes)))
    ∙ in_node-is (nodes ++ new ∷ []) (length nodes) ∙ ap (λ (node : Linked). node.order) (end-new nodes new)

pub pushed-others : (nodes : List Linked) (order : Resting) (before : Option ℕ) (place : ℕ) → place ≢ length nodes → in_node (pushed nodes order before) place ≡ in_node nodes place
pushed-others nodes order before place differ =
    let new : Linked = record { order = Some order; before = before; behind = None } in
    ap (λ (ss : List (Option Resting)). get_or ss place None) (behind-slots (nodes ++ new ∷ []) before (Some (length nodes)))
    ∙ in_node-is (nodes ++ new ∷ []) place ∙ ap (λ (node : Linked). node.order) (end-others nodes new place differ) ∙ sym (in_node-is nodes place)

pub pushed-length : (nodes : List Linked) (order : Resting) (before : Option ℕ) → length (pushed nodes order before) ≡ suc (length nodes)
pushed-length nodes order before =
    let new : Linked = record { order = Some order; before = before; behind = None } in
    behind-length (nodes ++ new ∷ []) before (Some (length nodes)) ∙ end-length nodes new

last_within : (P : ℕ → Type 0) (end : ℕ) (link : Option ℕ) → IsLastBelow P end link → link ≢ Some end
last_within P end None is = λ same. let it : None ≡ Some end = same in cc
last_within P end (Some place) is = λ same. let below : place < end = is.below in let it : end ≡ place = same_in place end same in omega arith

last_at : (P : ℕ → Type 0) (end : ℕ) (link : Option ℕ) (place : ℕ) → IsLastBelow P end link → link ≡ Some place → place < end
last_at P end None place is same = let it : None ≡ Some place = same in cc
last_at P end (Some at) place is same = let it : place ≡ at = same_in at place same in omega (arith, is.below, it)

pub pushed-nodes : (nodes : List Linked) (order : Resting) (before : Option ℕ) (count : ℕ) → AreNodes nodes count
    → IsLastBelow (IsInLevel (in_node nodes) order) (length nodes) before → ((place : ℕ) (other : Resting) → in_node nodes place ≡ Some other → other.arrival < order.arrival) → IsLots order.left
    → AreNodes (pushed nodes order before) (count + 1)
pushed-nodes nodes order before count are last later own =
    let new : Linked = record { order = Some order; before = before; behind = None } in
    let all : List Linked = nodes ++ new ∷ [] in
    let end : ℕ = length nodes in
    let end' : Option ℕ = Some end in
    let is_new : in_node (pushed nodes order before) end ≡ Some order = pushed-new nodes order before in
    let others : (place : ℕ) → place ≢ end → in_node (pushed nodes order before) place ≡ in_node nodes place = pushed-others nodes order before in
    record {
      chained = chained-pushed (in_node nodes) (in_node (pushed nodes order before)) (λ p. (node_at nodes p).before) (λ p. (node_at (pushed nodes order before) p).before)
          (λ p. (node_at nodes p).behind) (λ p. (node_at (pushed nodes order before) p).behind) end order (in_node-past nodes) is_new others before last are.chained
          (behind-before all before end' end ∙ ap (λ (node : Linked). node.before) (end-new nodes new))
          (λ place differ. behind-before all before end' place ∙ ap (λ (node : Linked). node.before) (end-others nodes new place differ))
          (ap (λ (node : Linked). node.behind) (behind-apart all before end' end (last_within (IsInLevel (in_node nodes) order) end before last) ∙ end-new nodes new))
          (λ place differ at. behind-there all before end' place (let below = last_at (IsInLevel (in_node nodes) order) end before place last at in omega (arith, below, end-length nodes new)) at)
          (λ place differ apart. ap (λ (node : Linked). node.behind) (behind-apart all before end' place apart ∙ end-others nodes new place differ));
      rising = rising-pushed (in_node nodes) (in_node (pushed nodes order before)) (λ p. (node_at nodes p).before) (λ p. (node_at (pushed nodes order before) p).before)
          (λ p. (node_at nodes p).behind) (λ p. (node_at (pushed nodes order before) p).behind) end order (in_node-past nodes) is_new others are.rising later;
      lots = λ place o is. elim (cases_eq place end) [
        | inl same ↦ let it : Some order ≡ Some o = sym is_new ∙ ap (in_node (pushed nodes order before)) (sym same) ∙ is in subst (λ (r : Resting). IsLots r.left) (let one : order ≡ o = cc in one) own
        | inr differ ↦ are.lots place o (sym (others place differ) ∙ is)
      ];
      count_is = ap (λ n. n + 1) are.count_is ∙ sym (one_more (slots_of nodes) order) ∙ ap (count_by is_some) (sym (pushed-slots nodes order before));
    }
  where
    one_more : (slots : List (Option Resting)) (order : Resting) → count_by is_some (slots ++ Some order ∷ []) ≡ count_by is_some slots + 1
    one_more slots order = sum_by-append (λ (s : Option Resting). cond (is_some s) 1 0) slots (Some order ∷ [])

-- An order goes.
abbrev pub removed : List Linked → ℕ → List Linked
removed nodes gone =
    set (with_before (with_behind nodes (node_at nodes gone).before (node_at nodes gone).behind) (node_at nodes gone).behind (node_at nodes gone).before) gone no_node

pub removed-slots : (nodes : List Linked) (gone : ℕ) → slots_of (removed nodes gone) ≡ set (slots_of nodes) gone None
removed-slots nodes gone =
    let before = (node_at nodes gone).before in
    let behind = (node_at nodes gone).behind in
    map-set (λ node. node.order) (with_before (with_behind nodes before behind) behind before) gone no_node
    ∙ ap (λ (ss : List (Option Resting)). set ss gone None) (before-slots (with_behind nodes before behind) behind before ∙ behind-slots nodes before behind)

pub removed-length : (nodes : List Linked) (gone : ℕ) → length (removed nodes gone) ≡ length nodes
removed-length nodes gone =
    let before = (node_at nodes gone).before in
    let behind = (node_at nodes gone).behind in
    length-set (with_before (with_behind nodes before behind) behind before) gone no_node
    ∙ before-length (with_behind nodes before behind) behind before ∙ behind-length nodes before behind

pub removed-gone : (nodes : List Linked) (gone : ℕ) (order : Resting) → in_node nodes gone ≡ Some order → in_node (removed nodes gone) gone ≡ None
removed-gone nodes gone order was =
    ap (λ (ss : List (Option Resting)). get_or ss gone None) (removed-slots nodes gone)
    ∙ get_or-set_same (slots_of nodes) gone None None (subst (λ n. gone < n) (sym (length-map nodes (λ node. node.order))) (in_node-within nodes gone order was))

pub removed-others : (nodes : List Linked) (gone place : ℕ) → place ≢ gone → in_node (removed nodes gone) place ≡ in_node nodes place
removed-others nodes gone place differ =
    ap (λ (ss : List (Option Resting)). get_or ss place None) (removed-slots nodes gone) ∙ get_or-set_other (slots_of nodes) gone place None None differ

pub removed-nodes : (nodes : List Linked) (gone : ℕ) (order : Resting) (count : ℕ) → AreNodes nodes count → in_node nodes gone ≡ Some order → AreNodes (removed nodes gone) (count - 1)
removed-nodes nodes gone order count are was =
    let before : Option ℕ = (node_at nodes gone).before in
    let behind : Option ℕ = (node_at nodes gone).behind in
    let one : List Linked = with_behind nodes before behind in
    let two : List Linked = with_before one behind before in
    let within : gone < length nodes = in_node-within nodes gone order was in
    let slots : gone < length (slots_of nodes) = subst (λ n. gone < n) (sym (length-map nodes (λ node. node.order))) within in
    let is_gone : in_node (removed nodes gone) gone ≡ None = removed-gone nodes gone order was in
    let others : (place : ℕ) → place ≢ gone → in_node (removed nodes gone) place ≡ in_node nodes place = removed-others nodes gone in
    record {
      chained = chained-removed (in_node nodes) (in_node (removed nodes gone)) (λ p. (node_at nodes p).before) (λ p. (node_at (removed nodes gone) p).before)
          (λ p. (node_at nodes p).behind) (λ p. (node_at (removed nodes gone) p).behind) gone order was is_gone others are.chained
          (λ place differ at. ap (λ (node : Linked). node.behind) (get_or-set_other two gone place no_node no_node differ) ∙ before-behind one behind before place
          ∙ behind-there nodes before behind place
          (let below = last_at (IsInLevel (in_node nodes) order) gone before place (are.chained.before_is gone order was) at in omega (arith, below, within)) at)
          (λ place differ apart. ap (λ (node : Linked). node.behind) (get_or-set_other two gone place no_node no_node differ) ∙ before-behind one behind before place
          ∙ ap (λ (node : Linked). node.behind) (behind-apart nodes before behind place apart))
          (λ place differ at. ap (λ (node : Linked). node.before) (get_or-set_other two gone place no_node no_node differ)
          ∙ before-there one behind before place (subst (λ n. place < n) (sym (behind-length nodes before behind)) (first_at behind place (are.chained.behind_is gone order was) at)) at)
          (λ place differ apart. ap (λ (node : Linked). node.before) (get_or-set_other two gone place no_node no_node differ ∙ before-apart one behind before place apart)
          ∙ behind-before nodes before behind place);
      rising = rising-removed (in_node nodes) (in_node (removed nodes gone)) (λ p. (node_at nodes p).before) (λ p. (node_at (removed nodes gone) p).before)
          (λ p. (node_at nodes p).behind) (λ p. (node_at (removed nodes gone) p).behind) gone order was is_gone others are.rising;
      lots = λ place o is. are.lots place o (sym (others place (λ same. let it : None ≡ Some o = sym (ap (in_node (removed nodes gone)) same ∙ is_gone) ∙ is in cc)) ∙ is);
      count_is = one_less (slots_of nodes) (slots_of (removed nodes gone)) slots was (removed-slots nodes gone) are.count_is;
    }
  where
    first_at : (link : Option ℕ) (place : ℕ) → IsFirstFrom (IsInLevel (in_node nodes) order) (gone + 1) link → link ≡ Some place → place < length nodes
    first_at None place is same = let it : None ≡ Some place = same in cc
    first_at (Some at) place is same = subst (λ p. p < length nodes) (sym (same_in at place same)) (in_node-within nodes at is.is.order is.is.is)

    one_less : (slots slots' : List (Option Resting)) → gone < length slots → get_or slots gone None ≡ Some order → slots' ≡ set slots gone None → count ≡ count_by is_some slots
        → count - 1 ≡ count_by is_some slots'
    one_less slots slots' in_slots at same count_is =
        let counts = sum_by-set (λ (s : Option Resting). cond (is_some s) 1 0) slots gone None None in_slots in
        let held : cond (is_some (get_or slots gone None)) 1 0 ≡ 1 = ap {B = ℕ} (λ (s : Option Resting). cond (is_some s) 1 0) at in
        let is : count_by is_some slots' ≡ count_by is_some (set slots gone None) = ap (count_by is_some) same in
        omega (arith, counts, held, is, count_is)

-- An order is lowered.
abbrev pub lowered : List Linked → ℕ → Resting → List Linked
lowered nodes at order = set nodes at (record (node_at nodes at) { order = Some order })

pub lowered-slots : (nodes : List Linked) (at : ℕ) (order : Resting) → slots_of (lowered nodes at order) ≡ set (slots_of nodes) at (Some order)
lowered-slots nodes at order = map-set (λ node. node.order) nodes at (record (node_at nodes at) { order = Some order })

pub lowered-nodes : (nodes : List Linked) (at : ℕ) (order lower : Resting) (count : ℕ) → AreNodes nodes count → in_node nodes at ≡ Some order → IsAlike order lower → order.arrival ≡ lower.arrival → IsLots lower.left
    → AreNodes (lowered nodes at lower) count
lowered-nodes nodes at order lower count are was alike same left =
    let slots : at < length (slots_of nodes) = subst (λ n. at < n) (sym (length-map nodes (λ node. node.order))) (in_node-within nodes at order was) in
    let is : in_node (lowered nodes at lower) at ≡ Some lower =
    ap (λ (ss : List (Option Resting)). get_or ss at None) (lowered-slots nodes at lower) ∙ get_or-set_same (slots_of nodes) at (Some lower) None slots in
    let others : (place : ℕ) → place ≢ at → in_node (lowered nodes at lower) place ≡ in_node nodes place = λ place differ.
    ap (λ (ss : List (Option Resting)). get_or ss place None) (lowered-slots nodes at lower) ∙ get_or-set_other (slots_of nodes) at place (Some lower) None differ in
    record {
      chained = chained-lowered (in_node nodes) (in_node (lowered nodes at lower)) (λ p. (node_at nodes p).before) (λ p. (node_at (lowered nodes at lower) p).before)
          (λ p. (node_at nodes p).behind) (λ p. (node_at (lowered nodes at lower) p).behind) at order lower was is alike others are.chained
          (λ place. field-same (λ node. node.before) nodes (lowered nodes at lower) place (map-set_same (λ node. node.before) nodes at (record (node_at nodes at) { order = Some lower }) no_node refl))
          (λ place. field-same (λ node. node.behind) nodes (lowered nodes at lower) place (map-set_same (λ node. node.behind) nodes at (record (node_at nodes at) { order = Some lower }) no_node refl));
      rising = rising-lowered (in_node nodes) (in_node (lowered nodes at lower)) (λ p. (node_at nodes p).before) (λ p. (node_at (lowered nodes at lower) p).before)
          (λ p. (node_at nodes p).behind) (λ p. (node_at (lowered nodes at lower) p).behind) at order lower was is alike others same are.rising;
      lots = λ place o there. elim (cases_eq place at) [
        | inl here ↦ let it : Some lower ≡ Some o = sym is ∙ ap (in_node (lowered nodes at lower)) (sym here) ∙ there in subst (λ (r : Resting). IsLots r.left) (let one : lower ≡ o = cc in one) left
        | inr differ ↦ are.lots place o (sym (others place differ) ∙ there)
      ];
      count_is = same_count (slots_of nodes) (slots_of (lowered nodes at lower)) slots was (lowered-slots nodes at lower) are.count_is;
    }
  where
    same_count : (slots slots' : List (Option Resting)) → at < length slots → get_or slots at None ≡ Some order → slots' ≡ set slots at (Some lower) → count ≡ count_by is_some slots
        → count ≡ count_by is_some slots'
    same_count slots slots' in_slots at_is same count_is =
        let counts = sum_by-set (λ (s : Option Resting). cond (is_some s) 1 0) slots at (Some lower) None in_slots in
        let held : cond (is_some (get_or slots at None)) 1 0 ≡ 1 = ap {B = ℕ} (λ (s : Option Resting). cond (is_some s) 1 0) at_is in
        let is : count_by is_some slots' ≡ count_by is_some (set slots at (Some lower)) = ap (count_by is_some) same in
        omega (arith, counts, held, is, count_is)
