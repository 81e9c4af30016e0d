-- A list is laid anew without its empty places, order by order.
use Rattle.std.proofs.Common.{ℕ, zero, suc, ◌≡◌, ◌+◌, ◌≤◌, ◌<◌, min, List, [], ◌∷◌, ◌++◌, Option, Some, None, length, map, filter, take, get_or, is_some, inl, inr, refl, ap, sym, subst, ◌∙◌, arith}
use Rattle.std.proofs.Math.Seq.{get_or-append_seam, take-suc}
use Rattle.std.proofs.lemmas.Bool.{cases_lt}
use Rattle.std.proofs.lemmas.List.Elements.{filter-append}
use Rattle.std.proofs.lemmas.List.{get_or_append_left, get_or_past}
use Rattle.std.specs.Option.{IfSome, option_map}
use Rattle.fx_rules.specs.declared.orders.Resting.{Resting}
use Rattle.order_store.specs.Linked.{AreListed, IsInLevel, IsLastBelow}
use Rattle.order_store.specs.Orders.{Lacks, Orders, order_at}
use Rattle.order_store.specs.inside.Chains.{IsKept, Linked, in_node, slots_of}
use Rattle.order_store.specs.inside.Packed.{IsPacked, moved, rank_of}
use Rattle.order_store.specs.inside.Rows.{Row, key_in, no_row, room_with}
use Rattle.order_store.proofs.Rooms.{seen_banks}

-- An order stands at its rank among those before a later place, and what stands there is such an order.
at-rank : (end : ℕ) (slots : List (Option Resting)) (place : ℕ) (order : Resting) → place < end → get_or slots place None ≡ Some order
    → get_or (filter is_some (take end slots)) (rank_of slots place) None ≡ Some order
at-rank zero slots place order below is = absurd (omega arith)
at-rank (suc end) [] place order below is = let it : None ≡ Some order = is in cc
at-rank (suc end) (None ∷ slots) zero order below is = let it : None ≡ Some order = is in cc
at-rank (suc end) (Some first ∷ slots) zero order below is = is
at-rank (suc end) (None ∷ slots) (suc place) order below is = at-rank end slots place order (omega arith) is
at-rank (suc end) (Some first ∷ slots) (suc place) order below is = at-rank end slots place order (omega arith) is

-- the place of which an order has come
pub record IsFrom (slots : List (Option Resting)) (end rank : ℕ) (order : Resting) : Type 0 where
  pub place : ℕ
  pub below : place < end
  pub is : get_or slots place None ≡ Some order
  pub rank_is : rank_of slots place ≡ rank

come-from : (end : ℕ) (slots : List (Option Resting)) (rank : ℕ) (order : Resting) → get_or (filter is_some (take end slots)) rank None ≡ Some order → IsFrom slots end rank order
come-from zero slots rank order is = let it : None ≡ Some order = is in cc
come-from (suc end) [] rank order is = let it : None ≡ Some order = is in cc
come-from (suc end) (None ∷ slots) rank order is =
    let from = come-from end slots rank order is in
    let below : from.place < end = from.below in
    record { place = suc from.place; below = omega arith; is = from.is; rank_is = from.rank_is }
come-from (suc end) (Some first ∷ slots) zero order is = record { place = 0; below = omega arith; is = is; rank_is = refl }
come-from (suc end) (Some first ∷ slots) (suc rank) order is =
    let from = come-from end slots rank order is in
    let below : from.place < end = from.below in
    record { place = suc from.place; below = omega arith; is = from.is; rank_is = ap suc from.rank_is }

rank-below : (end : ℕ) (slots : List (Option Resting)) (place : ℕ) (order : Resting) → place < end → get_or slots place None ≡ Some order → rank_of slots place < length (filter is_some (take end slots))
rank-below zero slots place order below is = absurd (omega arith)
rank-below (suc end) [] place order below is = let it : None ≡ Some order = is in cc
rank-below (suc end) (None ∷ slots) zero order below is = let it : None ≡ Some order = is in cc
rank-below (suc end) (Some first ∷ slots) zero order below is = omega arith
rank-below (suc end) (None ∷ slots) (suc place) order below is = rank-below end slots place order (omega arith) is
rank-below (suc end) (Some first ∷ slots) (suc place) order below is = let rest = rank-below end slots place order (omega arith) is in omega (arith, rest)

rank-rises : (slots : List (Option Resting)) (place other : ℕ) → place ≤ other → rank_of slots place ≤ rank_of slots other
rank-rises slots zero other upto = omega arith
rank-rises slots (suc place) zero upto = absurd (omega arith)
rank-rises [] (suc place) (suc other) upto = omega arith
rank-rises (None ∷ slots) (suc place) (suc other) upto = rank-rises slots place other (omega arith)
rank-rises (Some first ∷ slots) (suc place) (suc other) upto = let rest = rank-rises slots place other (omega arith) in omega (arith, rest)

within : (slots : List (Option Resting)) (place : ℕ) (order : Resting) → get_or slots place None ≡ Some order → place < length slots
within [] place order is = let it : None ≡ Some order = is in cc
within (slot ∷ slots) zero order is = omega arith
within (slot ∷ slots) (suc place) order is = let rest = within slots place order is in omega (arith, rest)

-- the last order of a level stands at its rank, and is the last of its level there
last-moved : (slots : List (Option Resting)) (end : ℕ) (order : Resting) (link : Option ℕ) (there' : ℕ → Option Resting) → ((rank : ℕ) → there' rank ≡ get_or (filter is_some (take end slots)) rank None)
    → IsLastBelow (IsInLevel (λ at. get_or slots at None) order) end link → IsLastBelow (IsInLevel there' order) (length (filter is_some (take end slots))) (option_map (rank_of slots) link)
last-moved slots end order None there' same none = λ rank below in'.
    let from = come-from end slots rank in'.order (sym (same rank) ∙ in'.is) in
    none from.place from.below (record { order = in'.order; is = from.is; alike = in'.alike })
last-moved slots end order (Some place) there' same last = record {
  below = rank-below end slots place last.is.order last.below last.is.is;
  is = record { order = last.is.order; is = same (rank_of slots place) ∙ at-rank end slots place last.is.order last.below last.is.is; alike = last.is.alike };
  last = λ rank above below in'.
      let from = come-from end slots rank in'.order (sym (same rank) ∙ in'.is) in
      last.last from.place
      (elim (cases_lt place from.place) [
        | inl behind ↦ behind
        | inr upto ↦ let rises = rank-rises slots from.place place upto in let it = from.rank_is in absurd (omega (arith, rises, it, above))
      ]) from.below (record { order = in'.order; is = from.is; alike = in'.alike });
}

-- A place was looked at: its order has come, or it was empty.
module _ (old list list' : Orders) (place banks : ℕ) (places : List ℕ) (listed : AreListed old) (packed : IsPacked old.slots place places list banks) where
  laid-at : (rank : ℕ) → order_at list rank ≡ get_or (filter is_some (take place old.slots)) rank None
  laid-at rank = ap (λ (ss : List (Option Resting)). get_or ss rank None) packed.laid

  told-more : (new : ℕ) → ((order : Resting) → get_or old.slots place None ≡ Some order → new ≡ rank_of old.slots place)
      → (at : ℕ) (order : Resting) → at < place + 1 → get_or old.slots at None ≡ Some order → get_or (places ++ new ∷ []) at 0 ≡ rank_of old.slots at
  told-more new new_is at order below is =
      elim (cases_lt at place) [
        | inl early ↦ get_or_append_left places (new ∷ []) 0 at (omega (arith, early, packed.count)) ∙ packed.told at order early is
        | inr late ↦
            let same : at ≡ place = omega (arith, late, below) in
            let end : at ≡ length places = omega (arith, same, packed.count) in
            ap (λ p. get_or (places ++ new ∷ []) p 0) end ∙ get_or-append_seam places new [] 0 ∙ new_is order (ap (λ p. get_or old.slots p None) (sym same) ∙ is) ∙ ap (rank_of old.slots) (sym same)
      ]

  one-more : (new : ℕ) → length (places ++ new ∷ []) ≡ place + 1
  one-more new = let it = appended places new in omega (arith, it, packed.count)
    where
      appended : (places : List ℕ) (new : ℕ) → length (places ++ new ∷ []) ≡ length places + 1
      appended [] new = refl
      appended (other ∷ places) new = let rest = appended places new in omega (arith, rest)

  pub packed-past : (new : ℕ) → place < length old.slots → order_at old place ≡ None → IsPacked old.slots (place + 1) (places ++ new ∷ []) list banks
  packed-past new below empty = record {
    laid = packed.laid ∙ sym (ap (filter is_some) (ap (λ n. take n old.slots) (one_up place) ∙ take-suc old.slots place None below)
        ∙ filter-append is_some (take place old.slots) (get_or old.slots place None ∷ [])
        ∙ ap (λ slot. filter is_some (take place old.slots) ++ filter is_some (slot ∷ [])) empty ∙ no_more (filter is_some (take place old.slots)));
    count = one-more new;
    told = told-more new (λ order is. let it : None ≡ Some order = sym empty ∙ is in cc);
    banks_are = packed.banks_are;
  }
    where
      one_up : (n : ℕ) → n + 1 ≡ suc n
      one_up n = omega arith

      no_more : (slots : List (Option Resting)) → slots ++ [] ≡ slots
      no_more [] = refl
      no_more (slot ∷ slots) = ap (λ (ss : List (Option Resting)). slot ∷ ss) (no_more slots)

  module _ (order : Resting) (here : order_at old place ≡ Some order) where
    pub packed-lacks : Lacks list order.bank order.number
    packed-lacks rank other is bank number =
        let from = come-from place old.slots rank other (sym (laid-at rank) ∙ is) in
        let same : from.place ≡ place = listed.valid.unique from.place place other order from.is here bank number in
        let below = from.below in omega (arith, same, below)

    pub packed-later : (rank : ℕ) (other : Resting) → order_at list rank ≡ Some other → other.arrival < order.arrival
    packed-later rank other is =
        let from = come-from place old.slots rank other (sym (laid-at rank) ∙ is) in
        listed.rising from.place place other order from.is here from.below

    pub packed-last : (link : Option ℕ) → IsLastBelow (IsInLevel (order_at old) order) place link → IsLastBelow (IsInLevel (order_at list) order) (length list.slots) (moved places link)
    packed-last link last =
        subst (λ n. IsLastBelow (IsInLevel (order_at list) order) n (moved places link)) (ap length (sym packed.laid))
        (subst (IsLastBelow (IsInLevel (order_at list) order) (length (filter is_some (take place old.slots)))) (sym (links link last))
        (last-moved old.slots place order link (order_at list) laid-at last))
      where
        links : (link : Option ℕ) → IsLastBelow (IsInLevel (order_at old) order) place link → moved places link ≡ option_map (rank_of old.slots) link
        links None none = refl
        links (Some at) last = ap Some (packed.told at last.is.order last.below last.is.is)

    pub packed-pushed : (new : ℕ) → new ≡ length list.slots → list'.slots ≡ list.slots ++ Some order ∷ [] → length list'.room ≡ length list.room → IsPacked old.slots (place + 1) (places ++ new ∷ []) list' banks
    packed-pushed new new_is slots_are rooms = record {
      laid = slots_are ∙ ap (λ (ss : List (Option Resting)). ss ++ Some order ∷ []) packed.laid
          ∙ sym (ap (filter is_some) (ap (λ n. take n old.slots) (one_up place) ∙ take-suc old.slots place None (within old.slots place order here))
          ∙ filter-append is_some (take place old.slots) (get_or old.slots place None ∷ [])
          ∙ ap (λ slot. filter is_some (take place old.slots) ++ filter is_some (slot ∷ [])) here);
      count = one-more new;
      told = told-more new (λ other is. new_is ∙ ap length packed.laid);
      banks_are = rooms ∙ packed.banks_are;
    }
      where
        one_up : (n : ℕ) → n + 1 ≡ suc n
        one_up n = omega arith

-- The same, as a list's own calls see it.
pub packed-reserved : (slots : List (Option Resting)) (upto : ℕ) (places : List ℕ) (list list' : Orders) (banks : ℕ) → IsPacked slots upto places list banks → list'.slots ≡ list.slots → length list'.room ≡ length list.room
    → IsPacked slots upto places list' banks
packed-reserved slots upto places list list' banks packed same rooms = record { laid = same ∙ packed.laid; count = packed.count; told = packed.told; banks_are = rooms ∙ packed.banks_are }

pub carried-last : (old list : Orders) (place banks : ℕ) (places : List ℕ) (order : Resting) (link result : Option ℕ) → AreListed old → IsPacked old.slots place places list banks → order_at old place ≡ Some order
    → IfSome (order_at old place) (λ o. IsLastBelow (IsInLevel (order_at old) o) place link) → result ≡ moved places link → IsLastBelow (IsInLevel (order_at list) order) (length list.slots) result
carried-last old list place banks places order link result listed packed here last result_is =
    subst (IsLastBelow (IsInLevel (order_at list) order) (length list.slots)) (sym result_is)
    (packed-last old list list place banks places listed packed order here link
    (subst (λ (found : Option Resting). IfSome found (λ o. IsLastBelow (IsInLevel (order_at old) o) place link)) here last))

-- an order's bank has a row, and so has it in a list for as many banks
pub bank-within : (nodes : List Linked) (count places : ℕ) (rows : List Row) (orders list : Orders) (place : ℕ) (order : Resting) → record { slots = slots_of nodes; room = map (room_with places) rows } ≡ orders
    → IsKept nodes count rows → in_node nodes place ≡ Some order → length list.room ≡ min (length orders.room) 65 → order.bank < length list.room
bank-within nodes count places rows orders list place order seen kept is banks =
    let named = kept.named.named place order is in
    let number_most = (kept.named.numbered place order is).0 in
    let as_many : length rows ≡ length orders.room = seen_banks places rows orders (ap (λ (o : Orders). o.room) seen) in
    let row : order.bank < length rows = elim (cases_lt order.bank (length rows)) [
      | inl below ↦ below
      | inr past ↦ let it : None ≡ Some place = sym (ap (λ (r : Row). key_in r.entries order.number) (get_or_past rows order.bank no_row past)) ∙ named in cc
    ] in
    omega (arith, number_most, as_many, row, banks)

pub packed-none : (nodes : List Linked) (room : List ℕ) (orders list : Orders) (place banks : ℕ) (places : List ℕ) → record { slots = slots_of nodes; room = room } ≡ orders → AreListed orders
    → IsPacked orders.slots place places list banks → place < length orders.slots → None ≡ in_node nodes place → IsPacked orders.slots (place + 1) (places ++ 0 ∷ []) list banks
packed-none nodes room orders list place banks places seen listed packed below none =
    packed-past orders list list place banks places listed packed 0 below (sym (ap (λ (o : Orders). order_at o place) seen) ∙ sym none)

pub order-seen : (nodes : List Linked) (room : List ℕ) (orders : Orders) (place : ℕ) (order : Resting) → record { slots = slots_of nodes; room = room } ≡ orders → Some order ≡ in_node nodes place → order_at orders place ≡ Some order
order-seen nodes room orders place order seen is = sym (ap (λ (o : Orders). order_at o place) seen) ∙ sym is
