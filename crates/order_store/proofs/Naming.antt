-- The names of the orders that are kept, as an order comes, changes or goes.
use Rattle.std.proofs.Common.{ℕ, ◌≡◌, ◌≢◌, ◌<◌, ◌≤◌, ◌^◌, true, false, List, Option, Some, None, eqb, length, get_or, inl, inr, refl, ap, sym, subst, ◌∙◌, arith}
use Rattle.std.proofs.Math.ListN.{set}
use Rattle.std.proofs.lemmas.Bool.{cases_eq, and_from, eq-eqb}
use Rattle.std.proofs.lemmas.List.{get_or-set_same, get_or-set_other, get_or_past}
use Rattle.fx_rules.specs.declared.orders.Resting.{Resting}
use Rattle.order_store.specs.Orders.{Orders, AreOrders, Lacks}
use Rattle.order_store.specs.declared.row.Numbered.{Numbered}
use Rattle.order_store.specs.inside.Orders.{AreNamed}
use Rattle.order_store.specs.inside.Rows.{Row, row_at, no_row, has_order, is_under, key_in, with_key}
use Rattle.order_store.proofs.Numbering.{key_in-with_key_same, key_in-with_key_other}
use Rattle.order_store.proofs.Rooms.{Written, within_slots}

some_same : {X : Type 0} (a b : X) → Some a ≡ Some b → a ≡ b
some_same a b same = cc

-- the key that the row of a bank has with a number
abbrev pub key_of : List Row → ℕ → ℕ → Option ℕ
key_of rows bank number = key_in (row_at rows bank).entries number

-- What callers see.

-- the key of an order of this bank and number
named_as : (slots : List (Option Resting)) (rows : List Row) (key bank number : ℕ) (order : Resting) → AreNamed slots rows → get_or slots key None ≡ Some order → order.bank ≡ bank → order.number ≡ number
    → key_of rows bank number ≡ Some key
named_as slots rows key bank number order are is same_bank same_number =
    ap (λ b. key_of rows b number) (sym same_bank) ∙ ap (key_of rows order.bank) (sym same_number) ∙ are.named key order is

are_orders : (orders : Orders) (rows : List Row) → AreNamed orders.slots rows → AreOrders orders
are_orders orders rows are = record {
  unique = λ key other order same here there bank number.
      some_same key other (sym (named_as orders.slots rows key same.bank same.number order are here bank number) ∙ are.named other same there);
  numbered = are.numbered;
}

pub seen_orders : (slots : List (Option Resting)) (room : List ℕ) (rows : List Row) (orders : Orders) → record { slots = slots; room = room } ≡ orders → AreNamed slots rows → AreOrders orders
seen_orders slots room rows orders seen are = subst AreOrders seen (are_orders (record { slots = slots; room = room }) rows are)

lacks_none : (orders : Orders) (rows : List Row) (bank number : ℕ) → AreNamed orders.slots rows → key_of rows bank number ≡ None → Lacks orders bank number
lacks_none orders rows bank number are none key order is same_bank same_number =
    let it : None ≡ Some key = sym none ∙ named_as orders.slots rows key bank number order are is same_bank same_number in cc

lacks_gone : (orders : Orders) (rows : List Row) (key bank number : ℕ) → AreNamed orders.slots rows → key_of rows bank number ≡ Some key → is_under orders.slots key bank number ≡ false → Lacks orders bank number
lacks_gone orders rows key bank number are found gone other order is same_bank same_number =
    let at : key ≡ other = some_same key other (sym found ∙ named_as orders.slots rows other bank number order are is same_bank same_number) in
    let there : is_under orders.slots key bank number ≡ true = ap (λ k. is_under orders.slots k bank number) at ∙ ap (has_order bank number) is
    ∙ and_from (eqb order.bank bank) (eqb order.number number) (eq-eqb order.bank bank same_bank) (eq-eqb order.number number same_number) in
    let it : true ≡ false = sym there ∙ gone in cc

-- the same, as callers see the orders
module _ (slots : List (Option Resting)) (room : List ℕ) (rows : List Row) (orders : Orders) (bank number : ℕ) (seen : record { slots = slots; room = room } ≡ orders) (are : AreNamed slots rows) where
  pub lacks_without_row : (at : ℕ) → at ≡ bank → length rows ≤ at → Lacks orders bank number
  lacks_without_row at at_is past =
      subst (λ (o : Orders). Lacks o bank number) seen (lacks_none (record { slots = slots; room = room }) rows bank number are
      (ap (λ (r : Row). key_in r.entries number) (get_or_past rows bank no_row (omega arith))))

  pub lacks_unnamed : key_of rows bank number ≡ None → Lacks orders bank number
  lacks_unnamed none = subst (λ (o : Orders). Lacks o bank number) seen (lacks_none (record { slots = slots; room = room }) rows bank number are none)

  pub lacks_stale : (key : ℕ) → key_of rows bank number ≡ Some key → is_under slots key bank number ≡ false → Lacks orders bank number
  lacks_stale key found gone = subst (λ (o : Orders). Lacks o bank number) seen (lacks_gone (record { slots = slots; room = room }) rows key bank number are found gone)

-- An order comes, changes or goes.

pub named_reserved : (slots slots' : List (Option Resting)) (rows rows' : List Row) (bank : ℕ) (row row' : Row) → AreNamed slots rows → slots' ≡ slots → Written rows rows' bank row row'
    → ((number key : ℕ) → key_in row.entries number ≡ Some key → is_under slots' key bank number ≡ true → key_in row'.entries number ≡ Some key) → AreNamed slots' rows'
named_reserved slots slots' rows rows' bank row row' are same written live = record {
  named = λ key order is.
      let was : get_or slots key None ≡ Some order = ap (λ (ss : List (Option Resting)). get_or ss key None) (sym same) ∙ is in
      elim (cases_eq order.bank bank) [
        | inl own ↦
            let there : is_under slots' key bank order.number ≡ true = ap (has_order bank order.number) is
            ∙ and_from (eqb order.bank bank) (eqb order.number order.number) (eq-eqb order.bank bank own) (eq-eqb order.number order.number refl) in
            ap (λ b. key_of rows' b order.number) own ∙ ap (λ (r : Row). key_in r.entries order.number) written.is
            ∙ live order.number key (ap (λ (r : Row). key_in r.entries order.number) written.was ∙ named_as slots rows key bank order.number order are was own refl) there
        | inr other ↦ ap (λ (r : Row). key_in r.entries order.number) (written.others order.bank other) ∙ are.named key order was
      ];
  numbered = λ key order is. are.numbered key order (ap (λ (ss : List (Option Resting)). get_or ss key None) (sym same) ∙ is);
}

pub named_added : (slots slots' : List (Option Resting)) (rows rows' : List Row) (orders : Orders) (key : ℕ) (order : Resting) (row row' : Row) → AreNamed slots rows → slots ≡ orders.slots
    → Lacks orders order.bank order.number → get_or slots key None ≡ None → get_or slots' key None ≡ Some order
    → ((other : ℕ) → other ≢ key → get_or slots' other None ≡ get_or slots other None) → Written rows rows' order.bank row row' → row'.entries ≡ with_key order.number key row.entries
    → order.bank < 65 → order.number < 2 ^ 32 → AreNamed slots' rows'
named_added slots slots' rows rows' orders key order row row' are seen lacks vacant here others written with bank number = record {
  named = λ k o is. elim (cases_eq k key) [
    | inl same ↦
        let it : order ≡ o = some_same order o (sym here ∙ ap (λ j. get_or slots' j None) (sym same) ∙ is) in
        let new : key_of rows' order.bank order.number ≡ Some key = ap (λ (r : Row). key_in r.entries order.number) written.is
        ∙ ap (λ (es : List Numbered). key_in es order.number) with ∙ key_in-with_key_same order.number key row.entries in
        subst (λ (r : Resting). key_of rows' r.bank r.number ≡ Some k) it (new ∙ ap Some (sym same))
    | inr differ ↦
        let was : get_or slots k None ≡ Some o = sym (others k differ) ∙ is in
        elim (cases_eq o.bank order.bank) [
          | inl own ↦
              let new : o.number ≢ order.number = lacks k o (ap (λ (ss : List (Option Resting)). get_or ss k None) (sym seen) ∙ was) own in
              ap (λ b. key_of rows' b o.number) own ∙ ap (λ (r : Row). key_in r.entries o.number) written.is
              ∙ ap (λ (es : List Numbered). key_in es o.number) with ∙ key_in-with_key_other order.number key o.number row.entries new
              ∙ ap (λ (r : Row). key_in r.entries o.number) written.was ∙ named_as slots rows k order.bank o.number o are was own refl
          | inr other ↦ ap (λ (r : Row). key_in r.entries o.number) (written.others o.bank other) ∙ are.named k o was
        ]
  ];
  numbered = λ k o is. elim (cases_eq k key) [
    | inl same ↦
        let it : order ≡ o = some_same order o (sym here ∙ ap (λ j. get_or slots' j None) (sym same) ∙ is) in
        subst (λ (r : Resting). (r.bank < 65) × (r.number < 2 ^ 32)) it (bank, number)
    | inr differ ↦ are.numbered k o (sym (others k differ) ∙ is)
  ];
}

pub named_lowered : (slots : List (Option Resting)) (rows : List Row) (key left : ℕ) (order : Resting) → AreNamed slots rows → get_or slots key None ≡ Some order
    → AreNamed (set slots key (Some (record order { left = left }))) rows
named_lowered slots rows key left order are was =
    let new : Resting = record order { left = left } in
    let here : get_or (set slots key (Some new)) key None ≡ Some new = get_or-set_same slots key (Some new) None (within_slots slots key order was) in
    record {
      named = λ k o is. elim (cases_eq k key) [
        | inl same ↦
            let it : new ≡ o = some_same new o (sym here ∙ ap (λ j. get_or (set slots key (Some new)) j None) (sym same) ∙ is) in
            subst (λ (r : Resting). key_of rows r.bank r.number ≡ Some k) it (are.named key order was ∙ ap Some (sym same))
        | inr differ ↦ are.named k o (sym (get_or-set_other slots key k (Some new) None differ) ∙ is)
      ];
      numbered = λ k o is. elim (cases_eq k key) [
        | inl same ↦
            let it : new ≡ o = some_same new o (sym here ∙ ap (λ j. get_or (set slots key (Some new)) j None) (sym same) ∙ is) in
            subst (λ (r : Resting). (r.bank < 65) × (r.number < 2 ^ 32)) it (are.numbered key order was)
        | inr differ ↦ are.numbered k o (sym (get_or-set_other slots key k (Some new) None differ) ∙ is)
      ];
    }

pub named_removed : (slots slots' : List (Option Resting)) (rows : List Row) (key : ℕ) → AreNamed slots rows → get_or slots' key None ≡ None
    → ((other : ℕ) → other ≢ key → get_or slots' other None ≡ get_or slots other None) → AreNamed slots' rows
named_removed slots slots' rows key are gone others =
    let other_key : (k : ℕ) (o : Resting) → get_or slots' k None ≡ Some o → k ≢ key = λ k o is same.
    let it : None ≡ Some o = sym gone ∙ ap (λ j. get_or slots' j None) (sym same) ∙ is in cc in
    record {
      named = λ k o is. are.named k o (sym (others k (other_key k o is)) ∙ is);
      numbered = λ k o is. are.numbered k o (sym (others k (other_key k o is)) ∙ is);
    }
