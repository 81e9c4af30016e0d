-- A book with a command more still stands.
use Rattle.std.proofs.Common.{ℕ, ◌≡◌, ◌≢◌, ◌+◌, ◌*◌, ◌<◌, Bool, true, false, ◌&&◌, eqb, List, [], ◌∷◌, ◌++◌, inl, inr, refl, ap, sym, subst, ◌∙◌, arith, get_or, length, Option, Some, None, length-set, length-append}
use Rattle.std.proofs.Math.ListN.{set, get_or-append}
use Rattle.std.proofs.Math.Seq.{get_or-append_seam}
use Rattle.std.specs.Prelude.{is_some, ◌⊎◌}
use Rattle.std.proofs.lemmas.Bool.{cases_Bool, cases_eq, and_left, and_right, and_from, eqb-true, eq-eqb, ne_eqb, false_from_ne_true, and_parts}
use Rattle.std.proofs.lemmas.List.{get_or-set_same, get_or-set_other}
use Rattle.fx_rules.specs.declared.orders.ActiveOrder.{ActiveOrder}
use Rattle.fx_rules.specs.Session.{Header, sender_places, weight_of}
use Rattle.client_desk.specs.declared.rows.Slot.{Slot}
use Rattle.client_desk.specs.Clients.{when, is_client, reserved_of}
use Rattle.client_desk.specs.Standing.{Sums, Row, Book, no_sums, no_slot, no_row, row_of, left_in, left_of, SlotStands, RowStands, Stands}
use Rattle.client_desk.specs.inside.Changes.{with_sums, reserved_sums, units_of, entered_with}
use Rattle.client_desk.proofs.Lots.{lots_worth, client_worth, order_worth, reserved-worth, left-worth}

-- a place comes in, behind so many of its sender, with so many lots of a pair, which it keeps where it has an owner
pub record ComesIn (h : Header) (own own' : ℕ → ℕ → Option ℕ) (before after : List ActiveOrder) (bank count pair lots : ℕ) (slot : Slot) : Type 0 where
  pub owner : own' bank (count + 1) ≡ slot.owner
  pub others : (b n : ℕ) → (b ≡ bank → n ≡ count + 1 → ⊥) → own' b n ≡ own b n
  pub none : (p : ℕ) → left_of before p bank (count + 1) ≡ 0
  pub reserved_so : (c : ℕ) → reserved_of h own' c before ≡ reserved_of h own c before
  pub unowned : slot.owner ≡ None → slot.left ≡ 0
  pub owned_lots : (c : ℕ) → slot.owner ≡ Some c → slot.left ≡ lots
  pub owned_pair : (c : ℕ) → slot.owner ≡ Some c → (slot.pair ≡ pair) ⊎ (lots ≡ 0)
  pub gains : (g : ℕ → ℕ → ℕ → ℕ) → lots_worth g after ≡ lots_worth g before + lots * g pair bank (count + 1)

module _ (h : Header) (own own' : ℕ → ℕ → Option ℕ) (before after : List ActiveOrder) (bank count pair lots : ℕ) (slot : Slot) (comes : ComesIn h own own' before after bank count pair lots slot) where
  left-more : (p b n : ℕ) → left_of after p b n ≡ left_of before p b n + lots * order_worth p b n pair bank (count + 1)
  left-more p b n =
      let sum : lots_worth (order_worth p b n) after ≡ lots_worth (order_worth p b n) before + lots * order_worth p b n pair bank (count + 1) = comes.gains (order_worth p b n) in
      let one : left_of after p b n ≡ lots_worth (order_worth p b n) after = left-worth after p b n in
      let two : left_of before p b n ≡ lots_worth (order_worth p b n) before = left-worth before p b n in
      omega arith

  left-old : (p b n : ℕ) → (b ≡ bank → n ≡ count + 1 → ⊥) → left_of after p b n ≡ left_of before p b n
  left-old p b n differ =
      let other : (eqb bank b && eqb (count + 1) n) ≡ false = false_from_ne_true (eqb bank b && eqb (count + 1) n)
      (λ is. let both = and_parts (eqb bank b) (eqb (count + 1) n) is in differ (sym (eqb-true bank b both.0)) (sym (eqb-true (count + 1) n both.1))) in
      let none : lots * order_worth p b n pair bank (count + 1) ≡ 0 =
      ap (λ t. lots * when t 1) (and_right (eqb pair p) (eqb bank b && eqb (count + 1) n) other) ∙ omega arith in
      left-more p b n ∙ omega arith

  left-new : (p : ℕ) → left_of after p bank (count + 1) ≡ when (eqb pair p) lots
  left-new p =
      let itself : (eqb bank bank && eqb (count + 1) (count + 1)) ≡ true = and_from (eqb bank bank) (eqb (count + 1) (count + 1)) (eq-eqb bank bank refl) (eq-eqb (count + 1) (count + 1) refl) in
      let sum : left_of after p bank (count + 1) ≡ left_of before p bank (count + 1) + lots * order_worth p bank (count + 1) pair bank (count + 1) = left-more p bank (count + 1) in
      let nothing : left_of before p bank (count + 1) ≡ 0 = comes.none p in
      elim (cases_Bool (eqb pair p)) [
        | inl is ↦
            let all : when (eqb pair p) lots ≡ lots = ap (λ t. when t lots) is in
            let some : lots * order_worth p bank (count + 1) pair bank (count + 1) ≡ lots =
            ap (λ t. lots * when t 1) (and_from (eqb pair p) (eqb bank bank && eqb (count + 1) (count + 1)) is itself) ∙ omega arith in
            omega arith
        | inr other ↦
            let zero' : when (eqb pair p) lots ≡ 0 = ap (λ t. when t lots) other in
            let none : lots * order_worth p bank (count + 1) pair bank (count + 1) ≡ 0 =
            ap (λ t. lots * when t 1) (and_left (eqb pair p) (eqb bank bank && eqb (count + 1) (count + 1)) other) ∙ omega arith in
            omega arith
      ]

  slot-old : (b n : ℕ) (kept : Slot) → (b ≡ bank → n ≡ count + 1 → ⊥) → SlotStands own before b n kept → SlotStands own' after b n kept
  slot-old b n kept differ stands = record {
    owner = stands.owner ∙ sym (comes.others b n differ);
    left = λ p. stands.left p ∙ ap (λ (o : Option ℕ). when (is_some o) (left_of before p b n)) (sym (comes.others b n differ)) ∙ ap (when (is_some (own' b n))) (sym (left-old p b n differ));
  }

  when_zero : (t : Bool) → when t 0 ≡ 0
  when_zero true = refl
  when_zero false = refl

  slot-left : (c p : ℕ) → slot.owner ≡ Some c → left_in slot p ≡ when (eqb pair p) lots
  slot-left c p is =
      elim (comes.owned_pair c is) [
        | inl same ↦ ap (λ q. when (eqb q p) slot.left) same ∙ ap (when (eqb pair p)) (comes.owned_lots c is)
        | inr none ↦ ap (when (eqb slot.pair p)) (comes.owned_lots c is ∙ none) ∙ when_zero (eqb slot.pair p) ∙ sym (ap (when (eqb pair p)) none ∙ when_zero (eqb pair p))
      ]

  owned-left : (owner : Option ℕ) (p : ℕ) → slot.owner ≡ owner → left_in slot p ≡ when (is_some owner) (left_of after p bank (count + 1))
  owned-left None p is = ap (when (eqb slot.pair p)) (comes.unowned is) ∙ when_zero (eqb slot.pair p)
  owned-left (Some c) p is = slot-left c p is ∙ sym (left-new p)

  slot-new : SlotStands own' after bank (count + 1) slot
  slot-new = record {
    owner = sym comes.owner;
    left = λ p. owned-left slot.owner p refl ∙ ap (λ (o : Option ℕ). when (is_some o) (left_of after p bank (count + 1))) (sym comes.owner);
  }

  row-new : (row : Row) → RowStands own before bank count row → RowStands own' after bank (count + 1) (record row { slots = row.slots ++ slot ∷ [] })
  row-new row stands = record {
    count_is = length-append row.slots (slot ∷ []) ∙ omega (arith, stands.count_is);
    each = λ place within.
        elim (cases_eq place count) [
          | inl last ↦
              let at : place ≡ length row.slots = last ∙ sym stands.count_is in
              subst (λ n. SlotStands own' after bank (n + 1) (get_or (row.slots ++ slot ∷ []) place no_slot)) (sym last)
              (subst (SlotStands own' after bank (count + 1)) (sym (ap (λ n. get_or (row.slots ++ slot ∷ []) n no_slot) at ∙ get_or-append_seam row.slots slot [] no_slot)) slot-new)
          | inr other ↦
              subst (SlotStands own' after bank (place + 1)) (sym (get_or-append row.slots (slot ∷ []) no_slot place (omega (arith, stands.count_is))))
              (slot-old bank (place + 1) (get_or row.slots place no_slot) (λ _ same. other (omega arith)) (stands.each place (omega arith)))
        ];
    swept_most = λ pair. omega (arith, stands.swept_most pair);
    swept_none = λ pair place before'.
        ap (λ (s : Slot). left_in s pair) (get_or-append row.slots (slot ∷ []) no_slot place (omega (arith, stands.swept_most pair, stands.count_is))) ∙ stands.swept_none pair place before';
  }

  row-old : (b so : ℕ) (row : Row) → b ≢ bank → RowStands own before b so row → RowStands own' after b so row
  row-old b so row differ stands = record {
    count_is = stands.count_is;
    each = λ place within. slot-old b (place + 1) (get_or row.slots place no_slot) (λ same _. differ same) (stands.each place within);
    swept_most = stands.swept_most;
    swept_none = stands.swept_none;
  }

  reserved-more : (c : ℕ) → reserved_of h own' c after ≡ reserved_of h own c before + lots * when (is_client slot.owner c) (weight_of h pair)
  reserved-more c =
      let sum : lots_worth (client_worth h own' c) after ≡ lots_worth (client_worth h own' c) before + lots * client_worth h own' c pair bank (count + 1) = comes.gains (client_worth h own' c) in
      let mine : lots * client_worth h own' c pair bank (count + 1) ≡ lots * when (is_client slot.owner c) (weight_of h pair) =
      ap (λ (o : Option ℕ). lots * when (is_client o c) (weight_of h pair)) comes.owner in
      let one : reserved_of h own' c after ≡ lots_worth (client_worth h own' c) after = reserved-worth h own' c after in
      let two : reserved_of h own' c before ≡ lots_worth (client_worth h own' c) before = reserved-worth h own' c before in
      let so : reserved_of h own' c before ≡ reserved_of h own c before = comes.reserved_so c in
      omega arith

  owned-units : (c : ℕ) → slot.owner ≡ Some c → slot.left * weight_of h slot.pair ≡ lots * weight_of h pair
  owned-units c is =
      elim (comes.owned_pair c is) [
        | inl same ↦ ap (λ n. n * weight_of h slot.pair) (comes.owned_lots c is) ∙ ap (λ q. lots * weight_of h q) same
        | inr none ↦ ap (λ n. n * weight_of h slot.pair) (comes.owned_lots c is ∙ none) ∙ omega (arith, ap (λ n. n * weight_of h pair) none)
      ]

  sums-more : (accounts : List Sums) (owner : Option ℕ) (filled_so : ℕ → ℕ) (n : ℕ) → slot.owner ≡ owner → length accounts ≡ n → ((c : ℕ) → c < n → (get_or accounts c no_sums).filled ≡ filled_so c) → ((c : ℕ) → c < n → (get_or accounts c no_sums).reserved ≡ reserved_of h own c before) → ((c : ℕ) → c < n → (get_or (with_sums reserved_sums (slot.left * weight_of h slot.pair) accounts owner) c no_sums).filled ≡ filled_so c) × ((c : ℕ) → c < n → (get_or (with_sums reserved_sums (slot.left * weight_of h slot.pair) accounts owner) c no_sums).reserved ≡ reserved_of h own' c after)
  sums-more accounts None filled_so n is full filled reserved = (
    filled,
    λ c within.
        let more : reserved_of h own' c after ≡ reserved_of h own c before + lots * when (is_client slot.owner c) (weight_of h pair) = reserved-more c in
        let none : lots * when (is_client slot.owner c) (weight_of h pair) ≡ 0 = ap (λ (o : Option ℕ). lots * when (is_client o c) (weight_of h pair)) is ∙ omega arith in
        reserved c within ∙ omega arith,
  )
  sums-more accounts (Some who) filled_so n is full filled reserved = (
    λ c within.
        elim (cases_eq c who) [
          | inl same ↦ ap (λ (s : Sums). s.filled) (ap (λ k. get_or (set accounts who (reserved_sums (get_or accounts who no_sums) (slot.left * weight_of h slot.pair))) k no_sums) same ∙ get_or-set_same accounts who (reserved_sums (get_or accounts who no_sums) (slot.left * weight_of h slot.pair)) no_sums (omega arith))
              ∙ ap (λ k. (get_or accounts k no_sums).filled) (sym same) ∙ filled c within
          | inr other ↦ ap (λ (s : Sums). s.filled) (get_or-set_other accounts who c (reserved_sums (get_or accounts who no_sums) (slot.left * weight_of h slot.pair)) no_sums other) ∙ filled c within
        ],
    λ c within.
        let more : reserved_of h own' c after ≡ reserved_of h own c before + lots * when (is_client slot.owner c) (weight_of h pair) = reserved-more c in
        elim (cases_eq c who) [
          | inl same ↦
              let mine : lots * when (is_client slot.owner c) (weight_of h pair) ≡ slot.left * weight_of h slot.pair =
              ap (λ (o : Option ℕ). lots * when (is_client o c) (weight_of h pair)) is ∙ ap (λ t. lots * when t (weight_of h pair)) (eq-eqb who c (sym same)) ∙ sym (owned-units who is) in
              let had : (get_or accounts who no_sums).reserved ≡ reserved_of h own c before = ap (λ k. (get_or accounts k no_sums).reserved) (sym same) ∙ reserved c within in
              ap (λ (s : Sums). s.reserved) (ap (λ k. get_or (set accounts who (reserved_sums (get_or accounts who no_sums) (slot.left * weight_of h slot.pair))) k no_sums) same ∙ get_or-set_same accounts who (reserved_sums (get_or accounts who no_sums) (slot.left * weight_of h slot.pair)) no_sums (omega arith))
              ∙ omega arith
          | inr other ↦
              let none : lots * when (is_client slot.owner c) (weight_of h pair) ≡ 0 =
              ap (λ (o : Option ℕ). lots * when (is_client o c) (weight_of h pair)) is ∙ ap (λ t. lots * when t (weight_of h pair)) (ne_eqb who c (λ same. other (sym same))) ∙ omega arith in
              ap (λ (s : Sums). s.reserved) (get_or-set_other accounts who c (reserved_sums (get_or accounts who no_sums) (slot.left * weight_of h slot.pair)) no_sums other) ∙ reserved c within ∙ omega arith
        ],
  )

  pub enter-stands : (counts : List ℕ) (filled_so : ℕ → ℕ) (book : Book) → Stands h own counts before filled_so book → length counts ≡ sender_places h → get_or counts bank 0 ≡ count → bank < sender_places h → length book.accounts ≡ length book.clients → Stands h own' (set counts bank (count + 1)) after filled_so (entered_with book bank slot)
  enter-stands counts filled_so book stands places count_is sender full =
      let weight : get_or book.weights slot.pair 0 ≡ weight_of h slot.pair = ap (λ (ws : List ℕ). get_or ws slot.pair 0) stands.weights in
      let sums = sums-more book.accounts slot.owner filled_so (length book.clients) refl full stands.filled stands.reserved in
      let same : with_sums reserved_sums (units_of book.weights slot) book.accounts slot.owner ≡ with_sums reserved_sums (slot.left * weight_of h slot.pair) book.accounts slot.owner =
      ap (λ w. with_sums reserved_sums (slot.left * w) book.accounts slot.owner) weight in
      record {
        weights = stands.weights;
        senders = length-set book.rows bank (record (row_of book bank) { slots = (row_of book bank).slots ++ slot ∷ [] }) ∙ stands.senders;
        rows = λ b within.
            elim (cases_eq b bank) [
              | inl here ↦
                  subst (λ n. RowStands own' after n (get_or (set counts bank (count + 1)) n 0) (get_or (set book.rows bank (record (row_of book bank) { slots = (row_of book bank).slots ++ slot ∷ [] })) n no_row)) (sym here)
                  (subst (λ (r : Row). RowStands own' after bank (get_or (set counts bank (count + 1)) bank 0) r) (sym (get_or-set_same book.rows bank (record (row_of book bank) { slots = (row_of book bank).slots ++ slot ∷ [] }) no_row (omega (arith, stands.senders))))
                  (subst (λ n. RowStands own' after bank n (record (row_of book bank) { slots = (row_of book bank).slots ++ slot ∷ [] })) (sym (get_or-set_same counts bank (count + 1) 0 (omega arith)))
                  (row-new (row_of book bank) (subst (λ n. RowStands own before bank n (row_of book bank)) count_is (stands.rows bank sender)))))
              | inr other ↦
                  subst (λ (r : Row). RowStands own' after b (get_or (set counts bank (count + 1)) b 0) r) (sym (get_or-set_other book.rows bank b (record (row_of book bank) { slots = (row_of book bank).slots ++ slot ∷ [] }) no_row other))
                  (subst (λ n. RowStands own' after b n (row_of book b)) (sym (get_or-set_other counts bank b (count + 1) 0 other))
                  (row-old b (get_or counts b 0) (row_of book b) other (stands.rows b within)))
            ];
        filled = λ c within. ap (λ (sums : List Sums). (get_or sums c no_sums).filled) same ∙ sums.0 c within;
        reserved = λ c within. ap (λ (sums : List Sums). (get_or sums c no_sums).reserved) same ∙ sums.1 c within;
      }
