-- The rows of the banks after one was written, and the room that they leave.
use Rattle.std.proofs.Common.{ℕ, ◌≡◌, ◌≢◌, ◌+◌, ◌≤◌, ◌<◌, min, Result, Ok, Err, List, Option, Some, None, length, get_or, map, inl, inr, ap, sym, subst, ◌∙◌, arith}
use Rattle.std.proofs.Math.ListN.{set, length-set}
use Rattle.std.proofs.lemmas.Bool.{cases_eq, cases_lt}
use Rattle.std.proofs.lemmas.List.{get_or-map, get_or-set_same, get_or-set_other, get_or_default, get_or_past, length-map}
use Rattle.std.specs.Result.{OnOk}
use Rattle.fx_rules.specs.declared.orders.Resting.{Resting}
use Rattle.order_store.specs.Orders.{Orders, room_for, KeepsRoom, TakesRoom}
use Rattle.order_store.specs.inside.Rows.{Row, no_row, row_at, room_with}

-- the row of one bank is written
pub record Written (old new : List Row) (bank : ℕ) (row row' : Row) : Type 0 where
  pub count : length new ≡ length old
  pub was : row ≡ row_at old bank
  pub is : row_at new bank ≡ row'
  pub others : (other : ℕ) → other ≢ bank → row_at new other ≡ row_at old other

pub written-at : (rows : List Row) (at bank : ℕ) (row row' : Row) → at ≡ bank → at < length rows → row ≡ get_or rows at row → Written rows (set rows at row') bank row row'
written-at rows at bank row row' at_is within read =
    subst (λ (b : ℕ). Written rows (set rows at row') b row row') at_is (record {
      count = length-set rows at row';
      was = read ∙ get_or_default rows at row no_row within;
      is = get_or-set_same rows at row' no_row within;
      others = λ other differ. get_or-set_other rows at other row' no_row differ;
    })

-- the row of a bank is read
pub read_row : (rows read : List Row) (at bank : ℕ) (row : Row) → read ≡ rows → at ≡ bank → at < length read → row ≡ get_or read at row → row ≡ row_at rows bank
read_row rows read at bank row seen at_is within is =
    is ∙ get_or_default read at row no_row within ∙ ap (λ (rs : List Row). get_or rs at no_row) seen ∙ ap (row_at rows) at_is

-- The room of a bank is that of the places and of its row.

least_zero : (p : ℕ) → min p 0 ≡ 0
least_zero p = omega arith

least_most : (p p' r r' most : ℕ) → p ≤ p' + most → r ≤ r' + most → min p r ≤ min p' r' + most
least_most p p' r r' most places row = omega arith

least_one : (p r : ℕ) → 1 ≤ min p r → (1 ≤ p) × (1 ≤ r)
least_one p r one = (omega arith, omega arith)

one_least : (p r : ℕ) → 1 ≤ p → 1 ≤ r → 1 ≤ min p r
one_least p r places row = omega arith

room_at : (places : ℕ) (rows : List Row) (bank : ℕ) → get_or (map (room_with places) rows) bank 0 ≡ min places (row_at rows bank).room
room_at places rows bank =
    elim (cases_lt bank (length rows)) [
      | inl within ↦ get_or-map (room_with places) rows bank no_row 0 within
      | inr past ↦ get_or_past (map (room_with places) rows) bank 0 (subst (λ n. n ≤ bank) (sym (length-map rows (room_with places))) past)
          ∙ sym (ap (λ (r : Row). min places r.room) (get_or_past rows bank no_row past) ∙ least_zero places)
    ]

-- what callers see of it
pub seen_room : (places : ℕ) (rows : List Row) (seen : Orders) → map (room_with places) rows ≡ seen.room → (bank : ℕ) → room_for seen bank ≡ min places (row_at rows bank).room
seen_room places rows seen is bank = ap (λ (r : List ℕ). get_or r bank 0) (sym is) ∙ room_at places rows bank

pub seen_banks : (places : ℕ) (rows : List Row) (seen : Orders) → map (room_with places) rows ≡ seen.room → length rows ≡ length seen.room
seen_banks places rows seen is = sym (length-map rows (room_with places)) ∙ ap length is

-- room for an order of a bank is room among the places and in its row
pub record HasPlaces (places : ℕ) (rows : List Row) (bank : ℕ) : Type 0 where
  pub in_places : 1 ≤ places
  pub in_row : 1 ≤ (row_at rows bank).room
  pub within : bank < length rows

pub has_places : (places : ℕ) (rows : List Row) (seen : Orders) (bank : ℕ) → map (room_with places) rows ≡ seen.room → 1 ≤ room_for seen bank → HasPlaces places rows bank
has_places places rows seen bank is has =
    let both = least_one places (row_at rows bank).room (subst (λ n. 1 ≤ n) (seen_room places rows seen is bank) has) in
    record {
      in_places = both.0;
      in_row = both.1;
      within = elim (cases_lt bank (length rows)) [
        | inl below ↦ below
        | inr past ↦ absurd (omega (arith, both.1, ap (λ (r : Row). r.room) (get_or_past rows bank no_row past)))
      ];
    }

pub gives_room : (places : ℕ) (rows : List Row) (bank : ℕ) → 1 ≤ places → 1 ≤ (row_at rows bank).room → 1 ≤ get_or (map (room_with places) rows) bank 0
gives_room places rows bank some row =
    subst (λ n. 1 ≤ n) (sym (room_at places rows bank)) (one_least places (row_at rows bank).room some row)

-- rooms of which each loses at most so many places
module _ (places places' : ℕ) (rows rows' : List Row) (old new : Orders) (was : map (room_with places) rows ≡ old.room) (is : map (room_with places') rows' ≡ new.room) where
  room_most : (most : ℕ) → places ≤ places' + most → ((bank : ℕ) → (row_at rows bank).room ≤ (row_at rows' bank).room + most)
      → (bank : ℕ) → room_for old bank ≤ room_for new bank + most
  room_most most upto row bank =
      subst (λ n. n ≤ room_for new bank + most) (sym (seen_room places rows old was bank))
      (subst (λ n. min places (row_at rows bank).room ≤ n + most) (sym (seen_room places' rows' new is bank))
      (least_most places places' (row_at rows bank).room (row_at rows' bank).room most upto (row bank)))

  as_many : length rows' ≡ length rows → length new.room ≡ length old.room
  as_many count = sym (seen_banks places' rows' new is) ∙ count ∙ seen_banks places rows old was

  pub keeps_room : length rows' ≡ length rows → places ≤ places' → ((bank : ℕ) → (row_at rows bank).room ≤ (row_at rows' bank).room) → KeepsRoom old new
  keeps_room count upto row = record {
    banks = as_many count;
    room = λ bank. let it = room_most 0 (omega arith) (λ b. omega (arith, row b)) bank in omega arith;
  }

  pub takes_room : length rows' ≡ length rows → places ≤ places' + 1 → ((bank : ℕ) → (row_at rows bank).room ≤ (row_at rows' bank).room + 1) → TakesRoom old new
  takes_room count upto row = record { banks = as_many count; room = room_most 1 upto row }

-- where one row lost at most so many places
pub written_most : (most : ℕ) (rows rows' : List Row) (bank : ℕ) (row row' : Row) → Written rows rows' bank row row' → row.room ≤ row'.room + most
    → (other : ℕ) → (row_at rows other).room ≤ (row_at rows' other).room + most
written_most most rows rows' bank row row' written upto other =
    elim (cases_eq other bank) [
      | inl same ↦
          subst (λ (b : ℕ). (row_at rows b).room ≤ (row_at rows' b).room + most) (sym same)
          (omega (arith, upto, ap (λ (r : Row). r.room) written.was, ap (λ (r : Row). r.room) written.is))
      | inr differ ↦ omega (arith, ap (λ (r : Row). r.room) (written.others other differ))
    ]

-- an order stands at a place that there is
pub within_slots : (slots : List (Option Resting)) (key : ℕ) (order : Resting) → get_or slots key None ≡ Some order → key < length slots
within_slots slots key order is =
    elim (cases_lt key (length slots)) [
      | inl below ↦ below
      | inr past ↦ let it : None ≡ Some order = sym (get_or_past slots key None past) ∙ is in cc
    ]

pub on_ok_then : {T E : Type 0} (P Q : Type 0) (r : Result T E) → (P → Q) → OnOk r P → OnOk r Q
on_ok_then P Q (Ok x) then' holds = then' holds
on_ok_then P Q (Err e) then' holds = tt
