-- The ladders of numbered owners, as one is read or written, and as a bank gets its number.
use Rattle.std.proofs.Common.{ℕ, ◌≡◌, ◌≢◌, ◌<◌, Bool, true, false, cond, is_some, nat_eq, List, [], ◌∷◌, ◌++◌, length, get_or, slice_get, replicate, Option, Some, None, unwrap_or, inl, inr, refl, ap, sym, subst, ◌∙◌, arith, eq-eqb, true≢false, length-append}
use Rattle.std.proofs.Math.ListN.{set, length-set, get_or-append}
use Rattle.std.proofs.Math.Seq.{get_or-append_seam}
use Rattle.std.proofs.lemmas.Bool.{cases_Bool, cases_eq, ne_eqb, or_cases}
use borrow.Author.Tests.{eqb-true}
use Rattle.std.proofs.lemmas.List.{get_or-replicate, length-replicate, get_or-set_same, get_or-set_other, map-append}
use Rattle.std.proofs.lemmas.Map.Entries.{lookup_from_place, length-keys_of}
use Rattle.std.proofs.lemmas.Map.Made.{is_some-lookup}
use Rattle.std.proofs.lemmas.Map.Keys.{IsDistinct-cons}
use Rattle.std.proofs.lemmas.Map.Steps.{length-le_from_distinct_below}
use Rattle.std.proofs.lemmas.Option.{slice_get_within, slice_get-map, slice_get-get_or, get_or_from_slice_get}
use Rattle.std.specs.Cmp.{nat_eq_equiv}
use Rattle.std.specs.Option.{option_map}
use Rattle.std.specs.List.{AllByRecursion, IsDistinct, list_any}
use Rattle.std.specs.Map.{keys_of, values_of, lookup}
use Rattle.indexmap.specs.IndexMap.{IndexMap, with_value_at}
use Rattle.indexmap.proofs.CallerLemmas.{keys-with_value_at, updates-with_value_at}
use Rattle.price_levels.specs.Rungs.{Rungs, holds, level_at}
use Rattle.access_index.specs.Ranked.{bank_holds, bank_level, holds_in, level_in}
use Rattle.access_index.specs.inside.Ranked.{AreNumbered}

abbrev Entries : Type 0
Entries = List (ℕ × Rungs)

-- a bank with this number
entry_from : (entries : Entries) (number bank : ℕ) (rungs : Rungs) → slice_get (keys_of entries) number ≡ Some bank → slice_get (values_of entries) number ≡ Some rungs → slice_get entries number ≡ Some (bank, rungs)
entry_from entries number bank rungs key value =
    let within : number < length entries = omega (arith, slice_get_within (keys_of entries) number bank key, length-keys_of entries) in
    let entry : ℕ × Rungs = get_or entries number (bank, rungs) in
    let is : slice_get entries number ≡ Some entry = slice_get-get_or entries number (bank, rungs) within in
    let first : Some entry.0 ≡ Some bank = sym (slice_get-map (λ (e : ℕ × Rungs). e.0) entries number ∙ ap (option_map (λ (e : ℕ × Rungs). e.0)) is) ∙ key in
    let second : Some entry.1 ≡ Some rungs = sym (slice_get-map (λ (e : ℕ × Rungs). e.1) entries number ∙ ap (option_map (λ (e : ℕ × Rungs). e.1)) is) ∙ value in
    let first' : entry.0 ≡ bank = ap (λ (o : Option ℕ). unwrap_or o bank) first in
    let second' : entry.1 ≡ rungs = ap (λ (o : Option Rungs). unwrap_or o rungs) second in
    is ∙ (λ j. Some (first' j, second' j))

none_is : {X : Type 0} (o : Option X) → is_some o ≡ false → o ≡ None
none_is None fails = refl
none_is (Some x) fails = absurd (true≢false fails)

-- One bank's ladder is another one.
pub record Writes (owners owners' : Entries) (bank : ℕ) (old new : Rungs) : Type 0 where
  pub was : lookup (nat_eq bank) owners ≡ Some old
  pub is : lookup (nat_eq bank) owners' ≡ Some new
  pub others : (other : ℕ) → other ≢ bank → lookup (nat_eq other) owners' ≡ lookup (nat_eq other) owners

-- what the kit's map says of a write
pub of_updates : (owners owners' : Entries) (bank : ℕ) (new : Rungs) → ((other : ℕ) → lookup (nat_eq other) owners' ≡ cond (nat_eq bank other) (Some new) (lookup (nat_eq other) owners))
    → (lookup (nat_eq bank) owners' ≡ Some new) × ((other : ℕ) → other ≢ bank → lookup (nat_eq other) owners' ≡ lookup (nat_eq other) owners)
of_updates owners owners' bank new updates = (
  updates bank ∙ ap (λ (b : Bool). cond b (Some new) (lookup (nat_eq bank) owners)) (eq-eqb bank bank refl),
  λ other differ. updates other ∙ ap (λ (b : Bool). cond b (Some new) (lookup (nat_eq other) owners)) (ne_eqb bank other (λ e. differ (sym e))),
)

-- A bank that has a number.
module _ {S : Type 0} (numbers : List (Option ℕ)) (map : IndexMap ℕ Rungs S) (are : AreNumbered numbers map.entries) (at bank found number : ℕ) (same : at ≡ bank) (small : at < 65)
    (has : get_or numbers at None ≡ Some found) (number_is : number ≡ found) where
  key : slice_get (keys_of map.entries) number ≡ Some bank
  key = ap (slice_get (keys_of map.entries)) number_is ∙ are.named at found small has ∙ ap (λ (k : ℕ). Some k) same

  pub key_within : number < length map.entries
  key_within = omega (arith, slice_get_within (keys_of map.entries) number bank key, length-keys_of map.entries)

  -- its ladder is read
  pub looked_up : (rungs : Rungs) → slice_get (values_of map.entries) number ≡ Some rungs → lookup (nat_eq bank) map.entries ≡ Some rungs
  looked_up rungs value = lookup_from_place nat_eq_equiv map.entries number bank rungs are.apart (entry_from map.entries number bank rungs key value)

  -- and written
  pub writes : (old new : Rungs) → slice_get (values_of map.entries) number ≡ Some old → Writes map.entries (with_value_at map number new).entries bank old new
  writes old new value =
      let told = of_updates map.entries (with_value_at map number new).entries bank new
      (updates-with_value_at map number new nat_eq_equiv are.apart bank old (entry_from map.entries number bank old key value)).0 in
      record { was = looked_up old value; is = told.0; others = told.1 }

-- what is read there
module _ (owners now : Entries) (bank rank : ℕ) (old : Rungs) (seen : owners ≡ now) (had : lookup (nat_eq bank) owners ≡ Some old) where
  pub holds_here : holds old rank ≡ bank_holds now bank rank
  holds_here = ap (λ (o : Option Rungs). holds_in o rank) (sym had) ∙ ap (λ (os : Entries). bank_holds os bank rank) seen

  pub level_here : level_at old rank ≡ bank_level now bank rank
  level_here = ap (λ (o : Option Rungs). level_in o rank) (sym had) ∙ ap (λ (os : Entries). bank_level os bank rank) seen

pub numbered_written : {S : Type 0} (numbers : List (Option ℕ)) (map : IndexMap ℕ Rungs S) (number : ℕ) (new : Rungs) → AreNumbered numbers map.entries → AreNumbered numbers (with_value_at map number new).entries
numbered_written numbers map number new are =
    let keys_same : keys_of (with_value_at map number new).entries ≡ keys_of map.entries = keys-with_value_at map number new in
    record {
      size = are.size;
      named = λ bank other small has. subst (λ (ks : List ℕ). slice_get ks other ≡ Some bank) (sym keys_same) (are.named bank other small has);
      unnamed = λ bank small none. none_is (lookup (nat_eq bank) (with_value_at map number new).entries)
          (is_some-lookup (nat_eq bank) (with_value_at map number new).entries ∙ ap (list_any (nat_eq bank)) keys_same ∙ sym (is_some-lookup (nat_eq bank) map.entries) ∙ ap is_some (are.unnamed bank small none));
      apart = subst (IsDistinct nat_eq) (sym keys_same) are.apart;
      below = λ bank there. are.below bank (sym (ap (list_any (nat_eq bank)) keys_same) ∙ there);
    }

-- a bank without a number has no ladder
pub none_looked_up : (numbers : List (Option ℕ)) (owners : Entries) (at bank : ℕ) → AreNumbered numbers owners → at ≡ bank → at < 65 → get_or numbers at None ≡ None → lookup (nat_eq bank) owners ≡ None
none_looked_up numbers owners at bank are same small none = ap (λ (k : ℕ). lookup (nat_eq k) owners) (sym same) ∙ are.unnamed at small none

has_number : (numbers : List (Option ℕ)) (owners : Entries) (at bank : ℕ) → AreNumbered numbers owners → at ≡ bank → at < 65 → (lookup (nat_eq bank) owners ≢ None) → is_some (get_or numbers at None) ≡ true
has_number numbers owners at bank are same small some = by (get_or numbers at None) refl
  where
    by : (o : Option ℕ) → get_or numbers at None ≡ o → is_some o ≡ true
    by None none = absurd (some (none_looked_up numbers owners at bank are same small none))
    by (Some number) found = refl

-- one where an order can rest has a number
pub held_number : (numbers : List (Option ℕ)) (owners now : Entries) (at bank rank : ℕ) → owners ≡ now → AreNumbered numbers owners → at ≡ bank → at < 65 → bank_holds now bank rank ≡ true → is_some (get_or numbers at None) ≡ true
held_number numbers owners now at bank rank seen are same small there =
    has_number numbers owners at bank are same small
    (λ none. true≢false (sym there ∙ ap (λ (os : Entries). bank_holds os bank rank) (sym seen) ∙ ap (λ (o : Option Rungs). holds_in o rank) none))

-- and so has one with lots
pub owned_number : (numbers : List (Option ℕ)) (owners now : Entries) (at bank rank : ℕ) → owners ≡ now → AreNumbered numbers owners → at ≡ bank → at < 65 → 0 < (bank_level now bank rank).lots → is_some (get_or numbers at None) ≡ true
owned_number numbers owners now at bank rank seen are same small some =
    has_number numbers owners at bank are same small
    (λ none. omega (arith, some, ap (λ (os : Entries). (bank_level os bank rank).lots) (sym seen), ap (λ (o : Option Rungs). (level_in o rank).lots) none))

-- A bank gets the next number.
absent : (bank : ℕ) (entries : Entries) → lookup (nat_eq bank) entries ≡ None → AllByRecursion (λ other. nat_eq bank other ≡ false) (keys_of entries)
absent bank [] none = tt
absent bank (entry ∷ entries) none =
    elim (cases_Bool (nat_eq bank entry.0)) [
      | inl same ↦ absurd (true≢false (ap is_some (sym (ap (λ (b : Bool). cond b (Some entry.1) (lookup (nat_eq bank) entries)) same) ∙ none)))
      | inr differ ↦ (differ, absent bank entries (sym (ap (λ (b : Bool). cond b (Some entry.1) (lookup (nat_eq bank) entries)) differ) ∙ none))
    ]

-- fewer banks than there can be have a number, where one has none
pub fewer : (numbers : List (Option ℕ)) (entries : Entries) (bank : ℕ) → AreNumbered numbers entries → bank < 65 → get_or numbers bank None ≡ None → length entries < 65
fewer numbers entries bank are within none =
    let few = length-le_from_distinct_below (bank ∷ keys_of entries) 65 (IsDistinct-cons nat_eq bank (keys_of entries) (absent bank entries (are.unnamed bank within none)) are.apart)
    (λ other there. elim (or_cases (nat_eq other bank) (list_any (nat_eq other) (keys_of entries)) there) [
      | inl same ↦ omega (arith, eqb-true other bank same, within)
      | inr later ↦ are.below other later
    ]) in
    omega (arith, few, length-keys_of entries)

keys_with : (entries : Entries) (bank : ℕ) (rungs : Rungs) → keys_of (entries ++ (bank, rungs) ∷ []) ≡ keys_of entries ++ bank ∷ []
keys_with entries bank rungs = map-append (λ (e : ℕ × Rungs). e.0) entries ((bank, rungs) ∷ [])

last_key : (entries : Entries) (bank : ℕ) (rungs : Rungs) → slice_get (keys_of (entries ++ (bank, rungs) ∷ [])) (length entries) ≡ Some bank
last_key entries bank rungs =
    let count = length-keys_of entries in
    ap (λ (ks : List ℕ). slice_get ks (length entries)) (keys_with entries bank rungs)
    ∙ ap (slice_get (keys_of entries ++ bank ∷ [])) (sym count)
    ∙ slice_get-get_or (keys_of entries ++ bank ∷ []) (length (keys_of entries)) bank (omega (arith, length-append (keys_of entries) (bank ∷ [])))
    ∙ ap Some (get_or-append_seam (keys_of entries) bank [] bank)

kept_key : (entries : Entries) (bank : ℕ) (rungs : Rungs) (number other : ℕ) → slice_get (keys_of entries) number ≡ Some other → slice_get (keys_of (entries ++ (bank, rungs) ∷ [])) number ≡ Some other
kept_key entries bank rungs number other at =
    let within = slice_get_within (keys_of entries) number other at in
    ap (λ (ks : List ℕ). slice_get ks number) (keys_with entries bank rungs)
    ∙ slice_get-get_or (keys_of entries ++ bank ∷ []) number bank (omega (arith, within, length-append (keys_of entries) (bank ∷ [])))
    ∙ ap Some (get_or-append (keys_of entries) (bank ∷ []) bank number within ∙ get_or_from_slice_get (keys_of entries) number other bank at)

module _ (numbers : List (Option ℕ)) (entries entries' : Entries) (bank : ℕ) (rungs : Rungs) (are : AreNumbered numbers entries) (within : bank < 65) (none : get_or numbers bank None ≡ None)
    (updates : (other : ℕ) → lookup (nat_eq other) entries' ≡ cond (nat_eq bank other) (Some rungs) (lookup (nat_eq other) entries)) where
  pub numbered_added : (at number : ℕ) → at ≡ bank → number ≡ length entries → entries' ≡ entries ++ (bank, rungs) ∷ [] → IsDistinct nat_eq (keys_of entries') → AreNumbered (set numbers at (Some number)) entries'
  numbered_added at number at_is number_is entries_are apart =
      let here : bank < length numbers = omega (arith, within, are.size) in
      let numbers' : List (Option ℕ) = set numbers bank (Some (length entries)) in
      let there : get_or numbers' bank None ≡ Some (length entries) = get_or-set_same numbers bank (Some (length entries)) None here in
      let last : slice_get (keys_of entries') (length entries) ≡ Some bank = ap (λ (es : Entries). slice_get (keys_of es) (length entries)) entries_are ∙ last_key entries bank rungs in
      let told = of_updates entries entries' bank rungs updates in
      let numbered : AreNumbered numbers' entries' = record {
        size = length-set numbers bank (Some (length entries)) ∙ are.size;
        named = λ other k small has. elim (cases_eq other bank) [
          | inl same ↦
              let k_is : length entries ≡ k = ap (λ (o : Option ℕ). unwrap_or o 0) (sym there ∙ ap (λ (b : ℕ). get_or numbers' b None) (sym same) ∙ has) in
              ap (slice_get (keys_of entries')) (sym k_is) ∙ last ∙ ap Some (sym same)
          | inr differ ↦
              ap (λ (es : Entries). slice_get (keys_of es) k) entries_are
              ∙ kept_key entries bank rungs k other (are.named other k small (sym (get_or-set_other numbers bank other (Some (length entries)) None differ) ∙ has))
        ];
        unnamed = λ other small lacks. elim (cases_eq other bank) [
          | inl same ↦ absurd (true≢false (ap is_some (sym there ∙ ap (λ (b : ℕ). get_or numbers' b None) (sym same) ∙ lacks)))
          | inr differ ↦ told.1 other differ ∙ are.unnamed other small (sym (get_or-set_other numbers bank other (Some (length entries)) None differ) ∙ lacks)
        ];
        apart = apart;
        below = λ other there'. elim (cases_eq other bank) [
          | inl same ↦ omega (arith, within, same)
          | inr differ ↦ are.below other (sym (is_some-lookup (nat_eq other) entries) ∙ sym (ap is_some (told.1 other differ)) ∙ is_some-lookup (nat_eq other) entries' ∙ there')
        ];
      } in
      subst (λ (k : ℕ). AreNumbered (set numbers k (Some number)) entries') (sym at_is)
      (subst (λ (n : ℕ). AreNumbered (set numbers bank (Some n)) entries') (sym number_is) numbered)

-- no owner has come
pub numbered_none : (numbers : List (Option ℕ)) (entries : Entries) → numbers ≡ replicate 65 None → entries ≡ [] → IsDistinct nat_eq (keys_of entries) → AreNumbered numbers entries
numbered_none numbers entries numbers_are none apart =
    let lacks : (bank : ℕ) → bank < 65 → get_or numbers bank None ≡ None = λ bank small. ap (λ (ns : List (Option ℕ)). get_or ns bank None) numbers_are ∙ get_or-replicate 65 bank None None small in
    record {
      size = ap (λ (ns : List (Option ℕ)). length ns) numbers_are ∙ length-replicate {A = Option ℕ} 65 None;
      named = λ bank number small has. absurd (true≢false (ap is_some (sym has ∙ lacks bank small)));
      unnamed = λ bank small has. ap (lookup (nat_eq bank)) none;
      apart = apart;
      below = λ bank there. absurd (true≢false (sym there ∙ ap (λ (es : Entries). list_any (nat_eq bank) (keys_of es)) none));
    }
