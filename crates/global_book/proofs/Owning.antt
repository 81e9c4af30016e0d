-- The list of the banks that have an order.
use Rattle.std.proofs.Common.{ℕ, zero, suc, ◌≡◌, ◌≢◌, ◌≤◌, ◌<◌, ◌+◌, ◌-◌, ◌++◌, true, false, Bool, not, ltb, eqb, if◌then◌else◌, List, [], ◌∷◌, ◌⊎◌, length, get_or, inl, inr, refl, ap, sym, subst, ◌∙◌, arith, add-one}
use Rattle.std.proofs.lemmas.Bool.{cases_Bool, both_ways, eq-eqb, eqb-true, lt-ltb, ltb-false, ltb-true, ne_eqb, not-true, not_from_false}
use Rattle.std.specs.List.{Contains, filter, insert}
use Rattle.std.specs.List.Sorted.{IsPartitionedBy, IsPartitionPoint, IsStrictlyIncreasing}
use Rattle.fx_rules.specs.Lists.{Among, Each}
use Rattle.fx_rules.specs.declared.orders.Resting.{Resting}
use Rattle.fx_rules.proofs.ListLemmas.{Among-filter, Each-among, Each-of, EachPair-filter, among_filter}
use Rattle.global_book.specs.Book.{AreOwners, Book, IsBook, IsHeld, Owns}
use Rattle.global_book.specs.inside.Owning.{AreOwnersOf, AreRising, with_bank}

among-append : {X : Type 0} (xs ys : List X) (x : X) → Among x ys → Among x (xs ++ ys)
among-append [] ys x there = there
among-append (y ∷ xs) ys x there = inr (among-append xs ys x there)

among-first : {X : Type 0} (xs ys : List X) (x : X) → Among x xs → Among x (xs ++ ys)
among-first [] ys x there = absurd there
among-first (y ∷ xs) ys x there =
    elim there [
      | inl same ↦ inl same
      | inr later ↦ inr (among-first xs ys x later)
    ]

among-either : {X : Type 0} (xs ys : List X) (x : X) → Among x (xs ++ ys) → Among x xs ⊎ Among x ys
among-either [] ys x there = inr there
among-either (y ∷ xs) ys x there =
    elim there [
      | inl same ↦ inl (inl same)
      | inr later ↦ elim (among-either xs ys x later) [
        | inl left ↦ inl (inr left)
        | inr right ↦ inr right
      ]
    ]

-- ---- numbers that rise

-- an item of a list is in it, and the other way round
contains : (xs : List ℕ) (x : ℕ) → Among x xs → Contains xs x
contains [] x there = absurd there
contains (y ∷ xs) x there =
    elim there [
      | inl same ↦ (0, omega arith, sym same)
      | inr later ↦ let at = contains xs x later in (suc at.0, omega (arith, at.1), at.2)
    ]

among-at : (xs : List ℕ) (k d : ℕ) → k < length xs → Among (get_or xs k d) xs
among-at [] k d within = absurd (omega arith)
among-at (y ∷ xs) zero d within = inl refl
among-at (y ∷ xs) (suc k) d within = inr (among-at xs k d (omega arith))

increasing : (xs : List ℕ) → AreRising xs → IsStrictlyIncreasing xs
increasing [] rising k within = absurd (omega arith)
increasing (x ∷ xs) rising zero within = Each-among (λ y. x < y) xs (get_or xs 0 0) rising.0 (among-at xs 0 0 (omega arith))
increasing (x ∷ xs) rising (suc k) within =
    let next : get_or (x ∷ xs) (suc k + 1) 0 ≡ get_or xs (k + 1) 0 = ap (λ j. get_or (x ∷ xs) j 0) (add-one (suc k)) ∙ ap (λ j. get_or xs j 0) (sym (add-one k)) in
    omega (arith, increasing xs rising.1 k (omega arith), next)

pub parted : (bank : ℕ) (xs : List ℕ) → AreRising xs → IsPartitionedBy (λ other. ltb other bank) xs
parted bank [] rising i j d upto within passes = absurd (omega arith)
parted bank (x ∷ xs) rising zero zero d upto within passes = passes
parted bank (x ∷ xs) rising zero (suc j) d upto within passes =
    lt-ltb x bank (omega (arith, Each-among (λ y. x < y) xs (get_or xs j d) rising.0 (among-at xs j d (omega arith)), ltb-true (get_or xs j d) bank passes))
parted bank (x ∷ xs) rising (suc i) zero d upto within passes = absurd (omega arith)
parted bank (x ∷ xs) rising (suc i) (suc j) d upto within passes = parted bank xs rising.1 i j d (omega arith) (omega arith) passes

-- there are no more of them than numbers in a range
few-rising : (xs : List ℕ) (least most : ℕ) → AreRising xs → Each (λ x. least ≤ x) xs → Each (λ x. x < most) xs → length xs ≤ most - least
few-rising [] least most rising low high = omega arith
few-rising (x ∷ xs) least most rising low high =
    let rest = few-rising xs (suc x) most rising.1 (Each-of (λ y. suc x ≤ y) xs (λ y there. let later = Each-among (λ z. x < z) xs y rising.0 there in omega (arith, later))) high.1 in
    omega (arith, rest, low.0, high.0)

-- ---- a bank among others

with-before : (bank other : ℕ) (banks : List ℕ) → ltb other bank ≡ true → with_bank bank (other ∷ banks) ≡ other ∷ with_bank bank banks
with-before bank other banks before = ap (λ (b : Bool). if b then other ∷ with_bank bank banks else bank ∷ other ∷ banks) before

with-here : (bank other : ℕ) (banks : List ℕ) → ltb other bank ≡ false → with_bank bank (other ∷ banks) ≡ bank ∷ other ∷ banks
with-here bank other banks behind = ap (λ (b : Bool). if b then other ∷ with_bank bank banks else bank ∷ other ∷ banks) behind

-- it stands at the point where the list is parted
pub inserts_bank : (bank : ℕ) (banks : List ℕ) (at : ℕ) → at ≤ length banks → IsPartitionPoint (λ other. ltb other bank ≡ true) (λ other. ltb other bank ≡ false) banks at → insert banks at bank ≡ with_bank bank banks
inserts_bank bank [] zero upto point = refl
inserts_bank bank [] (suc at) upto point = absurd (omega arith)
inserts_bank bank (other ∷ banks) zero upto point = sym (with-here bank other banks (point.1 0 0 (omega arith) (omega arith)))
inserts_bank bank (other ∷ banks) (suc at) upto point =
    ap (λ (xs : List ℕ). other ∷ xs) (inserts_bank bank banks at (omega arith)
    (λ k d low high. point.0 (suc k) d (omega arith) (omega arith), λ k d low high. point.1 (suc k) d (omega arith) (omega arith)))
    ∙ sym (with-before bank other banks (point.0 0 0 (omega arith) (omega arith)))

with-says : (bank : ℕ) (banks : List ℕ) (x : ℕ) → Among x (with_bank bank banks) → (x ≡ bank) ⊎ Among x banks
with-says bank [] x (inl same) = inl same
with-says bank [] x (inr there) = absurd there
with-says bank (other ∷ banks) x there =
    elim (cases_Bool (ltb other bank)) [
      | inl before ↦
          let it : Among x (other ∷ with_bank bank banks) = subst (Among x) (with-before bank other banks before) there in
          elim it [
            | inl same ↦ inr (inl same)
            | inr later ↦ elim (with-says bank banks x later) [
              | inl same ↦ inl same
              | inr rest ↦ inr (inr rest)
            ]
          ]
      | inr behind ↦
          let it : Among x (bank ∷ other ∷ banks) = subst (Among x) (with-here bank other banks behind) there in
          it
    ]

with-itself : (bank : ℕ) (banks : List ℕ) → Among bank (with_bank bank banks)
with-itself bank [] = inl refl
with-itself bank (other ∷ banks) =
    elim (cases_Bool (ltb other bank)) [
      | inl before ↦ subst (Among bank) (sym (with-before bank other banks before)) (inr (with-itself bank banks))
      | inr behind ↦ subst (Among bank) (sym (with-here bank other banks behind)) (inl refl)
    ]

with-others : (bank : ℕ) (banks : List ℕ) (x : ℕ) → Among x banks → Among x (with_bank bank banks)
with-others bank [] x there = absurd there
with-others bank (other ∷ banks) x there =
    elim (cases_Bool (ltb other bank)) [
      | inl before ↦ subst (Among x) (sym (with-before bank other banks before)) (elim there [
        | inl same ↦ inl same
        | inr later ↦ inr (with-others bank banks x later)
      ])
      | inr behind ↦ subst (Among x) (sym (with-here bank other banks behind)) (inr there)
    ]

with-rises : (bank : ℕ) (banks : List ℕ) → AreRising banks → (Among bank banks → ⊥) → AreRising (with_bank bank banks)
with-rises bank [] rising absent = (tt, tt)
with-rises bank (other ∷ banks) rising absent =
    elim (cases_Bool (ltb other bank)) [
      | inl before ↦ subst AreRising (sym (with-before bank other banks before)) (
        Each-of (λ y. other < y) (with_bank bank banks) (λ y there. elim (with-says bank banks y there) [
          | inl same ↦ subst (λ n. other < n) (sym same) (ltb-true other bank before)
          | inr rest ↦ Each-among (λ z. other < z) banks y rising.0 rest
        ]),
        with-rises bank banks rising.1 (λ there. absent (inr there)),
      )
      | inr behind ↦
          let apart : bank ≢ other = λ same. absent (inl same) in
          let less : bank < other = omega (arith, ltb-false other bank behind, apart) in
          subst AreRising (sym (with-here bank other banks behind)) ((less, Each-of (λ y. bank < y) banks (λ y there. let later = Each-among (λ z. other < z) banks y rising.0 there in omega (arith, later, less))), rising)
    ]

length-with : (bank : ℕ) (banks : List ℕ) → length (with_bank bank banks) ≡ length banks + 1
length-with bank [] = omega arith
length-with bank (other ∷ banks) =
    elim (cases_Bool (ltb other bank)) [
      | inl before ↦ omega (arith, length-with bank banks, ap (λ (xs : List ℕ). length xs) (with-before bank other banks before))
      | inr behind ↦ omega (arith, ap (λ (xs : List ℕ). length xs) (with-here bank other banks behind))
    ]

-- there is room among so many banks for one that is not listed
pub room-for : (bank most : ℕ) (banks : List ℕ) → AreRising banks → Each (λ x. x < most) banks → bank < most → (Among bank banks → ⊥) → length banks < most
room-for bank most banks rising low within absent =
    let few = few-rising (with_bank bank banks) 0 most (with-rises bank banks rising absent) (Each-of (λ x. 0 ≤ x) (with_bank bank banks) (λ x there. omega arith))
    (Each-of (λ x. x < most) (with_bank bank banks) (λ x there. elim (with-says bank banks x there) [
      | inl same ↦ subst (λ n. n < most) (sym same) within
      | inr rest ↦ Each-among (λ y. y < most) banks x low rest
    ])) in
    omega (arith, few, length-with bank banks)

-- ---- the banks that have one of some orders

pub owners-none : AreOwnersOf [] []
owners-none = record { rising = tt; all = λ order there. absurd there; owns = λ bank there. absurd there }

-- orders of the same banks
pub owners-alike : (xs ys : List Resting) (owners : List ℕ) → ((bank : ℕ) → Owns bank xs → Owns bank ys) → ((bank : ℕ) → Owns bank ys → Owns bank xs) → AreOwnersOf xs owners → AreOwnersOf ys owners
owners-alike xs ys owners on back are = record {
  rising = are.rising;
  all = λ order there. let it = back order.bank (order, there, refl) in subst (λ b. Among b owners) it.2 (are.all it.0 it.1);
  owns = λ bank there. on bank (are.owns bank there);
}

-- an order comes
pub owners-put : (orders : List Resting) (order : Resting) (owners : List ℕ) (had : Bool) → (had ≡ true → Owns order.bank orders) → (had ≡ false → Owns order.bank orders → ⊥) → AreOwnersOf orders owners
    → AreOwnersOf (orders ++ order ∷ []) (if had then owners else with_bank order.bank owners)
owners-put orders order owners true yes' no' are = record {
  rising = are.rising;
  all = λ one there. elim (among-either orders (order ∷ []) one there) [
    | inl old ↦ are.all one old
    | inr new ↦ elim new [
      | inl same ↦ let it = yes' refl in subst (λ b. Among b owners) (it.2 ∙ sym (ap (λ (o : Resting). o.bank) same)) (are.all it.0 it.1)
      | inr none ↦ absurd none
    ]
  ];
  owns = λ bank there. let it = are.owns bank there in (it.0, among-first orders (order ∷ []) it.0 it.1, it.2);
}
owners-put orders order owners false yes' no' are = record {
  rising = with-rises order.bank owners are.rising (λ there. no' refl (are.owns order.bank there));
  all = λ one there. elim (among-either orders (order ∷ []) one there) [
    | inl old ↦ with-others order.bank owners one.bank (are.all one old)
    | inr new ↦ elim new [
      | inl same ↦ subst (λ (o : Resting). Among o.bank (with_bank order.bank owners)) (sym same) (with-itself order.bank owners)
      | inr none ↦ absurd none
    ]
  ];
  owns = λ bank there. elim (with-says order.bank owners bank there) [
    | inl same ↦ (order, among-append orders (order ∷ []) order (inl refl), sym same)
    | inr old ↦ let it = are.owns bank old in (it.0, among-first orders (order ∷ []) it.0 it.1, it.2)
  ];
}

-- an order of a bank goes, so that all other banks have what they had
pub owners-left : (xs ys : List Resting) (bank : ℕ) (owners : List ℕ) (has : Bool) → (has ≡ true → Owns bank ys) → (has ≡ false → Owns bank ys → ⊥) → ((other : ℕ) → Owns other ys → Owns other xs)
    → ((other : ℕ) → other ≢ bank → Owns other xs → Owns other ys) → AreOwnersOf xs owners → AreOwnersOf ys (if has then owners else filter (λ other. not (eqb other bank)) owners)
owners-left xs ys bank owners true yes' no' back on are = owners-alike xs ys owners (λ other it. elim (cases_Bool (eqb other bank)) [
  | inl same ↦ subst (λ b. Owns b ys) (sym (eqb-true other bank same)) (yes' refl)
  | inr differ ↦ on other (λ same. both_ways (eqb other bank) differ (eq-eqb other bank same)) it
]) back are
owners-left xs ys bank owners false yes' no' back on are = record {
  rising = EachPair-filter (λ one other. one < other) (λ other. not (eqb other bank)) owners are.rising;
  all = λ order there.
      let it = back order.bank (order, there, refl) in
      among_filter (λ other. not (eqb other bank)) owners order.bank (subst (λ b. Among b owners) it.2 (are.all it.0 it.1))
      (not_from_false (eqb order.bank bank) (ne_eqb order.bank bank (λ same. no' refl (order, there, same))));
  owns = λ other there.
      let it = Among-filter (λ one. not (eqb one bank)) owners other there in
      on other (λ same. both_ways (eqb other bank) (not-true (eqb other bank) it.1) (eq-eqb other bank same)) (are.owns other it.0);
}

-- what callers of a book see of them
pub owners-are : (book : Book) (owners : List ℕ) → IsBook book → AreOwnersOf book.orders owners → AreOwners book owners
owners-are book owners valid are = record {
  all = Each-of (λ (o : Resting). Contains owners o.bank) book.orders (λ order there. contains owners order.bank (are.all order there));
  owns = λ bank there. are.owns bank (subst (λ b. Among b owners) there.2 (among-at owners there.0 bank there.1));
  rising = increasing owners are.rising;
  few = let few = few-rising owners 0 book.banks are.rising (Each-of (λ x. 0 ≤ x) owners (λ x there. omega arith))
      (Each-of (λ x. x < book.banks) owners (λ x there. let it = are.owns x there in
      subst (λ b. b < book.banks) it.2 (Each-among (IsHeld book.banks) book.orders it.0 valid.held it.1).bank)) in
      omega (arith, few);
}
