-- The words of the banks' best orders, and the least of them.
use Rattle.std.specs.Option.{IfSome}
use Rattle.std.proofs.Common.{ℕ, zero, suc, ◌≡◌, ◌≢◌, ◌+◌, ◌-◌, ◌*◌, ◌/◌, ◌%◌, ◌≤◌, ◌<◌, ◌^◌, ◌⊎◌, Bool, if◌then◌else◌, max, min, List, ◌∷◌, length, map, get_or, replicate, take, unwrap_or, Option, Some, None, inl, inr, refl, ap, sym, subst, ◌∙◌, arith, eq-eqb}
use Rattle.std.proofs.Math.ListN.{set}
use Rattle.std.proofs.lemmas.Bool.{cases_eq, cases_lt, ne_eqb}
use Rattle.std.proofs.lemmas.Option.{none-some}
use Rattle.std.proofs.lemmas.List.{get_or-map, get_or-replicate, get_or-set_other, get_or-set_same, get_or-take, get_or_past, length-map, length-replicate, length-set, length-take}
use Rattle.access_index.specs.declared.words.Head.{Head}
use Rattle.access_index.specs.Heads.{IsBestWithin, IsHead, IsUpTo, head_word, word_beyond, word_of}
use Rattle.access_index.specs.inside.Words.{AreFilled, AreWords, IsLeastOf, head_of}

-- one word more
pub least_more : (words : List ℕ) (from k least word new : ℕ) → word ≡ get_or words (from + k) 0 → new ≡ min least word → IsLeastOf words from k least → IsLeastOf words from (k + 1) new
least_more words from k least word new here lesser was = record {
  first = λ at below. elim (cases_eq at k) [
    | inl same ↦ omega (arith, lesser, here, ap (λ (n : ℕ). get_or words (from + n) 0) same)
    | inr differ ↦ let it = was.first at (omega (arith, below, differ)) in omega (arith, lesser, it)
  ];
  there = λ some. elim (cases_lt word least) [
    | inl lower ↦ (k, omega arith, omega (arith, lesser, lower, here))
    | inr upto ↦
        let is : new ≡ least = omega (arith, lesser, upto) in
        let it = was.there (λ none. some (is ∙ none)) in
        (it.0, omega (arith, it.1), it.2 ∙ sym is)
  ];
}

pub none_yet : (banks eights : ℕ) → banks ≤ 64 → eights * 8 ≡ banks → AreWords banks eights (replicate banks (2 ^ 64 - 1)) (replicate eights (2 ^ 64 - 1))
none_yet banks eights small whole = record {
  few = small;
  whole = whole;
  count = length-replicate banks (2 ^ 64 - 1);
  group_count = length-replicate eights (2 ^ 64 - 1);
  own = λ bank within some. absurd (some (get_or-replicate banks bank (2 ^ 64 - 1) 0 within));
  most = λ bank within. omega (arith, get_or-replicate banks bank (2 ^ 64 - 1) 0 within);
  least = λ group within. record {
    first = λ at below. omega (arith, get_or-replicate eights group (2 ^ 64 - 1) 0 within, get_or-replicate banks (group * 8 + at) (2 ^ 64 - 1) 0 (omega (arith, within, below, whole)));
    there = λ some. absurd (some (get_or-replicate eights group (2 ^ 64 - 1) 0 within));
  };
}

-- a word tells the order that it was made of
pub head_of-word : (head : Head) (bank : ℕ) → IsHead head → bank < 64 → head_of (word_of head bank) ≡ Some head
head_of-word head bank is small =
    let word : ℕ = word_of head bank in
    let rank : word / 2 ^ 34 ≡ head.rank = omega (arith, is.rank, is.place, small) in
    let place : word / 64 % 2 ^ 28 ≡ head.place = omega (arith, is.rank, is.place, small) in
    ap (λ (b : Bool). if b then None else Some (record { rank = word / 2 ^ 34; place = word / 64 % 2 ^ 28 })) (ne_eqb word (2 ^ 64 - 1) (λ e. omega (arith, e, is.rank, is.place, small)))
    ∙ (λ j. Some (record { rank = rank j; place = place j }))

pub read_head : (words : List ℕ) (heads : List (Option Head)) (bank : ℕ) → map head_of words ≡ heads → bank < length words → get_or heads bank None ≡ head_of (get_or words bank 0)
read_head words heads bank seen within =
    ap (λ (hs : List (Option Head)). get_or hs bank None) (sym seen) ∙ get_or-map head_of words bank 0 None within

pub heads_count : (words : List ℕ) (heads : List (Option Head)) → map head_of words ≡ heads → length heads ≡ length words
heads_count words heads seen = ap (λ (hs : List (Option Head)). length hs) (sym seen) ∙ length-map words head_of

-- the lower a word, the better its order
up_to : (a b : ℕ) → a ≤ b → (a / 2 ^ 34 < b / 2 ^ 34) ⊎ ((a / 2 ^ 34 ≡ b / 2 ^ 34) × (a / 64 % 2 ^ 28 ≤ b / 64 % 2 ^ 28))
up_to a b le =
    elim (cases_lt (a / 2 ^ 34) (b / 2 ^ 34)) [
      | inl lower ↦ inl lower
      | inr upto ↦ inr (omega (arith, le, upto), omega (arith, le, upto))
    ]

pub none_of : (word : ℕ) → word ≡ 2 ^ 64 - 1 → head_of word ≡ None
none_of word is = ap (λ (b : Bool). if b then None else Some (record { rank = word / 2 ^ 34; place = word / 64 % 2 ^ 28 })) (eq-eqb word (2 ^ 64 - 1) is)

some_of : (word : ℕ) → word ≢ 2 ^ 64 - 1 → head_of word ≡ Some (record { rank = word / 2 ^ 34; place = word / 64 % 2 ^ 28 })
some_of word some = ap (λ (b : Bool). if b then None else Some (record { rank = word / 2 ^ 34; place = word / 64 % 2 ^ 28 })) (ne_eqb word (2 ^ 64 - 1) some)

no_word : (word : ℕ) → head_of word ≡ None → word ≡ 2 ^ 64 - 1
no_word word none = elim (cases_eq word (2 ^ 64 - 1)) [
  | inl is ↦ is
  | inr some ↦ absurd (none-some (record { rank = word / 2 ^ 34; place = word / 64 % 2 ^ 28 }) (sym none ∙ some_of word some))
]

zero_more : (n : ℕ) → 0 + n ≡ n
zero_more n = omega arith

-- Behind so many groups no bank has an order.
module _ (banks eights : ℕ) (words groups : List ℕ) (heads : List (Option Head)) (count least : ℕ) (are : AreWords banks eights words groups) (seen : map head_of words ≡ heads)
    (empty : count < eights → (bank : ℕ) → count * 8 ≤ bank → get_or heads bank None ≡ None) (upto : count ≤ eights) (fits : least < 2 ^ 64) (is : IsLeastOf groups 0 count least) where
  group_empty : (group : ℕ) → group < eights → count ≤ group → get_or groups group 0 ≡ 2 ^ 64 - 1
  group_empty group within past = elim (cases_eq (get_or groups group 0) (2 ^ 64 - 1)) [
    | inl none ↦ none
    | inr some ↦
        let it = (are.least group within).there some in
        let bank : ℕ = group * 8 + it.0 in
        let in_words : bank < length words = omega (arith, are.count, are.whole, within, it.1) in
        absurd (some (sym it.2 ∙ no_word (get_or words bank 0) (sym (read_head words heads bank seen in_words) ∙ empty (omega (arith, within, past)) bank (omega (arith, past)))))
  ]

  -- the least word of these groups is the least of all groups
  least_groups : IsLeastOf groups 0 eights least
  least_groups = record {
    first = λ at within. elim (cases_lt at count) [
      | inl below ↦ is.first at below
      | inr past ↦ omega (arith, fits, group_empty at within past, ap (λ (n : ℕ). get_or groups n 0) (zero_more at))
    ];
    there = λ some. let it = is.there some in (it.0, omega (arith, it.1, upto), it.2);
  }

  -- and this is the least of all words
  pub least_all : IsLeastOf words 0 banks least
  least_all = record {
    first = λ at within.
        let group : at / 8 < eights = omega (arith, within, are.whole) in
        let same : at / 8 * 8 + at % 8 ≡ 0 + at = omega arith in
        omega (arith, least_groups.first (at / 8) group, ap (λ (n : ℕ). get_or groups n 0) (zero_more (at / 8)), (are.least (at / 8) group).first (at % 8) (omega arith), ap (λ (n : ℕ). get_or words n 0) same);
    there = λ some.
        let it = least_groups.there some in
        let group : get_or groups it.0 0 ≡ least = ap (λ (n : ℕ). get_or groups n 0) (sym (zero_more it.0)) ∙ it.2 in
        let one = (are.least it.0 it.1).there (λ none. some (sym group ∙ none)) in
        (it.0 * 8 + one.0, omega (arith, it.1, one.1, are.whole), ap (λ (n : ℕ). get_or words n 0) (zero_more (it.0 * 8 + one.0)) ∙ one.2 ∙ group);
  }

-- the least word of all has the best order of all, where its rank is low enough
module _ (banks : ℕ) (words : List ℕ) (heads : List (Option Head)) (least most : ℕ) (long : length words ≡ banks) (seen : map head_of words ≡ heads) (is : IsLeastOf words 0 banks least) where
  least_here : (bank : ℕ) → bank < banks → least ≤ get_or words bank 0
  least_here bank within = omega (arith, is.first bank within, ap (λ (n : ℕ). get_or words n 0) (zero_more bank))

  pub none_within : word_beyond most ≤ least → (bank : ℕ) → IfSome (get_or heads bank None) (λ (head : Head). most < head.rank)
  none_within above bank = elim (cases_lt bank banks) [
    | inl within ↦
        let w : ℕ = get_or words bank 0 in
        let here : get_or heads bank None ≡ head_of w = read_head words heads bank seen (omega (arith, within, long)) in
        elim (cases_eq w (2 ^ 64 - 1)) [
          | inl none ↦ subst (λ (o : Option Head). IfSome o (λ (head : Head). most < head.rank)) (sym (here ∙ none_of w none)) tt
          | inr some ↦
              subst (λ (o : Option Head). IfSome o (λ (head : Head). most < head.rank)) (sym (here ∙ some_of w some)) (omega (arith, above, least_here bank within))
        ]
    | inr past ↦
        subst (λ (o : Option Head). IfSome o (λ (head : Head). most < head.rank)) (sym (get_or_past heads bank None (omega (arith, past, long, heads_count words heads seen)))) tt
  ]

  pub best_within : (eights bank : ℕ) (groups : List ℕ) → AreWords banks eights words groups → word_beyond most < 2 ^ 64 → least < word_beyond most → bank ≡ least % 64 → IsBestWithin heads most bank
  best_within eights bank groups are fits low bank_is =
      let some : least ≢ 2 ^ 64 - 1 = λ none. omega (arith, fits, low, none) in
      let it = is.there some in
      let at : get_or words it.0 0 ≡ least = ap (λ (n : ℕ). get_or words n 0) (omega arith) ∙ it.2 in
      let own : least % 64 ≡ it.0 = ap (λ (w : ℕ). w % 64) (sym at) ∙ are.own it.0 it.1 (λ none. some (sym at ∙ none)) in
      subst (IsBestWithin heads most) (sym own ∙ sym bank_is) (record {
        within = omega (arith, it.1, long, heads_count words heads seen);
        head = record { rank = least / 2 ^ 34; place = least / 64 % 2 ^ 28 };
        there = read_head words heads it.0 seen (omega (arith, it.1, long)) ∙ ap head_of at ∙ some_of least some;
        low = omega (arith, low);
        first = first_of;
      })
    where
      first_of : (other : ℕ) (found : Head) → get_or heads other None ≡ Some found → IsUpTo (record { rank = least / 2 ^ 34; place = least / 64 % 2 ^ 28 }) found
      first_of other found has = elim (cases_lt other banks) [
        | inl within ↦
            let w : ℕ = get_or words other 0 in
            let here : get_or heads other None ≡ head_of w = read_head words heads other seen (omega (arith, within, long)) in
            elim (cases_eq w (2 ^ 64 - 1)) [
              | inl none ↦ absurd (none-some found (sym (none_of w none) ∙ sym here ∙ has))
              | inr full ↦
                  let head : record { rank = w / 2 ^ 34; place = w / 64 % 2 ^ 28 } ≡ found = ap (λ (o : Option Head). unwrap_or o found) (sym (some_of w full) ∙ sym here ∙ has) in
                  subst (IsUpTo (record { rank = least / 2 ^ 34; place = least / 64 % 2 ^ 28 })) head (up_to least w (least_here other within))
            ]
        | inr past ↦ absurd (none-some found (sym (get_or_past heads other None (omega (arith, past, long, heads_count words heads seen))) ∙ has))
      ]

-- a word outside of a group is another one
least_kept : (words : List ℕ) (at word from least : ℕ) → ((k : ℕ) → k < 8 → from + k ≢ at) → IsLeastOf words from 8 least → IsLeastOf (set words at word) from 8 least
least_kept words at word from least apart was = record {
  first = λ k small. omega (arith, get_or-set_other words at (from + k) word 0 (apart k small), was.first k small);
  there = λ some. let it = was.there some in (it.0, it.1, get_or-set_other words at (from + it.0) word 0 (apart it.0 it.1) ∙ it.2);
}

-- a word is written at its bank, and the least of its group beside it
pub words_set : (banks eights : ℕ) (words groups : List ℕ) (at bank word group least : ℕ) → at ≡ bank → bank < banks → AreWords banks eights words groups → (word ≢ 2 ^ 64 - 1 → word % 64 ≡ bank) → word < 2 ^ 64
    → group ≡ at / 8 → IsLeastOf (set words at word) (group * 8) 8 least → AreWords banks eights (set words at word) (set groups group least)
words_set banks eights words groups at bank word group least same within are own fits group_is is = record {
  few = are.few;
  whole = are.whole;
  count = length-set words at word ∙ are.count;
  group_count = length-set groups group least ∙ are.group_count;
  own = λ other small some. elim (cases_eq other at) [
    | inl here ↦
        let is : get_or (set words at word) other 0 ≡ word = ap (λ (k : ℕ). get_or (set words at word) k 0) here ∙ get_or-set_same words at word 0 (omega (arith, here, small, are.count)) in
        ap (λ (w : ℕ). w % 64) is ∙ own (λ none. some (is ∙ none)) ∙ sym same ∙ sym here
    | inr differ ↦
        let is : get_or (set words at word) other 0 ≡ get_or words other 0 = get_or-set_other words at other word 0 differ in
        ap (λ (w : ℕ). w % 64) is ∙ are.own other small (λ none. some (is ∙ none))
  ];
  most = λ other small. elim (cases_eq other at) [
    | inl here ↦ omega (arith, fits, ap (λ (k : ℕ). get_or (set words at word) k 0) here, get_or-set_same words at word 0 (omega (arith, here, small, are.count)))
    | inr differ ↦ omega (arith, get_or-set_other words at other word 0 differ, are.most other small)
  ];
  least = λ other small. elim (cases_eq other group) [
    | inl here ↦
        subst (λ (g : ℕ). IsLeastOf (set words at word) (g * 8) 8 (get_or (set groups group least) g 0)) (sym here)
        (subst (IsLeastOf (set words at word) (group * 8) 8) (sym (get_or-set_same groups group least 0 (omega (arith, here, small, are.group_count)))) is)
    | inr differ ↦
        subst (IsLeastOf (set words at word) (other * 8) 8) (sym (get_or-set_other groups group other least 0 differ))
        (least_kept words at word (other * 8) (get_or groups other 0) (λ k below here. omega (arith, differ, group_is, below, here)) (are.least other small))
  ];
}

-- no bank has an order
pub map-none : (banks : ℕ) → map head_of (replicate banks (2 ^ 64 - 1)) ≡ replicate banks None
map-none zero = refl
map-none (suc banks) = ap (λ (heads : List (Option Head)). head_of (2 ^ 64 - 1) ∷ heads) (map-none banks) ∙ ap (λ (head : Option Head). head ∷ replicate banks None) (none_of (2 ^ 64 - 1) refl)

pub none_filled : AreFilled (replicate 64 None) 0
none_filled = record {
  few = omega arith;
  empty = λ bank _. elim (cases_lt bank 64) [
    | inl small ↦ get_or-replicate 64 bank None None small
    | inr past ↦ get_or_past (replicate 64 None) bank None (omega (arith, past, length-replicate 64 none))
  ];
}
  where
    none : Option Head
    none = None

-- so many groups have had an order once a bank has another one
pub filled_set : (heads : List (Option Head)) (filled filled' at bank : ℕ) (head : Option Head) → AreFilled heads filled → at ≡ bank → bank < 64 → filled' ≡ max filled (at / 8 + 1) → AreFilled (set heads bank head) filled'
filled_set heads filled filled' at bank head are same small more = record {
  few = omega (arith, more, are.few, same, small);
  empty = λ other past.
      get_or-set_other heads bank other head None (λ here. omega (arith, here, past, more, same)) ∙ are.empty other (omega (arith, past, more));
}

pub own_word : (head : Head) (bank : ℕ) → bank < 64 → word_of head bank % 64 ≡ bank
own_word head bank small = omega (arith, small)

-- a word is that of the order which it tells
pub word_told : (banks eights : ℕ) (words groups : List ℕ) (heads : List (Option Head)) (bank : ℕ) → map head_of words ≡ heads → AreWords banks eights words groups → bank < banks
    → get_or words bank 0 ≡ head_word bank (get_or heads bank None)
word_told banks eights words groups heads bank seen are small =
    let w : ℕ = get_or words bank 0 in
    let here : get_or heads bank None ≡ head_of w = read_head words heads bank seen (omega (arith, small, are.count)) in
    elim (cases_eq w (2 ^ 64 - 1)) [
      | inl none ↦ none ∙ sym (ap (head_word bank) (here ∙ none_of w none))
      | inr some ↦ omega (arith, are.own bank small some) ∙ sym (ap (head_word bank) (here ∙ some_of w some))
    ]

-- The words of the first banks.

-- a word among the first ones is the same
pub least_first : (words : List ℕ) (banks from least : ℕ) → from + 8 ≤ banks → IsLeastOf words from 8 least → IsLeastOf (take banks words) from 8 least
least_first words banks from least within is = record {
  first = λ at small. omega (arith, is.first at small, get_or-take banks words (from + at) 0 (omega (arith, within, small)));
  there = λ some. let it = is.there some in (it.0, it.1, get_or-take banks words (from + it.0) 0 (omega (arith, within, it.1)) ∙ it.2);
}

pub words_first : (banks eights more more_eights : ℕ) (words groups : List ℕ) → banks ≤ more → eights * 8 ≡ banks → AreWords more more_eights words groups → AreWords banks eights (take banks words) (take eights groups)
words_first banks eights more more_eights words groups upto whole are = record {
  few = omega (arith, upto, are.few);
  whole = whole;
  count = length-take banks words ∙ omega (arith, upto, are.count);
  group_count = length-take eights groups ∙ omega (arith, upto, whole, are.whole, are.group_count);
  own = λ bank small some.
      let same : get_or (take banks words) bank 0 ≡ get_or words bank 0 = get_or-take banks words bank 0 small in
      ap (λ (w : ℕ). w % 64) same ∙ are.own bank (omega (arith, small, upto)) (λ none. some (same ∙ none));
  most = λ bank small. omega (arith, get_or-take banks words bank 0 small, are.most bank (omega (arith, small, upto)));
  least = λ group small.
      subst (IsLeastOf (take banks words) (group * 8) 8) (sym (get_or-take eights groups group 0 small))
      (least_first words banks (group * 8) (get_or groups group 0) (omega (arith, small, whole)) (are.least group (omega (arith, small, whole, upto, are.whole))));
}
