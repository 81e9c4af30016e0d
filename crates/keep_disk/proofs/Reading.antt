-- How a journal file is read.
use Rattle.std.proofs.Common.{◌≡◌, inl, inr, ℕ, zero, suc, ◌+◌, ◌-◌, ◌^◌, ◌<◌, ◌≤◌, Bool, true, false, cond, List, [], ◌∷◌, ◌++◌, length, take, drop, get_or, refl, sym, ◌∙◌, ap, subst, arith, append_assoc, length-append, length-drop, w64, take_at, take_all}
use Rattle.std.specs.Prelude.{Option, None, Some, MatchOption}
use Rattle.std.specs.Int.{to_be_bytes, from_be_bytes}
use Rattle.std.proofs.lemmas.Nat.{from_be_bytes-to_be_bytes_8}
use Rattle.std.proofs.lemmas.List.{drop_at, drop-take, drop-drop, length-take}
use Rattle.std.proofs.lemmas.Bool.{cases_Bool, cases_eq, cases_lt}
use Rattle.std.proofs.lemmas.Bool.Decides.{nat_tests}
use Rattle.keep_disk.specs.Blocks.{body_length, body_of, opens, blocks_from, whole_blocks, space}

-- Lists

pub take_shorter : (n p : ℕ) (xs ys : List ℕ) → n ≤ p → take p xs ≡ take p ys → take n xs ≡ take n ys
take_shorter zero p xs ys le e = refl
take_shorter (suc n) zero xs ys le e = absurd (omega arith)
take_shorter (suc n) (suc p) [] [] le e = refl
take_shorter (suc n) (suc p) [] (y ∷ ys) le e = absurd (cc)
take_shorter (suc n) (suc p) (x ∷ xs) [] le e = absurd (cc)
take_shorter (suc n) (suc p) (x ∷ xs) (y ∷ ys) le e =
    let head : x ≡ y = ap (λ (l : List ℕ). get_or l 0 0) e in
    let tail : take p xs ≡ take p ys = ap (λ (l : List ℕ). drop 1 l) e in
    ap (λ (l : List ℕ). x ∷ l) (take_shorter n p xs ys (omega arith) tail) ∙ ap (λ (h : ℕ). h ∷ take n ys) head

-- Blocks

pub space-append : (xs ys : List (List ℕ)) → space (xs ++ ys) ≡ space xs + space ys
space-append [] ys = omega arith
space-append (x ∷ xs) ys = let e = space-append xs ys in omega arith

opens_facts : (gate : ℕ) (rest : List ℕ) → opens gate rest ≡ true → (gate ≡ 1) × (8 + body_length rest < length rest)
unfolding opens
opens_facts gate rest e = elim (cases_eq gate 1) [
  | inl one ↦ (one, elim (cases_lt (8 + body_length rest) (length rest)) [ inl lt ↦ lt | inr ge ↦ absurd (grind (arith, nat_tests)) ])
  | inr other ↦ absurd (grind (arith, nat_tests))
]

pub opens_true : (gate : ℕ) (rest : List ℕ) → gate ≡ 1 → 8 + body_length rest < length rest → opens gate rest ≡ true
unfolding opens
opens_true gate rest one lt = grind (arith, nat_tests)

pub opens_other : (gate : ℕ) (rest : List ℕ) → (gate ≡ 1 → ⊥) → opens gate rest ≡ false
unfolding opens
opens_other gate rest other = grind (arith, nat_tests)

pub blocks_open : (gate : ℕ) (rest : List ℕ) → opens gate rest ≡ true → blocks_from 0 (gate ∷ rest) ≡ body_of rest ∷ blocks_from (8 + body_length rest) rest
blocks_open gate rest e = ap (λ (t : Bool). cond t (body_of rest ∷ blocks_from (8 + body_length rest) rest) []) e

pub blocks_shut : (gate : ℕ) (rest : List ℕ) → opens gate rest ≡ false → blocks_from 0 (gate ∷ rest) ≡ []
blocks_shut gate rest e = ap (λ (t : Bool). cond t (body_of rest ∷ blocks_from (8 + body_length rest) rest) []) e

-- a gate that doesn't say 1 opens none
pub blocks_closed : (gate : ℕ) (rest : List ℕ) → (gate ≡ 1 → ⊥) → blocks_from 0 (gate ∷ rest) ≡ []
blocks_closed gate rest other = blocks_shut gate rest (opens_other gate rest other)

pub blocks_skip : (place : ℕ) (file : List ℕ) → blocks_from place file ≡ blocks_from 0 (drop place file)
blocks_skip zero file = refl
blocks_skip (suc place) [] = refl
blocks_skip (suc place) (b ∷ file) = blocks_skip place file

pub length-body_of : (rest : List ℕ) → 8 + body_length rest < length rest → length (body_of rest) ≡ body_length rest
unfolding body_of
length-body_of rest lt = length-drop 8 (take (8 + body_length rest) rest) ∙ ap (λ (n : ℕ). n - 8) (length-take (8 + body_length rest) rest) ∙ omega arith

same_length : (xs ys : List ℕ) (p : ℕ) → 8 ≤ p → take p xs ≡ take p ys → body_length xs ≡ body_length ys
unfolding body_length
same_length xs ys p le e = ap (λ (l : List ℕ). from_be_bytes w64 l) (take_shorter 8 p xs ys le e)

same_body : (xs ys : List ℕ) (p : ℕ) → 8 + body_length ys ≤ p → body_length xs ≡ body_length ys → take p xs ≡ take p ys → body_of xs ≡ body_of ys
unfolding body_of
same_body xs ys p le same e =
    ap (λ (n : ℕ). drop 8 (take (8 + n) xs)) same ∙ ap (λ (l : List ℕ). drop 8 l) (take_shorter (8 + body_length ys) p xs ys le e)

-- The bytes of a file's whole blocks, and anything behind them with a gate, have those blocks and then what
-- stands behind: whole blocks are never read again.
pub blocks_behind : (skip : ℕ) (file image : List ℕ) (place : ℕ) → place ≡ skip + space (blocks_from skip file) → place < length image → take place image ≡ take place file
    → blocks_from skip image ≡ blocks_from skip file ++ blocks_from 0 (drop place image)
blocks_behind skip [] image place is within e =
    let same : skip ≡ place = omega arith in
    blocks_skip skip image ∙ ap (λ (p : ℕ). blocks_from 0 (drop p image)) same
blocks_behind (suc s) (f ∷ fs) [] place is within e = absurd (omega arith)
blocks_behind (suc s) (f ∷ fs) (i ∷ image) zero is within e = absurd (omega arith)
blocks_behind (suc s) (f ∷ fs) (i ∷ image) (suc p) is within e =
    blocks_behind s fs image p (omega arith) (omega arith) (ap (λ (l : List ℕ). drop 1 l) e)
blocks_behind zero (gate ∷ rest) [] place is within e = absurd (omega arith)
blocks_behind zero (gate ∷ rest) (i ∷ image) zero is within e = elim (cases_Bool (opens gate rest)) [
  | inl wide ↦ let shape = ap space (blocks_open gate rest wide) in absurd (omega arith)
  | inr shut ↦ ap (λ (bs : List (List ℕ)). bs ++ blocks_from 0 (i ∷ image)) (sym (blocks_shut gate rest shut))
]
blocks_behind zero (gate ∷ rest) (i ∷ image) (suc p) is within e = elim (cases_Bool (opens gate rest)) [
  | inl wide ↦
      let facts = opens_facts gate rest wide in
      let shape = ap space (blocks_open gate rest wide) in
      let long = length-body_of rest facts.1 in
      let far : p ≡ (8 + body_length rest) + space (blocks_from (8 + body_length rest) rest) = omega (arith, is, shape, long) in
      let head : i ≡ gate = ap (λ (l : List ℕ). get_or l 0 0) e in
      let tail : take p image ≡ take p rest = ap (λ (l : List ℕ). drop 1 l) e in
      let inner : p < length image = omega arith in
      let rec = blocks_behind (8 + body_length rest) rest image p far inner tail in
      let len : body_length image ≡ body_length rest = same_length image rest p (omega (arith, far)) tail in
      let body : body_of image ≡ body_of rest = same_body image rest p (omega (arith, far)) len tail in
      let wide_too : opens i image ≡ true = opens_true i image (head ∙ facts.0) (omega (arith, far, inner, len)) in
      blocks_open i image wide_too
      ∙ ap (λ (b : List ℕ). b ∷ blocks_from (8 + body_length image) image) body
      ∙ ap (λ (n : ℕ). body_of rest ∷ blocks_from (8 + n) image) len
      ∙ ap (λ (bs : List (List ℕ)). body_of rest ∷ bs) rec
      ∙ ap (λ (bs : List (List ℕ)). bs ++ blocks_from 0 (drop p image)) (sym (blocks_open gate rest wide))
  | inr shut ↦ let shape = ap space (blocks_shut gate rest shut) in absurd (omega arith)
]

-- One block

pub length-to_be : (n : ℕ) → length (to_be_bytes w64 n) ≡ 8
length-to_be n = refl

module _ (body junk : List ℕ) (fits : length body < 2 ^ 64) where
  abbrev head : List ℕ
  head = to_be_bytes w64 (length body)

  abbrev pub framed : List ℕ
  framed = head ++ body ++ 0 ∷ junk

  framed_split : framed ≡ head ++ (body ++ 0 ∷ junk)
  framed_split = append_assoc head body (0 ∷ junk)

  pub framed_length : body_length framed ≡ length body
  unfolding body_length
  framed_length =
      ap (λ (l : List ℕ). from_be_bytes w64 (take 8 l)) framed_split
      ∙ ap (λ (l : List ℕ). from_be_bytes w64 l) (take_at head (body ++ 0 ∷ junk) 8 refl)
      ∙ from_be_bytes-to_be_bytes_8 (length body) fits

  front_long : length (head ++ body) ≡ 8 + length body
  front_long = length-append head body ∙ omega (arith, length-to_be (length body))

  pub framed_body : body_of framed ≡ body
  unfolding body_of
  framed_body =
      ap (λ (n : ℕ). drop 8 (take (8 + n) framed)) framed_length
      ∙ ap (λ (l : List ℕ). drop 8 l) (take_at (head ++ body) (0 ∷ junk) (8 + length body) front_long)
      ∙ drop_at head body 8 refl

  pub framed_long : 8 + length body < length framed
  framed_long = omega (arith, length-append (head ++ body) (0 ∷ junk), front_long)

  framed_end : drop (8 + length body) framed ≡ 0 ∷ junk
  framed_end = drop_at (head ++ body) (0 ∷ junk) (8 + length body) front_long

  -- behind a gate of 1 it is the one block
  pub blocks_framed : (gate : ℕ) → gate ≡ 1 → blocks_from 0 (gate ∷ framed) ≡ body ∷ []
  blocks_framed gate one =
      blocks_open gate framed (opens_true gate framed one (omega (arith, framed_length, framed_long)))
      ∙ ap (λ (b : List ℕ). b ∷ blocks_from (8 + body_length framed) framed) framed_body
      ∙ ap (λ (n : ℕ). body ∷ blocks_from (8 + n) framed) framed_length
      ∙ ap (λ (bs : List (List ℕ)). body ∷ bs) (blocks_skip (8 + length body) framed ∙ ap (λ (l : List ℕ). blocks_from 0 l) framed_end ∙ blocks_closed 0 junk (λ e. absurd (omega arith)))

-- Where a gate opens none, and where it opens one

opens_short : (gate : ℕ) (rest : List ℕ) → length rest ≤ 8 + body_length rest → opens gate rest ≡ false
unfolding opens
opens_short gate rest short = elim (cases_eq gate 1) [ inl one ↦ grind (arith, nat_tests) | inr other ↦ grind (arith, nat_tests) ]

pub blocks_short : (gate : ℕ) (rest : List ℕ) → length rest ≤ 8 + body_length rest → blocks_from 0 (gate ∷ rest) ≡ []
blocks_short gate rest short = blocks_shut gate rest (opens_short gate rest short)

pub body_length-is : (front rest : List ℕ) → front ≡ take 8 rest → from_be_bytes w64 front ≡ body_length rest
unfolding body_length
body_length-is front rest is = ap (λ (l : List ℕ). from_be_bytes w64 l) is

body_of-is : (rest : List ℕ) → body_of rest ≡ take (body_length rest) (drop 8 rest)
unfolding body_of
body_of-is rest = drop-take 8 (body_length rest) rest

pub blocks_next : (gate : ℕ) (rest body : List ℕ) → gate ≡ 1 → body ≡ take (body_length rest) (drop 8 rest) → 8 + body_length rest < length rest → length body ≡ body_length rest
    → blocks_from 0 (gate ∷ rest) ≡ body ∷ blocks_from 0 (drop (9 + length body) (gate ∷ rest))
blocks_next gate rest body one is lt long =
    let e : suc (8 + body_length rest) ≡ 9 + length body = omega (arith, long) in
    blocks_open gate rest (opens_true gate rest one lt)
    ∙ ap (λ (b : List ℕ). b ∷ blocks_from (8 + body_length rest) rest) (body_of-is rest ∙ sym is)
    ∙ ap (λ (bs : List (List ℕ)). body ∷ bs) (blocks_skip (8 + body_length rest) rest)
    ∙ ap (λ (n : ℕ). body ∷ blocks_from 0 (drop n (gate ∷ rest))) e

-- The same of a file's bytes, whose first is a gate

pub none_closed : (file : List ℕ) → 1 ≤ length file → (get_or file 0 0 ≡ 1 → ⊥) → blocks_from 0 file ≡ []
none_closed [] some other = refl
none_closed (gate ∷ rest) some other = blocks_closed gate rest other

pub none_short : (file rest : List ℕ) → 1 ≤ length file → rest ≡ drop 1 file → length rest ≤ 8 + body_length rest → blocks_from 0 file ≡ []
none_short [] rest some is short = refl
none_short (gate ∷ more) rest some is short = blocks_short gate more (let P : List ℕ → Type 0 = λ l. length l ≤ 8 + body_length l in subst P is short)

pub some_next : (file rest head behind : List ℕ) (size : ℕ) → 1 ≤ length file → get_or file 0 0 ≡ 1 → rest ≡ drop 1 file → head ≡ take 8 rest → behind ≡ drop 8 rest → size ≡ from_be_bytes w64 head → size < length behind
    → blocks_from 0 file ≡ take size behind ∷ blocks_from 0 (drop (9 + length (take size behind)) file)
some_next [] rest head behind size some one is front back sized lt = absurd (omega arith)
some_next (gate ∷ more) rest head behind size some one is front back sized lt =
    let same : rest ≡ more = is in
    let sized_too : size ≡ body_length more = sized ∙ body_length-is head rest front ∙ ap body_length same in
    let back_too : behind ≡ drop 8 more = back ∙ ap (λ (l : List ℕ). drop 8 l) same in
    let far = ap length back_too ∙ length-drop 8 more in
    let long : length (take size behind) ≡ size = length-take size behind ∙ omega (arith, lt) in
    blocks_next gate more (take size behind) one
    (ap (λ (n : ℕ). take n behind) sized_too ∙ ap (λ (l : List ℕ). take (body_length more) l) back_too)
    (omega (arith, far, lt, sized_too)) (omega (arith, long, sized_too))

pub short_behind : (rest head behind : List ℕ) (size : ℕ) → head ≡ take 8 rest → behind ≡ drop 8 rest → size ≡ from_be_bytes w64 head → length behind ≤ size → length rest ≤ 8 + body_length rest
short_behind rest head behind size front back sized ge =
    let sized_too : size ≡ body_length rest = sized ∙ body_length-is head rest front in
    let far = ap length back ∙ length-drop 8 rest in
    omega (arith, far, ge, sized_too)

-- one block more was read
pub read_more : (file : List ℕ) (place : ℕ) (bodies : List (List ℕ)) (body : List ℕ) → whole_blocks file ≡ bodies ++ blocks_from 0 (drop place file) → blocks_from 0 (drop place file) ≡ body ∷ blocks_from 0 (drop (9 + length body) (drop place file))
    → whole_blocks file ≡ (bodies ++ body ∷ []) ++ blocks_from 0 (drop (place + (9 + length body)) file)
read_more file place bodies body so_far more =
    so_far
    ∙ ap (λ (bs : List (List ℕ)). bodies ++ bs) (more ∙ ap (λ (l : List ℕ). body ∷ blocks_from 0 l) (drop-drop (9 + length body) place file))
    ∙ sym (append_assoc bodies (body ∷ []) (blocks_from 0 (drop (place + (9 + length body)) file)))

pub match_none : {T : Type 0} (r : Option T) (P : Type 0) (Q : T → Type 0) → r ≡ None → MatchOption r P Q → P
match_none None P Q is holds = holds
match_none (Some x) P Q is holds = absurd (cc)

-- what a slice to the end takes
pub tail_whole : (n : ℕ) (file : List ℕ) → take (length file - n) (drop n file) ≡ drop n file
tail_whole n file = take_all (length file - n) (drop n file) (omega (arith, length-drop n file))
