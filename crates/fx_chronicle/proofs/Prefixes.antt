-- Beginnings of one list.
use Rattle.std.proofs.Common.{◌≡◌, ◌≤◌, ◌<◌, max, Bool, true, false, nat_lt, List, [], ◌∷◌, ◌++◌, length, refl, ap, sym, ◌∙◌, arith, append_assoc, append-nil, length-append, ltb-true, ltb-false}
use mathlib.Core.List.{IsPrefix}
use Rattle.fx_chronicle.specs.Faces.{longer}

module _ {E : Type 0} where
  pub prefix_self : (xs : List E) → IsPrefix xs xs
  prefix_self xs = ([], append-nil xs)

  pub prefix_trans : (xs ys zs : List E) → IsPrefix xs ys → IsPrefix ys zs → IsPrefix xs zs
  prefix_trans xs ys zs p q = (p.0 ++ q.0, sym (append_assoc xs p.0 q.0) ∙ (ap (λ w. w ++ q.0) p.1 ∙ q.1))

  pub prefix_push : (xs ys : List E) (e : E) → IsPrefix xs ys → IsPrefix xs (ys ++ e ∷ [])
  prefix_push xs ys e p = prefix_trans xs ys (ys ++ e ∷ []) p (e ∷ [], refl)

  pub prefix_length : (xs ys : List E) → IsPrefix xs ys → length xs ≤ length ys
  prefix_length xs ys p = omega (arith, sym (ap length p.1) ∙ length-append xs p.0)

  -- of two beginnings of one list the shorter begins the longer
  pub prefix_shorter : (xs ys zs : List E) → IsPrefix xs zs → IsPrefix ys zs → length xs ≤ length ys → IsPrefix xs ys
  prefix_shorter [] ys zs p q le = (ys, refl)
  prefix_shorter (x ∷ xs) [] zs p q le = absurd (omega arith)
  prefix_shorter (x ∷ xs) (y ∷ ys) [] p q le = absurd (cc (p.1))
  prefix_shorter (x ∷ xs) (y ∷ ys) (z ∷ zs) p q le =
      let heads : x ≡ y = cc (p.1, q.1) in
      let rest = prefix_shorter xs ys zs (p.0, cc (p.1)) (q.0, cc (q.1)) (omega arith) in
      (rest.0, cc (heads, rest.1))

  -- the longer of two beginnings begins the whole, and both begin it
  longer_at : (b : Bool) (seen told log : List E) → nat_lt (length seen) (length told) ≡ b → IsPrefix seen log → IsPrefix told log
      → IsPrefix (longer seen told) log × IsPrefix seen (longer seen told) × IsPrefix told (longer seen told)
  longer_at true seen told log is p q =
      rw is (q, prefix_shorter seen told log p q (omega (arith, ltb-true _ _ is)), prefix_self told)
  longer_at false seen told log is p q =
      rw is (p, prefix_self seen, prefix_shorter told seen log q p (omega (arith, ltb-false _ _ is)))

  pub longer_begins : (seen told log : List E) → IsPrefix seen log → IsPrefix told log
      → IsPrefix (longer seen told) log × IsPrefix seen (longer seen told) × IsPrefix told (longer seen told)
  longer_begins seen told log p q = longer_at (nat_lt (length seen) (length told)) seen told log refl p q

  longer_count : (b : Bool) (seen told : List E) → nat_lt (length seen) (length told) ≡ b → max (length seen) (length told) ≡ length (longer seen told)
  longer_count true seen told is = rw is (let lt : length seen < length told = ltb-true _ _ is in omega arith)
  longer_count false seen told is = rw is (let le : length told ≤ length seen = ltb-false _ _ is in omega arith)

  pub length-longer : (seen told : List E) → max (length seen) (length told) ≡ length (longer seen told)
  length-longer seen told = longer_count (nat_lt (length seen) (length told)) seen told refl
