-- Parts of the output's text.
use Rattle.std.proofs.Common.{ℕ, zero, suc, ◌≡◌, ◌<◌, List, ◌++◌, inl, inr, sym, subst, arith, length, get_or, take}
use Rattle.std.proofs.lemmas.Bool.{cases_order}
use Rattle.std.specs.List.{flat_map}
use Rattle.fx_edges.specs.Writing.{IsPrefixOf}
use Rattle.fx_edges.proofs.Writing.{IsPrefixOf-append, IsPrefixOf-flat_map, IsPrefixOf-trans, IsPrefixOf-refl}
use Rattle.fx_rules.specs.Lists.{below}
use Rattle.fx_rules.proofs.Below.{flat_map-suc}

-- a text that is made place by place, cut behind one of them
pub places-prefix : (f : ℕ → List ℕ) (place places : ℕ) → place < places → IsPrefixOf (flat_map f (below place) ++ f place) (flat_map f (below places))
places-prefix f place zero within = absurd (omega arith)
places-prefix f place (suc last) within =
    let front : List ℕ = flat_map f (below place) ++ f place in
    subst (λ (text : List ℕ). IsPrefixOf front text) (sym (flat_map-suc f last))
    (elim (cases_order place last) [
      | inl same ↦ subst (λ p. IsPrefixOf front (flat_map f (below p) ++ f p)) same (IsPrefixOf-refl front)
      | inr other ↦ elim other [
        | inl under ↦ IsPrefixOf-trans (places-prefix f place last under) (IsPrefixOf-append (flat_map f (below last)) (f last))
        | inr above ↦ absurd (omega arith)
      ]
    ])

-- a text that prints a list, cut behind one of its items
pub rows-prefix : {X : Type 0} (print : X → List ℕ) (xs : List X) (i : ℕ) (x : X) → i < length xs → x ≡ get_or xs i x → IsPrefixOf (flat_map print (take i xs) ++ print x) (flat_map print xs)
rows-prefix print xs i x within is =
    subst (λ y. IsPrefixOf (flat_map print (take i xs) ++ print y) (flat_map print xs)) (sym is) (IsPrefixOf-flat_map print xs i x within)
