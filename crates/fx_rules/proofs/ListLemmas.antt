-- The words of `specs/Lists.antt` under `++`, `filter` and `map`.
use Rattle.std.proofs.Common.{ℕ, zero, suc, ◌≡◌, ◌+◌, ◌<◌, Bool, true, false, ◌&&◌, List, [], ◌∷◌, ◌++◌, inl, inr, refl, ap, sym, subst, ◌∙◌, arith, add_assoc, zero-add, map, length, get_or}
use Rattle.std.proofs.Math.ListN.{set}
use Rattle.std.proofs.lemmas.Bool.{cond_both, cases_Bool, and_from, and_left, and_right}
use Rattle.std.specs.List.{filter}
use Rattle.fx_rules.specs.Lists.{Among, Each, EachPair, total}

pub Each-append : {X : Type 0} (P : X → Type 0) (xs ys : List X) → Each P xs → Each P ys → Each P (xs ++ ys)
Each-append P [] ys all more = more
Each-append P (x ∷ xs) ys all more = (all.0, Each-append P xs ys all.1 more)

pub Each-weaker : {X : Type 0} (P Q : X → Type 0) → ((x : X) → P x → Q x) → (xs : List X) → Each P xs → Each Q xs
Each-weaker P Q weaker [] all = tt
Each-weaker P Q weaker (x ∷ xs) all = (weaker x all.0, Each-weaker P Q weaker xs all.1)

pub Each-among : {X : Type 0} (P : X → Type 0) (xs : List X) (x : X) → Each P xs → Among x xs → P x
Each-among P [] x all there = absurd there
Each-among P (y ∷ xs) x all (inl is) = subst P (sym is) all.0
Each-among P (y ∷ xs) x all (inr there) = Each-among P xs x all.1 there

pub Each-at : {X : Type 0} (P : X → Type 0) (xs : List X) (i : ℕ) (fallback : X) → Each P xs → i < length xs → P (get_or xs i fallback)
Each-at P [] i fallback all within = absurd (omega arith)
Each-at P (x ∷ xs) zero fallback all within = all.0
Each-at P (x ∷ xs) (suc i) fallback all within = Each-at P xs i fallback all.1 (omega arith)

pub Each-filter : {X : Type 0} (P : X → Type 0) (test : X → Bool) (xs : List X) → Each P xs → Each P (filter test xs)
Each-filter P test [] all = tt
Each-filter P test (x ∷ xs) all =
    cond_both (test x) (x ∷ filter test xs) (filter test xs) (Each P)
    (λ _. (all.0, Each-filter P test xs all.1)) (λ _. Each-filter P test xs all.1)

pub EachPair-push : {X : Type 0} (R : X → X → Type 0) (xs : List X) (x : X) → EachPair R xs → Each (λ y. R y x) xs → EachPair R (xs ++ x ∷ [])
EachPair-push R [] x pairs all = (tt, tt)
EachPair-push R (y ∷ xs) x pairs all =
    (Each-append (R y) xs (x ∷ []) pairs.0 (all.0, tt), EachPair-push R xs x pairs.1 all.1)

pub total-append : {X : Type 0} (f : X → ℕ) (xs ys : List X) → total f (xs ++ ys) ≡ total f xs + total f ys
total-append f [] ys = sym (zero-add (total f ys))
total-append f (x ∷ xs) ys = ap (λ n. f x + n) (total-append f xs ys) ∙ sym (add_assoc (f x) (total f xs) (total f ys))

pub filter_cons_true : {X : Type 0} (test : X → Bool) (x : X) (xs : List X) → test x ≡ true → filter test (x ∷ xs) ≡ x ∷ filter test xs
filter_cons_true test x xs passes = rw passes

pub filter_cons_false : {X : Type 0} (test : X → Bool) (x : X) (xs : List X) → test x ≡ false → filter test (x ∷ xs) ≡ filter test xs
filter_cons_false test x xs fails = rw fails

pub Among-filter : {X : Type 0} (test : X → Bool) (xs : List X) (x : X) → Among x (filter test xs) → Among x xs × (test x ≡ true)
Among-filter test [] x there = absurd there
Among-filter test (y ∷ xs) x there =
    let rest : Among x (filter test xs) → Among x (y ∷ xs) × (test x ≡ true)
    = λ later. (inr (Among-filter test xs x later).0, (Among-filter test xs x later).1) in
    elim (cases_Bool (test y)) [
      | inl passes ↦ elim (let it : Among x (y ∷ filter test xs) = rw (filter_cons_true test y xs passes) at there in it) [
        | inl is ↦ (inl is, ap test is ∙ passes)
        | inr later ↦ rest later
      ]
      | inr fails ↦ rest (rw (filter_cons_false test y xs fails) at there)
    ]

pub Among-map : {X Y : Type 0} (f : X → Y) (xs : List X) (y : Y) → Among y (map f xs) → (x : X) × Among x xs × (y ≡ f x)
Among-map f [] y there = absurd there
Among-map f (x ∷ xs) y (inl is) = (x, inl refl, is)
Among-map f (x ∷ xs) y (inr later) = let it = Among-map f xs y later in (it.0, inr it.1, it.2)

-- a sum once one item is another
pub total-set : {X : Type 0} (f : X → ℕ) (xs : List X) (i : ℕ) (new fallback : X) → i < length xs → total f (set xs i new) + f (get_or xs i fallback) ≡ total f xs + f new
total-set f [] i new fallback within = absurd (omega arith)
total-set f (x ∷ xs) zero new fallback within = omega arith
total-set f (x ∷ xs) (suc i) new fallback within =
    let rest : total f (set xs i new) + f (get_or xs i fallback) ≡ total f xs + f new = total-set f xs i new fallback (omega arith) in
    omega arith

-- tests that agree at each item keep the same items
pub filter_agree_on : {X : Type 0} (p q : X → Bool) (xs : List X) → ((x : X) → Among x xs → p x ≡ q x) → filter p xs ≡ filter q xs
filter_agree_on p q [] agree = refl
filter_agree_on p q (x ∷ xs) agree =
    let rest : filter p xs ≡ filter q xs = filter_agree_on p q xs (λ y there. agree y (inr there)) in
    let here : p x ≡ q x = agree x (inl refl) in
    elim (cases_Bool (p x)) [
      | inl yes' ↦ filter_cons_true p x xs yes' ∙ ap (λ ys. x ∷ ys) rest ∙ sym (filter_cons_true q x xs (sym here ∙ yes'))
      | inr no' ↦ filter_cons_false p x xs no' ∙ rest ∙ sym (filter_cons_false q x xs (sym here ∙ no'))
    ]

-- a filter of a filter
pub filter_filter : {X : Type 0} (p q : X → Bool) (xs : List X) → filter p (filter q xs) ≡ filter (λ x. p x && q x) xs
filter_filter p q [] = refl
filter_filter {X = X} p q (x ∷ xs) =
    let both : X → Bool = λ y. p y && q y in
    elim (cases_Bool (q x)) [
      | inl kept ↦ ap (filter p) (filter_cons_true q x xs kept)
          ∙ elim (cases_Bool (p x)) [
            | inl yes' ↦ filter_cons_true p x (filter q xs) yes' ∙ ap (λ ys. x ∷ ys) (filter_filter p q xs)
                ∙ sym (filter_cons_true both x xs (and_from (p x) (q x) yes' kept))
            | inr no' ↦ filter_cons_false p x (filter q xs) no' ∙ filter_filter p q xs
                ∙ sym (filter_cons_false both x xs (and_left (p x) (q x) no'))
          ]
      | inr dropped ↦ ap (filter p) (filter_cons_false q x xs dropped) ∙ filter_filter p q xs
          ∙ sym (filter_cons_false both x xs (and_right (p x) (q x) dropped))
    ]

pub among_filter : {X : Type 0} (test : X → Bool) (xs : List X) (x : X) → Among x xs → test x ≡ true → Among x (filter test xs)
among_filter test [] x there passes = absurd there
among_filter test (y ∷ xs) x (inl is) passes =
    subst (Among x) (sym (filter_cons_true test y xs (ap test (sym is) ∙ passes))) (inl is)
among_filter test (y ∷ xs) x (inr there) passes =
    elim (cases_Bool (test y)) [
      | inl kept ↦ subst (Among x) (sym (filter_cons_true test y xs kept)) (inr (among_filter test xs x there passes))
      | inr dropped ↦ subst (Among x) (sym (filter_cons_false test y xs dropped)) (among_filter test xs x there passes)
    ]

pub EachPair-filter : {X : Type 0} (R : X → X → Type 0) (test : X → Bool) (xs : List X) → EachPair R xs → EachPair R (filter test xs)
EachPair-filter R test [] pairs = tt
EachPair-filter R test (x ∷ xs) pairs =
    cond_both (test x) (x ∷ filter test xs) (filter test xs) (EachPair R)
    (λ _. (Each-filter (R x) test xs pairs.0, EachPair-filter R test xs pairs.1)) (λ _. EachPair-filter R test xs pairs.1)

pub Each-map : {X Y : Type 0} (P : Y → Type 0) (f : X → Y) (xs : List X) → Each (λ x. P (f x)) xs → Each P (map f xs)
Each-map P f [] all = tt
Each-map P f (x ∷ xs) all = (all.0, Each-map P f xs all.1)

pub EachPair-map : {X Y : Type 0} (R : Y → Y → Type 0) (f : X → Y) (xs : List X) → EachPair (λ a b. R (f a) (f b)) xs → EachPair R (map f xs)
EachPair-map R f [] pairs = tt
EachPair-map R f (x ∷ xs) pairs = (Each-map (R (f x)) f xs pairs.0, EachPair-map R f xs pairs.1)

pub Each-of : {X : Type 0} (P : X → Type 0) (xs : List X) → ((x : X) → Among x xs → P x) → Each P xs
Each-of P [] holds = tt
Each-of P (x ∷ xs) holds = (holds x (inl refl), Each-of P xs (λ y there. holds y (inr there)))

pub Each-first : {X : Type 0} (P : X → Type 0) (xs ys : List X) → Each P (xs ++ ys) → Each P xs
Each-first P [] ys all = tt
Each-first P (x ∷ xs) ys all = (all.0, Each-first P xs ys all.1)

pub EachPair-first : {X : Type 0} (R : X → X → Type 0) (xs ys : List X) → EachPair R (xs ++ ys) → EachPair R xs
EachPair-first R [] ys pairs = tt
EachPair-first R (x ∷ xs) ys pairs = (Each-first (R x) xs ys pairs.0, EachPair-first R xs ys pairs.1)

pub Each-both : {X : Type 0} (P Q R : X → Type 0) → ((x : X) → P x → Q x → R x) → (xs : List X) → Each P xs → Each Q xs → Each R xs
Each-both P Q R makes [] ps qs = tt
Each-both P Q R makes (x ∷ xs) ps qs = (makes x ps.0 qs.0, Each-both P Q R makes xs ps.1 qs.1)
