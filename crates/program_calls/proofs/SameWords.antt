-- Two lists of words, compared place by place.
use Rattle.std.proofs.Common.{ℕ, ◌≡◌, ◌≤◌, ◌<◌, ◌+◌, List, [], ◌∷◌, ◌++◌, map, length, take, get_or, ap, ap₂, sym, ◌∙◌, refl, Bool, true, false, not, true≢false}
use Rattle.std.proofs.lemmas.List.{take_more, take_all, map_push, get_or-map, get_or_default}
use Rattle.std.proofs.lemmas.Slice.Eq.{bytes_eq-Decides}
use Rattle.std.specs.Str.{bytes_eq}

-- what two lists have at a place
pub same_at : {A B C : Type 0} (f : A → C) (g : B → C) (xs : List A) (ys : List B) (i : ℕ) (x : A) (y : B) → i < length xs → i < length ys → x ≡ get_or xs i x → y ≡ get_or ys i y
    → map f xs ≡ map g ys → f x ≡ g y
same_at f g xs ys i x y within there is_x is_y same =
    ap f is_x ∙ sym (get_or-map f xs i x (f x) within) ∙ ap (λ zs. get_or zs i (f x)) same ∙ get_or-map g ys i y (f x) there ∙ sym (ap g is_y)

front_more : {A C : Type 0} (f : A → C) (xs : List A) (i : ℕ) (x : A) → i < length xs → x ≡ get_or xs i x → map f (take (i + 1) xs) ≡ map f (take i xs) ++ f x ∷ []
front_more f xs i x within is =
    ap (map f) (take_more xs i x within) ∙ ap (λ z. map f (take i xs ++ z ∷ [])) (sym is) ∙ map_push f (take i xs) x

-- one place more
pub more_same : {A B C : Type 0} (f : A → C) (g : B → C) (xs : List A) (ys : List B) (i : ℕ) (x : A) (y : B) → i < length xs → i < length ys → x ≡ get_or xs i x → y ≡ get_or ys i y
    → map f (take i xs) ≡ map g (take i ys) → f x ≡ g y → map f (take (i + 1) xs) ≡ map g (take (i + 1) ys)
more_same f g xs ys i x y within there is_x is_y so_far same =
    front_more f xs i x within is_x ∙ ap₂ (λ zs z. zs ++ z ∷ []) so_far same ∙ sym (front_more g ys i y there is_y)

-- at the end of both
pub all_same : {A B C : Type 0} (f : A → C) (g : B → C) (xs : List A) (ys : List B) (n : ℕ) → length xs ≤ n → length ys ≤ n → map f (take n xs) ≡ map g (take n ys) → map f xs ≡ map g ys
all_same f g xs ys n all_xs all_ys same = ap (map f) (sym (take_all n xs all_xs)) ∙ same ∙ ap (map g) (take_all n ys all_ys)

-- the same of a list that is read with another default, as the code reads it

pub more_read : {A B C : Type 0} (f : A → C) (g : B → C) (xs : List A) (ys : List B) (i : ℕ) (x : A) (d : B) → i < length xs → i < length ys → x ≡ get_or xs i x
    → map f (take i xs) ≡ map g (take i ys) → f x ≡ g (get_or ys i d) → map f (take (i + 1) xs) ≡ map g (take (i + 1) ys)
more_read f g xs ys i x d within there is so_far same =
    more_same f g xs ys i x (get_or ys i d) within there is (get_or_default ys i d (get_or ys i d) there) so_far same

pub read_at : {A B C : Type 0} (f : A → C) (g : B → C) (xs : List A) (ys : List B) (i : ℕ) (x : A) (d : B) → i < length xs → i < length ys → x ≡ get_or xs i x
    → map f xs ≡ map g ys → f x ≡ g (get_or ys i d)
read_at f g xs ys i x d within there is same = same_at f g xs ys i x (get_or ys i d) within there is (get_or_default ys i d (get_or ys i d) there) same

-- what a test of two texts says
pub texts_differ : (a b : List ℕ) (differ : Bool) → differ ≡ not (bytes_eq a b) → differ ≡ true → a ≡ b → ⊥
texts_differ a b differ is they_do same = true≢false (sym they_do ∙ is ∙ ap not ((bytes_eq-Decides a b).1 same))

pub texts_agree : (a b : List ℕ) (differ : Bool) → differ ≡ not (bytes_eq a b) → differ ≡ false → a ≡ b
texts_agree a b differ is they_do_not = (bytes_eq-Decides a b).0 (sym (ap not (sym they_do_not ∙ is) ∙ not_not (bytes_eq a b)))
  where
    not_not : (t : Bool) → not (not t) ≡ t
    not_not true = refl
    not_not false = refl
