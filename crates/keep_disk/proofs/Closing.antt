-- What a crash leaves while a file is closed behind its whole blocks.
use Rattle.std.proofs.Common.{◌≡◌, inl, inr, ℕ, ◌+◌, ◌-◌, ◌<◌, ◌≤◌, List, [], ◌∷◌, ◌++◌, length, take, drop, get_or, sym, ◌∙◌, ap, subst, arith, append_assoc, append-nil, length-append, length-drop, take_at, take_all}
use Rattle.std.proofs.lemmas.List.{drop_at, drop_more, drop_all, length-take, get_or-drop}
use Rattle.std.proofs.lemmas.Bool.{cases_eq, cases_lt}
use Rattle.fx_disk.specs.Disk.{with_piece, Torn, Only}
use Rattle.keep_disk.specs.Blocks.{blocks_from, whole_blocks, space, IsClosedAt}
use Rattle.keep_disk.specs.inside.Keeping.{TornFrom}
use Rattle.keep_disk.proofs.Reading.{blocks_closed, blocks_short, blocks_behind}

module _ (file : List ℕ) (place : ℕ) (behind : place ≡ space (whole_blocks file)) (le : place ≤ length file) (end : blocks_from 0 (drop place file) ≡ []) where
  module _ (gaping : place < length file → get_or file place 0 ≡ 1) where
    -- whatever gate stands before the rest, it opens none
    nothing_opens : (gate : ℕ) → blocks_from 0 (gate ∷ drop (place + 1) file) ≡ []
    nothing_opens gate = elim (cases_eq gate 1) [
      | inr other ↦ blocks_closed gate _ other
      | inl one ↦ elim (cases_lt place (length file)) [
        | inl within ↦
            ap (λ (g : ℕ). blocks_from 0 (g ∷ drop (place + 1) file)) (one ∙ sym (gaping within))
            ∙ ap (λ (l : List ℕ). blocks_from 0 l) (sym (drop_more file place 0 within))
            ∙ end
        | inr past ↦
            let none : drop (place + 1) file ≡ [] = drop_all (place + 1) file (omega (arith, past)) in
            ap (λ (l : List ℕ). blocks_from 0 (gate ∷ l)) none ∙ blocks_short gate [] (omega arith)
      ]
    ]

    closing_within : (image : List ℕ) → Torn place 1 file image → place < length image → whole_blocks image ≡ whole_blocks file
    closing_within image torn within =
        blocks_behind 0 file image place (omega (arith, behind)) within torn.front
        ∙ ap (λ (l : List ℕ). whole_blocks file ++ blocks_from 0 l) (drop_more image place 0 within ∙ ap (λ (l : List ℕ). get_or image place 0 ∷ l) torn.behind)
        ∙ ap (λ (bs : List (List ℕ)). whole_blocks file ++ bs) (nothing_opens _)
        ∙ append-nil (whole_blocks file)

    pub closing_torn : (image : List ℕ) → Torn place 1 file image → whole_blocks image ≡ whole_blocks file
    closing_torn image torn = elim (cases_lt place (length image)) [
      | inl within ↦ closing_within image torn within
      | inr short ↦
          let same : image ≡ file = sym (take_all place image short) ∙ torn.front ∙ take_all place file (omega (arith, short, torn.no_shorter)) in
          ap whole_blocks same
    ]

    -- the file with its last gate closed
    abbrev pub closed : List ℕ
    closed = with_piece place (0 ∷ []) file

    front_long : length (take place file) ≡ place
    front_long = length-take place file ∙ omega (arith, le)

    closed_split : closed ≡ take place file ++ (0 ∷ drop (place + 1) file)
    closed_split = append_assoc (take place file) (0 ∷ []) (drop (place + 1) file)

    closed_rest : drop place closed ≡ 0 ∷ drop (place + 1) file
    closed_rest = ap (λ (l : List ℕ). drop place l) closed_split ∙ drop_at (take place file) (0 ∷ drop (place + 1) file) place front_long

    length-closed : length closed ≡ place + 1 + (length file - (place + 1))
    length-closed = ap length closed_split ∙ length-append (take place file) (0 ∷ drop (place + 1) file) ∙ omega (arith, front_long, length-drop (place + 1) file)

    closed_within : place < length closed
    closed_within = omega (arith, length-closed)

    closed_torn : Torn place 1 file closed
    closed_torn = record {
      front = ap (λ (l : List ℕ). take place l) closed_split ∙ take_at (take place file) (0 ∷ drop (place + 1) file) place front_long;
      behind = ap (λ (l : List ℕ). drop 1 l) (sym (drop_more closed place 0 closed_within) ∙ closed_rest);
      no_shorter = omega (arith, length-closed);
      no_longer = omega (arith, length-closed, le);
    }

    closed_gate : get_or closed place 0 ≡ 0
    closed_gate =
        let e : place + 0 ≡ place = omega arith in
        ap (λ (i : ℕ). get_or closed i 0) (sym e) ∙ sym (get_or-drop place closed 0 0) ∙ ap (λ (l : List ℕ). get_or l 0 0) closed_rest

    pub closed_blocks : whole_blocks closed ≡ whole_blocks file
    closed_blocks = closing_torn closed closed_torn

    pub closed_closed : IsClosedAt closed place
    closed_closed = record { behind = behind ∙ ap space (sym closed_blocks); within = closed_within; closed = λ one. absurd (omega (arith, one, closed_gate)) }

    pub closing : (images : List ℕ → Type 0) → Only file images → (image : List ℕ) → TornFrom place 1 images image → whole_blocks image ≡ whole_blocks file
    closing images only image from = closing_torn image (subst (λ (f : List ℕ). Torn place 1 f image) (only from.0 from.1) from.2)
