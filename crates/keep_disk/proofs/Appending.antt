-- What a crash leaves in each of the two writes of an append.
use Rattle.std.proofs.Common.{◌≡◌, inl, inr, ℕ, ◌+◌, ◌-◌, ◌^◌, ◌<◌, List, [], ◌∷◌, ◌++◌, length, take, drop, get_or, sym, ◌∙◌, ap, arith, append_assoc, append-nil, length-append, length-drop, w64, take_at}
use Rattle.std.specs.Int.{to_be_bytes}
use Rattle.std.proofs.lemmas.List.{drop_at, drop_more, length-take, get_or-take, get_or-drop, get_or-append_right}
use Rattle.std.proofs.lemmas.Bool.{cases_eq}
use Rattle.fx_disk.specs.Disk.{with_piece, Torn}
use Rattle.keep_disk.specs.Blocks.{blocks_from, whole_blocks, space, IsClosedAt, HasOrLacks}
use Rattle.keep_disk.proofs.Reading.{take_shorter, space-append, blocks_closed, blocks_behind, framed, framed_long, blocks_framed, length-to_be}

module _ (file : List ℕ) (place : ℕ) (shut : IsClosedAt file place) where
  -- an image with the file's blocks, and a gate behind them
  same_front : (image : List ℕ) → take place image ≡ take place file → place < length image → whole_blocks image ≡ whole_blocks file ++ blocks_from 0 (get_or image place 0 ∷ drop (place + 1) image)
  same_front image front within =
      blocks_behind 0 file image place (omega (arith, shut.behind)) within front
      ∙ ap (λ (l : List ℕ). whole_blocks file ++ blocks_from 0 l) (drop_more image place 0 within)

  -- behind a gate that stays closed nothing counts
  pub staged_same : (image : List ℕ) → take (place + 1) image ≡ take (place + 1) file → place < length image → whole_blocks image ≡ whole_blocks file
  staged_same image front within =
      let gate : get_or image place 0 ≡ get_or file place 0 =
      sym (get_or-take (place + 1) image place 0 (omega arith)) ∙ ap (λ (l : List ℕ). get_or l place 0) front ∙ get_or-take (place + 1) file place 0 (omega arith) in
      same_front image (take_shorter place (place + 1) image file (omega arith) front) within
      ∙ ap (λ (bs : List (List ℕ)). whole_blocks file ++ bs) (blocks_closed _ _ (λ one. shut.closed (sym gate ∙ one)))
      ∙ append-nil (whole_blocks file)

  pub staged_torn : (n : ℕ) (image : List ℕ) → Torn (place + 1) n file image → whole_blocks image ≡ whole_blocks file
  staged_torn n image torn = staged_same image torn.front (omega (arith, torn.no_shorter, shut.within))

  module _ (body : List ℕ) (fits : length body < 2 ^ 64) where
    abbrev piece : List ℕ
    piece = to_be_bytes w64 (length body) ++ body ++ 0 ∷ []

    abbrev junk : List ℕ
    junk = drop (place + 1 + length piece) file

    -- the file once the block stands behind the closed gate
    abbrev pub staged : List ℕ
    staged = with_piece (place + 1) piece file

    front_long : length (take (place + 1) file) ≡ place + 1
    front_long = length-take (place + 1) file ∙ omega (arith, shut.within)

    staged_split : staged ≡ take (place + 1) file ++ (piece ++ junk)
    staged_split = append_assoc (take (place + 1) file) piece junk

    staged_front : take (place + 1) staged ≡ take (place + 1) file
    staged_front = ap (λ (l : List ℕ). take (place + 1) l) staged_split ∙ take_at (take (place + 1) file) (piece ++ junk) (place + 1) front_long

    staged_back : drop (place + 1) staged ≡ framed body junk fits
    staged_back =
        ap (λ (l : List ℕ). drop (place + 1) l) staged_split
        ∙ drop_at (take (place + 1) file) (piece ++ junk) (place + 1) front_long
        ∙ append_assoc (to_be_bytes w64 (length body) ++ body) (0 ∷ []) junk

    pub staged_long : place < length staged
    staged_long = omega (arith, ap length staged_split, length-append (take (place + 1) file) (piece ++ junk), front_long)

    -- the block stands whole in each image of the second write, and counts where its gate says 1
    pub gate_blocks : (image : List ℕ) → Torn place 1 staged image → whole_blocks image ≡ whole_blocks file ++ blocks_from 0 (get_or image place 0 ∷ framed body junk fits)
    gate_blocks image torn =
        same_front image (torn.front ∙ take_shorter place (place + 1) staged file (omega arith) staged_front) (omega (arith, torn.no_shorter, staged_long))
        ∙ ap (λ (l : List ℕ). whole_blocks file ++ blocks_from 0 (get_or image place 0 ∷ l)) (torn.behind ∙ staged_back)

    pub gate_torn : (image : List ℕ) → Torn place 1 staged image → HasOrLacks (whole_blocks file) body image
    gate_torn image torn = elim (cases_eq (get_or image place 0) 1) [
      | inl one ↦ inr (gate_blocks image torn ∙ ap (λ (bs : List (List ℕ)). whole_blocks file ++ bs) (blocks_framed body junk fits _ one))
      | inr other ↦ inl (gate_blocks image torn ∙ ap (λ (bs : List (List ℕ)). whole_blocks file ++ bs) (blocks_closed _ _ other) ∙ append-nil (whole_blocks file))
    ]

    -- the file once its gate is open
    abbrev pub opened : List ℕ
    opened = with_piece place (1 ∷ []) staged

    gate_long : length (take place staged) ≡ place
    gate_long = length-take place staged ∙ omega (arith, staged_long)

    opened_split : opened ≡ take place staged ++ (1 ∷ drop (place + 1) staged)
    opened_split = append_assoc (take place staged) (1 ∷ []) (drop (place + 1) staged)

    opened_front : take place opened ≡ take place staged
    opened_front = ap (λ (l : List ℕ). take place l) opened_split ∙ take_at (take place staged) (1 ∷ drop (place + 1) staged) place gate_long

    opened_rest : drop place opened ≡ 1 ∷ drop (place + 1) staged
    opened_rest = ap (λ (l : List ℕ). drop place l) opened_split ∙ drop_at (take place staged) (1 ∷ drop (place + 1) staged) place gate_long

    opened_long : length opened ≡ length staged
    opened_long = ap length opened_split ∙ length-append (take place staged) (1 ∷ drop (place + 1) staged) ∙ omega (arith, gate_long, length-drop (place + 1) staged, staged_long)

    opened_gate : get_or opened place 0 ≡ 1
    opened_gate =
        let e : place + 0 ≡ place = omega arith in
        ap (λ (i : ℕ). get_or opened i 0) (sym e) ∙ sym (get_or-drop place opened 0 0) ∙ ap (λ (l : List ℕ). get_or l 0 0) opened_rest

    opened_back : drop (place + 1) opened ≡ drop (place + 1) staged
    opened_back =
        let shape = drop_more opened place 0 (omega (arith, opened_long, staged_long)) in
        ap (λ (l : List ℕ). drop 1 l) (sym shape ∙ opened_rest)

    pub opened_torn : Torn place 1 staged opened
    opened_torn = record { front = opened_front; behind = opened_back; no_shorter = omega (arith, opened_long); no_longer = omega (arith, opened_long) }

    pub opened_blocks : whole_blocks opened ≡ whole_blocks file ++ body ∷ []
    opened_blocks = gate_blocks opened opened_torn ∙ ap (λ (bs : List (List ℕ)). whole_blocks file ++ bs) (blocks_framed body junk fits _ opened_gate)

    body_long : length (to_be_bytes w64 (length body) ++ body) ≡ 8 + length body
    body_long = length-append (to_be_bytes w64 (length body)) body ∙ omega (arith, length-to_be (length body))

    opened_end : get_or opened (place + 9 + length body) 0 ≡ 0
    opened_end =
        let e : place + 1 + (8 + length body) ≡ place + 9 + length body = omega arith in
        ap (λ (i : ℕ). get_or opened i 0) (sym e)
        ∙ sym (get_or-drop (place + 1) opened (8 + length body) 0)
        ∙ ap (λ (l : List ℕ). get_or l (8 + length body) 0) (opened_back ∙ staged_back)
        ∙ get_or-append_right (to_be_bytes w64 (length body) ++ body) (0 ∷ junk) (8 + length body) (8 + length body) 0 body_long (omega arith)
        ∙ (let none : 8 + length body - (8 + length body) ≡ 0 = omega arith in ap (λ (i : ℕ). get_or (0 ∷ junk) i 0) none)

    pub opened_closed : IsClosedAt opened (place + 9 + length body)
    opened_closed = record {
      behind =
          let sum = ap space opened_blocks ∙ space-append (whole_blocks file) (body ∷ []) in
          omega (arith, sum, shut.behind);
      within = omega (arith, ap length (opened_back ∙ staged_back), length-drop (place + 1) opened, framed_long body junk fits);
      closed = λ one. absurd (omega (arith, one, opened_end));
    }
