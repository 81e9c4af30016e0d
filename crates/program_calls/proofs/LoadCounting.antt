-- The counts of a line, one after another.
use Rattle.std.proofs.Common.{ℕ, ◌≡◌, ◌+◌, ◌<◌, List, [], ◌∷◌, ◌++◌, ap, sym, ◌∙◌, length, map, take, get_or}
use Rattle.std.proofs.lemmas.List.{take_more, map_push, flat_map_more}
use Rattle.fx_amounts.specs.Numeral.{numeral}
use Rattle.fx_text.specs.Fields.{fields_text}

-- one more
pub counts_more : (before counts : List ℕ) (i d : ℕ) → i < length counts → before ++ fields_text (map numeral (take (i + 1) counts)) ≡ (before ++ fields_text (map numeral (take i counts))) ++ 32 ∷ numeral (get_or counts i d)
counts_more before counts i d within =
    let front : map numeral (take (i + 1) counts) ≡ map numeral (take i counts) ++ numeral (get_or counts i d) ∷ [] =
    ap (map numeral) (take_more counts i d within) ∙ map_push numeral (take i counts) (get_or counts i d) in
    ap (λ fields. before ++ fields_text fields) front
    ∙ sym (flat_map_more (λ (field : List ℕ). 32 ∷ field) before (map numeral (take i counts)) (numeral (get_or counts i d)))
