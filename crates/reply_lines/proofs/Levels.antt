-- The fields of levels, one level after another.
use Rattle.std.proofs.Common.{ℕ, ◌≡◌, ◌+◌, ◌<◌, List, [], ◌∷◌, ◌++◌, ap, sym, ◌∙◌, codes, length, take, get_or, append_assoc, append-nil}
use Rattle.std.proofs.lemmas.List.{take_more}
use Rattle.std.proofs.lemmas.List.Concat.{flat_map-append}
use Rattle.fx_amounts.specs.Numeral.{numeral}
use Rattle.fx_amounts.specs.PriceText.{price_text}
use Rattle.fx_rules.specs.declared.orders.Level.{Level}
use Rattle.fx_text.specs.Fields.{fields_text}
use Rattle.reply_lines.specs.Notices.{level_fields}
use Rattle.reply_lines.proofs.WrittenLines.{field_written, fields_written, first_written}

-- the price and the lots of a level
abbrev fields_of_level : ℕ → Level → List (List ℕ)
fields_of_level decimals level = price_text decimals level.price ∷ numeral level.lots ∷ []

-- the levels so far, and one more
fields_more : (decimals : ℕ) (levels : List Level) (i : ℕ) (level : Level) → i < length levels → level ≡ get_or levels i level → level_fields decimals (take (i + 1) levels) ≡ level_fields decimals (take i levels) ++ fields_of_level decimals level
fields_more decimals levels i level within is =
    ap (level_fields decimals) (take_more levels i level within)
    ∙ flat_map-append (fields_of_level decimals) (take i levels) (get_or levels i level ∷ [])
    ∙ ap (λ more. level_fields decimals (take i levels) ++ more) (append-nil (fields_of_level decimals (get_or levels i level)) ∙ ap (fields_of_level decimals) (sym is))

-- a price and lots are written behind the levels so far
pub level_written : (decimals : ℕ) (before : List ℕ) (levels : List Level) (i : ℕ) (level : Level) (one two three : List ℕ) → i < length levels → level ≡ get_or levels i level → one ≡ before ++ fields_text (level_fields decimals (take i levels))
    → two ≡ one ++ 32 ∷ price_text decimals level.price → three ≡ two ++ 32 ∷ numeral level.lots → three ≡ before ++ fields_text (level_fields decimals (take (i + 1) levels))
level_written decimals before levels i level one two three within is so_far priced counted =
    let front : List (List ℕ) = level_fields decimals (take i levels) in
    fields_written before one three front (fields_of_level decimals level) so_far
    (field_written one two three (price_text decimals level.price ∷ []) (numeral level.lots) (first_written one two (price_text decimals level.price) priced) counted)
    ∙ ap (λ fields. before ++ fields_text fields) (sym (fields_more decimals levels i level within is))

-- a pair, and the levels of two sides behind their words
pub book_written : (before one two three four five pair : List ℕ) (bids asks : List (List ℕ)) → one ≡ before ++ 32 ∷ pair → two ≡ one ++ 32 ∷ codes "BIDS" → three ≡ two ++ fields_text bids → four ≡ three ++ 32 ∷ codes "ASKS" → five ≡ four ++ fields_text asks
    → five ≡ before ++ fields_text (pair ∷ codes "BIDS" ∷ bids ++ codes "ASKS" ∷ asks)
book_written before one two three four five pair bids asks is1 is2 is3 is4 is5 =
    let head : List (List ℕ) = pair ∷ codes "BIDS" ∷ bids in
    let named : two ≡ before ++ fields_text (pair ∷ codes "BIDS" ∷ []) = field_written before one two (pair ∷ []) (codes "BIDS") (first_written before one pair is1) is2 in
    let shown : three ≡ before ++ fields_text head = fields_written before two three (pair ∷ codes "BIDS" ∷ []) bids named is3 in
    fields_written before four five (head ++ codes "ASKS" ∷ []) asks (field_written before three four head (codes "ASKS") shown is4) is5
    ∙ ap (λ fields. before ++ fields_text fields) (append_assoc head (codes "ASKS" ∷ []) asks)
