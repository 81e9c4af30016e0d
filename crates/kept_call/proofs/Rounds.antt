-- Rounds that are kept, one behind the other.
use Rattle.std.proofs.Common.{ℕ, zero, suc, ◌≡◌, ◌+◌, ◌-◌, List, [], ◌∷◌, ◌++◌, length, map, take, refl, ap, sym, ◌∙◌, arith, inl, inr, append_assoc, append-nil, length-append, take_all}
use Rattle.std.proofs.lemmas.Bool.{cases_lt}
use Rattle.std.proofs.lemmas.List.{take-append-le, map-append, length-map}
use Rattle.std.proofs.lemmas.Grind.{flat_map-append}
use Rattle.fx_rules.specs.declared.outcome.Entry.{Entry}
use Rattle.fx_rules.specs.Session.{Header}
use Rattle.reply_lines.specs.Telling.{told_text}
use Rattle.reply_lines.proofs.ToldTexts.{told_text-nil, told_text-append}
use Rattle.keep_disk.specs.declared.rounds.Round.{Round}
use Rattle.keep_disk.specs.Rounds.{text_of}
use Rattle.kept_call.specs.KeptRounds.{block_of, entries_of, AreRoundsOf}

pub entries-more : (parts : List (List Entry)) (part : List Entry) → entries_of (parts ++ part ∷ []) ≡ entries_of parts ++ part
entries-more parts part = flat_map-append (λ (p : List Entry). p) parts (part ∷ []) ∙ ap (λ (es : List Entry). entries_of parts ++ es) (append-nil part)

-- of no entries nothing is told
told-none : (h : Header) (kept : List Entry) (count : ℕ) → told_text h kept (entries_of (take count [])) ≡ []
told-none h kept count = ap (λ (ps : List (List Entry)). told_text h kept (entries_of ps)) (take_all count [] (omega arith)) ∙ told_text-nil h kept

pub rounds-none : (h : Header) (kept : List Entry) → AreRoundsOf h kept [] [] []
rounds-none h kept = record {
  blocks = refl;
  texts = λ count. ap text_of (take_all count [] (omega arith)) ∙ sym (told-none h kept (count - 0));
}

silent : (round : Round) → round.text.items ≡ [] → (count : ℕ) → text_of (take count (round ∷ [])) ≡ []
silent round none zero = refl
silent round none (suc count) = ap (λ (t : List ℕ). t ++ text_of (take count [])) none ∙ ap text_of (take_all count [] (omega arith))

-- the header alone
pub rounds-head : (h : Header) (kept : List Entry) (head : List ℕ) (round : Round) → round.body.items ≡ head → round.text.items ≡ [] → AreRoundsOf h kept (head ∷ []) [] (round ∷ [])
rounds-head h kept head round is none = record {
  blocks = ap (λ (b : List ℕ). b ∷ []) is;
  texts = λ count. silent round none count ∙ sym (told-none h kept (count - 1));
}

-- as many rounds as blocks
rounds-many : (h : Header) (kept : List Entry) (front : List (List ℕ)) (parts : List (List Entry)) (rounds : List Round) → AreRoundsOf h kept front parts rounds → length rounds ≡ length front + length parts
rounds-many h kept front parts rounds are =
    omega (arith, length-map rounds (λ (r : Round). r.body.items), ap (λ (bs : List (List ℕ)). length bs) are.blocks, length-append front (map (block_of h) parts), length-map parts (block_of h))

-- one round more
pub rounds-more : (h : Header) (kept : List Entry) (front : List (List ℕ)) (parts : List (List Entry)) (rounds : List Round) (part : List Entry) (round : Round) → AreRoundsOf h kept front parts rounds
    → round.body.items ≡ block_of h part → round.text.items ≡ told_text h (kept ++ entries_of parts) part → AreRoundsOf h kept front (parts ++ part ∷ []) (rounds ++ round ∷ [])
rounds-more h kept front parts rounds part round are body text =
    let many : length rounds ≡ length front + length parts = rounds-many h kept front parts rounds are in
    let f : ℕ = length front in
    record {
      blocks =
          map-append (λ (r : Round). r.body.items) rounds (round ∷ [])
          ∙ ap (λ (bs : List (List ℕ)). bs ++ round.body.items ∷ []) are.blocks
          ∙ append_assoc front (map (block_of h) parts) (round.body.items ∷ [])
          ∙ ap (λ (b : List ℕ). front ++ (map (block_of h) parts ++ b ∷ [])) body
          ∙ ap (λ (bs : List (List ℕ)). front ++ bs) (sym (map-append (block_of h) parts (part ∷ [])));
      texts = λ count.
          elim (cases_lt (length rounds) count) [
            | inl beyond ↦
                ap text_of (take_all count (rounds ++ round ∷ []) (omega (arith, beyond, length-append rounds (round ∷ []))))
                ∙ flat_map-append (λ (r : Round). r.text.items) rounds (round ∷ [])
                ∙ ap (λ (t : List ℕ). text_of rounds ++ t) (append-nil round.text.items ∙ text)
                ∙ ap (λ (t : List ℕ). t ++ told_text h (kept ++ entries_of parts) part)
                (ap text_of (sym (take_all (length rounds) rounds (omega arith)))
                ∙ are.texts (length rounds)
                ∙ ap (λ (ps : List (List Entry)). told_text h kept (entries_of ps)) (take_all (length rounds - f) parts (omega (arith, many))))
                ∙ sym (told_text-append h kept (entries_of parts) part)
                ∙ ap (told_text h kept) (sym (entries-more parts part))
                ∙ ap (λ (ps : List (List Entry)). told_text h kept (entries_of ps)) (sym (take_all (count - f) (parts ++ part ∷ []) (omega (arith, beyond, many, length-append parts (part ∷ [])))))
            | inr within ↦
                ap text_of (take-append-le count rounds (round ∷ []) within)
                ∙ are.texts count
                ∙ ap (λ (ps : List (List Entry)). told_text h kept (entries_of ps)) (sym (take-append-le (count - f) parts (part ∷ []) (omega (arith, within, many))))
          ];
    }
