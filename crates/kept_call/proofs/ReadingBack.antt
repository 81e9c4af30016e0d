-- The blocks that a call appends are read back.
use Rattle.std.proofs.Common.{ℕ, zero, suc, ◌≡◌, ◌-◌, List, [], ◌∷◌, ◌++◌, length, map, take, drop, Ok, refl, ap, sym, ◌∙◌, subst, arith, inl, inr, append_assoc}
use Rattle.std.proofs.lemmas.Bool.{cases_lt}
use Rattle.std.proofs.lemmas.List.{length-map, map-append, take-map, take-append-drop}
use Rattle.std.proofs.lemmas.Grind.{flat_map-append}
use Rattle.fx_rules.specs.Lists.{Each}
use Rattle.fx_rules.specs.Session.{Header}
use Rattle.fx_rules.specs.State.{State, opening}
use Rattle.fx_rules.specs.History.{IsLegal, Steps, after_entry}
use Rattle.fx_rules.specs.Sending.{sent_by}
use Rattle.fx_rules.specs.declared.outcome.Entry.{Entry}
use Rattle.keep_disk.specs.Rounds.{bodies_of}
use Rattle.keep_disk.specs.declared.rounds.Round.{Round}
use Rattle.kept_history.specs.Blocks.{kept_in}
use Rattle.kept_history.specs.Found.{most_commands, IsWhole}
use Rattle.kept_history.proofs.Histories.{whole_by}
use Rattle.kept_history.proofs.Written.{AreCommands, kept_more, kept_first}
use Rattle.kept_call.specs.KeptRounds.{block_of, entries_of, AreRoundsOf}
use Rattle.kept_call.proofs.Commands.{commands-of}
use Rattle.session_head.specs.HeadText.{head_text_of}
use Rattle.kept_call.specs.Found.{IsReadBack}

-- Beginnings of a legal history

steps-front : (h : Header) (S : State) (xs ys : List Entry) → Steps h S (xs ++ ys) → Steps h S xs
steps-front h S [] ys steps = tt
steps-front h S (e ∷ xs) ys steps = (steps.0, steps-front h (after_entry S e) xs ys steps.1)

legal-front : (h : Header) (xs ys : List Entry) → IsLegal h (xs ++ ys) → IsLegal h xs
legal-front h xs ys legal = record { session = legal.session; steps = steps-front h (opening h) xs ys legal.steps }

-- the entries of the first rounds, and of those behind
parted : (count : ℕ) (parts : List (List Entry)) → entries_of parts ≡ entries_of (take count parts) ++ entries_of (drop count parts)
parted count parts =
    ap entries_of (sym (take-append-drop count parts)) ∙ flat_map-append (λ (part : List Entry). part) (take count parts) (drop count parts)

legal-rounds : (h : Header) (kept : List Entry) (parts : List (List Entry)) (count : ℕ) → IsLegal h (kept ++ entries_of parts) → IsLegal h (kept ++ entries_of (take count parts))
legal-rounds h kept parts count legal =
    legal-front h (kept ++ entries_of (take count parts)) (entries_of (drop count parts))
    (subst (IsLegal h) (ap (λ (es : List Entry). kept ++ es) (parted count parts) ∙ sym (append_assoc kept (entries_of (take count parts)) (entries_of (drop count parts)))) legal)

each-split : {X : Type 0} (P : X → Type 0) (xs ys : List X) → Each P (xs ++ ys) → Each P xs × Each P ys
each-split P [] ys all = (tt, all)
each-split P (x ∷ xs) ys all = let rest = each-split P xs ys all.1 in ((all.0, rest.0), rest.1)

each-part : (h : Header) (parts : List (List Entry)) → AreCommands h (entries_of parts) → Each (AreCommands h) parts
each-part h [] all = tt
each-part h (part ∷ parts) all = let rest = each-split _ part (entries_of parts) all in (rest.0, each-part h parts rest.1)

-- Blocks

-- blocks that hold the commands of a legal history
found-so : (blocks : List (List ℕ)) (h : Header) (entries : List Entry) → IsLegal h entries → kept_in blocks ≡ Ok (record { session = h; commands = map sent_by entries }) → IsReadBack h entries blocks
found-so blocks h entries legal holds = elim (cases_lt most_commands (length entries)) [
  | inl many ↦ inr (inr (record {
    kept = record { session = h; commands = map sent_by entries };
    holds = holds;
    told = sym (length-map entries sent_by);
    many = omega (arith, many, length-map entries sent_by);
  }))
  | inr few ↦ inr (inl (whole_by blocks h (map sent_by entries) entries entries refl holds legal refl (omega (arith, few, length-map entries sent_by))))
]

-- the first blocks behind a kept history's
behind-read : (h : Header) (kept : List Entry) (parts : List (List Entry)) (start blocks : List (List ℕ)) (count : ℕ) → IsLegal h (kept ++ entries_of parts) → IsWhole start h kept → blocks ≡ start ++ map (block_of h) (take count parts)
    → IsReadBack h (kept ++ entries_of (take count parts)) blocks
behind-read h kept parts start blocks count legal whole are =
    let now = legal-rounds h kept parts count legal in
    found-so blocks h (kept ++ entries_of (take count parts)) now
    (ap kept_in are
    ∙ kept_more h start (map sent_by kept) (take count parts) now.session (each-part h (take count parts) (commands-of h kept (entries_of (take count parts)) now)) whole.holds
    ∙ ap (λ sent. Ok (record { session = h; commands = sent })) (sym (map-append sent_by kept (entries_of (take count parts)))))

no_fewer : (count : ℕ) → count ≡ count - 0
no_fewer count = omega arith

pub read_back-behind : (h : Header) (kept : List Entry) (parts : List (List Entry)) (rounds : List Round) (start image : List (List ℕ)) (count : ℕ) → IsLegal h (kept ++ entries_of parts) → AreRoundsOf h kept [] parts rounds → IsWhole start h kept
    → image ≡ start ++ take count (bodies_of rounds) → IsReadBack h (kept ++ entries_of (take (count - 0) parts)) image
read_back-behind h kept parts rounds start image count legal are whole is =
    subst (λ (n : ℕ). IsReadBack h (kept ++ entries_of (take n parts)) image) (no_fewer count)
    (behind-read h kept parts start image count legal whole (is ∙ ap (λ (bs : List (List ℕ)). start ++ bs) (ap (take count) are.blocks ∙ take-map (block_of h) count parts)))

-- the first blocks of a new session's
one_fewer : (count : ℕ) → count ≡ suc count - 1
one_fewer count = omega arith

new-read : (h : Header) (parts : List (List Entry)) (image : List (List ℕ)) (count : ℕ) → IsLegal h (entries_of parts) → image ≡ take count (head_text_of h ∷ map (block_of h) parts) → IsReadBack h (entries_of (take (count - 1) parts)) image
new-read h parts image zero legal is = inl is
new-read h parts image (suc count) legal is =
    let now = legal-rounds h [] parts count legal in
    subst (λ (n : ℕ). IsReadBack h (entries_of (take n parts)) image) (one_fewer count)
    (found-so image h (entries_of (take count parts)) now
    (ap kept_in (is ∙ ap (λ (bs : List (List ℕ)). head_text_of h ∷ bs) (take-map (block_of h) count parts))
    ∙ kept_first h (take count parts) now.session (each-part h (take count parts) (commands-of h [] (entries_of (take count parts)) now))))

pub read_back-new : (h : Header) (parts : List (List Entry)) (rounds : List Round) (start image : List (List ℕ)) (count : ℕ) → IsLegal h (entries_of parts) → AreRoundsOf h [] (head_text_of h ∷ []) parts rounds → start ≡ []
    → image ≡ start ++ take count (bodies_of rounds) → IsReadBack h (entries_of (take (count - 1) parts)) image
read_back-new h parts rounds start image count legal are none is =
    new-read h parts image count legal (is ∙ ap (λ (bs : List (List ℕ)). bs ++ take count (bodies_of rounds)) none ∙ ap (take count) are.blocks)
