-- One write after another: what is appended is one text after the other, and a fault in the second leaves
-- the first text and a prefix of the second.
use Rattle.std.proofs.Common.{◌≡◌, ℕ, ◌+◌, ◌<◌, ◌≤◌, List, [], ◌++◌, length, take, drop, get_or, Option, None, Some, Result, Ok, Err, append_assoc, append-nil, take-append-drop, refl, sym, ap, ◌∙◌, arith}
use Rattle.std.specs.List.{flat_map}
use Rattle.std.proofs.lemmas.List.{take_more, flat_map_more}
use Rattle.std.proofs.lemmas.Grind.{flat_map-append}
use Rattle.std.specs.Io.KnownBytes.{append_known}
use Rattle.fx_edges.specs.declared.sink.SinkFault.{SinkFault}
use Rattle.fx_edges.specs.declared.sink.SinkFault.TheVariants.{Failed}
use Rattle.fx_edges.specs.Faults.{Rose}
use Rattle.fx_edges.specs.Writing.{IsPrefixOf, Appended, AppendedPart, CutShort, Wrote}
use Rattle.fx_edges.proofs.FaultCounts.{Rose-from_later}

-- Prefixes

pub IsPrefixOf-refl : (text : List ℕ) → IsPrefixOf text text
IsPrefixOf-refl text = record { rest = []; joined = sym (append-nil text) }

pub IsPrefixOf-nil : (text : List ℕ) → IsPrefixOf [] text
IsPrefixOf-nil text = record { rest = text; joined = refl }

pub IsPrefixOf-append : (part rest : List ℕ) → IsPrefixOf part (part ++ rest)
IsPrefixOf-append part rest = record { rest = rest; joined = refl }

pub IsPrefixOf-trans : {a b c : List ℕ} → IsPrefixOf a b → IsPrefixOf b c → IsPrefixOf a c
IsPrefixOf-trans {a} {b} {c} p q = record {
  rest = p.rest ++ q.rest;
  joined = q.joined ∙ ap (λ xs. xs ++ q.rest) p.joined ∙ append_assoc a p.rest q.rest;
}

-- a prefix of a text, with the same bytes before both
pub IsPrefixOf-after : (before : List ℕ) {part text : List ℕ} → IsPrefixOf part text → IsPrefixOf (before ++ part) (before ++ text)
IsPrefixOf-after before {part} {text} p = record {
  rest = p.rest;
  joined = ap (λ xs. before ++ xs) p.joined ∙ sym (append_assoc before part p.rest);
}

-- the prints of a list's first items, and then the print of the next, begin the prints of all
pub IsPrefixOf-flat_map : {X : Type 0} (print : X → List ℕ) (xs : List X) (i : ℕ) (d : X) → i < length xs → IsPrefixOf (flat_map print (take i xs) ++ print (get_or xs i d)) (flat_map print xs)
IsPrefixOf-flat_map print xs i d within = record {
  rest = flat_map print (drop (i + 1) xs);
  joined = ap (flat_map print) (sym (take-append-drop (i + 1) xs))
      ∙ flat_map-append print (take (i + 1) xs) (drop (i + 1) xs)
      ∙ ap (λ ys. ys ++ flat_map print (drop (i + 1) xs)) (ap (flat_map print) (take_more xs i d within) ∙ sym (flat_map_more print [] (take i xs) (get_or xs i d)));
}

-- Known bytes

pub append_known-nil : (known : Option (List ℕ)) → append_known known [] ≡ known
append_known-nil None = refl
append_known-nil (Some xs) = ap (λ ys. Some ys) (append-nil xs)

pub append_known-append_known : (known : Option (List ℕ)) (s t : List ℕ) → append_known (append_known known s) t ≡ append_known known (s ++ t)
append_known-append_known None s t = refl
append_known-append_known (Some xs) s t = ap (λ ys. Some ys) (append_assoc xs s t)

-- Texts that were appended

pub Appended-nil : {K : Type 0} (written : K → Option (List ℕ)) (faults : K → ℕ) (before : K) → Appended written faults before before []
Appended-nil written faults before = record { holds = sym (append_known-nil (written before)); count = omega arith }

pub Appended-append : {K : Type 0} {written : K → Option (List ℕ)} {faults : K → ℕ} {a b c : K} {s t : List ℕ} → Appended written faults a b s → Appended written faults b c t → Appended written faults a c (s ++ t)
Appended-append {K} {written} {faults} {a} {b} {c} {s} {t} first second = record {
  holds = second.holds ∙ ap (λ known. append_known known t) first.holds ∙ append_known-append_known (written a) s t;
  count = omega arith;
}

-- a part of a text, and then a part of a piece of the rest
pub AppendedPart-cut : {K : Type 0} {written : K → Option (List ℕ)} {faults : K → ℕ} {a b c : K} {part piece text : List ℕ} → Appended written faults a b part → AppendedPart written faults b c piece → IsPrefixOf (part ++ piece) text → AppendedPart written faults a c text
AppendedPart-cut {written = written} {a = a} {part = part} first second within = record {
  part = part ++ second.part;
  prefix = IsPrefixOf-trans (IsPrefixOf-after part second.prefix) within;
  holds = second.holds ∙ ap (λ known. append_known known second.part) first.holds ∙ append_known-append_known (written a) part second.part;
  count = omega arith;
}

-- a text that was appended whole
pub AppendedPart-whole : {K : Type 0} {written : K → Option (List ℕ)} {faults : K → ℕ} {a b : K} {text : List ℕ} → Appended written faults a b text → AppendedPart written faults a b text
AppendedPart-whole {text = text} all = record { part = text; prefix = IsPrefixOf-refl text; holds = all.holds; count = omega arith }

-- a part of a text is a part of a longer one
pub AppendedPart-longer : {K : Type 0} {written : K → Option (List ℕ)} {faults : K → ℕ} {a b : K} {piece text : List ℕ} → AppendedPart written faults a b piece → IsPrefixOf piece text → AppendedPart written faults a b text
AppendedPart-longer wrote within = record { part = wrote.part; prefix = IsPrefixOf-trans wrote.prefix within; holds = wrote.holds; count = wrote.count }

-- Calls that write

-- a text that was appended was written: what a function that ends with `Ok` says
pub Wrote-from_Appended : {K T : Type 0} {written : K → Option (List ℕ)} {faults : K → ℕ} {a b : K} {text : List ℕ} (value : T) → Appended written faults a b text → Wrote written faults a b text (Ok value)
Wrote-from_Appended value appended = record { ok = appended; fault = tt; cause = tt }

-- a fault while the rest of a text was written: part of it stands, then came a call that met the fault at a piece of the rest
pub Wrote-cut : {K T U : Type 0} {written : K → Option (List ℕ)} {faults : K → ℕ} {a b c : K} {part piece text : List ℕ} {e : SinkFault} → Appended written faults a b part → Wrote {T = T} written faults b c piece (Err e) → IsPrefixOf (part ++ piece) text → Wrote {T = U} written faults a c text (Err e)
Wrote-cut {faults = faults} {a = a} {b = b} {c = c} first second within = record {
  ok = tt;
  fault = AppendedPart-cut first second.fault within;
  cause = λ failed. Rose-from_later (faults a) (faults b) (faults c) (omega (arith, first.count)) (second.cause failed);
}

-- a call after a text, whatever it answers
pub Wrote-after : {K T : Type 0} {written : K → Option (List ℕ)} {faults : K → ℕ} {a b c : K} {s t : List ℕ} (result : Result T SinkFault) → Appended written faults a b s → Wrote written faults b c t result → Wrote written faults a c (s ++ t) result
Wrote-after (Ok value) first second = Wrote-from_Appended value (Appended-append first second.ok)
Wrote-after {s = s} {t = t} (Err e) first second = Wrote-cut first second (IsPrefixOf-refl (s ++ t))

-- one call after another that was `Ok`
pub Wrote-then : {K T U : Type 0} {written : K → Option (List ℕ)} {faults : K → ℕ} {a b c : K} {s t : List ℕ} {value : T} (result : Result U SinkFault) → Wrote written faults a b s (Ok value) → Wrote written faults b c t result → Wrote written faults a c (s ++ t) result
Wrote-then result first second = Wrote-after result first.ok second

-- a call that met a fault, as one that had more to write
pub Wrote-of_longer : {K T U : Type 0} {written : K → Option (List ℕ)} {faults : K → ℕ} {a b : K} {piece text : List ℕ} {e : SinkFault} → Wrote {T = T} written faults a b piece (Err e) → IsPrefixOf piece text → Wrote {T = U} written faults a b text (Err e)
Wrote-of_longer wrote within = record { ok = tt; fault = AppendedPart-longer wrote.fault within; cause = wrote.cause }

-- a fault of one write, which took nothing, while the rest of a text was written
pub Wrote-stopped : {K U : Type 0} {written : K → Option (List ℕ)} {faults : K → ℕ} {a b c : K} {part text : List ℕ} {e : SinkFault} → Appended written faults a b part → IsPrefixOf part text → written c ≡ written b → faults b ≤ faults c → (e ≡ Failed → Rose (faults b) (faults c)) → Wrote {T = U} written faults a c text (Err e)
Wrote-stopped {written = written} {faults = faults} {a = a} {b = b} {c = c} {part = part} first within same count cause = record {
  ok = tt;
  fault = record {
    part = part;
    prefix = within;
    holds = same ∙ first.holds;
    count = omega arith;
  };
  cause = λ failed. Rose-from_later (faults a) (faults b) (faults c) (omega (arith, first.count)) (cause failed);
}

-- and it was not all of the text
pub CutShort-stopped : {K : Type 0} {written : K → Option (List ℕ)} {faults : K → ℕ} {a b c : K} {part text : List ℕ} → Appended written faults a b part → IsPrefixOf part text → length part < length text → written c ≡ written b → faults b ≤ faults c → CutShort written faults a c text
CutShort-stopped {part = part} first within short same count = record {
  got = record { part = part; prefix = within; holds = same ∙ first.holds; count = omega (arith, first.count) };
  short = short;
}
