-- One text written after another: what was handed on and is held is one text after the other, and at a fault in the second the
-- sink got a prefix of both.
use Rattle.std.proofs.Common.{◌≡◌, ℕ, List, [], ◌++◌, Option, Result, Ok, Err, is_ok, false, append_assoc, append-nil, sym, ap, subst, ◌∙◌, arith}
use Rattle.std.specs.Io.KnownBytes.{append_known}
use Rattle.fx_amounts.specs.declared.memory.Memory.{Memory as OutOfMemory}
use Rattle.fx_edges.specs.declared.sink.SinkFault.{SinkFault}
use Rattle.fx_edges.specs.declared.sink.SinkFault.TheVariants.{Memory}
use Rattle.fx_edges.specs.Writing.{IsPrefixOf, AppendedPart, Wrote}
use Rattle.fx_edges.proofs.FaultCounts.{Rose-from_later}
use Rattle.fx_edges.proofs.Writing.{append_known-nil, append_known-append_known, IsPrefixOf-refl, IsPrefixOf-trans, IsPrefixOf-after, IsPrefixOf-append, IsPrefixOf-nil, AppendedPart-longer, Wrote-after, Wrote-then}
use Rattle.fx_edges.specs.Gathered.{Kept, Gathered}

-- Texts that were gathered

pub Kept-nil : {K : Type 0} (written : K → Option (List ℕ)) (faults : K → ℕ) (held : List ℕ) (before : K) → Kept written faults held before held before []
Kept-nil written faults held before = record {
  handed = [];
  joined = sym (append-nil held);
  holds = sym (append_known-nil (written before));
  count = omega arith;
}

-- two parts, of which each is cut in two
regroup : (handed rest held s sent last t : List ℕ) → handed ++ rest ≡ held ++ s → sent ++ last ≡ rest ++ t → (handed ++ sent) ++ last ≡ held ++ (s ++ t)
regroup handed rest held s sent last t first second =
    append_assoc handed sent last ∙ ap (λ xs. handed ++ xs) second ∙ sym (append_assoc handed rest t) ∙ ap (λ xs. xs ++ t) first ∙ append_assoc held s t

pub Kept-append : {K : Type 0} {written : K → Option (List ℕ)} {faults : K → ℕ} {held : List ℕ} {a : K} {rest : List ℕ} {b : K} {last : List ℕ} {c : K} {s t : List ℕ} → Kept written faults held a rest b s → Kept written faults rest b last c t → Kept written faults held a last c (s ++ t)
Kept-append {written = written} {held = held} {a = a} {rest = rest} {last = last} {s = s} {t = t} first second = record {
  handed = first.handed ++ second.handed;
  joined = regroup first.handed rest held s second.handed last t first.joined second.joined;
  holds = second.holds ∙ ap (λ known. append_known known second.handed) first.holds ∙ append_known-append_known (written a) first.handed second.handed;
  count = omega (arith, first.count, second.count);
}

-- Calls that write

pub Gathered-from_Kept : {K T : Type 0} {written : K → Option (List ℕ)} {faults : K → ℕ} {held : List ℕ} {a : K} {rest : List ℕ} {b : K} {text : List ℕ} (value : T) → Kept written faults held a rest b text → Gathered written faults held a rest b text (Ok value)
Gathered-from_Kept value kept = record { ok = kept; fault = tt; cause = tt }

-- what a sink got of the rest, behind what it got before
part-after : {K : Type 0} {written : K → Option (List ℕ)} {faults : K → ℕ} {held : List ℕ} {a : K} {rest : List ℕ} {b c : K} (part piece text : List ℕ) → Kept written faults held a rest b part → AppendedPart written faults b c (rest ++ piece) → IsPrefixOf (part ++ piece) text → AppendedPart written faults a c (held ++ text)
part-after {written = written} {faults = faults} {held = held} {a = a} {rest = rest} {b = b} {c = c} part piece text first second within = record {
  part = first.handed ++ second.part;
  prefix = IsPrefixOf-trans (IsPrefixOf-after first.handed second.prefix)
      (subst (λ (all : List ℕ). IsPrefixOf all (held ++ text)) (sym (sym (append_assoc first.handed rest piece) ∙ ap (λ xs. xs ++ piece) first.joined ∙ append_assoc held part piece))
      (IsPrefixOf-after held within));
  holds = second.holds ∙ ap (λ known. append_known known second.part) first.holds ∙ append_known-append_known (written a) first.handed second.part;
  count = omega (arith, first.count, second.count);
}

-- a fault while the rest of a text was written: part of it was, then came a call that met the fault at a piece of the rest
pub Gathered-cut : {K T U : Type 0} {written : K → Option (List ℕ)} {faults : K → ℕ} {held : List ℕ} {a : K} {rest : List ℕ} {b : K} {last : List ℕ} {c : K} {part piece text : List ℕ} {e : SinkFault} → Kept written faults held a rest b part → Gathered {T = T} written faults rest b last c piece (Err e) → IsPrefixOf (part ++ piece) text → Gathered {T = U} written faults held a last c text (Err e)
Gathered-cut {faults = faults} {a = a} {b = b} {c = c} {part = part} {piece = piece} {text = text} first second within = record {
  ok = tt;
  fault = part-after part piece text first second.fault within;
  cause = λ failed. Rose-from_later (faults a) (faults b) (faults c) (omega (arith, first.count)) (second.cause failed);
}

-- a call after a text, whatever it answers
pub Gathered-after : {K T : Type 0} {written : K → Option (List ℕ)} {faults : K → ℕ} {held : List ℕ} {a : K} {rest : List ℕ} {b : K} {last : List ℕ} {c : K} {s t : List ℕ} (result : Result T SinkFault) → Kept written faults held a rest b s → Gathered written faults rest b last c t result → Gathered written faults held a last c (s ++ t) result
Gathered-after (Ok value) first second = Gathered-from_Kept value (Kept-append first second.ok)
Gathered-after {s = s} {t = t} (Err e) first second = Gathered-cut first second (IsPrefixOf-refl (s ++ t))

-- one call after another that was `Ok`
pub Gathered-then : {K T U : Type 0} {written : K → Option (List ℕ)} {faults : K → ℕ} {held : List ℕ} {a : K} {rest : List ℕ} {b : K} {last : List ℕ} {c : K} {s t : List ℕ} {value : T} (result : Result U SinkFault) → Gathered written faults held a rest b s (Ok value) → Gathered written faults rest b last c t result → Gathered written faults held a last c (s ++ t) result
Gathered-then result first second = Gathered-after result first.ok second

-- a call that met a fault, as one that had more to write
pub Gathered-of_longer : {K T U : Type 0} {written : K → Option (List ℕ)} {faults : K → ℕ} {held : List ℕ} {a : K} {rest : List ℕ} {b : K} {piece text : List ℕ} {e : SinkFault} → Gathered {T = T} written faults held a rest b piece (Err e) → IsPrefixOf piece text → Gathered {T = U} written faults held a rest b text (Err e)
Gathered-of_longer {held = held} wrote within = record { ok = tt; fault = AppendedPart-longer wrote.fault (IsPrefixOf-after held within); cause = wrote.cause }

-- out of memory, before the sink got anything of a text
pub Gathered-wanting : {K U : Type 0} (written : K → Option (List ℕ)) (faults : K → ℕ) (held : List ℕ) (before : K) (rest text : List ℕ) (memory : OutOfMemory) → Gathered {T = U} written faults held before rest before text (Err (Memory memory))
Gathered-wanting written faults held before rest text memory = record {
  ok = tt;
  fault = record { part = []; prefix = IsPrefixOf-nil (held ++ text); holds = sym (append_known-nil (written before)); count = omega arith };
  cause = λ failed. absurd cc;
}

-- what was held was handed on, and then the text as it is
pub Gathered-of_whole : {K T : Type 0} {written : K → Option (List ℕ)} {faults : K → ℕ} {held : List ℕ} {a : K} {rest : List ℕ} {b : K} {text : List ℕ} (result : Result T SinkFault) → rest ≡ [] → Wrote written faults a b (held ++ text) result → Gathered written faults held a rest b text result
Gathered-of_whole {held = held} {text = text} (Ok value) none wrote = record {
  ok = record { handed = held ++ text; joined = ap (λ xs. (held ++ text) ++ xs) none ∙ append-nil (held ++ text); holds = wrote.ok.holds; count = wrote.ok.count };
  fault = tt;
  cause = tt;
}
Gathered-of_whole (Err e) none wrote = record { ok = tt; fault = wrote.fault; cause = wrote.cause }

-- what was held was written, and then the text
pub Gathered-of_both : {K T U : Type 0} {written : K → Option (List ℕ)} {faults : K → ℕ} {held : List ℕ} {a : K} {rest : List ℕ} {b c : K} {text : List ℕ} {value : U} (result : Result T SinkFault) → rest ≡ [] → Wrote written faults a b held (Ok value) → Wrote written faults b c text result → Gathered written faults held a rest c text result
Gathered-of_both result none first second = Gathered-of_whole result none (Wrote-after result first.ok second)

-- a fault while what was held was handed on
pub Gathered-of_held : {K T U : Type 0} {written : K → Option (List ℕ)} {faults : K → ℕ} {held : List ℕ} {a : K} {b : K} {e : SinkFault} (rest text : List ℕ) → Wrote {T = T} written faults a b held (Err e) → Gathered {T = U} written faults held a rest b text (Err e)
Gathered-of_held {held = held} rest text wrote = record { ok = tt; fault = AppendedPart-longer wrote.fault (IsPrefixOf-append held text); cause = wrote.cause }

-- what was held was written, and then a fault was met in the text
pub Gathered-failed : {K T U : Type 0} {written : K → Option (List ℕ)} {faults : K → ℕ} {held : List ℕ} {a b c : K} {text : List ℕ} {value : U} (result : Result T SinkFault) (rest : List ℕ) → is_ok result ≡ false → Wrote written faults a b held (Ok value) → Wrote written faults b c text result → Gathered written faults held a rest c text result
Gathered-failed (Ok value) rest failed first second = absurd cc
Gathered-failed (Err e) rest failed first second = let wrote = Wrote-then (Err e) first second in record { ok = tt; fault = wrote.fault; cause = wrote.cause }

-- The end of a text

-- what is held was handed on
pub Wrote-rest : {K T : Type 0} {written : K → Option (List ℕ)} {faults : K → ℕ} {held : List ℕ} {a : K} {rest : List ℕ} {b c : K} {text : List ℕ} (result : Result T SinkFault) → Kept written faults held a rest b text → Wrote written faults b c rest result → Wrote written faults a c (held ++ text) result
Wrote-rest {T = T} {written = written} {faults = faults} {a = a} {c = c} result kept wrote =
    subst (λ (all : List ℕ). Wrote {T = T} written faults a c all result) kept.joined
    (Wrote-after result (record { holds = kept.holds; count = kept.count }) wrote)

-- a fault was met
pub Wrote-from_Gathered : {K T U : Type 0} {written : K → Option (List ℕ)} {faults : K → ℕ} {held : List ℕ} {a : K} {rest : List ℕ} {b : K} {text : List ℕ} {e : SinkFault} → Gathered {T = T} written faults held a rest b text (Err e) → Wrote {T = U} written faults a b (held ++ text) (Err e)
Wrote-from_Gathered gathered = record { ok = tt; fault = gathered.fault; cause = gathered.cause }

-- the same where nothing was held at first
pub Wrote-rest_of_all : {K T : Type 0} {written : K → Option (List ℕ)} {faults : K → ℕ} {held : List ℕ} {a : K} {rest : List ℕ} {b c : K} {text : List ℕ} (result : Result T SinkFault) → held ≡ [] → Kept written faults held a rest b text → Wrote written faults b c rest result → Wrote written faults a c text result
Wrote-rest_of_all {T = T} {written = written} {faults = faults} {a = a} {c = c} {text = text} result none kept wrote =
    subst (λ (xs : List ℕ). Wrote {T = T} written faults a c (xs ++ text) result) none (Wrote-rest result kept wrote)

pub Wrote-from_none : {K T U : Type 0} {written : K → Option (List ℕ)} {faults : K → ℕ} {held : List ℕ} {a : K} {rest : List ℕ} {b : K} {text : List ℕ} {e : SinkFault} → held ≡ [] → Gathered {T = T} written faults held a rest b text (Err e) → Wrote {T = U} written faults a b text (Err e)
Wrote-from_none {U = U} {written = written} {faults = faults} {a = a} {b = b} {text = text} {e = e} none gathered =
    subst (λ (xs : List ℕ). Wrote {T = U} written faults a b (xs ++ text) (Err e)) none (Wrote-from_Gathered gathered)

-- what is held was handed on with a further text
pub Wrote-then_rest : {K T : Type 0} {written : K → Option (List ℕ)} {faults : K → ℕ} {held : List ℕ} {a : K} {rest : List ℕ} {b c : K} {s : List ℕ} (t : List ℕ) (result : Result T SinkFault) → held ≡ [] → Kept written faults held a rest b s → Wrote written faults b c (rest ++ t) result → Wrote written faults a c (s ++ t) result
Wrote-then_rest {T = T} {written = written} {faults = faults} {a = a} {rest = rest} {c = c} {s = s} t result none kept wrote =
    subst (λ (all : List ℕ). Wrote {T = T} written faults a c all result)
    (sym (append_assoc kept.handed rest t) ∙ ap (λ xs. xs ++ t) kept.joined ∙ ap (λ xs. (xs ++ s) ++ t) none)
    (Wrote-after result (record { holds = kept.holds; count = kept.count }) wrote)
