-- A legal history has an output; what was written of a text tells how the writing of the output ended.
use Rattle.std.proofs.Common.{ℕ, ◌+◌, ◌≡◌, ◌<◌, ◌≤◌, List, [], ◌++◌, length, Option, Result, Ok, Err, OnOk, IsErrAnd, refl, ap, sym, subst, ◌∙◌, arith}
use Rattle.std.specs.List.{flat_map}
use Rattle.fx_amounts.specs.declared.memory.Memory.{Memory as OutOfMemory}
use Rattle.fx_edges.specs.Writing.{IsPrefixOf, Wrote}
use Rattle.fx_edges.specs.Gathered.{Kept, Gathered}
use Rattle.fx_edges.proofs.Writing.{IsPrefixOf-append, IsPrefixOf-nil, append_known-nil}
use Rattle.fx_edges.proofs.Gathering.{Gathered-from_Kept, Kept-append, Gathered-cut, Gathered-of_longer, Gathered-wanting, Wrote-from_Gathered, Wrote-from_none}
use Rattle.fx_edges.specs.declared.sink.SinkFault.{SinkFault}
use Rattle.fx_edges.specs.declared.sink.SinkFault.TheVariants as sinks
use Rattle.fx_rules.specs.declared.outcome.Entry.{Entry}
use Rattle.fx_rules.specs.Session.{Header}
use Rattle.fx_rules.specs.History.{IsLegal, state}
use Rattle.fx_rules.specs.Lists.{below}
use Rattle.fx_rules.proofs.Below.{flat_map-more}
use Rattle.fx_rules.proofs.Soundness.{legal-sound}
use Rattle.reply_lines.specs.Books.{LocalBook, AreBooks}
use Rattle.reply_lines.specs.Faults.{WroteOutput, fault_of}
use Rattle.reply_lines.specs.Output.{IsDayText, IsOutput, IsRestOfOutput, day_text, last_text}
use Rattle.reply_lines.specs.inside.Day.{closing_text}
use Rattle.reply_lines.specs.declared.output.Ending.{Ending}
use Rattle.reply_lines.specs.declared.output.OutFault.{OutFault}
use Rattle.reply_lines.specs.declared.output.OutFault.TheVariants.{Write, Memory}
use Rattle.reply_lines.proofs.Existing.{books-exist}
use Rattle.reply_lines.proofs.Parts.{places-prefix}

-- what is known of a result that is Ok holds of what follows from it
pub on_ok : {T E P Q : Type 0} (result : Result T E) → (P → Q) → OnOk result P → OnOk result Q
on_ok (Ok value) leads known = leads known
on_ok (Err e) leads known = tt

-- a call that met a fault, handed on by one that had to hand on the last piece
pub not_ended : {K T U : Type 0} {written : K → Option (List ℕ)} {faults : K → ℕ} {held : List ℕ} {a : K} {rest : List ℕ} {b : K} {text : List ℕ} {e : SinkFault} (result : Result U SinkFault) → IsErrAnd result (λ fault. fault ≡ e) → Gathered {T = T} written faults held a rest b text (Err e) → Wrote {T = U} written faults a b (held ++ text) result
not_ended (Ok value) same wrote = absurd same
not_ended {U = U} {written = written} {faults = faults} {held = held} {a = a} {b = b} {text = text} (Err fault) same wrote =
    subst (λ (e : SinkFault). Wrote {T = U} written faults a b (held ++ text) (Err e)) (sym same) (Wrote-from_Gathered wrote)

-- handed on by one that had written a part of its text, and met the fault at a piece of the rest
pub cut_at : {K T U : Type 0} {written : K → Option (List ℕ)} {faults : K → ℕ} {held : List ℕ} {a : K} {rest : List ℕ} {b : K} {last : List ℕ} {c : K} {part piece text : List ℕ} {e : SinkFault} (result : Result U SinkFault) → IsErrAnd result (λ fault. fault ≡ e) → Kept written faults held a rest b part → Gathered {T = T} written faults rest b last c piece (Err e) → IsPrefixOf (part ++ piece) text → Gathered {T = U} written faults held a last c text result
cut_at (Ok value) same kept wrote within = absurd same
cut_at {T = T} {U = U} {written = written} {faults = faults} {held = held} {a = a} {last = last} {c = c} {text = text} {e = e} (Err fault) same kept wrote within =
    subst (λ (e : SinkFault). Gathered {T = U} written faults held a last c text (Err e)) (sym same) (Gathered-cut kept wrote within)

-- a call that met a fault, handed on by one that had more to write
pub cut_short : {K T U : Type 0} {written : K → Option (List ℕ)} {faults : K → ℕ} {held : List ℕ} {a : K} {rest : List ℕ} {b : K} {text : List ℕ} {e : SinkFault} (result : Result U SinkFault) (more : List ℕ) → IsErrAnd result (λ fault. fault ≡ e) → Gathered {T = T} written faults held a rest b text (Err e) → Gathered {T = U} written faults held a rest b (text ++ more) result
cut_short (Ok value) more same wrote = absurd same
cut_short {U = U} {written = written} {faults = faults} {held = held} {a = a} {rest = rest} {b = b} {text = text} (Err fault) more same wrote =
    subst (λ (e : SinkFault). Gathered {T = U} written faults held a rest b (text ++ more) (Err e)) (sym same) (Gathered-of_longer wrote (IsPrefixOf-append text more))

-- out of memory, before the sink got anything of a text
pub not_begun : {K U : Type 0} (written : K → Option (List ℕ)) (faults : K → ℕ) (held : List ℕ) (before : K) (rest text : List ℕ) {memory : OutOfMemory} (result : Result U SinkFault) → IsErrAnd result (λ fault. fault ≡ sinks.Memory memory) → Gathered {T = U} written faults held before rest before text result
not_begun written faults held before rest text (Ok value) same = absurd same
not_begun {U = U} written faults held before rest text {memory} (Err fault) same =
    subst (λ (e : SinkFault). Gathered {T = U} written faults held before rest before text (Err e)) (sym same) (Gathered-wanting written faults held before rest text memory)

-- a call that met a fault in what stands before some last lines
pub cut_off : {K T U : Type 0} {written : K → Option (List ℕ)} {faults : K → ℕ} {held : List ℕ} {a : K} {rest : List ℕ} {b : K} {text : List ℕ} {e : SinkFault} (more : List ℕ) (result : Result U SinkFault) → held ≡ [] → IsErrAnd result (λ fault. fault ≡ e) → Gathered {T = T} written faults held a rest b text (Err e) → Wrote {T = U} written faults a b (text ++ more) result
cut_off more (Ok value) none same wrote = absurd same
cut_off {T = T} {U = U} {written = written} {faults = faults} {a = a} {b = b} {text = text} more (Err fault) none same wrote =
    subst (λ (e : SinkFault). Wrote {T = U} written faults a b (text ++ more) (Err e)) (sym same)
    (Wrote-from_none {T = T} none (Gathered-of_longer {T = T} {U = T} wrote (IsPrefixOf-append text more)))

-- a text that is this one
pub of_text : {K T : Type 0} {written : K → Option (List ℕ)} {faults : K → ℕ} {held : List ℕ} {a : K} {rest : List ℕ} {b : K} {text same : List ℕ} {result : Result T SinkFault} → text ≡ same → Gathered {T = T} written faults held a rest b text result → Gathered {T = T} written faults held a rest b same result
of_text {T = T} {written = written} {faults = faults} {held = held} {a = a} {rest = rest} {b = b} {result = result} is wrote =
    subst (λ (text : List ℕ). Gathered {T = T} written faults held a rest b text result) is wrote

-- a text that is written place by place: one place more, all places, and a fault at one of them
pub place_kept : {K T : Type 0} {written : K → Option (List ℕ)} {faults : K → ℕ} {held : List ℕ} {a : K} {rest : List ℕ} {b : K} {last : List ℕ} {c : K} {at : ℕ} {value : T} (f : ℕ → List ℕ) (place : ℕ) → at ≡ place → Kept written faults held a rest b (flat_map f (below place)) → Gathered {T = T} written faults rest b last c (f at) (Ok value) → Kept written faults held a last c (flat_map f (below (place + 1)))
place_kept {T = T} {written = written} {faults = faults} {held = held} {a = a} {last = last} {c = c} f place is kept wrote =
    subst (λ (text : List ℕ). Kept written faults held a last c text) (sym (flat_map-more f place)) (Kept-append kept (of_text {T = T} (ap f is) wrote).ok)

pub places_written : {K : Type 0} {written : K → Option (List ℕ)} {faults : K → ℕ} {held : List ℕ} {a : K} {rest : List ℕ} {b : K} (f : ℕ → List ℕ) (place places : ℕ) → place ≡ places → Kept written faults held a rest b (flat_map f (below place)) → Gathered {T = Unit {0}} written faults held a rest b (flat_map f (below places)) (Ok tt)
places_written {written = written} {faults = faults} {held = held} {a = a} {rest = rest} {b = b} f place places end kept =
    Gathered-from_Kept tt (subst (λ (n : ℕ). Kept written faults held a rest b (flat_map f (below n))) end kept)

pub places_cut : {K T U : Type 0} {written : K → Option (List ℕ)} {faults : K → ℕ} {held : List ℕ} {a : K} {rest : List ℕ} {b : K} {last : List ℕ} {c : K} {at : ℕ} {e : SinkFault} (f : ℕ → List ℕ) (place places : ℕ) (result : Result U SinkFault) → IsErrAnd result (λ fault. fault ≡ e) → at ≡ place → place < places → Kept written faults held a rest b (flat_map f (below place)) → Gathered {T = T} written faults rest b last c (f at) (Err e) → Gathered {T = U} written faults held a last c (flat_map f (below places)) result
places_cut {T = T} f place places result same is within kept wrote = cut_at {T = T} result same kept (of_text {T = T} (ap f is) wrote) (places-prefix f place places within)

-- and where the places are those of a list
pub places_of : {K X : Type 0} {written : K → Option (List ℕ)} {faults : K → ℕ} {held : List ℕ} {a : K} {rest : List ℕ} {b : K} {xs ys : List X} {place : ℕ} (f : ℕ → List ℕ) → length xs ≤ place → place ≤ length xs → xs ≡ ys → Kept written faults held a rest b (flat_map f (below place)) → Gathered {T = Unit {0}} written faults held a rest b (flat_map f (below (length ys))) (Ok tt)
places_of {xs = xs} {ys = ys} {place = place} f past within are kept = places_written f place (length ys) (omega (arith, past, within, ap length are)) kept

pub places_of_cut : {K T U X : Type 0} {written : K → Option (List ℕ)} {faults : K → ℕ} {held : List ℕ} {a : K} {rest : List ℕ} {b : K} {last : List ℕ} {c : K} {xs ys : List X} {place at : ℕ} {e : SinkFault} (f : ℕ → List ℕ) (result : Result U SinkFault) → IsErrAnd result (λ fault. fault ≡ e) → at ≡ place → place < length xs → xs ≡ ys → Kept written faults held a rest b (flat_map f (below place)) → Gathered {T = T} written faults rest b last c (f at) (Err e) → Gathered {T = U} written faults held a last c (flat_map f (below (length ys))) result
places_of_cut {T = T} {xs = xs} {ys = ys} {place = place} f result same is within are kept wrote = places_cut {T = T} f place (length ys) result same is (omega (arith, within, ap length are)) kept wrote

-- lines of the items of a list that is this one
pub of_items : {K T X : Type 0} {written : K → Option (List ℕ)} {faults : K → ℕ} {held : List ℕ} {a : K} {rest : List ℕ} {b : K} {xs ys : List X} (print : X → List ℕ) (result : Result T SinkFault) → xs ≡ ys → Gathered {T = T} written faults held a rest b (flat_map print xs) result → Gathered {T = T} written faults held a rest b (flat_map print ys) result
of_items print result same wrote = of_text (ap (flat_map print) same) wrote

pub day-books : (h : Header) (entries : List Entry) → IsLegal h entries → (books : ℕ → ℕ → LocalBook) × AreBooks h (state h entries) books
day-books h entries legal = books-exist h (state h entries) legal.session (legal-sound h entries legal)

pub is_day : (h : Header) (entries : List Entry) (books : ℕ → ℕ → LocalBook) → AreBooks h (state h entries) books → IsDayText h entries (day_text h entries books)
is_day h entries books are = record { books = books; at_the_end = are; exactly = refl }

pub is_output : (h : Header) (entries : List Entry) (strays : ℕ) (ending : Ending) (books : ℕ → ℕ → LocalBook) → AreBooks h (state h entries) books → IsOutput h entries strays ending (day_text h entries books ++ last_text strays ending)
is_output h entries strays ending books are = record { books = books; at_the_end = are; exactly = refl }

pub is_rest : (h : Header) (entries : List Entry) (strays : ℕ) (ending : Ending) (books : ℕ → ℕ → LocalBook) → AreBooks h (state h entries) books → IsRestOfOutput h entries strays ending (closing_text h entries books ++ last_text strays ending)
is_rest h entries strays ending books are = record { books = books; at_the_end = are; exactly = refl }

failed_from : (fault : SinkFault) → fault_of fault ≡ Write → fault ≡ sinks.Failed
failed_from sinks.Failed is = refl
failed_from (sinks.Memory memory) is = absurd cc

module _ {K : Type 0} {written : K → Option (List ℕ)} {faults : K → ℕ} {before now : K} (is_output : List ℕ → Type 0) (text : List ℕ) where
  pub wrote_whole : is_output text → Wrote {T = Unit {0}} written faults before now text (Ok tt) → WroteOutput {T = Unit {0}} written faults before now is_output (Ok tt)
  wrote_whole is wrote = record { text = text; is_text = is; ok = wrote.ok; fault = tt; cause = tt }

  pub wrote_part : (fault : SinkFault) (told : OutFault) → told ≡ fault_of fault → is_output text → Wrote {T = Unit {0}} written faults before now text (Err fault) → WroteOutput {T = Unit {0}} written faults before now is_output (Err told)
  wrote_part fault told tells is wrote = record {
    text = text;
    is_text = is;
    ok = tt;
    fault = wrote.fault;
    cause = λ failed. wrote.cause (failed_from fault (sym tells ∙ failed));
  }

-- what is written of a legal history with local books at its end, of which it has some
module _ {K : Type 0} {written : K → Option (List ℕ)} {faults : K → ℕ} {before now : K} (h : Header) (entries : List Entry) (is_output : List ℕ → Type 0) (text : (ℕ → ℕ → LocalBook) → List ℕ)
    (is : (books : ℕ → ℕ → LocalBook) → AreBooks h (state h entries) books → is_output (text books)) (legal : IsLegal h entries) where
  pub day_whole : ((books : ℕ → ℕ → LocalBook) → AreBooks h (state h entries) books → Wrote {T = Unit {0}} written faults before now (text books) (Ok tt)) → WroteOutput {T = Unit {0}} written faults before now is_output (Ok tt)
  day_whole wrote =
      let books = day-books h entries legal in
      wrote_whole is_output (text books.0) (is books.0 books.1) (wrote books.0 books.1)

  pub day_part : (fault : SinkFault) (told : OutFault) → told ≡ fault_of fault → ((books : ℕ → ℕ → LocalBook) → AreBooks h (state h entries) books → Wrote {T = Unit {0}} written faults before now (text books) (Err fault))
      → WroteOutput {T = Unit {0}} written faults before now is_output (Err told)
  day_part fault told tells wrote =
      let books = day-books h entries legal in
      wrote_part is_output (text books.0) fault told tells (is books.0 books.1) (wrote books.0 books.1)

-- out of memory, before anything was written
pub wanting : {K : Type 0} {written : K → Option (List ℕ)} {faults : K → ℕ} (before : K) (is_output : List ℕ → Type 0) (text : List ℕ) (memory : OutOfMemory) → is_output text → WroteOutput {T = Unit {0}} written faults before before is_output (Err (Memory memory))
wanting {written = written} before is_output text memory is = record {
  text = text;
  is_text = is;
  ok = tt;
  fault = record { part = []; prefix = IsPrefixOf-nil text; holds = sym (append_known-nil (written before)); count = omega arith };
  cause = λ failed. absurd cc;
}
