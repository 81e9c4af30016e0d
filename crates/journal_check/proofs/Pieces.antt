-- A journal that is read and served piece by piece.
use Rattle.std.proofs.Common.{◌≡◌, ℕ, suc, ◌+◌, ◌-◌, ◌<◌, ◌≤◌, Bool, List, [], ◌∷◌, ◌++◌, length, map, take, drop, get_or, Result, Err, sym, ap, ap₂, ◌∙◌, subst, arith, append-nil, append_assoc, length-append, length-drop}
use Rattle.std.specs.List.{flat_map}
use Rattle.std.proofs.lemmas.List.{drop-drop, length-map, length_push, map-append, take_more}
use Rattle.std.proofs.lemmas.List.Concat.{flat_map-append}
use Rattle.std.proofs.lemmas.List.Folds.{flat_map-map}
use Rattle.fx_rules.specs.Session.{Header}
use Rattle.fx_rules.specs.declared.command.Sent.{Sent}
use Rattle.fx_rules.specs.declared.outcome.Entry.{Entry}
use Rattle.fx_rules.specs.Sending.{IsSentOf, sent_by}
use Rattle.fx_rules.proofs.ListLemmas.{Each-append}
use Rattle.market_run.specs.Ran.{Ran}
use Rattle.market_run.specs.Running.{HasServed, MayServe, GoesOnBy}
use Rattle.market_run.proofs.Serving.{may-serve-next}
use Rattle.pair_host.specs.Standing.{HostState, stands}
use Rattle.reply_lines.specs.Day.{AreNoticesOf}
use Rattle.reply_lines.specs.Output.{entry_line}
use Rattle.reply_lines.specs.declared.day_notices.DayNotices.{DayNotices}
use Rattle.journal_check.specs.Lines.{lines_from}
use Rattle.journal_check.specs.Listed.{commands_among}
use Rattle.journal_check.specs.declared.journal.ReadSent.{ReadSent}
use Rattle.journal_check.specs.declared.kept.Kept.{Kept}
use Rattle.journal_check.specs.declared.lines.ReadLines.{ReadLines}
use Rattle.journal_check.specs.declared.stop.Stop.{Stop}
use Rattle.journal_check.specs.declared.stop.Stop.TheVariants.{Wrong, Memory}
use Rattle.journal_check.specs.inside.Pieces.{HasReadPiece, HasServedPiece, ReadsPiece, StandsBehind}
use Rattle.journal_check.specs.inside.Stops.{HaveReadLines, IsKept, ReadsEntries, ReadsSent, SaysAt, StandsIn, lines_of, next_of, sent_line}

-- A piece that is read

-- a line that stands in the text stands behind the lines too
pub stands_next : (text : List ℕ) (at : ℕ) (lines : ReadLines) (read : ReadSent) → at ≤ length text → StandsBehind text at lines → StandsIn text at read → StandsIn lines.rest.now lines.len read
stands_next text at lines read inside behind is = record {
  within = omega (arith, inside, behind.within, ap length behind.same, length-drop lines.len lines.rest.now, length-drop at text, is.within);
  same = is.same ∙ ap (take (length read.line.now)) (sym behind.same);
}

-- and when it was added, what stands behind it does
behind_next : (text : List ℕ) (at : ℕ) (was now : ReadLines) (read : ReadSent) → StandsBehind text at was → StandsIn was.rest.now was.len read → now.rest.now ≡ was.rest.now → now.len ≡ was.len + length read.line.now → StandsBehind text (next_of at read) now
behind_next text at was now read behind is rest len = record {
  within = omega (arith, is.within, len, ap length rest);
  same = ap₂ (λ (n : ℕ) (xs : List ℕ). drop n xs) len rest
      ∙ sym (drop-drop (length read.line.now) was.len was.rest.now) ∙ ap (drop (length read.line.now)) behind.same ∙ drop-drop (length read.line.now) at text;
}

-- behind no lines stands all of it
pub none_behind : (text : List ℕ) (at : ℕ) (lines : ReadLines) → lines.rest.now ≡ drop at text → lines.len ≡ 0 → StandsBehind text at lines
none_behind text at lines rest none = record {
  within = omega (arith, none);
  same = ap₂ (λ (n : ℕ) (xs : List ℕ). drop n xs) none rest;
}

pub none_read : (h : Header) (text : List ℕ) (from : ℕ) (lines : ReadLines) (sent : List Sent) → sent ≡ [] → from ≤ length text → StandsBehind text from lines → HasReadPiece h text from lines sent lines from
none_read h text from lines sent none inside behind = subst (λ (xs : List Sent). HasReadPiece h text from lines xs lines from) (sym none) (record {
  within = inside;
  behind = behind;
  valid = tt;
  lines = sym (append-nil (lines_of lines));
  goes_on = λ before left.
      let same : length {A = Sent} [] + left ≡ left = omega arith in
      ap₂ (λ (b : List Sent) (n : ℕ). commands_among h (length text) b n (lines_from text from)) (sym (append-nil before)) same;
})

-- one more command is read
pub more_read : (h : Header) (text : List ℕ) (from at : ℕ) (was mid now : ReadLines) (sent sent' : List Sent) (read : ReadSent) → HasReadPiece h text from was sent mid at → SaysAt h text at read → IsSentOf h read.sent → sent' ≡ sent ++ read.sent ∷ []
    → now.rest.now ≡ mid.rest.now → now.len ≡ mid.len + length read.line.now → lines_of now ≡ lines_of mid ++ sent_line h read.sent → HasReadPiece h text from was sent' now (next_of at read)
more_read h text from at was mid now sent sent' read has says valid all rest len lines =
    let next : List Sent = sent ++ read.sent ∷ [] in
    subst (λ (xs : List Sent). HasReadPiece h text from was xs now (next_of at read)) (sym all) (record {
      within = says.there.within;
      behind = behind_next text at mid now read has.behind (stands_next text at mid read has.within has.behind says.there) rest len;
      valid = Each-append (IsSentOf h) sent (read.sent ∷ []) has.valid (valid, tt);
      lines = lines ∙ ap (λ (xs : List ℕ). xs ++ sent_line h read.sent) has.lines ∙ append_assoc (lines_of was) (flat_map (sent_line h) sent) (sent_line h read.sent)
          ∙ ap (λ (xs : List ℕ). lines_of was ++ (flat_map (sent_line h) sent ++ xs)) (sym (append-nil (sent_line h read.sent))) ∙ ap (λ (xs : List ℕ). lines_of was ++ xs) (sym (flat_map-append (sent_line h) sent (read.sent ∷ [])));
      goes_on = λ before left.
          let one : length next + left ≡ length sent + suc left = omega (arith, length_push sent read.sent) in
          ap (λ (n : ℕ). commands_among h (length text) before n (lines_from text from)) one
          ∙ has.goes_on before (suc left) ∙ says.goes_on (before ++ sent) left
          ∙ ap (λ (b : List Sent). commands_among h (length text) b left (lines_from text (next_of at read))) (append_assoc before sent (read.sent ∷ []));
    })

-- or none can be, so that the piece cannot
pub sent_stops : (h : Header) (text : List ℕ) (from at count : ℕ) (was mid now : ReadLines) (sent sent' : List Sent) (stop : Stop) → HasReadPiece h text from was sent mid at → length sent < count → ReadsSent h text at (Err stop) → ReadsPiece h text from was count sent' now (Err stop)
sent_stops h text from at count was mid now sent sent' (Wrong offset) has few stops = λ before left.
    let rest : ℕ = count - length sent - 1 + left in
    let one : count + left ≡ length sent + suc rest = omega (arith, few) in
    ap (λ (n : ℕ). commands_among h (length text) before n (lines_from text from)) one ∙ has.goes_on before (suc rest) ∙ stops (before ++ sent) rest
sent_stops h text from at count was mid now sent sent' (Memory memory) has few stops = absurd stops

-- A piece that is served

module _ (h : Header) (whole : Bool) (was : Ran HostState DayNotices) (kept_was : Kept) where
  -- the command at a place can be served once those before it were
  pub may_serve_next : (now : Ran HostState DayNotices) (kept_now : Kept) (all : List Sent) (n : ℕ) (s : Sent) → MayServe stands AreNoticesOf h was all → HasServedPiece h whole was kept_was (take n all) now kept_now → n < length all → s ≡ get_or all n s → MayServe stands AreNoticesOf h now (s ∷ [])
  may_serve_next now kept_now all n s may served within at' =
      may-serve-next stands AreNoticesOf h was now all n s may (λ entries has. record { more = served.more; sent_is = served.sent_is; has_served = served.goes_on entries has }) within at'

  -- and then its entry is kept
  pub more_served : (mid now : Ran HostState DayNotices) (kept_mid kept_now : Kept) (all : List Sent) (n : ℕ) (s : Sent) (entry : Entry) → HasServedPiece h whole was kept_was (take n all) mid kept_mid → n < length all → s ≡ get_or all n s → sent_by entry ≡ s
      → GoesOnBy stands AreNoticesOf h mid now entry → ((entries : List Entry) → IsKept whole entries kept_mid → IsKept whole (entries ++ entry ∷ []) kept_now) → HasServedPiece h whole was kept_was (take (n + 1) all) now kept_now
  more_served mid now kept_mid kept_now all n s entry so_far within at' sent_is on keeps = record {
    more = so_far.more ++ entry ∷ [];
    sent_is = map-append sent_by so_far.more (entry ∷ []) ∙ ap₂ (λ (xs : List Sent) (x : Sent). xs ++ x ∷ []) so_far.sent_is (sent_is ∙ at') ∙ sym (take_more all n s within);
    goes_on = λ entries has. subst (λ (es : List Entry). HasServed stands AreNoticesOf h es now) (append_assoc entries so_far.more (entry ∷ [])) (on (entries ++ so_far.more) (so_far.goes_on entries has));
    keeps = λ entries is. subst (λ (es : List Entry). IsKept whole es kept_now) (append_assoc entries so_far.more (entry ∷ [])) (keeps (entries ++ so_far.more) (so_far.keeps entries is));
  }

-- The entries of a journal

-- some were read up to an offset and served, of so many in all, and so many are left
pub record HasReadSome (h : Header) (text : List ℕ) (there : Result (List Sent) ℕ) (whole : Bool) (kept : Kept) (run : Ran HostState DayNotices) (lines : ReadLines) (all left at : ℕ) : Type 0 where
  pub entries : List Entry
  pub has_served : HasServed stands AreNoticesOf h entries run
  pub lines_are : HaveReadLines h entries lines
  pub size : length entries + left ≡ all
  pub reads : there ≡ commands_among h (length text) (map sent_by entries) left (lines_from text at)
  pub is_kept : IsKept whole entries kept

-- the lines of a piece are those of its entries
lines_more : (h : Header) (entries more : List Entry) (sent : List Sent) (was now : ReadLines) → HaveReadLines h entries was → map sent_by more ≡ sent → now.len ≤ length now.rest.now → lines_of now ≡ lines_of was ++ flat_map (sent_line h) sent → HaveReadLines h (entries ++ more) now
lines_more h entries more sent was now are sent_is within lines = record {
  within = within;
  are = lines
      ∙ ap₂ (λ (front last : List ℕ). front ++ last) are.are (ap (flat_map (sent_line h)) (sym sent_is) ∙ flat_map-map (sent_line h) sent_by more)
      ∙ sym (flat_map-append (entry_line h) entries more);
}

-- one piece more was read and served
pub piece_served : (h : Header) (text : List ℕ) (there : Result (List Sent) ℕ) (whole : Bool) (kept kept' : Kept) (was now : Ran HostState DayNotices) (lines lines' : ReadLines) (all left left' at at' : ℕ) (sent : List Sent)
    → HasReadSome h text there whole kept was lines all left at → HasReadPiece h text at lines sent lines' at' → HasServedPiece h whole was kept sent now kept' → left ≡ length sent + left' → HasReadSome h text there whole kept' now lines' all left' at'
piece_served h text there whole kept kept' was now lines lines' all left left' at at' sent has piece served parts =
    let sent_all : map sent_by (has.entries ++ served.more) ≡ map sent_by has.entries ++ sent = map-append sent_by has.entries served.more ∙ ap (λ (xs : List Sent). map sent_by has.entries ++ xs) served.sent_is in
    record {
      entries = has.entries ++ served.more;
      has_served = served.goes_on has.entries has.has_served;
      lines_are = lines_more h has.entries served.more sent lines lines' has.lines_are served.sent_is piece.behind.within piece.lines;
      size = omega (arith, has.size, parts, length-append has.entries served.more, length-map served.more sent_by, ap length served.sent_is);
      reads = has.reads ∙ ap (λ (n : ℕ). commands_among h (length text) (map sent_by has.entries) n (lines_from text at)) parts
          ∙ piece.goes_on (map sent_by has.entries) left'
          ∙ ap (λ (b : List Sent). commands_among h (length text) b left' (lines_from text at')) (sym sent_all);
      is_kept = served.keeps has.entries has.is_kept;
    }

-- or it could not be read
pub piece_stops : (h : Header) (whole : Bool) (kept : Kept) (text : List ℕ) (at : ℕ) (before : List Sent) (was now : ReadLines) (sent : List Sent) (count left left' : ℕ) (stop : Stop) (there : Result (List Sent) ℕ) → left ≡ count + left' → ReadsPiece h text at was count sent now (Err stop)
    → there ≡ commands_among h (length text) before left (lines_from text at) → ReadsEntries h whole kept (Err stop) there
piece_stops h whole kept text at before was now sent count left left' (Wrong offset) there parts stops is =
    is ∙ ap (λ (n : ℕ). commands_among h (length text) before n (lines_from text at)) parts ∙ stops before left'
piece_stops h whole kept text at before was now sent count left left' (Memory memory) there parts stops is = tt
