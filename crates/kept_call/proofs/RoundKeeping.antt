-- A run that keeps round after round: a round more, and a fault at the end.
use Rattle.std.proofs.Common.{ℕ, ◌≡◌, ◌≤◌, List, [], ◌∷◌, ◌++◌, map, Option, inl, inr, refl, ap, sym, ◌∙◌, subst, append_assoc, append-nil}
use Rattle.std.specs.Prelude.{is_some}
use Rattle.fx_rules.specs.declared.command.Sent.{Sent}
use Rattle.fx_rules.specs.declared.outcome.Entry.{Entry}
use Rattle.fx_rules.specs.Session.{Header}
use Rattle.fx_rules.specs.Sending.{sent_by}
use Rattle.fx_chronicle.specs.Faces.{Witness}
use Rattle.fx_edges.specs.Writing.{Appended}
use Rattle.fx_disk.specs.Disk.{WhereTold, LeavesOnly}
use Rattle.gateway_workers.specs.declared.lane.Lane.{Lane}
use Rattle.keep_disk.specs.Blocks.{whole_blocks, HasOrLacks}
use Rattle.keep_disk.specs.Keeping.{AtRest}
use Rattle.keep_disk.specs.Rounds.{KeptBlocks, KeptBeforeTold, KeptSoFar}
use Rattle.keep_disk.specs.declared.rounds.Round.{Round}
use Rattle.keep_disk.proofs.Telling.{kept_stopped, kept_more, kept_cut}
use Rattle.reply_lines.specs.Telling.{told_text}
use Rattle.session_head.specs.HeadText.{head_text_of}
use Rattle.kept_call.specs.KeptRounds.{block_of, entries_of, AreRoundsOf}
use Rattle.kept_call.specs.Running.{StandsBehind, Start, new_session, KeepsOn, HasNotBegun, HasKeptSome, AreBegunBy}
use Rattle.kept_call.specs.inside.Rounds.{IsRoundOf}
use Rattle.kept_call.proofs.Streams.{begun-by}
use Rattle.kept_call.proofs.Rounds.{entries-more, rounds-none, rounds-head, rounds-more}

-- the round of entries, by the name that the session has
pub is-round : (session h : Header) (before entries : List Entry) (round : Round) → session ≡ h → round.body.items ≡ block_of session entries → round.text.items ≡ told_text session before entries → IsRoundOf h before entries round
is-round session h before entries round same body text = record { body = body ∙ ap (λ (s : Header). block_of s entries) same; text = text ∙ ap (λ (s : Header). told_text s before entries) same }

-- where a round more was served, by the names of the kept history and of what was served behind it
pub stands-more : (h : Header) (kept entries more : List Entry) (sent round : List Sent) (gathered : ℕ) (lanes : List (Lane (Witness Entry))) (counts : List ℕ)
    → StandsBehind h ((map sent_by kept ++ sent) ++ round) ((kept ++ entries) ++ more) gathered lanes counts → StandsBehind h (map sent_by kept ++ (sent ++ round)) (kept ++ (entries ++ more)) gathered lanes counts
stands-more h kept entries more sent round gathered lanes counts stands =
    subst (λ (ss : List Sent). StandsBehind h ss (kept ++ (entries ++ more)) gathered lanes counts) (append_assoc (map sent_by kept) sent round)
    (subst (λ (es : List Entry). StandsBehind h ((map sent_by kept ++ sent) ++ round) es gathered lanes counts) (append_assoc kept entries more) stands)

module _ {D K : Type 0} (bytes : D → Option (List ℕ)) (may_leave : D → List ℕ → Type 0) (moment : D → ℕ) (left_since : D → ℕ → List ℕ → Type 0)
    (written : K → Option (List ℕ)) (faults : K → ℕ) where
  abbrev On : Start D K → D → K → Header → List Sent → ℕ → ℕ → List (Lane (Witness Entry)) → List ℕ → Type 0
  On start disk out h sent place gathered lanes counts = KeepsOn bytes may_leave moment left_since written faults start disk out h sent place gathered lanes counts

  abbrev Stopped : Start D K → D → K → Header → List Sent → Type 0
  Stopped start disk out h sent = HasKeptSome bytes may_leave moment left_since written faults start disk out h sent

  -- a run that goes on from a kept history, whose commands were served again
  pub keeps-from : (d0 d : D) (k0 k : K) (h : Header) (kept : List Entry) (place gathered : ℕ) (lanes : List (Lane (Witness Entry))) (counts : List ℕ) → StandsBehind h (map sent_by kept) kept gathered lanes counts
      → KeptSoFar bytes may_leave moment left_since written faults d0 d k0 k [] → AtRest bytes may_leave d place → On (record { disk = d0; out = k0; kept = kept; front = [] }) d k h [] place gathered lanes counts
  keeps-from d0 d k0 k h kept place gathered lanes counts stands so_far at_rest = record {
    entries = [];
    stands =
        subst (λ (ss : List Sent). StandsBehind h ss (kept ++ []) gathered lanes counts) (sym (append-nil (map sent_by kept)))
        (subst (λ (es : List Entry). StandsBehind h (map sent_by kept) es gathered lanes counts) (sym (append-nil kept)) stands);
    has_kept = record { parts = []; joined = refl; rounds = []; are_rounds = rounds-none h kept; so_far = so_far };
    at_rest = at_rest;
  }

  -- a new session's header
  module _ (d0 d : D) (k0 k : K) (h : Header) (so_far : KeptSoFar bytes may_leave moment left_since written faults d0 d k0 k []) where
    abbrev NotBegun : D → K → Type 0
    NotBegun disk out = HasNotBegun bytes may_leave moment left_since written faults (new_session h d0 k0) disk out h

    -- out of memory before it is appended
    pub begins-short : NotBegun d k
    begins-short = record { rounds = []; at_most = inl refl; up_to = kept_stopped bytes may_leave moment left_since written faults d0 d k0 k [] so_far }

    module _ (reads : (disk : D) → WhereTold (bytes disk) (λ file. may_leave disk file)) (made : Round) (body : made.body.items ≡ head_text_of h) (text : made.text.items ≡ []) (d' : D) (k' : K)
        (moments : WhereTold (bytes d) (λ file. LeavesOnly moment left_since d d' (HasOrLacks (whole_blocks file) made.body.items))) where
      pub begins-on : (place gathered : ℕ) (lanes : List (Lane (Witness Entry))) (counts : List ℕ) → StandsBehind h [] [] gathered lanes counts → is_some (bytes d') ≡ is_some (bytes d)
          → KeptBlocks bytes may_leave d d' (made.body.items ∷ []) → Appended written faults k k' made.text.items → AtRest bytes may_leave d' place → On (new_session h d0 k0) d' k' h [] place gathered lanes counts
      begins-on place gathered lanes counts stands tells kept told at_rest = record {
        entries = [];
        stands = stands;
        has_kept = record {
          parts = [];
          joined = refl;
          rounds = made ∷ [];
          are_rounds = rounds-head h [] (head_text_of h) made body text;
          so_far = kept_more bytes may_leave moment left_since written faults d0 d k0 k [] so_far d' k' made reads moments tells kept told;
        };
        at_rest = at_rest;
      }

      pub begins-cut : ((disk : D) (t : ℕ) (image : List ℕ) → t ≤ moment disk → may_leave disk image → left_since disk t image)
          → KeptBeforeTold bytes may_leave written faults d d' k k' made.body.items made.text.items → NotBegun d' k'
      begins-cut counts_now stopped = record {
        rounds = made ∷ [];
        at_most = inr (rounds-head h [] (head_text_of h) made body text);
        up_to = kept_cut bytes may_leave moment left_since written faults d0 d k0 k [] so_far d' k' made reads moments counts_now stopped;
      }

  module _ (start : Start D K) (disk : D) (out : K) (h : Header) (sent : List Sent) (place gathered : ℕ) (lanes : List (Lane (Witness Entry))) (counts : List ℕ) (keeps : On start disk out h sent place gathered lanes counts) where
    -- a round without commands
    pub keeps-idle : (round : List Sent) → round ≡ [] → On start disk out h (sent ++ round) place gathered lanes counts
    keeps-idle round none = subst (λ (ss : List Sent). On start disk out h ss place gathered lanes counts) (sym (ap (λ (ss : List Sent). sent ++ ss) none ∙ append-nil sent)) keeps

    -- out of memory before the round is kept
    pub stops-short : (round : List Sent) → Stopped start disk out h (sent ++ round)
    stops-short round =
        let kept = keeps.has_kept in
        record {
          entries = keeps.entries;
          legal = keeps.stands.has_gathered.legal;
          begun = begun-by start.kept keeps.entries sent round keeps.stands.has_gathered.streams;
          parts = kept.parts;
          joined = kept.joined;
          rounds = kept.rounds;
          are_rounds = kept.are_rounds;
          up_to = kept_stopped bytes may_leave moment left_since written faults start.disk disk start.out out kept.rounds kept.so_far;
        }

    module _ (reads : (d : D) → WhereTold (bytes d) (λ file. may_leave d file)) (round : List Sent) (more : List Entry) (made : Round) (place' gathered' : ℕ) (lanes' : List (Lane (Witness Entry))) (counts' : List ℕ)
        (is : IsRoundOf h (start.kept ++ keeps.entries) more made) (stands : StandsBehind h ((map sent_by start.kept ++ sent) ++ round) ((start.kept ++ keeps.entries) ++ more) gathered' lanes' counts')
        (disk' : D) (out' : K) (moments : WhereTold (bytes disk) (λ file. LeavesOnly moment left_since disk disk' (HasOrLacks (whole_blocks file) made.body.items))) where
      joined-more : keeps.entries ++ more ≡ entries_of (keeps.has_kept.parts ++ more ∷ [])
      joined-more = ap (λ (es : List Entry). es ++ more) keeps.has_kept.joined ∙ sym (entries-more keeps.has_kept.parts more)

      are-more : AreRoundsOf h start.kept start.front (keeps.has_kept.parts ++ more ∷ []) (keeps.has_kept.rounds ++ made ∷ [])
      are-more =
          rounds-more h start.kept start.front keeps.has_kept.parts keeps.has_kept.rounds more made keeps.has_kept.are_rounds is.body
          (subst (λ (es : List Entry). made.text.items ≡ told_text h (start.kept ++ es) more) keeps.has_kept.joined is.text)

      stands-here : StandsBehind h (map sent_by start.kept ++ (sent ++ round)) (start.kept ++ (keeps.entries ++ more)) gathered' lanes' counts'
      stands-here = stands-more h start.kept keeps.entries more sent round gathered' lanes' counts' stands

      -- one round more is kept and told
      pub keeps-more : is_some (bytes disk') ≡ is_some (bytes disk) → KeptBlocks bytes may_leave disk disk' (made.body.items ∷ []) → Appended written faults out out' made.text.items → AtRest bytes may_leave disk' place'
          → On start disk' out' h (sent ++ round) place' gathered' lanes' counts'
      keeps-more tells kept told at_rest = record {
        entries = keeps.entries ++ more;
        stands = stands-here;
        has_kept = record {
          parts = keeps.has_kept.parts ++ more ∷ [];
          joined = joined-more;
          rounds = keeps.has_kept.rounds ++ made ∷ [];
          are_rounds = are-more;
          so_far = kept_more bytes may_leave moment left_since written faults start.disk disk start.out out keeps.has_kept.rounds keeps.has_kept.so_far disk' out' made reads moments tells kept told;
        };
        at_rest = at_rest;
      }

      -- the disk or the sink failed in it
      pub stops-cut : ((d : D) (t : ℕ) (image : List ℕ) → t ≤ moment d → may_leave d image → left_since d t image)
          → KeptBeforeTold bytes may_leave written faults disk disk' out out' made.body.items made.text.items → Stopped start disk' out' h (sent ++ round)
      stops-cut counts_now stopped = record {
        entries = keeps.entries ++ more;
        legal = stands-here.has_gathered.legal;
        begun = subst (λ (ss : List Sent). AreBegunBy ss (keeps.entries ++ more)) (append-nil (sent ++ round)) (begun-by start.kept (keeps.entries ++ more) (sent ++ round) [] stands-here.has_gathered.streams);
        parts = keeps.has_kept.parts ++ more ∷ [];
        joined = joined-more;
        rounds = keeps.has_kept.rounds ++ made ∷ [];
        are_rounds = are-more;
        up_to = kept_cut bytes may_leave moment left_since written faults start.disk disk start.out out keeps.has_kept.rounds keeps.has_kept.so_far disk' out' made reads moments counts_now stopped;
      }
