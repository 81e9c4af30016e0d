-- An output tells its history.
use Rattle.std.proofs.Common.{◌≡◌, ℕ, ◌+◌, ◌≤◌, List, [], ◌∷◌, ◌++◌, length, map, drop, codes, Result, Ok, Err, refl, sym, ap, ◌∙◌, subst, arith, append_assoc, append-nil}
use Rattle.std.specs.List.{flat_map}
use Rattle.std.proofs.lemmas.List.{drop_at, append_cancel_left}
use Rattle.std.proofs.lemmas.List.Elements.{All-cons}
use Rattle.fx_amounts.specs.Numeral.{numeral}
use Rattle.fx_text.specs.Lines.{parts_of, all_but_last}
use Rattle.fx_rules.specs.Session.{Header}
use Rattle.fx_rules.specs.State.{opening}
use Rattle.fx_rules.specs.History.{IsLegal}
use Rattle.fx_rules.specs.declared.outcome.Entry.{Entry}
use Rattle.session_head.specs.HeadText.{head_text_of}
use Rattle.reply_lines.specs.inside.Journals.{count_line}
use Rattle.reply_lines.specs.Output.{entry_line, journal_text, day_text, last_text, IsDayText, IsOutput}
use Rattle.reply_lines.specs.declared.output.Ending.{Ending}
use Rattle.journal_check.specs.Lines.{lines_from}
use Rattle.fx_rules.specs.declared.command.Sent.{Sent}
use Rattle.journal_check.specs.Listed.{Listed, commands_among, listed}
use Rattle.fx_rules.specs.Sending.{sent_by}
use Rattle.journal_check.specs.Verdict.{day_verdict, IsJudged, IsVerdictOn}
use Rattle.journal_check.specs.Laws.{OutputsAgree, VerdictsAgree}
use Rattle.journal_check.specs.declared.check.Verdict.{Verdict}
use Rattle.journal_check.specs.declared.header.Headed.{Headed}
use Rattle.journal_check.proofs.LineLemmas.{parts_of-line}
use Rattle.journal_check.proofs.HeadWalk.{header_among-head_text}
use Rattle.journal_check.proofs.JournalWalk.{entries_at}
use Rattle.fx_rules.proofs.Continuing.{histories_agree}
use Rattle.journal_check.proofs.Histories.{steps_sent, day_begins}
use Rattle.reply_lines.proofs.Outputs.{is_day}
use Rattle.reply_lines.proofs.Singly.{days_agree}
use Rattle.journal_check.proofs.LastLines.{numeral_plain, same_number, last_agrees}
use Rattle.journal_check.proofs.Walking.{IsPlain, unbroken, IsAt-plain, ended}

-- The number of entries

abbrev count_part : ℕ → List ℕ
count_part n = codes "JOURNAL " ++ numeral n

journal_word : (rest : List ℕ) → IsPlain rest → IsPlain (codes "JOURNAL " ++ rest)
journal_word rest plain =
    All-cons (λ byte. 32 ≤ byte) 74 (codes "OURNAL " ++ rest) (omega arith) (All-cons (λ byte. 32 ≤ byte) 79 (codes "URNAL " ++ rest) (omega arith)
    (All-cons (λ byte. 32 ≤ byte) 85 (codes "RNAL " ++ rest) (omega arith) (All-cons (λ byte. 32 ≤ byte) 82 (codes "NAL " ++ rest) (omega arith)
    (All-cons (λ byte. 32 ≤ byte) 78 (codes "AL " ++ rest) (omega arith) (All-cons (λ byte. 32 ≤ byte) 65 (codes "L " ++ rest) (omega arith)
    (All-cons (λ byte. 32 ≤ byte) 76 (codes " " ++ rest) (omega arith) (All-cons (λ byte. 32 ≤ byte) 32 rest (omega arith) plain)))))))

count_plain : (n : ℕ) → IsPlain (count_part n)
count_plain n = journal_word (numeral n) (numeral_plain n)

count_line-part : (n : ℕ) → count_line n ≡ count_part n ++ 10 ∷ []
unfolding count_line
count_line-part n = ap (λ (t : List ℕ). codes "JOURNAL " ++ (t ++ 10 ∷ [])) (append-nil (numeral n))

first_parts : (n : ℕ) (more : List ℕ) → all_but_last (parts_of (count_part n ++ 10 ∷ more)) ≡ count_part n ∷ all_but_last (parts_of more)
first_parts n more = parts_of-line (count_part n) more (unbroken (count_part n) (count_plain n))

heads_agree : (p q : List ℕ) (more others : List (List ℕ)) → p ∷ more ≡ q ∷ others → p ≡ q
heads_agree p q more others same = cc

counts_agree : (n m : ℕ) (more others : List ℕ) → count_part n ++ 10 ∷ more ≡ count_part m ++ 10 ∷ others → n ≡ m
counts_agree n m more others same =
    let parts : count_part n ≡ count_part m = heads_agree (count_part n) (count_part m) (all_but_last (parts_of more)) (all_but_last (parts_of others))
    (sym (first_parts n more) ∙ ap (λ (text : List ℕ). all_but_last (parts_of text)) same ∙ first_parts m others) in
    same_number n m (ap (drop 8) parts)

-- The commands

-- where a text has the journal of a history
record HasJournal (h : Header) (text : List ℕ) (at : ℕ) (entries : List Entry) : Type 0 where
  more : List ℕ
  there : drop at text ≡ count_part (length entries) ++ 10 ∷ (flat_map (entry_line h) entries ++ more)

has_journal : (h : Header) (text : List ℕ) (at : ℕ) (entries : List Entry) (more : List ℕ) → drop at text ≡ journal_text h entries ++ more → HasJournal h text at entries
unfolding journal_text count_line
has_journal h text at entries more there = record {
  more = more;
  there = there ∙ append_assoc (count_line (length entries)) (flat_map (entry_line h) entries) more
      ∙ ap (λ (t : List ℕ). t ++ (flat_map (entry_line h) entries ++ more)) (count_line-part (length entries))
      ∙ ended (count_part (length entries)) (flat_map (entry_line h) entries ++ more);
}

commands_of : (h : Header) (text : List ℕ) (at : ℕ) (entries : List Entry) → IsLegal h entries → HasJournal h text at entries
    → commands_among h (length text) [] (length entries) (lines_from text (at + length (count_part (length entries)) + 1)) ≡ Ok (map sent_by entries)
commands_of h text at entries legal has =
    let on = IsAt-plain text at (count_part (length entries)) (flat_map (entry_line h) entries ++ has.more) has.there (count_plain (length entries)) in
    entries_at h (length text) text has.more entries (at + length (count_part (length entries)) + 1) [] legal.session (steps_sent h (opening h) entries legal.steps) on.rest

ok_agree : (xs ys : List Sent) → ◌≡◌ {A = Result (List Sent) ℕ} (Ok xs) (Ok ys) → xs ≡ ys
ok_agree xs ys same = cc

journals_agree : (h : Header) (text : List ℕ) (at : ℕ) (entries others : List Entry) → IsLegal h entries → IsLegal h others → HasJournal h text at entries → HasJournal h text at others → entries ≡ others
journals_agree h text at entries others legal other_legal has other_has =
    let count : length entries ≡ length others = counts_agree (length entries) (length others) (flat_map (entry_line h) entries ++ has.more) (flat_map (entry_line h) others ++ other_has.more) (sym has.there ∙ other_has.there) in
    let commands : map sent_by entries ≡ map sent_by others =
    ok_agree (map sent_by entries) (map sent_by others)
    (sym (commands_of h text at entries legal has)
    ∙ ap (λ (n : ℕ). commands_among h (length text) [] n (lines_from text (at + length (count_part n) + 1))) count
    ∙ commands_of h text at others other_legal other_has) in
    histories_agree h entries others legal other_legal commands

-- The whole

-- a text that is an output, by its parts
record HasParts (h : Header) (entries : List Entry) (text : List ℕ) : Type 0 where
  more : List ℕ
  is : text ≡ head_text_of h ++ (journal_text h entries ++ more)

parts_of_output : (h : Header) (entries : List Entry) (strays : ℕ) (ending : Ending) (text : List ℕ) → IsOutput h entries strays ending text → HasParts h entries text
parts_of_output h entries strays ending text is =
    let day = day_begins h entries (day_text h entries is.books) (is_day h entries is.books is.at_the_end) in
    record {
      more = day.0 ++ last_text strays ending;
      is = is.exactly ∙ ap (λ (d : List ℕ). d ++ last_text strays ending) day.1
          ∙ append_assoc (head_text_of h) (journal_text h entries ++ day.0) (last_text strays ending)
          ∙ ap (λ (t : List ℕ). head_text_of h ++ t) (append_assoc (journal_text h entries) day.0 (last_text strays ending));
    }

found_agree : (one other : Headed) → ◌≡◌ {A = Result Headed ℕ} (Ok one) (Ok other) → one.session ≡ other.session
found_agree one other same = let inside : one ≡ other = cc in ap (λ (found : Headed). found.session) inside

headers_agree : (one other : Header) (entries others : List Entry) (text : List ℕ) → IsLegal one entries → IsLegal other others → HasParts one entries text → HasParts other others text → one ≡ other
headers_agree one other entries others text legal other_legal has other_has =
    found_agree (record { session = one; next = length (head_text_of one) }) (record { session = other; next = length (head_text_of other) })
    (sym (header_among-head_text one (length text) text (journal_text one entries ++ has.more) legal.session has.is)
    ∙ header_among-head_text other (length text) text (journal_text other others ++ other_has.more) other_legal.session other_has.is)

journal_of : (h : Header) (entries : List Entry) (text : List ℕ) → HasParts h entries text → HasJournal h text (length (head_text_of h)) entries
journal_of h entries text has =
    has_journal h text (length (head_text_of h)) entries has.more
    (ap (drop (length (head_text_of h))) has.is ∙ drop_at (head_text_of h) (journal_text h entries ++ has.more) (length (head_text_of h)) refl)

abbrev Agree : Header → List Entry → ℕ → Ending → Header → List Entry → ℕ → Ending → Type 0
Agree one entries strays ending other others others_strays others_ending = (one ≡ other) × (entries ≡ others) × (strays ≡ others_strays) × (ending ≡ others_ending)

-- with one session and one history
last_lines_agree : (h : Header) (entries : List Entry) (strays others : ℕ) (ending other : Ending) (text : List ℕ) → IsLegal h entries → IsOutput h entries strays ending text → IsOutput h entries others other text → (strays ≡ others) × (ending ≡ other)
last_lines_agree h entries strays others ending other text legal is they =
    let one : List ℕ = day_text h entries is.books in
    let two : List ℕ = day_text h entries they.books in
    let day : one ≡ two = days_agree h entries one two legal (is_day h entries is.books is.at_the_end) (is_day h entries they.books they.at_the_end) in
    last_agrees strays others ending other
    (append_cancel_left one (last_text strays ending) (last_text others other)
    (sym is.exactly ∙ they.exactly ∙ ap (λ (d : List ℕ). d ++ last_text others other) (sym day)))

-- with one session
agree_in : (h : Header) (entries others : List Entry) (strays others_strays : ℕ) (ending others_ending : Ending) (text : List ℕ) → IsLegal h entries → IsLegal h others → IsOutput h entries strays ending text → IsOutput h others others_strays others_ending text
    → Agree h entries strays ending h others others_strays others_ending
agree_in h entries others strays others_strays ending others_ending text legal other_legal is they =
    let same : entries ≡ others = journals_agree h text (length (head_text_of h)) entries others legal other_legal
    (journal_of h entries text (parts_of_output h entries strays ending text is)) (journal_of h others text (parts_of_output h others others_strays others_ending text they)) in
    let last = last_lines_agree h entries strays others_strays ending others_ending text legal is
    (subst (λ (es : List Entry). IsOutput h es others_strays others_ending text) (sym same) they) in
    (refl, same, last.0, last.1)

pub outputs_agree : OutputsAgree
outputs_agree one other entries others strays others_strays ending others_ending text legal other_legal is they =
    let session : other ≡ one = sym (headers_agree one other entries others text legal other_legal (parts_of_output one entries strays ending text is) (parts_of_output other others others_strays others_ending text they)) in
    let inside = agree_in one entries others strays others_strays ending others_ending text legal
    (subst (λ (h : Header). IsLegal h others) session other_legal) is (subst (λ (h : Header). IsOutput h others others_strays others_ending text) session they) in
    (sym session, inside.1, inside.2, inside.3)

-- The verdict

judged_agree : (text : List ℕ) (found : Listed) (one other : Verdict) → IsJudged text found one → IsJudged text found other → one ≡ other
judged_agree text found one other is they =
    let entries : they.entries ≡ is.entries = histories_agree found.session they.entries is.entries they.legal is.legal (they.in_order ∙ sym is.in_order) in
    let day : is.day ≡ they.day = days_agree found.session is.entries is.day they.day is.legal is.is_day
    (subst (λ (es : List Entry). IsDayText found.session es they.day) entries they.is_day) in
    is.judged ∙ ap (day_verdict text) day ∙ sym they.judged

agree_on : (text : List ℕ) (read : Result Listed ℕ) (one other : Verdict) → IsVerdictOn text read one → IsVerdictOn text read other → one ≡ other
agree_on text (Ok found) one other is they = judged_agree text found one other is they
agree_on text (Err offset) one other is they = is ∙ sym they

pub verdicts_agree : VerdictsAgree
verdicts_agree text one other is they = agree_on text (listed text) one other is they
