-- A legal history has one output.
use Rattle.std.proofs.Common.{ℕ, ◌≡◌, ◌<◌, List, ◌++◌, ap, ap₂, sym, ◌∙◌, flat_map, codes, append_assoc}
use Rattle.fx_amounts.specs.declared.side.Side.TheVariants.{Buy, Sell}
use Rattle.fx_rules.specs.declared.orders.Level.{Level}
use Rattle.fx_rules.specs.declared.outcome.Entry.{Entry}
use Rattle.fx_rules.specs.Lists.{below}
use Rattle.fx_rules.specs.Session.{Header, IsSession, bank_count, pair_count, bank_name}
use Rattle.fx_rules.specs.State.{State}
use Rattle.fx_rules.specs.History.{IsLegal, state}
use Rattle.fx_rules.specs.Sound.{IsSound}
use Rattle.fx_rules.proofs.Below.{flat_map-same}
use Rattle.fx_rules.proofs.Soundness.{legal-sound, weight_of-least}
use Rattle.fx_rules.proofs.Determined.{shows-same}
use Rattle.session_head.specs.HeadText.{head_text_of}
use Rattle.reply_lines.specs.Rows.{row}
use Rattle.reply_lines.specs.Notices.{book_fields}
use Rattle.reply_lines.specs.Books.{LocalBook, AreBooks, book_line, books_text}
use Rattle.reply_lines.specs.inside.Books.{book_lines}
use Rattle.reply_lines.specs.Report.{report_text}
use Rattle.reply_lines.specs.Output.{journal_text, desks_text, day_text, last_text, IsDayText, IsOutput, IsRestOfOutput}
use Rattle.reply_lines.specs.declared.output.Ending.{Ending}
use Rattle.reply_lines.specs.Laws.{OneOutput, OutputFromBooks}
use Rattle.reply_lines.proofs.Outputs.{day-books, is_day, is_output}

abbrev AreSame : LocalBook → LocalBook → Type 0
AreSame one other = (one.bids ≡ other.bids) × (one.asks ≡ other.asks)

book_same : (h : Header) (S : State) (books others : ℕ → ℕ → LocalBook) (bank pair : ℕ) → IsSession h → IsSound h S → AreBooks h S books → AreBooks h S others → bank < bank_count h → pair < pair_count h → AreSame (books bank pair) (others bank pair)
book_same h S books others bank pair session sound are they first second =
    let some = weight_of-least h pair session second in
    let one = are bank pair first second in
    let other = they bank pair first second in (
      shows-same h S bank pair Sell (books bank pair).bids (others bank pair).bids sound first some one.sells other.sells,
      shows-same h S bank pair Buy (books bank pair).asks (others bank pair).asks sound first some one.buys other.buys,
    )

line_same : (h : Header) (books others : ℕ → ℕ → LocalBook) (bank pair : ℕ) → AreSame (books bank pair) (others bank pair) → book_line h books bank pair ≡ book_line h others bank pair
line_same h books others bank pair same = ap₂ (λ (bids asks : List Level). row (bank_name h bank) (book_fields h pair bids asks)) same.0 same.1

books_same : (h : Header) (books others : ℕ → ℕ → LocalBook) → ((bank pair : ℕ) → bank < bank_count h → pair < pair_count h → AreSame (books bank pair) (others bank pair))
    → flat_map (book_lines h books) (below (bank_count h)) ≡ flat_map (book_lines h others) (below (bank_count h))
books_same h books others same =
    flat_map-same (book_lines h books) (book_lines h others) (bank_count h) (λ bank first.
    flat_map-same (book_line h books bank) (book_line h others bank) (pair_count h) (λ pair second. line_same h books others bank pair (same bank pair first second)))

-- the local books of a state are one
books_text-same : (h : Header) (S : State) (books others : ℕ → ℕ → LocalBook) → IsSession h → IsSound h S → AreBooks h S books → AreBooks h S others → books_text h books ≡ books_text h others
unfolding books_text
books_text-same h S books others session sound are they =
    ap (λ (lines : List ℕ). codes "BOOKS\n" ++ lines) (books_same h books others (λ bank pair first second. book_same h S books others bank pair session sound are they first second))

-- a legal history has one text of its day
pub days_agree : (h : Header) (entries : List Entry) (day other : List ℕ) → IsLegal h entries → IsDayText h entries day → IsDayText h entries other → day ≡ other
unfolding day_text
days_agree h entries day other legal is they =
    is.exactly
    ∙ ap (λ (books : List ℕ). head_text_of h ++ (journal_text h entries ++ (desks_text h entries ++ (books ++ report_text h (state h entries)))))
    (books_text-same h (state h entries) is.books they.books legal.session (legal-sound h entries legal) is.at_the_end they.at_the_end)
    ∙ sym they.exactly

-- two outputs of a legal history are one
outputs_same : (h : Header) (entries : List Entry) (strays : ℕ) (ending : Ending) (one other : List ℕ) → IsLegal h entries → IsOutput h entries strays ending one → IsOutput h entries strays ending other → one ≡ other
outputs_same h entries strays ending one other legal is they =
    is.exactly
    ∙ ap (λ (day : List ℕ). day ++ last_text strays ending)
    (days_agree h entries (day_text h entries is.books) (day_text h entries they.books) legal (is_day h entries is.books is.at_the_end) (is_day h entries they.books they.at_the_end))
    ∙ sym they.exactly

pub one_output : OneOutput
one_output h entries strays ending legal =
    let books = day-books h entries legal in
    let one : List ℕ = day_text h entries books.0 ++ last_text strays ending in
    let is : IsOutput h entries strays ending one = is_output h entries strays ending books.0 books.1 in
    (one, is, λ other they. outputs_same h entries strays ending one other legal is they)

-- header, journal and desks, and the rest of an output behind them
from_books : (h : Header) (entries : List Entry) (strays : ℕ) (ending : Ending) (rest : List ℕ) → IsRestOfOutput h entries strays ending rest
    → IsOutput h entries strays ending (head_text_of h ++ (journal_text h entries ++ (desks_text h entries ++ rest)))
unfolding day_text
from_books h entries strays ending rest is =
    let closing : List ℕ = books_text h is.books ++ report_text h (state h entries) in
    let last : List ℕ = last_text strays ending in
    record {
      books = is.books;
      at_the_end = is.at_the_end;
      exactly = ap (λ (text : List ℕ). head_text_of h ++ (journal_text h entries ++ (desks_text h entries ++ text))) is.exactly
          ∙ sym (append_assoc (head_text_of h) (journal_text h entries ++ (desks_text h entries ++ closing)) last
          ∙ ap (λ (text : List ℕ). head_text_of h ++ text)
          (append_assoc (journal_text h entries) (desks_text h entries ++ closing) last
          ∙ ap (λ (text : List ℕ). journal_text h entries ++ text) (append_assoc (desks_text h entries) closing last)));
    }

pub output_from_books : OutputFromBooks
output_from_books h entries strays ending text rest legal is from =
    outputs_same h entries strays ending text (head_text_of h ++ (journal_text h entries ++ (desks_text h entries ++ rest))) legal is (from_books h entries strays ending rest from)
