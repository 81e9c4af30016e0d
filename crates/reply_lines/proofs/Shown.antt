-- The local books that a market shows are those of each state that it stands for and to which a legal history led.
use Rattle.std.proofs.Common.{ℕ, ◌≡◌, ◌<◌, List, [], ◌∷◌, ◌++◌, ap, ◌∙◌}
use Rattle.fx_amounts.specs.declared.side.Side.TheVariants.{Buy, Sell}
use Rattle.fx_rules.specs.declared.orders.Level.{Level}
use Rattle.fx_rules.specs.declared.outcome.Outcome.TheVariants.{Depth}
use Rattle.fx_rules.specs.Session.{Header, bank_count, pair_count, bank_name}
use Rattle.fx_rules.specs.State.{State}
use Rattle.fx_rules.specs.History.{state}
use Rattle.fx_rules.specs.Depth.{IsDepth}
use Rattle.fx_rules.specs.Market.{InEach, IsDepthOf}
use Rattle.fx_rules.proofs.Determined.{shows-same}
use Rattle.fx_rules.proofs.Soundness.{legal-sound}
use Rattle.fx_rules.proofs.SweepSound.{weight_of-least}
use Rattle.reply_lines.specs.Books.{LocalBook, book_line}
use Rattle.reply_lines.specs.inside.Books.{AreBooksOf}
use Rattle.reply_lines.specs.Notices.{book_fields}
use Rattle.fx_text.specs.Fields.{fields_text}

-- what the market shows is what the books have
pub shown : {M : Type 0} {stands : M → Header → State → Type 0} {market : M} (h : Header) (books : ℕ → ℕ → LocalBook) (bank pair : ℕ) (bids asks : List Level) → AreBooksOf stands h market books → bank < bank_count h → pair < pair_count h → InEach (stands market) (IsDepthOf bank pair (Depth bids asks)) → (bids ≡ (books bank pair).bids) × (asks ≡ (books bank pair).asks)
shown h books bank pair bids asks are bank_in pair_in shows =
    let S : State = state h are.entries in
    let own : IsDepth h S bank pair bids asks = shows h are.entries are.legal are.at_the_end in
    let has : IsDepth h S bank pair (books bank pair).bids (books bank pair).asks = are.are_books bank pair bank_in pair_in in
    let sound = legal-sound h are.entries are.legal in
    let some = weight_of-least h pair are.legal.session pair_in in (
      shows-same h S bank pair Sell bids (books bank pair).bids sound bank_in some own.sells has.sells,
      shows-same h S bank pair Buy asks (books bank pair).asks sound bank_in some own.buys has.buys,
    )

-- the line that is made of what the market shows
pub line_of : {M : Type 0} {stands : M → Header → State → Type 0} {market : M} (h : Header) (books : ℕ → ℕ → LocalBook) (bank pair : ℕ) (bids asks bid_items ask_items : List Level) (name begun pushed ended : List ℕ) → AreBooksOf stands h market books → bank < bank_count h → pair < pair_count h → InEach (stands market) (IsDepthOf bank pair (Depth bids asks))
    → bid_items ≡ bids → ask_items ≡ asks → name ≡ bank_name h bank → begun ≡ name → pushed ≡ begun ++ fields_text (book_fields h pair bid_items ask_items) → ended ≡ pushed ++ 10 ∷ [] → ended ≡ book_line h books bank pair
line_of h books bank pair bids asks bid_items ask_items name begun pushed ended are bank_in pair_in shows bids_are asks_are named began put end =
    let both = shown h books bank pair bids asks are bank_in pair_in shows in
    end ∙ ap (λ text. text ++ 10 ∷ [])
    (put ∙ ap (λ text. text ++ fields_text (book_fields h pair bid_items ask_items)) (began ∙ named)
    ∙ ap (λ levels. bank_name h bank ++ fields_text (book_fields h pair levels ask_items)) (bids_are ∙ both.0)
    ∙ ap (λ levels. bank_name h bank ++ fields_text (book_fields h pair (books bank pair).bids levels)) (asks_are ∙ both.1))
