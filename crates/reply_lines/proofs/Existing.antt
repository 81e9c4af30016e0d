-- Each sound state has local books.
use Rattle.std.proofs.Common.{ℕ, zero, suc, ◌≡◌, ◌≤◌, ◌<◌, List, [], ◌∷◌, ◌⊎◌, inl, inr, take, refl, ap, sym, subst, arith}
use Rattle.std.proofs.lemmas.Bool.{cases_lt}
use Rattle.fx_amounts.specs.declared.side.Side.{Side}
use Rattle.fx_amounts.specs.declared.side.Side.TheVariants.{Buy, Sell}
use Rattle.fx_rules.specs.declared.orders.Fill.{Fill}
use Rattle.fx_rules.specs.declared.orders.Level.{Level}
use Rattle.fx_rules.specs.declared.orders.Resting.{Resting}
use Rattle.fx_rules.specs.Session.{Header, IsSession, bank_count, pair_count, weight_of}
use Rattle.fx_rules.specs.State.{State, reach}
use Rattle.fx_rules.specs.Sweep.{Taker, Swept, IsBest, open_orders, amount, fill_with, filled, less}
use Rattle.fx_rules.specs.Depth.{IsDepth, Shows, unlimited, levels_of}
use Rattle.fx_rules.specs.Sound.{IsSound}
use Rattle.fx_rules.proofs.Credit.{IsAllowed}
use Rattle.fx_rules.proofs.Opens.{allowed-open, maker_of, amount_least, IsMaker}
use Rattle.fx_rules.proofs.Existing.{best-exists}
use Rattle.fx_rules.proofs.SweepSound.{filled-sound, weight_of-least}
use Rattle.reply_lines.specs.Books.{LocalBook, AreBooks}

-- with an order that is open to it a taker that wants something takes a lot at least
lots_least : (h : Header) (S : State) (t : Taker) (o : Resting) → 1 ≤ t.left → IsMaker h S t o → 1 ≤ amount t o (reach h S t.bank o.bank t.pair)
lots_least h S t o wants maker =
    amount_least t o (reach h S t.bank o.bank t.pair) wants
    (omega (arith, maker.kept.left.0, ap (λ (q : Resting). q.left) maker.order)) maker.is_open.reach

-- what a sweep comes to, where so many lots are left at most and these orders are open
swept-exists : (h : Header) (n : ℕ) (S : State) (t : Taker) (orders : List Resting) → IsSound h S → t.bank < bank_count h → 0 < weight_of h t.pair → t.left ≤ n → open_orders h S t ≡ orders → (fills : List Fill) × (left : ℕ) × Swept h S t fills left
swept-exists h n S t [] sound bank some most is = ([], t.left, (refl, inr is))
swept-exists h zero S t (o ∷ orders) sound bank some most is = ([], t.left, (refl, inl (omega arith)))
swept-exists h (suc n) S t (o ∷ orders) sound bank some most is =
    elim (cases_lt 0 t.left) [
      | inl wants ↦
          let found = best-exists t.side o orders in
          let best : Resting = found.0 in
          let is_best : IsBest t.side (open_orders h S t) best = subst (λ open_now. IsBest t.side open_now best) (sym is) found.1 in
          let maker : IsMaker h S t best = maker_of h S t best sound is_best.there in
          let lots : ℕ = amount t best (reach h S t.bank best.bank t.pair) in
          let fill : Fill = fill_with t best lots in
          let some_lots : 1 ≤ lots = lots_least h S t best wants maker in
          let allowed : IsAllowed h S fill = allowed-open h S t best sound bank some wants is_best.there in
          let more = swept-exists h n (filled S fill) (less t lots) (open_orders h (filled S fill) (less t lots)) (filled-sound h S fill sound allowed) bank some (omega arith) refl in
          (fill ∷ more.0, more.1, (best, wants, is_best, refl, more.2))
      | inr none ↦ ([], t.left, (refl, inl (omega arith)))
    ]

shows-exists : (h : Header) (S : State) (bank pair : ℕ) (side : Side) → IsSession h → IsSound h S → bank < bank_count h → pair < pair_count h → (levels : List Level) × Shows h S bank pair side levels
shows-exists h S bank pair side session sound bank_in pair_in =
    let t : Taker = unlimited S bank pair side in
    let swept = swept-exists h t.left S t (open_orders h S t) sound bank_in (weight_of-least h pair session pair_in) (omega arith) refl in
    (take 10 (levels_of swept.0), (swept.0, swept.1, swept.2, refl))

-- the local book of a bank in a pair of the session; none elsewhere
abbrev book_if : (h : Header) (S : State) (bank pair : ℕ) → IsSession h → IsSound h S → ((bank < bank_count h) ⊎ (bank_count h ≤ bank)) → ((pair < pair_count h) ⊎ (pair_count h ≤ pair)) → LocalBook
book_if h S bank pair session sound (inl bank_in) (inl pair_in) = record {
  bids = (shows-exists h S bank pair Sell session sound bank_in pair_in).0;
  asks = (shows-exists h S bank pair Buy session sound bank_in pair_in).0;
}
book_if h S bank pair session sound (inl bank_in) (inr none) = record { bids = []; asks = [] }
book_if h S bank pair session sound (inr none) in_or_out = record { bids = []; asks = [] }

book_if-depth : (h : Header) (S : State) (bank pair : ℕ) (session : IsSession h) (sound : IsSound h S) (b : (bank < bank_count h) ⊎ (bank_count h ≤ bank)) (p : (pair < pair_count h) ⊎ (pair_count h ≤ pair)) → bank < bank_count h → pair < pair_count h → IsDepth h S bank pair (book_if h S bank pair session sound b p).bids (book_if h S bank pair session sound b p).asks
book_if-depth h S bank pair session sound (inl bank_in) (inl pair_in) is_bank is_pair = record {
  sells = (shows-exists h S bank pair Sell session sound bank_in pair_in).1;
  buys = (shows-exists h S bank pair Buy session sound bank_in pair_in).1;
}
book_if-depth h S bank pair session sound (inl bank_in) (inr none) is_bank is_pair = absurd (omega arith)
book_if-depth h S bank pair session sound (inr none) in_or_out is_bank is_pair = absurd (omega arith)

-- a sound state has the local books of all banks
pub books-exist : (h : Header) (S : State) → IsSession h → IsSound h S → (books : ℕ → ℕ → LocalBook) × AreBooks h S books
books-exist h S session sound = (
  (λ bank pair. book_if h S bank pair session sound (cases_lt bank (bank_count h)) (cases_lt pair (pair_count h))),
  (λ bank pair bank_in pair_in. book_if-depth h S bank pair session sound (cases_lt bank (bank_count h)) (cases_lt pair (pair_count h)) bank_in pair_in),
)
