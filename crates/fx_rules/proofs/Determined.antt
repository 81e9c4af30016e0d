-- State and command determine the outcome.
use Rattle.std.proofs.Common.{ℕ, zero, suc, ◌≡◌, ◌+◌, ◌-◌, ◌≤◌, ◌<◌, List, [], ◌∷◌, ◌++◌, take, Option, Some, None, MatchOption, ◌⊎◌, inl, inr, refl, ap, sym, subst, ◌∙◌, arith}
use Rattle.fx_rules.specs.declared.orders.Resting.{Resting}
use Rattle.fx_rules.specs.declared.orders.Fill.{Fill}
use Rattle.fx_rules.specs.declared.command.Command.{Command}
use Rattle.fx_rules.specs.declared.command.Command.TheVariants.{Order, Line, Total, Settle, Book}
use Rattle.fx_amounts.specs.declared.side.Side.{Side}
use Rattle.fx_amounts.specs.declared.side.Side.TheVariants.{Buy, Sell}
use Rattle.fx_rules.specs.declared.orders.Level.{Level}
use Rattle.fx_rules.specs.declared.command.Life.{Life}
use Rattle.fx_rules.specs.declared.command.Life.TheVariants.{Day, Ioc, Fok}
use Rattle.fx_rules.specs.declared.outcome.Outcome.{Outcome}
use Rattle.fx_rules.specs.declared.outcome.Outcome.TheVariants.{Ordered, Killed, LineSet, TotalSet, Settled, Depth}
use Rattle.fx_rules.specs.Lists.{Among}
use Rattle.fx_rules.specs.Session.{Header, IsSession, bank_count, pair_count, weight_of}
use Rattle.fx_rules.specs.State.{State, orders_in, reach}
use Rattle.fx_rules.specs.Sweep.{Taker, Swept, is_open, open_orders, IsBest, amount, fill_with, filled, filled_all, less, taker_of}
use Rattle.fx_rules.specs.Raise.{limited, totalled, settled, order_of, taker_of_resting, Turned, PairsTurned, Raised}
use Rattle.fx_rules.specs.Depth.{unlimited, levels_of, Shows}
use Rattle.fx_rules.specs.Step.{IsCommand, IsOrdered, IsOutcome}
use Rattle.fx_rules.specs.Sound.{IsSound}
use Rattle.fx_rules.proofs.ListLemmas.{Among-filter}
use Rattle.fx_rules.proofs.Opens.{allowed-open}
use Rattle.fx_rules.proofs.Credit.{IsAllowed}
use Rattle.fx_rules.proofs.SweepSound.{filled-sound, swept-sound, weight_of-least}
use Rattle.fx_rules.proofs.RaiseSound.{turn_of, turn-sender, turned-sound, limited-sound, totalled-sound, settled-sound}
use Rattle.fx_rules.proofs.Preference.{best_same}
use Rattle.fx_rules.proofs.Planning.{orders_in-rising}

-- the best open order is one
pub best_open-same : (h : Header) (S : State) (t : Taker) (a b : Resting) → IsSound h S → IsBest t.side (open_orders h S t) a → IsBest t.side (open_orders h S t) b → a ≡ b
best_open-same h S t a b sound best_a best_b =
    best_same t.side (open_orders h S t) (orders_in t.pair S.orders) a b
    (λ o there. (Among-filter (λ (q : Resting). is_open t (reach h S t.bank q.bank t.pair) q) (orders_in t.pair S.orders) o there).0)
    (orders_in-rising t.pair S.orders sound.rising) best_a best_b

-- with something left and an order open, a sweep goes on
goes_on : (h : Header) (S : State) (t : Taker) (best : Resting) → 1 ≤ t.left → Among best (open_orders h S t) → ((t.left ≡ 0) ⊎ (open_orders h S t ≡ [])) → ⊥
goes_on h S t best some there (inl none) = omega arith
goes_on h S t best some there (inr closed) = subst (Among best) closed there

cons_same : (f g : Fill) (fs gs : List Fill) → f ≡ g → fs ≡ gs → f ∷ fs ≡ g ∷ gs
cons_same f g fs gs head tail = cc

-- state and taker determine the fills and what is left
pub swept-same : (h : Header) (S : State) (t : Taker) (fs gs : List Fill) (left rest : ℕ) → IsSound h S → t.bank < bank_count h → 0 < weight_of h t.pair → Swept h S t fs left → Swept h S t gs rest → (fs ≡ gs) × (left ≡ rest)
swept-same h S t [] [] left rest sound bank some one other = (refl, one.0 ∙ sym other.0)
swept-same h S t [] (g ∷ gs) left rest sound bank some one other = absurd (goes_on h S t other.0 other.1 other.2.there one.1)
swept-same h S t (f ∷ fs) [] left rest sound bank some one other = absurd (goes_on h S t one.0 one.1 one.2.there other.1)
swept-same h S t (f ∷ fs) (g ∷ gs) left rest sound bank some one other =
    let best : Resting = one.0 in
    let same_best : other.0 ≡ best = best_open-same h S t other.0 best sound other.2 one.2 in
    let same : g ≡ f = other.3 ∙ ap (λ (q : Resting). fill_with t q (amount t q (reach h S t.bank q.bank t.pair))) same_best ∙ sym one.3 in
    let allowed : IsAllowed h S f = subst (IsAllowed h S) (sym one.3) (allowed-open h S t best sound bank some one.1 one.2.there) in
    let next = swept-same h (filled S f) (less t f.lots) fs gs left rest (filled-sound h S f sound allowed) bank some one.4
    (subst (λ (k : Fill). Swept h (filled S k) (less t k.lots) gs rest) same other.4) in
    (cons_same f g fs gs (sym same) next.0, next.1)

ordered_same : (done rests done' rests' : ℕ) (fills fills' : List Fill) → done ≡ done' → rests ≡ rests' → fills ≡ fills' → Ordered done rests fills ≡ Ordered done' rests' fills'
ordered_same done rests done' rests' fills fills' a b c = cc

ordered_day : (h : Header) (S : State) (t : Taker) (done rests done' rests' : ℕ) (fills fills' : List Fill) → IsSound h S → t.bank < bank_count h → 0 < weight_of h t.pair → IsOrdered h S t Day (Ordered done rests fills) → IsOrdered h S t Day (Ordered done' rests' fills') → Ordered done rests fills ≡ Ordered done' rests' fills'
ordered_day h S t done rests done' rests' fills fills' sound bank some one other =
    let same = swept-same h S t fills fills' rests rests' sound bank some one.0 other.0 in
    let filled_same : done ≡ done' = one.1 ∙ ap (λ n. t.left - n) same.1 ∙ sym other.1 in
    ordered_same done rests done' rests' fills fills' filled_same same.1 same.0

ordered_ioc : (h : Header) (S : State) (t : Taker) (done rests done' rests' : ℕ) (fills fills' : List Fill) → IsSound h S → t.bank < bank_count h → 0 < weight_of h t.pair → IsOrdered h S t Ioc (Ordered done rests fills) → IsOrdered h S t Ioc (Ordered done' rests' fills') → Ordered done rests fills ≡ Ordered done' rests' fills'
ordered_ioc h S t done rests done' rests' fills fills' sound bank some one other =
    let same = swept-same h S t fills fills' (t.left - done) (t.left - done') sound bank some one.0 other.0 in
    ordered_same done rests done' rests' fills fills' (omega (arith, same.1, one.1, other.1)) (one.2 ∙ sym other.2) same.0

ordered_fok : (h : Header) (S : State) (t : Taker) (done rests done' rests' : ℕ) (fills fills' : List Fill) → IsSound h S → t.bank < bank_count h → 0 < weight_of h t.pair → IsOrdered h S t Fok (Ordered done rests fills) → IsOrdered h S t Fok (Ordered done' rests' fills') → Ordered done rests fills ≡ Ordered done' rests' fills'
ordered_fok h S t done rests done' rests' fills fills' sound bank some one other =
    let same = swept-same h S t fills fills' 0 0 sound bank some one.0 other.0 in
    ordered_same done rests done' rests' fills fills' (one.1 ∙ sym other.1) (one.2 ∙ sym other.2) same.0

not_both : (h : Header) (S : State) (t : Taker) (done rests : ℕ) (fills : List Fill) → IsSound h S → t.bank < bank_count h → 0 < weight_of h t.pair → IsOrdered h S t Fok (Ordered done rests fills) → IsOrdered h S t Fok Killed → ⊥
not_both h S t done rests fills sound bank some one other =
    let same = swept-same h S t fills other.0 0 other.1 sound bank some one.0 other.2 in
    omega (arith, same.1, other.3)

-- state and order determine the outcome
pub ordered-same : (h : Header) (S : State) (t : Taker) (life : Life) (one other : Outcome) → IsSound h S → t.bank < bank_count h → 0 < weight_of h t.pair → IsOrdered h S t life one → IsOrdered h S t life other → one ≡ other
ordered-same h S t Day (Ordered d r f) (Ordered d' r' f') sound bank some a b = ordered_day h S t d r d' r' f f' sound bank some a b
ordered-same h S t Ioc (Ordered d r f) (Ordered d' r' f') sound bank some a b = ordered_ioc h S t d r d' r' f f' sound bank some a b
ordered-same h S t Fok (Ordered d r f) (Ordered d' r' f') sound bank some a b = ordered_fok h S t d r d' r' f f' sound bank some a b
ordered-same h S t Fok (Ordered d r f) Killed sound bank some a b = absurd (not_both h S t d r f sound bank some a b)
ordered-same h S t Fok Killed (Ordered d r f) sound bank some a b = absurd (not_both h S t d r f sound bank some b a)
ordered-same h S t Fok Killed Killed sound bank some a b = refl
ordered-same h S t Day (Ordered d r f) other sound bank some a b = absurd b
ordered-same h S t Ioc (Ordered d r f) other sound bank some a b = absurd b
ordered-same h S t Fok (Ordered d r f) other sound bank some a b = absurd b
ordered-same h S t Fok Killed other sound bank some a b = absurd b
ordered-same h S t life one other sound bank some a b = absurd a

-- the turn of an order that is found so, and those of the orders behind it
abbrev TurnOf : Header → ℕ → State → List Resting → List Fill → Option Resting → Type 0
TurnOf h pair S orders fills found =
    MatchOption found (Turned h pair S orders fills)
    (λ now. (own more : List Fill) × (left : ℕ) × Swept h S (taker_of_resting pair now) own left
    × (fills ≡ own ++ more) × Turned h pair (filled_all S own) orders more)

-- with the same orders to go, two lists of fills are one: what is known of the turns that follow
abbrev SameTurns : Header → ℕ → List Resting → Type 0
SameTurns h pair orders =
    (S : State) (fs gs : List Fill) → IsSound h S → Turned h pair S orders fs → Turned h pair S orders gs → fs ≡ gs

append_same : (own more own' more' fs gs : List Fill) → fs ≡ own ++ more → gs ≡ own' ++ more' → own ≡ own' → more ≡ more' → fs ≡ gs
append_same own more own' more' fs gs f g a b = cc

-- one order's turn, where its order is found or not
turn_same : (h : Header) (pair : ℕ) (S : State) (order : Resting) (orders : List Resting) (fs gs : List Fill) (o : Option Resting) → 0 < weight_of h pair → IsSound h S → SameTurns h pair orders → order_of S pair order.bank order.number ≡ o → TurnOf h pair S orders fs o → TurnOf h pair S orders gs o → fs ≡ gs
turn_same h pair S order orders fs gs None some sound later is one other = later S fs gs sound one other
turn_same h pair S order orders fs gs (Some now) some sound later is one other =
    let own : List Fill = one.0 in
    let t : Taker = taker_of_resting pair now in
    let sender = turn-sender h S pair order.bank order.number now (turn_of h S pair order.bank order.number now sound is) in
    let same_own : own ≡ other.0 = (swept-same h S t own other.0 one.2 other.2 sound sender some one.3 other.3).0 in
    let next : IsSound h (filled_all S own) = (swept-sound h S t own one.2 sound sender some one.3).0 in
    append_same own one.1 other.0 other.1 fs gs one.4 other.4 same_own
    (later (filled_all S own) one.1 other.1 next one.5
    (subst (λ (fills : List Fill). Turned h pair (filled_all S fills) orders other.1) (sym same_own) other.5))

-- a pair's turns determine their fills
pub turned-same : (h : Header) (pair : ℕ) (orders : List Resting) → 0 < weight_of h pair → SameTurns h pair orders
turned-same h pair [] some S fs gs sound one other = one ∙ sym other
turned-same h pair (order ∷ orders) some S fs gs sound one other =
    turn_same h pair S order orders fs gs (order_of S pair order.bank order.number) some sound (turned-same h pair orders some) refl one other

pub pairs_turned-same : (h : Header) (pairs pair : ℕ) (S : State) (fs gs : List Fill) → IsSession h → pair + pairs ≤ pair_count h → IsSound h S → PairsTurned h pairs pair S fs → PairsTurned h pairs pair S gs → fs ≡ gs
pairs_turned-same h zero pair S fs gs session within sound one other = one ∙ sym other
pairs_turned-same h (suc pairs) pair S fs gs session within sound one other =
    let own : List Fill = one.0 in
    let some : 0 < weight_of h pair = weight_of-least h pair session (omega arith) in
    let same_own : own ≡ other.0 = turned-same h pair (orders_in pair S.orders) some S own other.0 sound one.2 other.2 in
    let next : IsSound h (filled_all S own) = turned-sound h pair S (orders_in pair S.orders) own some sound one.2 in
    append_same own one.1 other.0 other.1 fs gs one.3 other.3 same_own
    (pairs_turned-same h pairs (pair + 1) (filled_all S own) one.1 other.1 session (omega arith) next one.4
    (subst (λ (fills : List Fill). PairsTurned h pairs (pair + 1) (filled_all S fills) other.1) (sym same_own) other.4))

-- with one limit set, the fills are the same
raised_same : (h : Header) (S : State) (bank other limit limit' : ℕ) (fs gs : List Fill) → IsSession h → IsSound h (limited bank other limit S) → limit ≡ limit' → Raised h (limited bank other limit S) fs → Raised h (limited bank other limit' S) gs → LineSet limit fs ≡ LineSet limit' gs
raised_same h S bank other limit limit' fs gs session sound same one two =
    let fills : fs ≡ gs = pairs_turned-same h (pair_count h) 0 (limited bank other limit S) fs gs session (omega arith) sound one
    (subst (λ l. Raised h (limited bank other l S) gs) (sym same) two) in cc

line_same : (h : Header) (S : State) (bank other asked : ℕ) (one two : Outcome) → IsSession h → IsSound h S → IsCommand h bank (Line other asked) → IsOutcome h S bank (Line other asked) one → IsOutcome h S bank (Line other asked) two → one ≡ two
line_same h S bank other asked (LineSet limit fs) (LineSet limit' gs) session sound valid a b =
    raised_same h S bank other limit limit' fs gs session
    (limited-sound h S bank other asked limit sound valid.sends valid.values.0 valid.values.1 valid.values.2 a.0) (a.0 ∙ sym b.0) a.1 b.1
line_same h S bank other asked (LineSet limit fs) two session sound valid a b = absurd b
line_same h S bank other asked one two session sound valid a b = absurd a

-- with one total set
total_raised_same : (h : Header) (S : State) (bank most most' : ℕ) (fs gs : List Fill) → IsSession h → IsSound h (totalled bank most S) → most ≡ most' → Raised h (totalled bank most S) fs → Raised h (totalled bank most' S) gs → TotalSet most fs ≡ TotalSet most' gs
total_raised_same h S bank most most' fs gs session sound same one two =
    let fills : fs ≡ gs = pairs_turned-same h (pair_count h) 0 (totalled bank most S) fs gs session (omega arith) sound one
    (subst (λ m. Raised h (totalled bank m S) gs) (sym same) two) in cc

total_same : (h : Header) (S : State) (bank asked : ℕ) (one two : Outcome) → IsSession h → IsSound h S → IsCommand h bank (Total asked) → IsOutcome h S bank (Total asked) one → IsOutcome h S bank (Total asked) two → one ≡ two
total_same h S bank asked (TotalSet most fs) (TotalSet most' gs) session sound valid a b =
    total_raised_same h S bank most most' fs gs session
    (totalled-sound h S bank asked most session sound valid.sends.0 valid.sends.1 valid.values a.0) (a.0 ∙ sym b.0) a.1 b.1
total_same h S bank asked (TotalSet most fs) two session sound valid a b = absurd b
total_same h S bank asked one two session sound valid a b = absurd a

-- with as much given back
settle_raised_same : (h : Header) (S : State) (a b given given' : ℕ) (fs gs : List Fill) → IsSession h → IsSound h (settled a b given S) → given ≡ given' → Raised h (settled a b given S) fs → Raised h (settled a b given' S) gs → Settled given fs ≡ Settled given' gs
settle_raised_same h S a b given given' fs gs session sound same one two =
    let fills : fs ≡ gs = pairs_turned-same h (pair_count h) 0 (settled a b given S) fs gs session (omega arith) sound one
    (subst (λ units. Raised h (settled a b units S) gs) (sym same) two) in cc

settle_same : (h : Header) (S : State) (sender a b asked : ℕ) (one two : Outcome) → IsSession h → IsSound h S → IsCommand h sender (Settle a b asked) → IsOutcome h S sender (Settle a b asked) one → IsOutcome h S sender (Settle a b asked) two → one ≡ two
settle_same h S sender a b asked (Settled given fs) (Settled given' gs) session sound valid x y =
    settle_raised_same h S a b given given' fs gs session
    (settled-sound h S a b asked given sound valid.sends.0 x.0) (x.0 ∙ sym y.0) x.1 y.1
settle_same h S sender a b asked (Settled given fs) two session sound valid x y = absurd y
settle_same h S sender a b asked one two session sound valid x y = absurd x

-- state, bank and pair determine a side of a local book
pub shows-same : (h : Header) (S : State) (bank pair : ℕ) (side : Side) (levels levels' : List Level) → IsSound h S → bank < bank_count h → 0 < weight_of h pair → Shows h S bank pair side levels → Shows h S bank pair side levels' → levels ≡ levels'
shows-same h S bank pair side levels levels' sound sender some one other =
    let same : one.0 ≡ other.0 = (swept-same h S (unlimited S bank pair side) one.0 other.0 one.1 other.1 sound sender some one.2 other.2).0 in
    one.3 ∙ ap (λ (fills : List Fill). take 10 (levels_of fills)) same ∙ sym other.3

depth_same : (bids asks bids' asks' : List Level) → bids ≡ bids' → asks ≡ asks' → Depth bids asks ≡ Depth bids' asks'
depth_same bids asks bids' asks' a b = cc

book_same : (h : Header) (S : State) (bank pair : ℕ) (one two : Outcome) → IsSound h S → bank < bank_count h → 0 < weight_of h pair → IsOutcome h S bank (Book pair) one → IsOutcome h S bank (Book pair) two → one ≡ two
book_same h S bank pair (Depth bids asks) (Depth bids' asks') sound sender some a b =
    depth_same bids asks bids' asks'
    (shows-same h S bank pair Sell bids bids' sound sender some a.sells b.sells)
    (shows-same h S bank pair Buy asks asks' sound sender some a.buys b.buys)
book_same h S bank pair (Depth bids asks) two sound sender some a b = absurd b
book_same h S bank pair one two sound sender some a b = absurd a

-- state and command determine the outcome
pub outcome-same : (h : Header) (S : State) (bank : ℕ) (command : Command) (one other : Outcome) → IsSession h → IsSound h S → IsCommand h bank command → IsOutcome h S bank command one → IsOutcome h S bank command other → one ≡ other
outcome-same h S bank (Order side pair price lots life) one other session sound valid a b =
    ordered-same h S (taker_of S bank side pair price lots) life one other sound valid.sends (weight_of-least h pair session valid.values.0) a b
outcome-same h S bank (Line to asked) one other session sound valid a b = line_same h S bank to asked one other session sound valid a b
outcome-same h S bank (Total asked) one other session sound valid a b = total_same h S bank asked one other session sound valid a b
outcome-same h S bank (Settle first second asked) one other session sound valid a b = settle_same h S bank first second asked one other session sound valid a b
outcome-same h S bank (Book pair) one other session sound valid a b = book_same h S bank pair one other sound valid.sends (weight_of-least h pair session valid.values) a b
outcome-same h S bank command one other session sound valid a b = a ∙ sym b
