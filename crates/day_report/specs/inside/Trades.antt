-- What private functions and proofs alone say of it, beside `specs/Trades.antt`.
use Rattle.std.specs.Prelude.{ℕ, ◌≤◌, ◌==◌, List, [], ◌∷◌, ◌++◌, filter}
use Rattle.fx_rules.specs.declared.orders.Fill.{Fill}
use Rattle.fx_rules.specs.Lists.{Each}
use Rattle.fx_rules.specs.Session.{Header, IsSession}
use Rattle.fx_rules.specs.inside.Trade.{IsTrade}
use Rattle.day_report.specs.Trades.{lots_in}

-- the fills of a pair
abbrev pub fills_in : ℕ → List Fill → List Fill
fills_in pair fills = filter (λ fill. fill.pair == pair) fills

-- Fills of a session's day. Their lots fit: no more is traded than was sent, and each of 65 senders sends fewer than 2^32 commands
-- of at most 10^6 lots. So all sums fit: fills are no more than lots, a lot is at most 10^9 units of base and 10^18 of quote.
pub record AreTrades (h : Header) (fills : List Fill) : Type 0 where
  pub session : IsSession h
  pub each : Each (IsTrade h) fills
  pub lots : lots_in fills ≤ 4096000000000000000

-- A fill can be added to what is known of the fills so far.
abbrev pub CanAdd : Header → (List Fill → Type 0) → Fill → Type 0
CanAdd h Of fill = (fills : List Fill) × Of fills × AreTrades h (fills ++ fill ∷ [])

-- Fills were added to what is known of those before.
abbrev pub Adds : (List Fill → Type 0) → (List Fill → Type 0) → List Fill → Type 0
Adds Of Of' more = (fills : List Fill) → Of fills → Of' (fills ++ more)
