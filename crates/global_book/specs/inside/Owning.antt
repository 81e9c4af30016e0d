-- The orders of one bank, and the list that is kept of the banks that have some.
use Rattle.std.specs.Prelude.{ℕ, ◌<◌, Bool, ◌&&◌, nat_lt, if◌then◌else◌, List, [], ◌∷◌}
use Rattle.fx_amounts.specs.Side.{opposite}
use Rattle.fx_amounts.specs.declared.side.Side.{Side}
use Rattle.fx_rules.specs.Lists.{Among, EachPair}
use Rattle.fx_rules.specs.declared.orders.Resting.{Resting}
use Rattle.fx_rules.specs.Sweep.{is_opposite}
use Rattle.global_book.specs.Book.{Owns, is_of}

-- an order of this bank and side
abbrev pub is_own : ℕ → Side → Resting → Bool
is_own bank side order = is_of bank order && is_opposite (opposite side) order.side

-- banks from the lowest number on, each once
abbrev pub AreRising : List ℕ → Type 0
AreRising banks = EachPair (λ bank other. bank < other) banks

-- a bank put among others, in the order of their numbers
abbrev pub with_bank : ℕ → List ℕ → List ℕ
with_bank bank [] = bank ∷ []
with_bank bank (other ∷ banks) = if nat_lt other bank then other ∷ with_bank bank banks else bank ∷ other ∷ banks

-- these banks are those that have one of these orders
pub record AreOwnersOf (orders : List Resting) (owners : List ℕ) : Type 0 where
  pub rising : AreRising owners
  pub all : (order : Resting) → Among order orders → Among order.bank owners
  pub owns : (bank : ℕ) → Among bank owners → Owns bank orders
