-- Who may send, which pair a command is about, and where a sender's number stands in a list that has a place for each sender.
use Rattle.std.proofs.Common.{ℕ, ◌≡◌, ◌≤◌, ◌<◌, eqb, inl, inr, Some, arith}
use Rattle.std.proofs.lemmas.Bool.{cond-true, cond-false, eq-eqb, cases_eq, ne_eqb}
use Rattle.fx_rules.specs.declared.command.Command.{Command}
use Rattle.fx_rules.specs.declared.command.Command.TheVariants.{Order, Cancel, Reduce, Pull, Line, Total, Settle, Show, Book, Bad}
use Rattle.fx_rules.specs.declared.command.Reject.TheVariants.{Units}
use Rattle.fx_rules.specs.Session.{Header, IsSession, IsSender, bank_count, pair_count, sender_places}
use Rattle.fx_rules.specs.Step.{IsCommand, AreValues, Suits}
use Rattle.fx_rules.specs.Sending.{pair_of}

pub bank-sender : (h : Header) (bank : ℕ) → bank < bank_count h → IsSender h bank
bank-sender h bank within = inl within

-- a bank may send any command that is not of version 2 alone
abbrev pub IsPlainCommand : Command → Type 0
IsPlainCommand (Total limit) = ⊥
IsPlainCommand (Settle a b units) = ⊥
IsPlainCommand (Bad Units) = ⊥
IsPlainCommand _ = Unit {0}

pub bank-suits : (h : Header) (bank : ℕ) (command : Command) → IsPlainCommand command → bank < bank_count h → Suits h bank command
bank-suits h bank (Total limit) plain within = absurd plain
bank-suits h bank (Settle a b units) plain within = absurd plain
bank-suits h bank (Bad Units) plain within = absurd plain
bank-suits h bank (Bad reason) plain within = bank-sender h bank within
bank-suits h bank command plain within = within

-- whom a command suits is a sender
pub suits-sender : (h : Header) (sender : ℕ) (command : Command) → Suits h sender command → IsSender h sender
suits-sender h sender (Total limit) suits = inl suits.1
suits-sender h sender (Settle a b units) suits = inr suits
suits-sender h sender (Bad Units) suits = inr suits
suits-sender h sender (Bad reason) suits = suits
suits-sender h sender command suits = inl suits

pub sender-place : (h : Header) (sender : ℕ) → IsSession h → IsSender h sender → sender < sender_places h
sender-place h sender session is =
    let banks_most : bank_count h ≤ 64 = session.banks_most in
    elim (cases_eq h.version 2) [
      | inl second ↦
          let places : sender_places h ≡ 65 = cond-true (eqb h.version 2) 65 (bank_count h) (eq-eqb h.version 2 second) in
          elim is [ inl bank ↦ omega (arith, places, bank, banks_most) | inr operator ↦ omega (arith, places, operator.1) ]
      | inr other ↦
          let places : sender_places h ≡ bank_count h = cond-false (eqb h.version 2) 65 (bank_count h) (ne_eqb h.version 2 other) in
          elim is [ inl bank ↦ omega (arith, places, bank) | inr operator ↦ absurd (other operator.0) ]
    ]

pub command-place : (h : Header) (sender : ℕ) (command : Command) → IsSession h → IsCommand h sender command → sender < sender_places h
command-place h sender command session is = sender-place h sender session (suits-sender h sender command is.sends)

pub places-most : (h : Header) → IsSession h → sender_places h ≤ 65
places-most h session =
    let banks_most : bank_count h ≤ 64 = session.banks_most in
    elim (cases_eq h.version 2) [
      | inl second ↦ omega (arith, cond-true (eqb h.version 2) 65 (bank_count h) (eq-eqb h.version 2 second))
      | inr other ↦ omega (arith, cond-false (eqb h.version 2) 65 (bank_count h) (ne_eqb h.version 2 other), banks_most)
    ]

pub one_pair : (its pair : ℕ) → Some its ≡ Some pair → its ≡ pair
one_pair its pair same = cc

-- a command about one pair is about one of the session's
pub pair-within : (h : Header) (bank : ℕ) (command : Command) (pair : ℕ) → AreValues h bank command → pair_of command ≡ Some pair → pair < pair_count h
pair-within h bank (Order side its price lots life) pair values is = omega (arith, values.0, one_pair its pair is)
pair-within h bank (Cancel its number) pair values is = omega (arith, values.0, one_pair its pair is)
pair-within h bank (Reduce its number lots) pair values is = omega (arith, values.0, one_pair its pair is)
pair-within h bank (Pull its) pair values is = omega (arith, values, one_pair its pair is)
pair-within h bank (Book its) pair values is = omega (arith, values, one_pair its pair is)
pair-within h bank (Line other asked) pair values is = cc
pair-within h bank (Total asked) pair values is = cc
pair-within h bank (Settle a b asked) pair values is = cc
pair-within h bank (Show other) pair values is = cc
pair-within h bank (Bad reason) pair values is = cc

-- a command that is about one pair is sent by a bank
pub sent-by_bank : (h : Header) (sender pair : ℕ) (command : Command) → IsCommand h sender command → pair_of command ≡ Some pair → sender < bank_count h
sent-by_bank h sender pair (Order side its price lots life) valid about = valid.sends
sent-by_bank h sender pair (Cancel its number) valid about = valid.sends
sent-by_bank h sender pair (Reduce its number lots) valid about = valid.sends
sent-by_bank h sender pair (Pull its) valid about = valid.sends
sent-by_bank h sender pair (Book its) valid about = valid.sends
sent-by_bank h sender pair (Line other asked) valid about = cc
sent-by_bank h sender pair (Total asked) valid about = cc
sent-by_bank h sender pair (Settle a b asked) valid about = cc
sent-by_bank h sender pair (Show other) valid about = cc
sent-by_bank h sender pair (Bad reason) valid about = cc
