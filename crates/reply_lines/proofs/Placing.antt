-- Where a list that has a place for each sender has those of the banks, and how a bank is named as the sender that it is.
use Rattle.std.proofs.Common.{ℕ, ◌≡◌, ◌≤◌, ◌<◌, ◌-◌, sym, arith}
use Rattle.fx_rules.specs.Session.{Header, IsSession, bank_count, bank_name, sender_places}
use Rattle.fx_rules.proofs.Senders.{bank-sender, sender-place}
use Rattle.order_lines.specs.Words.{sender_name}
use Rattle.order_lines.proofs.SenderNames.{bank-name, bank-operates_not}

-- each bank has a place, the last one too
pub banks-placed : (h : Header) → IsSession h → bank_count h ≤ sender_places h
banks-placed h session =
    let last : bank_count h - 1 < bank_count h = omega (arith, session.banks_least) in
    omega (arith, session.banks_least, sender-place h (bank_count h - 1) session (bank-sender h (bank_count h - 1) last))

pub bank-named : (h : Header) (bank : ℕ) → IsSession h → bank < bank_count h → bank_name h bank ≡ sender_name h bank
bank-named h bank session within = sym (bank-name h bank (bank-operates_not h bank session within))
