-- Each command that is drawn is one that its sender may send.
use Rattle.std.proofs.Common.{ℕ, zero, suc, ◌≡◌, ◌≢◌, ◌≤◌, ◌<◌, ◌+◌, ◌-◌, ◌%◌, Bool, true, false, cond, ◌==◌, List, [], ◌∷◌, length, inl, inr, refl, ap, ◌∙◌, arith, nat_lt, append_assoc, ◌++◌}
use Rattle.std.proofs.lemmas.Bool.{cases_lt, lt-ltb, le-ltb}
use Rattle.std.proofs.Math.Nat.{mod-lt}
use Rattle.std.specs.Prelude.{if◌then◌else◌}
use Rattle.fx_amounts.specs.declared.side.Side.{Side}
use Rattle.fx_amounts.specs.declared.side.Side.TheVariants.{Buy, Sell}
use Rattle.fx_rules.specs.declared.command.Command.{Command}
use Rattle.fx_rules.specs.declared.command.Command.TheVariants.{Book}
use Rattle.fx_rules.specs.declared.command.Life.{Life}
use Rattle.fx_rules.specs.declared.command.Life.TheVariants.{Day, Ioc, Fok}
use Rattle.fx_rules.specs.declared.command.Sent.{Sent}
use Rattle.fx_rules.specs.Lists.{Each}
use Rattle.fx_rules.specs.Sending.{IsSentOf}
use Rattle.fx_rules.specs.Session.{Header, bank_count, pair_count}
use Rattle.fx_rules.specs.Step.{AreValues}
use Rattle.fx_rules.proofs.Senders.{IsPlainCommand, bank-suits}
use Rattle.fx_rules.proofs.Below.{length-map_below}
use Rattle.made_session.specs.Session.{made_bank, made_pair, made_header}
use Rattle.made_session.specs.Draws.{after_draws, draw}
use Rattle.made_session.specs.Commands.{drawn_order, other_than, drawn_line, drawn_command, drawn_sent, after_sent, drawn_all}

-- a header of so many banks and pairs
pub record Counts (h : Header) (banks pairs : ℕ) : Type 0 where
  pub banks_are : bank_count h ≡ banks
  pub pairs_are : pair_count h ≡ pairs
  pub two : 2 ≤ banks
  pub one : 1 ≤ pairs

pub counts_of : (seed banks pairs : ℕ) (h : Header) → 2 ≤ banks → 1 ≤ pairs → h ≡ made_header seed banks pairs → Counts h banks pairs
counts_of seed banks pairs h two one is = record {
  banks_are = ap bank_count is ∙ length-map_below made_bank banks;
  pairs_are = ap pair_count is ∙ length-map_below made_pair pairs;
  two = two;
  one = one;
}

draw_below : (k n x : ℕ) → 1 ≤ n → draw k n x < n
draw_below k n x some = mod-lt (after_draws k x) (omega arith)

order_values : (h : Header) (banks pairs sender : ℕ) (side : Side) (life : Life) (x : ℕ) → Counts h banks pairs → AreValues h sender (drawn_order pairs side life x)
order_values h banks pairs sender side life x counts =
    let pair = draw_below 1 pairs x counts.one in
    let ticks = draw_below 2 101 x (omega arith) in
    let lots = draw_below 3 20 x (omega arith) in
    (omega (arith, pair, counts.pairs_are), (omega arith, omega (arith, ticks)), (omega arith, omega (arith, lots)))

other_low : (sender n : ℕ) → n < sender → other_than sender n ≡ n
other_low sender n low = rw (lt-ltb n sender low) refl

other_high : (sender n : ℕ) → sender ≤ n → other_than sender n ≡ n + 1
other_high sender n high = rw (le-ltb n sender high) refl

pub record Other (banks sender n : ℕ) : Type 0 where
  pub within : other_than sender n < banks
  pub another : other_than sender n ≢ sender

pub other-than : (banks sender n : ℕ) → sender < banks → n < banks - 1 → Other banks sender n
other-than banks sender n of within = elim (cases_lt n sender) [
  | inl low ↦ record { within = omega (arith, other_low sender n low); another = λ same. omega (arith, other_low sender n low, same) }
  | inr high ↦ record { within = omega (arith, other_high sender n high); another = λ same. omega (arith, other_high sender n high, same) }
]

line_values : (h : Header) (banks pairs sender x : ℕ) → Counts h banks pairs → sender < banks → AreValues h sender (drawn_line banks sender x)
line_values h banks pairs sender x counts of =
    let two = counts.two in
    let other = other-than banks sender (draw 1 (banks - 1) x) of (draw_below 1 (banks - 1) x (omega arith)) in
    let limit = draw_below 2 21 x (omega arith) in
    (omega (arith, other.within, counts.banks_are), other.another, omega (arith, limit))

picked : (P : Command → Type 0) (a b c d : Bool) (v w x y z : Command) → P v → P w → P x → P y → P z → P (cond a v (cond b w (cond c x (cond d y z))))
picked P true b c d v w x y z pv pw px py pz = pv
picked P false true c d v w x y z pv pw px py pz = pw
picked P false false true d v w x y z pv pw px py pz = px
picked P false false false true v w x y z pv pw px py pz = py
picked P false false false false v w x y z pv pw px py pz = pz

command_values : (h : Header) (banks pairs sender kind x : ℕ) → Counts h banks pairs → sender < banks → AreValues h sender (drawn_command banks pairs sender kind x)
command_values h banks pairs sender kind x counts of =
    picked (AreValues h sender) (nat_lt kind 12) (kind == 12) (kind == 13) (kind == 14)
    (drawn_order pairs (if kind % 2 == 0 then Buy else Sell) Day x) (drawn_order pairs Buy Ioc x) (drawn_order pairs Sell Fok x)
    (drawn_line banks sender x) (Book (draw 1 pairs x))
    (order_values h banks pairs sender (if kind % 2 == 0 then Buy else Sell) Day x counts)
    (order_values h banks pairs sender Buy Ioc x counts)
    (order_values h banks pairs sender Sell Fok x counts)
    (line_values h banks pairs sender x counts of)
    (let pair = draw_below 1 pairs x counts.one in omega (arith, pair, counts.pairs_are))

-- none of them is of version 2 alone
command_plain : (banks pairs sender kind x : ℕ) → IsPlainCommand (drawn_command banks pairs sender kind x)
command_plain banks pairs sender kind x =
    picked IsPlainCommand (nat_lt kind 12) (kind == 12) (kind == 13) (kind == 14)
    (drawn_order pairs (if kind % 2 == 0 then Buy else Sell) Day x) (drawn_order pairs Buy Ioc x) (drawn_order pairs Sell Fok x)
    (drawn_line banks sender x) (Book (draw 1 pairs x)) tt tt tt tt tt

sent_is : (h : Header) (banks pairs x : ℕ) → Counts h banks pairs → IsSentOf h (drawn_sent banks pairs x)
sent_is h banks pairs x counts =
    let two = counts.two in
    let sender : draw 1 banks x < banks = draw_below 1 banks x (omega arith) in
    record {
      command = record {
        sends = bank-suits h (draw 1 banks x) (drawn_command banks pairs (draw 1 banks x) (draw 2 16 x) (after_draws 2 x))
            (command_plain banks pairs (draw 1 banks x) (draw 2 16 x) (after_draws 2 x)) (omega (arith, sender, counts.banks_are));
        values = command_values h banks pairs (draw 1 banks x) (draw 2 16 x) (after_draws 2 x) counts sender;
      };
    }

pub all_sent : (h : Header) (banks pairs count x : ℕ) → Counts h banks pairs → Each (IsSentOf h) (drawn_all banks pairs count x)
all_sent h banks pairs zero x counts = tt
all_sent h banks pairs (suc count) x counts = (sent_is h banks pairs x counts, all_sent h banks pairs count (after_sent x) counts)

pub all_count : (banks pairs count x : ℕ) → length (drawn_all banks pairs count x) ≡ count
all_count banks pairs zero x = refl
all_count banks pairs (suc count) x = ap suc (all_count banks pairs count (after_sent x))

-- one command more
pub all_more : (banks pairs count i x : ℕ) (sent : List Sent) → i < count
    → (sent ++ drawn_sent banks pairs x ∷ []) ++ drawn_all banks pairs (count - (i + 1)) (after_sent x) ≡ sent ++ drawn_all banks pairs (count - i) x
all_more banks pairs count i x sent within =
    let left : suc (count - (i + 1)) ≡ count - i = omega arith in
    append_assoc sent (drawn_sent banks pairs x ∷ []) (drawn_all banks pairs (count - (i + 1)) (after_sent x))
    ∙ ap (λ n. sent ++ drawn_all banks pairs n x) left
