-- Which keys an entry touches.
use Rattle.std.proofs.Common.{ℕ, ◌≡◌, ◌≢◌, ◌<◌, ◌==◌, ◌||◌, Bool, true, false, refl, ap, ◌∙◌, arith, eq-eqb, ne_eqb}
use Rattle.fx_rules.specs.declared.command.Command.{Command}
use Rattle.fx_rules.specs.declared.command.Command.TheVariants.{Order, Cancel, Reduce, Pull, Line, Total, Settle, Show, Book, Bad}
use Rattle.fx_rules.specs.declared.outcome.Entry.{Entry}
use Rattle.fx_rules.specs.Keyed.{pair_key, is_about, touches_key}
use borrow.Author.Tests.{lt-leb}

-- an entry touches its sender
pub touches-sender : (e : Entry) → touches_key e e.bank ≡ true
touches-sender e = ap (λ b. b || is_about e.command e.bank) (eq-eqb e.bank e.bank refl)

-- and each pair that its command is about
pub touches-pair : (e : Entry) (pair : ℕ) → is_about e.command (pair_key pair) ≡ true → touches_key e (pair_key pair) ≡ true
touches-pair e pair about = ap (λ b. (pair_key pair == e.bank) || b) about ∙ or-true (pair_key pair == e.bank)
  where
    or-true : (b : Bool) → (b || true) ≡ true
    or-true true = refl
    or-true false = refl

-- and no other key
pub touches-other : (e : Entry) (key : ℕ) → key ≢ e.bank → is_about e.command key ≡ false → touches_key e key ≡ false
touches-other e key apart about = ap (λ b. b || is_about e.command key) (ne_eqb key e.bank apart) ∙ about

apart_pair : (key pair : ℕ) → key < 65 → (key == pair_key pair) ≡ false
apart_pair key pair lt = ne_eqb key (pair_key pair) (λ e. omega arith)

-- no command is about a bank or the operator
pub about-bank : (command : Command) (key : ℕ) → key < 65 → is_about command key ≡ false
about-bank (Order side pair price lots life) key lt = apart_pair key pair lt
about-bank (Cancel pair number) key lt = apart_pair key pair lt
about-bank (Reduce pair number lots) key lt = apart_pair key pair lt
about-bank (Pull pair) key lt = apart_pair key pair lt
about-bank (Line bank limit) key lt = lt-leb 65 key lt
about-bank (Total limit) key lt = lt-leb 65 key lt
about-bank (Settle a b units) key lt = lt-leb 65 key lt
about-bank (Show bank) key lt = refl
about-bank (Book pair) key lt = apart_pair key pair lt
about-bank (Bad reason) key lt = refl

-- an entry touches no other bank than its sender
pub touches-bank : (e : Entry) (key : ℕ) → key < 65 → key ≢ e.bank → touches_key e key ≡ false
touches-bank e key lt apart = touches-other e key apart (about-bank e.command key lt)
