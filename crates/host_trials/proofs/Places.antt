-- A sender's place among the passes.
use Rattle.std.proofs.Common.{ℕ, zero, suc, ◌≡◌, ◌≤◌, ◌<◌, List, [], ◌∷◌, Some, slice_get, refl, ap, sym, subst, ◌∙◌, arith, length, get_or}
use Rattle.std.proofs.lemmas.List.{length-map}
use Rattle.std.proofs.lemmas.Option.{get_or_from_slice_get}
use Rattle.fx_rules.specs.declared.command.Sent.{Sent}
use Rattle.fx_rules.specs.declared.outcome.Entry.{Entry}
use Rattle.fx_rules.specs.Lists.{Each}
use Rattle.fx_rules.specs.Session.{Header, IsSession, senders}
use Rattle.fx_rules.specs.Sending.{IsSentOf}
use Rattle.fx_rules.specs.History.{own}
use Rattle.fx_rules.proofs.Senders.{suits-sender}
use Rattle.fx_chronicle.specs.Faces.{Witness}
use Rattle.fx_chronicle.specs.Passes.{new_passes, sender_at, place_among}
use Rattle.fx_chronicle.proofs.Places.{sender-there}
use Rattle.fx_chronicle.proofs.Sending.{new_pass, pass-at}
use Rattle.host_trials.specs.inside.Passes.{AreOfSenders}

-- the command at a place of some that may be sent may be
pub sent-at : (h : Header) (sent : List Sent) (n : ℕ) (s : Sent) → Each (IsSentOf h) sent → n < length sent → s ≡ get_or sent n s → IsSentOf h s
sent-at h [] n s valid within at' = absurd (omega arith)
sent-at h (x ∷ xs) zero s valid within at' = subst (IsSentOf h) (sym at') valid.0
sent-at h (x ∷ xs) (suc n) s valid within at' = sent-at h xs n s valid.1 (omega arith) at'

-- and its sender stands at its place
pub sender-at_place : (h : Header) (sent : List Sent) (n : ℕ) (s : Sent) → IsSession h → Each (IsSentOf h) sent → n < length sent → s ≡ get_or sent n s → sender_at h (place_among (length (senders h)) s.bank) ≡ s.bank
sender-at_place h sent n s session valid within at' = sender-there h s.bank session (suits-sender h s.bank s.command (sent-at h sent n s valid within at').command.sends)

-- the passes of a desk as it opens
new-count : (h : Header) (passes : List (Witness Entry)) → passes ≡ new_passes h → length passes ≡ length (senders h)
new-count h passes new = ap (λ (ps : List (Witness Entry)). length ps) new ∙ length-map (senders h) new_pass

pub new-are : (h : Header) (passes : List (Witness Entry)) → passes ≡ new_passes h → AreOfSenders h (λ (p : Witness Entry). p.key) (λ (p : Witness Entry). own p.key p.met) 0 passes
new-are h passes new place none within =
    let at' : slice_get passes place ≡ Some (new_pass (sender_at h place)) =
    ap (λ (ps : List (Witness Entry)). slice_get ps place) new ∙ pass-at h place (omega (arith, within, new-count h passes new)) in
    let is : get_or passes place none ≡ new_pass (sender_at h place) = get_or_from_slice_get passes place (new_pass (sender_at h place)) none at' in
    subst (λ (p : Witness Entry). (p.key ≡ sender_at h place) × (length (own p.key p.met) ≤ 0)) (sym is) (refl, omega arith)
