-- The passes of a desk, one for each sender of the session, in order.
use Rattle.std.specs.Prelude.{ℕ, ◌-◌, min, List, [], map, slice_index}
use Rattle.fx_rules.specs.declared.outcome.Entry.{Entry}
use Rattle.fx_rules.specs.Session.{Header, senders}
use Rattle.fx_chronicle.specs.Faces.{Witness, witness}

-- as a desk opens: they have seen nothing
abbrev pub new_passes : Header → List (Witness Entry)
new_passes h = map (λ sender. witness sender []) (senders h)

-- the sender at a place among those of a session
abbrev pub sender_at : Header → ℕ → ℕ
sender_at h place = slice_index (senders h) place

-- where a sender stands among all of a session, who are so many: a bank at its number, and the operator as the last
abbrev pub place_among : ℕ → ℕ → ℕ
place_among count sender = min sender (count - 1)
