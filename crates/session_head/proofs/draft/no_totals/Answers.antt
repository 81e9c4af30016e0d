use Rattle.std.proofs.Common.{◌≡◌, refl, Option, Some, None, ℕ}
use Rattle.session_head.specs.Draft.{no_totals}
use Rattle.session_head.proofs.draft.no_totals.Goals as goal

-- a copy of no total is no total
none_copied : (is_copy : Option ℕ → Type 0) → ((limit : ℕ) → ¬ (is_copy (Some limit))) → (copy : Option ℕ) → is_copy copy → copy ≡ None
none_copied is_copy other None is = refl
none_copied is_copy other (Some limit) is = absurd (other limit is)

pub returns : goal.returns
unfolding no_totals
returns c = c.in_ok-vec.ensures.items_if_clones_equal (none_copied _ (λ limit wrong. wrong))
