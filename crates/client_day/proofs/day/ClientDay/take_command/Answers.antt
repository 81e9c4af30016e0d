use Rattle.std.proofs.Common.{◌≡◌, ℕ, None, Some, ◌∙◌}
use Rattle.client_day.proofs.day.ClientDay.take_command.Goals as goal

no_client : (c : ℕ) → None ≡ Some c → ⊥
no_client c is = absurd cc

pub serve-requires : goal.serve-requires
serve-requires c = record {
  next = c.requires.next;
  client = λ k is. absurd (no_client k is);
  sent = c.requires.sent;
  line = c.as_slice.ensures.bytes ∙ c.make_command.ensures;
  passed = λ tagged stands k is. absurd (no_client k is);
}
