-- How a name is stored.
use Rattle.std.proofs.Common.{◌≡◌, ◌++◌, ◌-◌, ℕ, List, length, take, drop, replicate, IsTrue, ap, ◌∙◌}
use Rattle.std.proofs.lemmas.List.{take_at, drop-replicate}
use Rattle.fx_rules.specs.Names.{padded, is_name}
use Rattle.fx_rules.specs.inside.Names.{StoresName}

zeros_behind : (text : List ℕ) → drop (length text) (replicate {A = ℕ} 8 0) ≡ replicate (8 - length text) 0
zeros_behind text = drop-replicate (length text) 8 0

-- the bytes of a name in front of eight zeros store it
pub StoresName-front : (front text : List ℕ) → IsTrue (is_name text) → front ≡ text → StoresName (front ++ drop (length text) (replicate {A = ℕ} 8 0)) (length text)
StoresName-front front text name is_text =
    let text_in_front : take (length text) (front ++ drop (length text) (replicate {A = ℕ} 8 0)) ≡ text = take_at front (drop (length text) (replicate {A = ℕ} 8 0)) (length text) (ap length is_text) ∙ is_text in
    record {
      size = ap length text_in_front;
      padding = ap padded text_in_front ∙ cc (zeros_behind text);
      name = rw text_in_front name;
    }
