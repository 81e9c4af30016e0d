-- One read after another: what was taken is one piece after the other.
use Rattle.std.proofs.Common.{◌≡◌, ℕ, ◌≤◌, List, [], ◌++◌, Option, None, Some, append_assoc, refl, sym, ap, ◌∙◌, arith}
use Rattle.std.specs.Io.KnownBytes.{prepend_known}
use Rattle.fx_edges.specs.Reading.{Took}

-- Known bytes

pub prepend_known-nil : (known : Option (List ℕ)) → prepend_known [] known ≡ known
prepend_known-nil None = refl
prepend_known-nil (Some xs) = refl

pub prepend_known-prepend_known : (s t : List ℕ) (known : Option (List ℕ)) → prepend_known s (prepend_known t known) ≡ prepend_known (s ++ t) known
prepend_known-prepend_known s t None = refl
prepend_known-prepend_known s t (Some xs) = ap (λ ys. Some ys) (sym (append_assoc s t xs))

-- Bytes that were taken

pub Took-nil : {S : Type 0} (left : S → Option (List ℕ)) (faults : S → ℕ) (before : S) → Took left faults before before []
Took-nil left faults before = record { moved = sym (prepend_known-nil (left before)); count = omega arith }

pub Took-append : {S : Type 0} {left : S → Option (List ℕ)} {faults : S → ℕ} {a b c : S} {s t : List ℕ} → Took left faults a b s → Took left faults b c t → Took left faults a c (s ++ t)
Took-append {left = left} {c = c} {s = s} {t = t} first second = record {
  moved = first.moved ∙ ap (λ known. prepend_known s known) second.moved ∙ prepend_known-prepend_known s t (left c);
  count = omega arith;
}

-- a read that failed, after some bytes were taken
pub Took-failed : {S : Type 0} {left : S → Option (List ℕ)} {faults : S → ℕ} {a b c : S} {s : List ℕ} → Took left faults a b s → left c ≡ left b → faults b ≤ faults c → Took left faults a c s
Took-failed {s = s} first same count = record {
  moved = first.moved ∙ ap (λ known. prepend_known s known) (sym same);
  count = omega arith;
}
