use Rattle.std.proofs.Common.{List, ◌≡◌, ◌<◌, ◌≤◌, length, get_or, ap, sym, subst, ◌∙◌, arith}
use Rattle.order_store.specs.declared.row.Numbered.{Numbered}
use Rattle.order_store.specs.inside.Rows.{Row, AreRising}
use Rattle.order_store.proofs.Numbering.{key_at_none, key_at_same, key_at_other, none_below}
use Rattle.order_store.proofs.row.NumberRow.key_of.Goals as goal

pub returns-then-is_below : goal.returns-then-is_below
returns-then-is_below c = record { key = sym (none_below c.args.number c.args.self.now.entries (c.is_below.ensures.below.0 c.if-is_below.true)) }

pub returns-in_err-entry : goal.returns-in_err-entry
returns-in_err-entry c =
    let seen : c.deref.result.now ≡ c.args.self.now.entries = c.deref.ensures.value ∙ ap (λ (r : Row). r.entries) c.self.view_is in
    let past : length c.deref.result.now ≤ c.place_of.result = c.in_err-entry.ensures.lookup.3 in
    record {
      key = c.from_residual.ensures
          ∙ sym (key_at_none c.args.number c.args.self.now.entries c.place_of.result (omega (arith, past, ap length seen)) c.place_of.ensures.parted);
    }

pub returns-then-entry-number : goal.returns-then-entry-number
returns-then-entry-number c =
    let seen : c.deref.result.now ≡ c.args.self.now.entries = c.deref.ensures.value ∙ ap (λ (r : Row). r.entries) c.self.view_is in
    let entry : Numbered = c.in_ok-entry.entry.now in
    let lookup = c.in_ok-entry.ensures.lookup in
    let within : c.place_of.result < length c.deref.result.now = lookup.3.0 in
    record {
      key = sym (key_at_same c.args.number c.args.self.now.entries c.place_of.result entry (omega (arith, within, ap length seen))
          (subst (λ (es : List Numbered). entry ≡ get_or es c.place_of.result entry) seen lookup.1) c.if-entry-number.true c.place_of.ensures.parted);
    }

pub returns-else-entry-number : goal.returns-else-entry-number
returns-else-entry-number c =
    let seen : c.deref.result.now ≡ c.args.self.now.entries = c.deref.ensures.value ∙ ap (λ (r : Row). r.entries) c.self.view_is in
    let entry : Numbered = c.in_ok-entry.entry.now in
    let lookup = c.in_ok-entry.ensures.lookup in
    let within : c.place_of.result < length c.deref.result.now = lookup.3.0 in
    record {
      key = sym (key_at_other c.args.number c.args.self.now.entries c.place_of.result entry
          (subst AreRising (ap (λ (r : Row). r.entries) c.self.view_is) c.self.invariant) (omega (arith, within, ap length seen))
          (subst (λ (es : List Numbered). entry ≡ get_or es c.place_of.result entry) seen lookup.1) c.if-entry-number.false c.place_of.ensures.parted);
    }
