-- One more command is counted.
use Rattle.std.proofs.Common.{ℕ, ◌≡◌, ◌+◌, ◌-◌, ◌<◌, ◌^◌, List, arith, sym, ap, subst, ◌∙◌, get_or, length}
use Rattle.std.proofs.Math.ListN.{set}
use Rattle.std.proofs.lemmas.List.{get_or_default}
use Rattle.fx_rules.specs.Lists.{total}
use Rattle.fx_rules.proofs.ListLemmas.{total-set}
use Rattle.flat_host.specs.FlatState.{FlatState}
use Rattle.flat_host.specs.inside.FlatState.{IsFlatState}
use Rattle.flat_host.specs.inside.Host.{flat_state_of}
use Rattle.flat_host.proofs.Counting.{total-bounded, counted-state}
use Rattle.flat_host.proofs.host.FlatHost.count_command.Goals as goal

-- the count that was read and written back is the bank's
same_set : (counts : List ℕ) (bank place read : ℕ) → place ≡ bank → read ≡ get_or counts place read → bank < length counts → set counts bank (get_or counts bank 0 + 1) ≡ set counts place (read + 1)
same_set counts bank place read at' is within =
    ap (λ p. set counts p (get_or counts p 0 + 1)) (sym at')
    ∙ ap (λ n. set counts place (n + 1)) (sym (is ∙ get_or_default counts place read 0 (omega arith)))

pub overflow_add-self : goal.overflow_add-self
overflow_add-self c =
    omega (arith, c.self.invariant.arrivals, total-bounded c.self.inside.counts.items c.self.invariant.state.counts, c.self.invariant.state.senders)

pub invariant_of-self : goal.invariant_of-self
invariant_of-self c =
    let counts : List ℕ = c.self.inside.counts.items in
    let sender : c.args.bank < length counts = subst (λ (l : FlatState). c.args.bank < length l.counts) (sym c.self.view_is) c.requires.sender in
    let below : get_or counts c.args.bank 0 < 2 ^ 32 - 1 = subst (λ (l : FlatState). get_or l.counts c.args.bank 0 < 2 ^ 32 - 1) (sym c.self.view_is) c.requires.count in
    let same = same_set counts c.args.bank c.index.result c.index_mut.result.now c.index.ensures.value c.index_mut.ensures.value sender in
    let l : FlatState = flat_state_of c.self.inside in
    record {
      state = subst (λ (cs : List ℕ). IsFlatState (record l { counts = cs })) same (counted-state l c.args.bank c.self.invariant.state below);
      arrivals = omega (arith, c.self.invariant.arrivals, total-set (λ n. n) counts c.args.bank (get_or counts c.args.bank 0 + 1) 0 sender, ap (total (λ n. n)) same);
    }
