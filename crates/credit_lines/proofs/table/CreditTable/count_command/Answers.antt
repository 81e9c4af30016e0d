-- One more command is counted.
use Rattle.std.proofs.Common.{ℕ, ◌≡◌, ◌+◌, ◌-◌, ◌*◌, ◌<◌, ◌≤◌, ◌^◌, List, arith, sym, ap, subst, ◌∙◌, get_or, length}
use Rattle.std.proofs.Math.ListN.{set}
use Rattle.std.proofs.lemmas.List.{get_or_default}
use Rattle.fx_rules.specs.Lists.{total}
use Rattle.fx_rules.specs.Session.{sender_places}
use Rattle.fx_rules.proofs.ListLemmas.{total-set}
use Rattle.fx_rules.proofs.Senders.{places-most}
use Rattle.credit_lines.specs.Table.{Table}
use Rattle.credit_lines.specs.inside.Table.{IsTable}
use Rattle.credit_lines.proofs.TableFollowing.{total-bounded, counted-table}
use Rattle.credit_lines.proofs.table.CreditTable.count_command.Goals as goal

-- the count that was read and written back is the bank's
same_set : (counts : List ℕ) (bank place read : ℕ) → place ≡ bank → read ≡ get_or counts place read → bank < length counts → set counts bank (get_or counts bank 0 + 1) ≡ set counts place (read + 1)
same_set counts bank place read at' is within =
    ap (λ p. set counts p (get_or counts p 0 + 1)) (sym at')
    ∙ ap (λ n. set counts place (n + 1)) (sym (is ∙ get_or_default counts place read 0 (omega arith)))

bounded : (table : Table) → IsTable table → total (λ count. count) table.counts ≤ 65 * 2 ^ 32
bounded table is = omega (arith, total-bounded table.counts is.counts, is.senders, places-most table.session is.session)

pub overflow_add-self : goal.overflow_add-self
overflow_add-self c = omega (arith, c.self.invariant.arrivals, bounded _ c.self.invariant.table)

pub invariant_of-self : goal.invariant_of-self
invariant_of-self c =
    let counts : List ℕ = c.self.inside.counts.items in
    let sender : c.args.bank < length counts =
    subst (λ n. c.args.bank < n) (sym c.self.invariant.table.senders) (subst (λ (t : Table). c.args.bank < sender_places t.session) (sym c.self.view_is) c.requires.sender) in
    let few : get_or counts c.args.bank 0 < 2 ^ 32 - 1 = subst (λ (t : Table). get_or t.counts c.args.bank 0 < 2 ^ 32 - 1) (sym c.self.view_is) c.requires.few in
    let same = same_set counts c.args.bank c.index.result c.index_mut.result.now c.index.ensures.value c.index_mut.ensures.value sender in
    let t : Table = record { session = c.self.inside.session; lines = c.self.inside.lines; counts = counts } in
    record {
      table = subst (λ (cs : List ℕ). IsTable (record t { counts = cs })) same (counted-table t c.args.bank c.self.invariant.table few);
      arrivals = omega (arith, c.self.invariant.arrivals, total-set (λ n. n) counts c.args.bank (get_or counts c.args.bank 0 + 1) 0 sender, ap (total (λ n. n)) same);
    }
