-- What is planned of the lots that the total pays for is planned of all.
use Rattle.std.proofs.Common.{ℕ, ◌≡◌, Option, None, slice_index, arith, ap, subst, ◌∙◌}
use Rattle.fx_rules.specs.State.{orders_in}
use Rattle.fx_rules.specs.Sweep.{Taker}
use Rattle.fx_rules.specs.Plan.{Planned}
use Rattle.flat_host.specs.FlatState.{room_in}
use Rattle.flat_host.specs.Parts.{affordable}
use Rattle.flat_host.proofs.sweep.paid_sweep.Goals as goal

pub returns : goal.returns
returns c =
    let t : Taker = c.args.taker.now in
    let same : c.affordable-lesser.result ≡ affordable (room_in c.args.credit.now t.bank) c.args.weight t =
    c.affordable-lesser.ensures.value ∙ ap (λ (room : Option ℕ). affordable room c.args.weight t) c.room.ensures.value in
    record {
      planned = record {
        lines = slice_index c.lines_of-lines.result;
        lines_are = c.lines_of-lines.ensures.lines;
        rest = c.in_ok-sweep.sweep.left;
        sum = omega (arith, ap (λ (u : Taker). u.left) same, c.affordable-lesser.ensures.left);
        planned = subst (λ (u : Taker). Planned c.args.weight (slice_index c.lines_of-lines.result) (orders_in u.pair c.args.orders.now) u None c.in_ok-sweep.sweep.fills c.in_ok-sweep.sweep.left)
            same c.in_ok-sweep.ensures.planned;
      };
      left = omega (arith, c.in_ok-sweep.ensures.left, c.affordable-lesser.ensures.left);
    }
