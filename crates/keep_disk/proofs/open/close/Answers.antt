use Rattle.std.proofs.Common.{◌≡◌, ◌∙◌, ◌<◌, ◌∷◌, [], ℕ, List, length, get_or, refl, sym, ap, subst, rules, arith}
use Rattle.fx_disk.specs.Disk.{with_piece, Only}
use Rattle.fx_disk.proofs.Leaving.{leaves_at_start, leaves_weaker}
use Rattle.keep_disk.specs.Blocks.{whole_blocks, IsClosedAt}
use Rattle.keep_disk.specs.inside.Keeping.{TornFrom}
use Rattle.keep_disk.proofs.Closing.{closing, closed_blocks, closed_closed}
use Rattle.keep_disk.proofs.Moments.{told_piece, told_before, at_rest_now, both_ok}
use Rattle.keep_disk.proofs.open.close.Goals as goal
use Rattle.keep_disk.proofs.open.close.Goals.{else-place-bytes-via-then-place-bytes+else-bytes-place-ne-OPEN, else-place-bytes-via-else-place-bytes}

pub returns-then-bytes-place-ne-OPEN-clause-every_moment : goal.returns-then-bytes-place-ne-OPEN-clause-every_moment
returns-then-bytes-place-ne-OPEN-clause-every_moment g c = λ file told.
    leaves_at_start g.D.Disk.moment g.D.Disk.left_since c.args.disk.now (λ (image : List ℕ). whole_blocks image ≡ whole_blocks file)
    (λ image left. ap whole_blocks (c.requires.durable file told image (g.met.D.Disk.only_now c.args.disk.now image left)))

pub returns-then-bytes-place-ne-OPEN-clause-blocks : goal.returns-then-bytes-place-ne-OPEN-clause-blocks
returns-then-bytes-place-ne-OPEN-clause-blocks g c = λ file told image may. ap whole_blocks (c.requires.durable file told image may)

pub returns-clause-every_moment : goal.returns-clause-every_moment
returns-clause-every_moment g c = λ file told.
    let gaping : c.args.place < length c.args.bytes.now → get_or c.args.bytes.now c.args.place 0 ≡ 1 = λ within. elim c.else-place-bytes.branch [
      | else-place-bytes-via-then-place-bytes+else-bytes-place-ne-OPEN w ↦ (let h = w.if-bytes-place-ne-OPEN.false in search rules)
      | else-place-bytes-via-else-place-bytes w ↦ absurd (let h = w.if-place-bytes.false in omega (arith, within, h))
    ] in
    let same = c.requires.same file told in
    let only : Only c.args.bytes.now (g.D.Disk.may_leave c.args.disk.now) = λ image may. c.requires.durable file told image may ∙ same in
    leaves_weaker g.D.Disk.moment g.D.Disk.left_since c.args.disk.now c.write_synced.new.disk (TornFrom c.args.place 1 (g.D.Disk.may_leave c.args.disk.now)) (λ (image : List ℕ). whole_blocks image ≡ whole_blocks file)
    (λ image from. closing c.args.bytes.now c.args.place c.requires.behind c.requires.within c.requires.end gaping (g.D.Disk.may_leave c.args.disk.now) only image from ∙ ap whole_blocks (sym same))
    c.write_synced.ensures.every_moment

pub returns-clause-blocks : goal.returns-clause-blocks
returns-clause-blocks g c =
    let gaping : c.args.place < length c.args.bytes.now → get_or c.args.bytes.now c.args.place 0 ≡ 1 = λ within. elim c.else-place-bytes.branch [
      | else-place-bytes-via-then-place-bytes+else-bytes-place-ne-OPEN w ↦ (let h = w.if-bytes-place-ne-OPEN.false in search rules)
      | else-place-bytes-via-else-place-bytes w ↦ absurd (let h = w.if-place-bytes.false in omega (arith, within, h))
    ] in
    both_ok c.write_synced.result _ _ _
    (λ is durable file told image may.
    let same = c.requires.same file told in
    ap whole_blocks (durable _ (told_piece _ _ c.args.place (0 ∷ []) (0 ∷ []) file is told refl) image may)
    ∙ ap (λ (f : List ℕ). whole_blocks (with_piece c.args.place (0 ∷ []) f)) same
    ∙ closed_blocks c.args.bytes.now c.args.place c.requires.behind c.requires.within c.requires.end gaping
    ∙ ap whole_blocks (sym same))
    c.write_synced.ensures.bytes c.write_synced.ensures.durable

pub returns-clause-at_rest : goal.returns-clause-at_rest
returns-clause-at_rest g c =
    let gaping : c.args.place < length c.args.bytes.now → get_or c.args.bytes.now c.args.place 0 ≡ 1 = λ within. elim c.else-place-bytes.branch [
      | else-place-bytes-via-then-place-bytes+else-bytes-place-ne-OPEN w ↦ (let h = w.if-bytes-place-ne-OPEN.false in search rules)
      | else-place-bytes-via-else-place-bytes w ↦ absurd (let h = w.if-place-bytes.false in omega (arith, within, h))
    ] in
    both_ok c.write_synced.result _ _ _
    (λ is durable other told_now.
    let before = told_before _ _ _ other is told_now in
    let same = c.requires.same before.0 before.1 in
    at_rest_now _ (g.D.Disk.may_leave c.write_synced.new.disk) (with_piece c.args.place (0 ∷ []) before.0) other c.args.place
    (told_piece _ _ c.args.place (0 ∷ []) (0 ∷ []) before.0 is before.1 refl)
    (subst (λ (f : List ℕ). IsClosedAt (with_piece c.args.place (0 ∷ []) f) c.args.place) (sym same) (closed_closed c.args.bytes.now c.args.place c.requires.behind c.requires.within c.requires.end gaping))
    durable told_now)
    c.write_synced.ensures.bytes c.write_synced.ensures.durable
