use Rattle.std.proofs.Common.{◌≡◌, ◌∙◌, ◌+◌, ◌++◌, ◌∷◌, [], ℕ, length, refl, sym, ap, subst, rules, w64}
use Rattle.std.specs.Int.{to_be_bytes}
use Rattle.keep_disk.specs.Blocks.{whole_blocks, IsClosedAt}
use Rattle.keep_disk.proofs.Appending.{opened, opened_blocks, opened_closed}
use Rattle.keep_disk.proofs.Moments.{told_piece, told_before, at_rest_now, append_begun, append_made}
use Rattle.keep_disk.proofs.keeper.Keeper.append.Goals as goal

pub returns-in_err-write_synced-clause-every_moment : goal.returns-in_err-write_synced-clause-every_moment
returns-in_err-write_synced-clause-every_moment g c = λ file told.
    append_begun g.D.Disk.moment g.D.Disk.left_since g.D.Disk.may_leave c.args.disk.now c.write_synced.new.disk file c.args.body.now c.args.self.now.place (length c.deref.result.now)
    (c.requires file told).0 (c.requires file told).1 c.write_synced.ensures.every_moment

pub returns-in_err-write_synced-2-clause-every_moment : goal.returns-in_err-write_synced-2-clause-every_moment
returns-in_err-write_synced-2-clause-every_moment g c = λ file told.
    let block : c.deref.result.now ≡ to_be_bytes w64 (length c.args.body.now) ++ c.args.body.now ++ 0 ∷ [] = search rules in
    let middle = told_piece _ _ (c.args.self.now.place + 1) _ _ file c.in_ok-write_synced.ensures.bytes told block in
    append_made g.D.Disk.moment g.D.Disk.left_since g.D.Disk.may_leave c.args.disk.now c.write_synced.new.disk c.write_synced-2.new.disk file c.args.body.now c.args.self.now.place (length c.deref.result.now)
    c.place_behind.ensures.fits (c.requires file told).0 (c.requires file told).1 c.write_synced.ensures.every_moment (c.in_ok-write_synced.ensures.durable _ middle) c.write_synced-2.ensures.every_moment

pub returns-clause-every_moment : goal.returns-clause-every_moment
returns-clause-every_moment g c = λ file told.
    let block : c.deref.result.now ≡ to_be_bytes w64 (length c.args.body.now) ++ c.args.body.now ++ 0 ∷ [] = search rules in
    let middle = told_piece _ _ (c.args.self.now.place + 1) _ _ file c.in_ok-write_synced.ensures.bytes told block in
    append_made g.D.Disk.moment g.D.Disk.left_since g.D.Disk.may_leave c.args.disk.now c.write_synced.new.disk c.write_synced-2.new.disk file c.args.body.now c.args.self.now.place (length c.deref.result.now)
    c.place_behind.ensures.fits (c.requires file told).0 (c.requires file told).1 c.write_synced.ensures.every_moment (c.in_ok-write_synced.ensures.durable _ middle) c.write_synced-2.ensures.every_moment

pub returns-clause-appended : goal.returns-clause-appended
returns-clause-appended g c = λ file told image may.
    let block : c.deref.result.now ≡ to_be_bytes w64 (length c.args.body.now) ++ c.args.body.now ++ 0 ∷ [] = search rules in
    let middle = told_piece _ _ (c.args.self.now.place + 1) _ _ file c.in_ok-write_synced.ensures.bytes told block in
    let last = told_piece _ _ c.args.self.now.place (1 ∷ []) (1 ∷ []) _ c.in_ok-write_synced-2.ensures.bytes middle refl in
    ap whole_blocks (c.in_ok-write_synced-2.ensures.durable _ last image may) ∙ opened_blocks file c.args.self.now.place (c.requires file told).0 c.args.body.now c.place_behind.ensures.fits

pub returns-clause-at_rest : goal.returns-clause-at_rest
returns-clause-at_rest g c = λ other told_now.
    let block : c.deref.result.now ≡ to_be_bytes w64 (length c.args.body.now) ++ c.args.body.now ++ 0 ∷ [] = search rules in
    let staged_before = told_before _ _ _ other c.in_ok-write_synced-2.ensures.bytes told_now in
    let before = told_before _ _ _ staged_before.0 c.in_ok-write_synced.ensures.bytes staged_before.1 in
    let file = before.0 in
    let told = before.1 in
    let middle = told_piece _ _ (c.args.self.now.place + 1) _ _ file c.in_ok-write_synced.ensures.bytes told block in
    let last = told_piece _ _ c.args.self.now.place (1 ∷ []) (1 ∷ []) _ c.in_ok-write_synced-2.ensures.bytes middle refl in
    let closed = subst (λ (n : ℕ). IsClosedAt (opened file c.args.self.now.place (c.requires file told).0 c.args.body.now c.place_behind.ensures.fits) n) (sym c.in_ok-next.ensures.next) (opened_closed file c.args.self.now.place (c.requires file told).0 c.args.body.now c.place_behind.ensures.fits) in
    at_rest_now _ (g.D.Disk.may_leave c.write_synced-2.new.disk) _ other c.in_ok-next.next last closed c.in_ok-write_synced-2.ensures.durable told_now
