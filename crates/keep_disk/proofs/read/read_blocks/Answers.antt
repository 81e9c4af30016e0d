use Rattle.std.proofs.Common.{◌≡◌, ◌∙◌, ◌+◌, ◌∷◌, ◌++◌, [], ℕ, List, length, drop, sym, ap, subst, arith, rules, length-drop}
use Rattle.keep_disk.specs.Blocks.{blocks_from, space}
use Rattle.keep_disk.proofs.Reading.{space-append, read_more, tail_whole}
use Rattle.keep_disk.proofs.read.read_blocks.Goals as goal

pub blocks-2-preserved : goal.blocks-2-preserved
blocks-2-preserved c =
    let body = c.in-Some.body.now in
    let place = c.blocks-2.place in
    let bodies = c.blocks-2.bodies.items in
    let same : c.in_ok-to_vec.field-0.items ≡ c.in-Some.body.now = search rules in
    let pushed : c.push.new.self.items ≡ c.blocks-2.bodies.items ++ c.in-Some.body.now ∷ [] =
    c.in_ok-push.ensures.items ∙ ap (λ (b : List ℕ). c.blocks-2.bodies.items ++ b ∷ []) (c.from_vec.ensures ∙ same) in
    let sum = space-append bodies (body ∷ []) in
    let spaces = ap space pushed in
    let whole = tail_whole c.blocks-2.place c.args.file.now in
    let long = ap length whole in
    let room = length-drop place c.args.file.now in
    record {
      within = omega (arith, c.in-Some.ensures.within, room, long, c.blocks-2.invariant.within);
      read = read_more c.args.file.now place bodies body c.blocks-2.invariant.read
          (subst (λ (l : List ℕ). blocks_from 0 l ≡ c.in-Some.body.now ∷ blocks_from 0 (drop (9 + length c.in-Some.body.now) l)) whole c.in-Some.ensures.some)
          ∙ ap (λ (bs : List (List ℕ)). bs ++ blocks_from 0 (drop (c.blocks-2.place + (9 + length c.in-Some.body.now)) c.args.file.now)) (sym pushed);
      behind = omega (arith, sum, spaces, c.blocks-2.invariant.behind);
    }
