use Rattle.std.proofs.Common.{ℕ, ◌≡◌, ◌*◌, List, [], ◌∷◌, Result, Ok, Err, length, refl, ap, arith}
use Rattle.std.specs.Result.{OnErr, OnOk}
use Rattle.price_levels.specs.declared.level.Level.{Level}
use Rattle.price_levels.specs.Ticks.{Ticks, level_of}
use Rattle.price_levels.proofs.Marking.{level_opened, level_padded}
use Rattle.price_levels.proofs.window.Window.reserve.Goals as goal

-- each level stays, where the window was laid out anew and where it was not
stays : {A E : Type 0} (r : Result A E) (old new : Ticks) (B L : Type 0) → (B → L → (rank : ℕ) → level_of new rank ≡ level_of old rank) → OnOk r B → OnOk r L → OnErr r (new ≡ old)
    → (rank : ℕ) → level_of new rank ≡ level_of old rank
stays (Ok x) old new B L laid base levels same rank = laid base levels rank
stays (Err e) old new B L laid base levels same rank = ap (λ (t : Ticks). level_of t rank) same

no_items : (levels : List Level) → length levels ≡ 0 → levels ≡ []
no_items [] none = refl
no_items (level ∷ levels) none = absurd (omega (arith, none))

pub returns-then-count-eq0-clause-levels : goal.returns-then-count-eq0-clause-levels
returns-then-count-eq0-clause-levels c =
    stays c.lay.result c.args.self.now c.lay.new.self _ _
    (λ base levels. level_opened c.args.self.now c.lay.new.self 64
    (no_items c.args.self.now.levels (omega (arith, ap (λ (t : Ticks). length t.levels) c.self.view_is, c.self.invariant.blocks, c.len-count.ensures, c.if-count-eq0.true))) levels)
    c.lay.ensures.base c.lay.ensures.levels c.lay.ensures.memory

pub returns-then-block-first-clause-levels : goal.returns-then-block-first-clause-levels
returns-then-block-first-clause-levels c =
    stays c.lay-then-block-first.result c.args.self.now c.lay-then-block-first.new.self _ _
    (λ base levels. level_padded c.args.self.now c.lay-then-block-first.new.self (64 * _) 0
    (omega (arith, base, ap (λ (t : Ticks). t.base) c.self.view_is, c.self.invariant.aligned, c.if-block-first.true, c.min-spare.ensures)) levels)
    c.lay-then-block-first.ensures.base c.lay-then-block-first.ensures.levels c.lay-then-block-first.ensures.memory

pub returns-then-block-first-2-clause-levels : goal.returns-then-block-first-2-clause-levels
returns-then-block-first-2-clause-levels c =
    stays c.lay-then-block-first-2.result c.args.self.now c.lay-then-block-first-2.new.self _ _
    (λ base levels. level_padded c.args.self.now c.lay-then-block-first-2.new.self 0 (64 * _)
    (omega (arith, base, ap (λ (t : Ticks). t.base) c.self.view_is, c.self.invariant.aligned)) levels)
    c.lay-then-block-first-2.ensures.base c.lay-then-block-first-2.ensures.levels c.lay-then-block-first-2.ensures.memory
