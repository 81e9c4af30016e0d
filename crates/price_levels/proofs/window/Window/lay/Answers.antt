use Rattle.std.proofs.Common.{◌*◌, ◌∙◌, ℕ, List, ap, ap₂, arith, length}
use Rattle.price_levels.specs.declared.level.Level.{Level}
use Rattle.price_levels.specs.Ticks.{Ticks, no_level}
use Rattle.price_levels.specs.inside.Marked.{padded}
use Rattle.price_levels.proofs.Marking.{marked_padded}
use Rattle.price_levels.proofs.window.Window.lay.Goals as goal

pub overflow_cast-self : goal.overflow_cast-self
overflow_cast-self c = omega (arith, c.requires.few, c.requires.more)

pub invariant_of-self : goal.invariant_of-self
invariant_of-self c =
    marked_padded c.self.inside.base _ c.self.inside.levels.items _ c.self.inside.words.items _ c.self.inside.used c.args.first c.args.before c.args.after c.self.invariant
    (c.in_ok-levels.ensures ∙ ap (λ (ls : List Level). padded no_level ls (c.args.before * 64) (c.args.after * 64)) c.deref.ensures.value
    ∙ ap₂ (λ (m n : ℕ). padded no_level c.self.inside.levels.items m n) (omega arith) (omega arith))
    (c.in_ok-words.ensures ∙ ap (λ (ws : List ℕ). padded 0 ws c.args.before c.args.after) c.deref-2.ensures.value) (omega arith)
    (omega (arith, c.requires.few, ap (λ (t : Ticks). length t.levels) c.self.view_is))
