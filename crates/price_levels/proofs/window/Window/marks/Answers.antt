use Rattle.std.proofs.Common.{ℕ, ◌≡◌, ◌+◌, ◌*◌, ◌/◌, ◌%◌, ◌^◌, sym, subst, arith}
use Rattle.price_levels.specs.Rungs.{AreMarks}
use Rattle.price_levels.specs.Ticks.{level_of}
use Rattle.price_levels.proofs.Marking.{marks_across}
use Rattle.price_levels.proofs.window.Window.marks.Goals as goal

pub returns : goal.returns
returns c =
    let low : ℕ = c.two_words-low.result.0 in
    let high : ℕ = c.two_words-low.result.1 in
    let from : ℕ = c.args.from in
    let wide : c.from.result * 2 ^ 64 % 2 ^ 128 + c.from-2.result ≡ high * 2 ^ 64 + low = omega (arith, c.from.ensures, c.from-2.ensures, c.two_words-low.ensures.fits.1) in
    subst (λ (n : ℕ). AreMarks (level_of c.args.self.now) from (n / 2 ^ (from % 64) % 2 ^ 64)) (sym wide)
    (marks_across (level_of c.args.self.now) from low high c.two_words-low.ensures.fits.0 c.two_words-low.ensures.low c.two_words-low.ensures.high)
