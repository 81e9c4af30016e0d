use Rattle.std.proofs.Common.{rules, ◌≡◌, ap, ◌∙◌, ◌++◌, Vec, ℕ, List, Global, arith}
use Rattle.fx_rules.specs.Session.{opening_limit}
use Rattle.session_head.specs.HeadText.{line_text}
use Rattle.session_head.specs.Statement.{spelling}
use Rattle.session_head.specs.declared.statement.Statement.TheVariants as statements
use Rattle.session_head.proofs.TextLemmas.{limit_pushed, limit_left}
use Rattle.session_head.proofs.text.push_limits_of.Goals as goal
use Rattle.session_head.proofs.text.push_limits_of.Goals.{then-get-gt0+in_ok-push_statement, else-get-gt0}

at_place : (c : goal.Joined-get-gt0) → c.at-to.result ≡ c.loop-to.to
at_place c = search rules

limit_is : (c : goal.Joined-get-gt0) → c.limit-limit.result ≡ opening_limit c.args.session.now c.args.from c.loop-to.to
limit_is c = c.limit-limit.ensures.value ∙ ap (λ (to : ℕ). opening_limit c.args.session.now c.args.from to) (at_place c)

pub loop-to-preserved : goal.loop-to-preserved
loop-to-preserved c =
    elim c.if-get-gt0.branch [
      | then-get-gt0+in_ok-push_statement w ↦
          limit_pushed c.args.session.now c.args.from c.loop-to.to c.at-to.result c.limit-limit.result c.args.out.now.items c.loop-to.out.items c.if-get-gt0.out.items
          c.loop-to.invariant (at_place c) (limit_is c) (omega (arith, c.get.ensures.value, w.if-get-gt0.true))
          (ap (λ (v : Vec ℕ Global). v.items) w.out-is ∙ w.in_ok-push_statement.ensures
          ∙ ap (λ (banks : List (List ℕ)). c.loop-to.out.items ++ line_text (spelling banks (statements.Line c.args.from c.at-to.result c.limit-limit.result))) c.banks-banks.ensures.value)
      | else-get-gt0 w ↦
          ap (λ (v : Vec ℕ Global). v.items) w.out-is
          ∙ limit_left c.args.session.now c.args.from c.loop-to.to c.limit-limit.result c.args.out.now.items c.loop-to.out.items c.loop-to.invariant (limit_is c) (omega (arith, c.get.ensures.value, w.if-get-gt0.false))
    ]
