-- Behind a command a declaration is a stray; before that the client stands behind the others.
use Rattle.std.proofs.Common.{◌++◌, ◌∷◌, [], List, refl, ap₂, ◌∙◌, arith}
use Rattle.reply_lines.specs.Desks.{DeskSoFar}
use Rattle.client_day.specs.declared.day.ClientDay.{ClientDay}
use Rattle.client_day.proofs.Days.{day-declared, day-stray, known-yet, late-stray, strays-few}
use Rattle.client_day.proofs.day.ClientDay.declare.Goals as goal

pub overflow_add-self : goal.overflow_add-self
overflow_add-self c =
    let next = c.requires.next in
    omega (arith, strays-few next.0 next.1 c.args.self.now next.2, next.3)

pub returns-then-self : goal.returns-then-self
returns-then-self c = record {
  taken = λ h before line is are says. day-stray h before line c.args.self.now is (late-stray h before line c.args.self.now c.args.client is says c.if-self.true);
}

pub declare-requires : goal.declare-requires
declare-requires c =
    let next = c.requires.next in
    record { next = (next.0, known-yet next.0 next.1 c.args.self.now next.2 c.if-self.false, next.4) }

pub returns : goal.returns
returns c =
    let was : ClientDay = c.args.self.now in
    let now : ClientDay = record was { book = c.declare.new.self; desks = c.push_reserved.new.self } in
    record {
      taken = λ h before line is are says.
          day-declared h before line c.args.self.now now c.args.client is says c.if-self.false are refl refl refl refl refl c.in_ok-declare.ensures.clients (c.in_ok-declare.ensures.declared h (known-yet h before c.args.self.now is c.if-self.false))
          (c.push_reserved.ensures.items ∙ ap₂ (λ (all : List DeskSoFar) (d : DeskSoFar). all ++ d ∷ []) c.reserve.ensures.items c.new-desk.ensures);
    }
