use Rattle.std.proofs.Common.{◌≤◌, length, take, drop}
use Rattle.std.specs.List.{flat_map}
use Rattle.fx_rules.specs.Lists.{Each}
use Rattle.fx_rules.specs.Session.{bank_count}
use Rattle.reply_lines.specs.Desks.{HaveGot}
use Rattle.reply_lines.specs.Notices.{fill_notices}
use Rattle.reply_lines.specs.Prints.{IsFillOf}
use Rattle.reply_lines.proofs.desk.add_fills.Given as goal

-- the desks got the notices of the fills so far
abbrev pub invariant-loop-fill : goal.invariant-loop-fill
invariant-loop-fill l = record {
  got : HaveGot l.session (λ bank. flat_map (fill_notices bank) (take l.fill-index l.fills)) l.initial.desks.items l.desks.items;
  banks : bank_count l.session ≤ length l.desks.items;
  fills : Each (IsFillOf l.session) (drop l.fill-index l.fills);
}
