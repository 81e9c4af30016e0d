-- One level more.
use Rattle.std.proofs.Common.{take, arith}
use Rattle.reply_lines.proofs.Levels.{level_written}
use Rattle.reply_lines.proofs.notices.put_levels.Goals as goal

pub loop-level-preserved : goal.loop-level-preserved
loop-level-preserved c = record {
  written =
      level_written c.args.decimals (take c.args.at c.args.room.now) c.args.levels.now c.loop-level.level-index c.level-item.result (take c.loop-level.end c.loop-level.room)
      (take c.put_price_field-end.result c.put_price_field-end.new.room) (take c.put_number_field-end.result c.put_number_field-end.new.room)
      c.loop-level-test.true c.level-item.is c.loop-level.invariant.written c.put_price_field-end.ensures.written c.put_number_field-end.ensures.written;
  within = omega (arith, c.loop-level.invariant.within, c.put_price_field-end.ensures.within, c.put_number_field-end.ensures.within);
}
