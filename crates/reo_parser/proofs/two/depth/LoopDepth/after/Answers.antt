use Rattle.std.proofs.Common.{rules, arith}
use Rattle.std.proofs.lemmas.Grind.{common_steps}
use Rattle.reo_cursor.specs.Reading.{lexeme_seen}
use Rattle.reo_parser.proofs.two.Loops.{starts-next, begins-here, begins-nowhere}
use Rattle.reo_parser.proofs.two.depth.LoopDepth.after.Goals as goal

pub returns-then-self : goal.returns-then-self
returns-then-self c ts h =
    record {
      levels = c.after.ensures ts h.levels;
      opened = first_of (search rules, grind (arith, common_steps));
      closed = first_of (search rules, grind (arith, common_steps));
      starting = starts-next ts (lexeme_seen c.args.seen) c.starts_item.result c.starts_item.ensures;
      looping = begins-here ts (lexeme_seen c.args.seen) c.args.self.starting c.is_name_of_loops.result h.starting c.if-self.true c.is_name_of_loops.ensures;
    }

pub returns-else-self : goal.returns-else-self
returns-else-self c ts h =
    record {
      levels = c.after.ensures ts h.levels;
      opened = first_of (search rules, grind (arith, common_steps));
      closed = first_of (search rules, grind (arith, common_steps));
      starting = starts-next ts (lexeme_seen c.args.seen) c.starts_item.result c.starts_item.ensures;
      looping = begins-nowhere ts (lexeme_seen c.args.seen) c.args.self.starting h.starting c.if-self.false;
    }
