use Rattle.std.proofs.Common.{refl, sym, ◌∙◌, codes}
use Rattle.reo_grammar.specs.Tokens.Class.{other}
use Rattle.reo_trees.specs.Forms.{listed}
use Rattle.reo_trees.specs.ItemsTwo.{item_two}
use Rattle.reo_parser.proofs.Turns.{one_turn}
use Rattle.reo_parser.proofs.items_two.bodies.items.Goals as goal

pub items-smaller : goal.items-smaller
items-smaller c =
    (one_turn listed (other (codes "}")) item_two refl refl c.args.room c.items.items c.in_ok-next.next c.items.cursor c.item.new.cursor
    (sym c.items-test.ensures) c.in_ok-next.ensures).0

pub items-preserved : goal.items-preserved
items-preserved c =
    rw c.in_ok-push.ensures.ok
    (sym (one_turn listed (other (codes "}")) item_two refl refl c.args.room c.items.items c.in_ok-next.next c.items.cursor c.item.new.cursor
    (sym c.items-test.ensures) c.in_ok-next.ensures).1 ∙ c.items.invariant)
