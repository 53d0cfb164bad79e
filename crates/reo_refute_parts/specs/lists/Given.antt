-- What a row gives at an end.
use Rattle.std.specs.Prelude.{ℕ, cond, List, []}
use Rattle.reo_values.specs.declared.value.Value.{Value}
use Rattle.reo_net_base.specs.declared.joint.End.{End}
use Rattle.reo_net_base.specs.Marks.{is_flow}
use Rattle.reo_net_base.specs.Net.{Net}
use Rattle.reo_net_laws.specs.Ends.{mark_in, from_in}
use Rattle.reo_refute_base.specs.Items.{Lists, given_from}

-- What a row gives at an end, by the items of the joint that decides: nothing without flow.
abbrev pub given_at : Net → Lists → End → ℕ → List Value
given_at net lists giver row =
    cond (is_flow (mark_in net row giver)) (given_from net lists row giver (from_in net row giver)) []
