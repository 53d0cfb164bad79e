-- Where what a row gives comes from.
use Rattle.std.proofs.Common.{◌≡◌, ℕ, ◌+◌, ◌<◌, true, Some, refl, arith}
use Rattle.reo_net_base.specs.declared.mark.Mark.TheVariants.{F}
use Rattle.reo_net_base.specs.declared.joint.End.{End}
use Rattle.reo_net_base.specs.Behaviour.{Behaviour, IsEndOf}
use Rattle.reo_net_base.specs.Lawful.{GivesAt}
use Rattle.reo_net_base.specs.Net.{Net, behaviour_at, end_of}
use Rattle.reo_net_base.specs.Ends.{IsGiver, IsTaker}
use Rattle.reo_net_base.specs.Wired.{IsWired}
use Rattle.reo_net_laws.specs.Ends.{mark_in, from_in}
use Rattle.reo_joint_values.specs.Standing.{FlowsAt}

module _ (net : Net) (wired : IsWired net) (giver : End) (is : IsGiver net giver) (row : ℕ) (flows : FlowsAt net giver row) where
  pub gives_by : GivesAt (behaviour_at net.primitives giver.primitive) ((behaviour_at net.primitives giver.primitive).side_of giver.end) row giver.end
  unfolding mark_in
  gives_by = record {
    of_side = (wired.lawful giver.primitive is.is_end.0).sides_in giver.end is.is_end.1;
    in_table = omega (arith, flows.plain);
    is_end = (is.is_end.1, refl);
    gives = is.gives;
    flows = flows.flows;
  }

  pub flows_by : (behaviour_at net.primitives giver.primitive).mark ((behaviour_at net.primitives giver.primitive).side_of giver.end) row giver.end ≡ F
  flows_by = gives_by.flows

  module _ (from : ℕ) (decides : from_in net row giver ≡ Some from) where
    pub source_is : IsEndOf (behaviour_at net.primitives giver.primitive) ((behaviour_at net.primitives giver.primitive).side_of giver.end) from
    unfolding from_in
    source_is = (wired.lawful giver.primitive is.is_end.0).from_end ((behaviour_at net.primitives giver.primitive).side_of giver.end) row giver.end from gives_by decides

    pub source_takes : (behaviour_at net.primitives giver.primitive).takes_in from ≡ true
    unfolding from_in
    source_takes = (wired.lawful giver.primitive is.is_end.0).from_takes ((behaviour_at net.primitives giver.primitive).side_of giver.end) row giver.end from gives_by decides

    pub source_taker : IsTaker net (end_of giver.primitive from)
    source_taker = record { is_end = (is.is_end.0, source_is.0); takes = source_takes }
