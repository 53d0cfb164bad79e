-- Where no colouring stands before the rows, some line leads on.
use Rattle.std.proofs.Common.{ℕ, List}
use Rattle.reo_net_base.specs.Net.{Net}
use Rattle.reo_net_base.specs.Sides.{AreRowsOf}
use Rattle.reo_net_base.specs.Wired.{IsWired, IsOrder}
use Rattle.reo_net_laws.specs.Ends.{RowsDiffer}
use Rattle.reo_joint_values.specs.Ties.{ChoicesAreAssignments}
use Rattle.reo_refute_base.specs.Items.{Lists}
use Rattle.reo_refute_base.specs.Places.{IsAllowed, IsLive, NoneBefore}
use Rattle.reo_refute_base.proofs.laws.Existing.{wrong}
use Rattle.reo_refute.specs.proving.Making.{NeverSettles}

pub never_settles : (net : Net) → IsWired net → (order : List ℕ) → IsOrder net order → RowsDiffer → ChoicesAreAssignments → (turn : ℕ) (given : List ℕ) → AreRowsOf net given → NoneBefore net turn given
    → (lists : Lists) (p : ℕ) → IsLive net turn given p → NeverSettles net lists (IsAllowed net turn given p)
never_settles net wired order is_order differ choices turn given are_given none lists p is_live f part s =
    wrong net wired order is_order differ choices turn given are_given lists p is_live (record {
      now = f;
      within = part;
      one = s.one;
      supported = λ j v side lt has at. (s.kept j lt).supported side at v has;
    }) none
