-- Whether a set of sides can do without a jam row.
use Rattle.std.specs.Prelude.{ℕ, ◌≡◌, Bool, true, false}
use Rattle.reo_net_base.specs.Net.{Net}
use Rattle.reo_weights.specs.Over.{IsWithin}
use Rattle.reo_search.specs.First.{HasNoThreeColouring}
use Rattle.reo_listing.specs.laws.Searched.{HasThreeColouring}

-- It can, or it cannot.
pub record IsMeeting (net : Net) (inside : ℕ → Bool) (meets : Bool) : Type 0 where
  pub some : meets ≡ true → HasThreeColouring net inside
  pub none : meets ≡ false → HasNoThreeColouring net inside

-- It is within the budget, and it can, or it cannot.
pub record IsMeetingWithin (budget : ℕ) (net : Net) (inside : ℕ → Bool) (meets : Bool) : Type 0 where
  pub within : IsWithin budget net inside
  pub meeting : IsMeeting net inside meets
