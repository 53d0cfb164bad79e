-- What is judged at a place of a key.
use Rattle.std.specs.Prelude.{ℕ, ◌≡◌, length}
use Rattle.reo_net_base.specs.Net.{Net}
use Rattle.reo_refute_base.specs.Places.{IsAllowed}
use Rattle.reo_refute_parts.specs.places.AllowedRows.{AreAllowedRows}
use Rattle.reo_refute_live.specs.declared.judged.Judged.{Judged}
use Rattle.reo_refute_live.specs.support.Columns.{AreTables}
use Rattle.reo_refute_live.specs.OpenBranch.{AreSmall}

-- It can be judged: the tables are those of the sides, each joint has an item list, the numbers of
-- all items are small, and the allowed rows are those of the place.
pub record IsJudged {P : Type 0} (net : Net) (judged : Judged P) : Type 0 where
  pub tables : AreTables net judged.tables.now
  pub supply : length judged.lists.now ≡ length net.joints
  pub small : AreSmall judged.lists.now
  pub allowed : AreAllowedRows net judged.turn judged.given.now judged.number judged.allowed.now

-- The rows that are allowed at the place.
abbrev pub allowed_in : {P : Type 0} → Net → Judged P → ℕ → ℕ → Type 0
allowed_in net judged = IsAllowed net judged.turn judged.given.now judged.number
