-- Ends in a table by name.
use Rattle.std.specs.Prelude.{◌≡◌, ℕ, Bool, cond, List}
use Rattle.reo_rules.specs.Lists.{has_name}
use Rattle.reo_rules.specs.Touches.{Touch, is_touched}
use Rattle.reo_rules_names.specs.declared.ends.EndsAtNames.{EndsAtNames}

-- The names with an end of this way.
abbrev pub names_at : EndsAtNames → Bool → List (List ℕ)
names_at table is_source = cond is_source table.sources table.sinks

-- The table has the names at which these ends stand, for each way.
abbrev pub AreEnds : List Touch → EndsAtNames → Type 0
AreEnds touches table = (name : List ℕ) (is_source : Bool) → has_name (names_at table is_source) name ≡ is_touched touches name is_source
