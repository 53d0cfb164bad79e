use Rattle.std.proofs.Common.{◌≡◌, ◌++◌, List, ℕ, map, take}
use Rattle.reo_rules.specs.Lists.{has_name}
use Rattle.reo_script.specs.scripts.ScriptRules.{Naming}
use Rattle.reo_script.specs.Places.{naming_of}
use Rattle.reo_script.proofs.sharing.note.Given as goal

abbrev pub invariant-loop-place : goal.invariant-loop-place
invariant-loop-place l = (name : List ℕ) → has_name l.seen name ≡ has_name (l.initial.seen ++ map (λ (n : Naming). n.port) (map naming_of (take l.place-index l.places))) name
