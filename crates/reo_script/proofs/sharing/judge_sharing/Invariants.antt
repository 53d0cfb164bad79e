use Rattle.std.proofs.Common.{◌≡◌, [], List, ℕ, take}
use Rattle.reo_rules.specs.Lists.{has_name}
use Rattle.reo_script.specs.scripts.ScriptRules.{ports_in, shared}
use Rattle.reo_script.proofs.sharing.judge_sharing.Given as goal

abbrev pub invariant-loop-component : goal.invariant-loop-component
invariant-loop-component l = ((name : List ℕ) → has_name l.seen name ≡ has_name (ports_in (take l.component-index l.components)) name) × (shared (take l.component-index l.components) ≡ [])
