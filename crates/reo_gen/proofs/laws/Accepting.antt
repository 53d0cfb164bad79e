-- Made work is accepted.
use Rattle.std.proofs.Common.{◌≡◌, ℕ, ◌≤◌, Some, List, [], ◌∷◌, refl, sym, ap, subst, map}
use Rattle.std.specs.Prelude.{Ok}
use Rattle.reo_rules.specs.declared.fault.FlatFault.TheVariants as faults
use Rattle.reo_rules.specs.Lists.{first_of}
use Rattle.reo_script.specs.declared.scripts.action.Script.{Script}
use Rattle.reo_script.specs.scripts.ScriptAnswers.{Answers, answer_by}
use Rattle.reo_script.specs.scripts.ScriptRules.{component_for}
use Rattle.reo_gen.specs.Scripts.{script_text}
use Rattle.reo_gen.specs.laws.Accepted.{IsAcceptedWork}
use Rattle.reo_gen.specs.laws.NotRefused.{AcceptedIsNotRefused}
use Rattle.reo_gen.proofs.laws.Trees.{program_of}
use Rattle.reo_gen.proofs.laws.CircuitTexts.{circuit-says}
use Rattle.reo_gen.proofs.laws.ScriptTexts.{components_by, script-says}
use Rattle.reo_gen.proofs.laws.ScriptChecks.{made_ports, ports-are, script-holds}
use Rattle.reo_gen.proofs.laws.Counting.{primitives-count}
use Rattle.reo_gen.proofs.laws.Sizes.{accepted, circuit-short, script-short}

answers : (n : ℕ) → n ≤ 256 → (script : Script) × Answers (script_text n) (made_ports n) (Ok script)
answers n few =
    let (at, below, says) = script-says n few in
    let cs = components_by n at below in
    (record { components = map (component_for (made_ports n)) cs }, (Ok cs, says, ap (λ found. answer_by (made_ports n) cs (first_of found)) (script-holds n at below few)))

pub accepted-work : (n : ℕ) → 1 ≤ n → n ≤ 256 → IsAcceptedWork n
accepted-work n some few =
    let (at, says) = circuit-says n some few in
    let (script, read) = answers n few in
    record {
      program = program_of n at;
      says = says;
      accepted = accepted n at some few;
      primitives = primitives-count n at some few;
      script = script;
      answered = subst (λ ports. Answers (script_text n) ports (Ok script)) (sym (ports-are n at)) read;
      circuit_short = circuit-short n few;
      script_short = script-short n few;
    }

-- A break that is none is no refusal.
none-first : {X : Type 0} (xs : List X) (x : X) → xs ≡ [] → first_of xs ≡ Some x → ⊥
none-first [] x e k = cc
none-first (y ∷ ys) x e k = cc

pub not-refused : AcceptedIsNotRefused
not-refused p faults.NoMemory a r = refl
not-refused p (faults.Cycle node) a r = absurd (a.no_cycle r.1.joint r.1.least.on_cycle)
not-refused p (faults.Twice line name) a r = absurd (none-first _ _ a.no_break r)
not-refused p (faults.Unknown line name) a r = absurd (none-first _ _ a.no_break r)
not-refused p (faults.Mistyped line) a r = absurd (none-first _ _ a.no_break r)
not-refused p (faults.Range line) a r = absurd (none-first _ _ a.no_break r)
not-refused p (faults.Arity line) a r = absurd (none-first _ _ a.no_break r)
not-refused p (faults.Direction line node) a r = absurd (none-first _ _ a.no_break r)
not-refused p (faults.Dangling line node) a r = absurd (none-first _ _ a.no_break r)
not-refused p faults.NoMain a r = absurd (none-first _ _ a.no_break r)
not-refused p faults.TooMany a r = absurd (none-first _ _ a.no_break r)
