-- What a run reads in its files, and what stops it.
use Rattle.std.proofs.Common.{◌≡◌, ℕ, false, List, [], ◌∷◌, ◌++◌, length, sym, subst, ap, refl}
use Rattle.std.specs.Prelude.{Ok}
use Rattle.reo_script.specs.declared.scripts.action.Script.{Script as Said}
use Rattle.reo_script.specs.scripts.ScriptAnswers.{Answers}
use Rattle.reo_command.specs.declared.command.Command.TheVariants.{Run}
use Rattle.reo_command.specs.declared.role.Role.TheVariants.{Circuit, Script}
use Rattle.reo_command.specs.declared.stop.Stop.{Stop}
use Rattle.reo_command.specs.Fetched.{Content, gone, long, text, unknown, has_gone}
use Rattle.reo_command.specs.Readings.{FlatCircuit, IsCircuitText, CircuitStops, Runnable, ScriptStops, ReadsCircuit, StopsCheck, ReadsRun, StopsRun}
use Rattle.reo_command.specs.ReadSteps.{ReadsScript, StopsScript}
use Rattle.reo_command.specs.Statuses.{IsAmong, statuses_of, read_fault, too_long, circuit_refused, script_refused}
use Rattle.reo_command.specs.Stops.{stop_status}
use Rattle.reo_command.proofs.FlatLemmas.{circuit_law}
use Rattle.reo_command.proofs.ReadLemmas.{IsOneReading, is_missed, file_reading}
use Rattle.reo_command.proofs.ScriptLemmas.{script_law}

-- A run reads two texts.
pub record HasTexts (r : Runnable) (answers : List Content) : Type 0 where
  pub circuit : List ℕ
  pub script : List ℕ
  pub is : answers ≡ text circuit ∷ text script ∷ []
  pub flat : IsCircuitText circuit r.flat
  pub said : Answers script r.flat.ports (Ok r.script)

pub has_texts : (answers : List Content) (r : Runnable) → ReadsRun answers r → HasTexts r answers
has_texts (text c ∷ text d ∷ []) r h = record { circuit = c; script = d; is = refl; flat = h.0; said = h.1 }
has_texts [] r h = absurd h
has_texts (gone ∷ cs) r h = absurd h
has_texts (long ∷ cs) r h = absurd h
has_texts (unknown ∷ cs) r h = absurd h
has_texts (text c ∷ []) r h = absurd h
has_texts (text c ∷ gone ∷ cs) r h = absurd h
has_texts (text c ∷ long ∷ cs) r h = absurd h
has_texts (text c ∷ unknown ∷ cs) r h = absurd h
has_texts (text c ∷ text d ∷ e ∷ cs) r h = absurd h

pub run_all : (answers : List Content) (r : Runnable) → ReadsRun answers r → length answers ≡ 2
run_all answers r h = ap length (has_texts answers r h).is

pub run_here : (answers : List Content) (r : Runnable) → ReadsRun answers r → has_gone answers ≡ false
run_here answers r h = ap has_gone (has_texts answers r h).is

-- The circuit stops it, or the script behind a circuit that is read; or both are read.
pub run_first : (answers : List Content) (s : Stop) → StopsCheck answers s → StopsRun answers s
run_first (c ∷ []) s h = h
run_first [] s h = absurd h
run_first (c ∷ d ∷ cs) s h = absurd h

module _ (flat : FlatCircuit) where
  pub run_next : (answers : List Content) → ReadsCircuit answers flat → (more : List Content) (s : Stop) → StopsScript flat.ports more s → StopsRun (answers ++ more) s
  run_next (text bytes ∷ []) is (c ∷ []) s h = (flat, is, h)
  run_next (text bytes ∷ []) is [] s h = absurd h
  run_next (text bytes ∷ []) is (c ∷ d ∷ cs) s h = absurd h
  run_next [] is more s h = absurd is
  run_next (gone ∷ cs) is more s h = absurd is
  run_next (long ∷ cs) is more s h = absurd is
  run_next (unknown ∷ cs) is more s h = absurd is
  run_next (text bytes ∷ c ∷ cs) is more s h = absurd is

  pub run_both : (answers : List Content) → ReadsCircuit answers flat → (more : List Content) (script : Said) → ReadsScript flat.ports more script → ReadsRun (answers ++ more) (record { flat = flat; script = script })
  run_both (text bytes ∷ []) is (text c ∷ []) script h = (is, h)
  run_both (text bytes ∷ []) is [] script h = absurd h
  run_both (text bytes ∷ []) is (gone ∷ cs) script h = absurd h
  run_both (text bytes ∷ []) is (long ∷ cs) script h = absurd h
  run_both (text bytes ∷ []) is (unknown ∷ cs) script h = absurd h
  run_both (text bytes ∷ []) is (text c ∷ d ∷ cs) script h = absurd h
  run_both [] is more script h = absurd is
  run_both (gone ∷ cs) is more script h = absurd is
  run_both (long ∷ cs) is more script h = absurd is
  run_both (unknown ∷ cs) is more script h = absurd is
  run_both (text bytes ∷ c ∷ cs) is more script h = absurd is

-- One circuit and one script are read, or one thing stops the run.
same_work : (c d : List ℕ) (x y : Runnable) → IsCircuitText c x.flat → Answers d x.flat.ports (Ok x.script) → ReadsRun (text c ∷ text d ∷ []) y → x ≡ y
same_work c d x y flat said other =
    let flats : x.flat ≡ y.flat = circuit_law.one c x.flat y.flat flat other.0 in
    let there : Answers d x.flat.ports (Ok y.script) = subst (λ (f : FlatCircuit). Answers d f.ports (Ok y.script)) (sym flats) other.1 in
    let scripts : x.script ≡ y.script = (script_law x.flat.ports).one d x.script y.script said there in
    λ i. record { flat = flats i; script = scripts i }

run_one : (answers : List Content) (x y : Runnable) → ReadsRun answers x → ReadsRun answers y → x ≡ y
run_one answers x y a b = let t = has_texts answers x a in same_work t.circuit t.script x y t.flat t.said (subst (λ (cs : List Content). ReadsRun cs y) t.is b)

no_stop : (c d : List ℕ) (x : Runnable) (s : Stop) → IsCircuitText c x.flat → Answers d x.flat.ports (Ok x.script) → StopsRun (text c ∷ text d ∷ []) s → ⊥
no_stop c d x s flat said (f, is, stop) =
    (script_law f.ports).apart d x.script s (subst (λ (g : FlatCircuit). Answers d g.ports (Ok x.script)) (circuit_law.one c x.flat f flat is) said) stop

run_apart : (answers : List Content) (x : Runnable) (s : Stop) → ReadsRun answers x → StopsRun answers s → ⊥
run_apart answers x s a b = let t = has_texts answers x a in no_stop t.circuit t.script x s t.flat t.said (subst (λ (cs : List Content). StopsRun cs s) t.is b)

module _ (statuses : List ℕ) (missing : IsAmong statuses read_fault) (over : IsAmong statuses too_long) (fifth : IsAmong statuses circuit_refused) (sixth : IsAmong statuses script_refused) where
  scripts : (f : FlatCircuit) → IsOneReading (ReadsScript f.ports) (StopsScript f.ports) statuses
  scripts f = file_reading Script (λ bytes (script : Said). Answers bytes f.ports (Ok script)) (ScriptStops f.ports) (script_law f.ports) statuses missing over sixth

  circuits : IsOneReading ReadsCircuit StopsCheck statuses
  circuits = file_reading Circuit IsCircuitText CircuitStops circuit_law statuses missing over fifth

  run_stop : (answers : List Content) (s t : Stop) → StopsRun answers s → StopsRun answers t → s ≡ t
  run_stop (c ∷ []) s t a b = circuits.one_stop (c ∷ []) s t a b
  run_stop (text c ∷ d ∷ []) s t (f, is, a) (g, so, b) =
      (scripts f).one_stop (d ∷ []) s t a (subst (λ (h : FlatCircuit). StopsScript h.ports (d ∷ []) t) (circuit_law.one c g f so is) b)
  run_stop [] s t a b = absurd a
  run_stop (gone ∷ d ∷ cs) s t a b = absurd a
  run_stop (long ∷ d ∷ cs) s t a b = absurd a
  run_stop (unknown ∷ d ∷ cs) s t a b = absurd a
  run_stop (text c ∷ d ∷ e ∷ cs) s t a b = absurd a

  run_missed : (answers : List Content) (s : Stop) → StopsRun answers s → has_gone answers ≡ is_missed s
  run_missed (c ∷ []) s a = circuits.missed (c ∷ []) s a
  run_missed (text c ∷ d ∷ []) s (f, is, a) = (scripts f).missed (d ∷ []) s a
  run_missed [] s a = absurd a
  run_missed (gone ∷ d ∷ cs) s a = absurd a
  run_missed (long ∷ d ∷ cs) s a = absurd a
  run_missed (unknown ∷ d ∷ cs) s a = absurd a
  run_missed (text c ∷ d ∷ e ∷ cs) s a = absurd a

  run_status : (answers : List Content) (s : Stop) → StopsRun answers s → IsAmong statuses (stop_status s)
  run_status (c ∷ []) s a = circuits.status (c ∷ []) s a
  run_status (text c ∷ d ∷ []) s (f, is, a) = (scripts f).status (d ∷ []) s a
  run_status [] s a = absurd a
  run_status (gone ∷ d ∷ cs) s a = absurd a
  run_status (long ∷ d ∷ cs) s a = absurd a
  run_status (unknown ∷ d ∷ cs) s a = absurd a
  run_status (text c ∷ d ∷ e ∷ cs) s a = absurd a

  pub run_reading_in : IsOneReading ReadsRun StopsRun statuses
  run_reading_in = record { one = run_one; apart = run_apart; one_stop = run_stop; here = run_here; missed = run_missed; status = run_status }

pub run_reading : IsOneReading ReadsRun StopsRun (statuses_of Run)
run_reading = run_reading_in (statuses_of Run) refl refl refl refl
