-- The start of a run.
use Rattle.std.proofs.Common.{◌≡◌, inl, ℕ, true, false, cond, List, [], map, refl, sym, ap, subst}
use Rattle.std.specs.Prelude.{Option, Some, None}
use Rattle.reo_io.proofs.Taken.{Appended-none}
use Rattle.reo_net_base.specs.declared.port.Port.{Port}
use Rattle.reo_net_base.specs.Net.{Wiring}
use Rattle.reo_script.specs.declared.scripts.action.Component.{Component}
use Rattle.reo_players.specs.Players.{Player, beginning_of, all_done}
use Rattle.reo_trace.specs.declared.line.Ending.TheVariants as endings
use Rattle.reo_rounds.specs.Rules.{Rules}
use Rattle.reo_runs.specs.Run.{Place, start_of, firsts}
use Rattle.reo_runs.specs.Whole.{HasRun}
use Rattle.reo_runs.specs.Written.{Kept}
use Rattle.reo_runner.specs.declared.outcome.Outcome.{Outcome}
use Rattle.reo_runner.specs.declared.outcome.Tally.{Tally}
use Rattle.reo_runner.specs.declared.outcome.End2.TheVariants as ends
use Rattle.reo_runner.specs.Outcome.{Counts, tally_of, Closes, Wrote, CameTo}
use Rattle.reo_runner.proofs.RunLemmas.{closed_by}

no_rounds : (ports : List Port) (t : Tally) → t.rounds ≡ 0 → t.written ≡ 0 → t.delivered ≡ 0 → Counts ports [] t
no_rounds ports t rounds written delivered = record { rounds = rounds; written = written; delivered = delivered }

module _ {P : Type 0} (r : Rules P) (ports : List Port) (budget limit : ℕ) where
  -- Memory ran out before the first round.
  pub kept_none : (start : Place P) → HasRun (firsts budget limit) r start → (before : Option (List ℕ)) (o : Outcome) (t : Tally) → t.rounds ≡ 0 → t.written ≡ 0 → t.delivered ≡ 0
      → tally_of o ≡ t → o.end ≡ ends.NoMemory → CameTo r ports budget limit start before before o
  kept_none start runs before o t rounds written delivered has is =
      let whole : Kept (firsts budget limit) r ports start [] before before = record { whole = runs.whole; text = Appended-none before } in
      record {
        lines = [];
        counts = subst (Counts ports []) (sym has) (no_rounds ports t rounds written delivered);
        wrote = subst (Wrote r ports budget limit start [] before before) (sym is) whole;
      }

  -- Every component is done before the first round.
  pub done_first : (w : Wiring P) (cs : List Component) → all_done (map beginning_of cs) ≡ true → (before now : Option (List ℕ)) (o : Outcome) (t : Tally) → t.rounds ≡ 0 → t.written ≡ 0 → t.delivered ≡ 0
      → Closes (endings.Done 0) t before now o → CameTo r ports budget limit (start_of w cs) before now o
  done_first w cs done before now o t rounds written delivered closes =
      closed_by r ports budget limit (start_of w cs) before before now o t [] (endings.Done 0)
      (record { last = start_of w cs; rounds = refl; ends = inl (rw done refl) })
      (Appended-none before) (no_rounds ports t rounds written delivered) refl closes

  -- A run that begins, some component not being done.
  pub begun : (w v : Wiring P) (cs : List Component) (players : List Player) → all_done (map beginning_of cs) ≡ false → players ≡ map beginning_of cs → v ≡ w → (before now : Option (List ℕ)) (o : Outcome)
      → CameTo r ports budget limit (record { state = record { circuit = v; players = players }; over = None }) before now o → CameTo r ports budget limit (start_of w cs) before now o
  begun w v cs players going same here before now o came =
      let from : Place P = record { state = record { circuit = v; players = players }; over = None } in
      let is : from ≡ start_of w cs = λ i. record {
        state = record { circuit = here i; players = same i };
        over = ap (λ b. cond b (Some (endings.Done 0)) None) (sym going) i;
      } in
      subst (λ (s : Place P). CameTo r ports budget limit s before now o) is came
