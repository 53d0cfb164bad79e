-- A round that was planned, made and written with its log is a proven round.
use Rattle.std.proofs.Common.{◌≡◌, ◌∙◌, inl, inr, ℕ, ◌≤◌, List, ◌++◌, refl, sym, ap, subst}
use Rattle.std.specs.Prelude.{Option, Some, codes}
use Rattle.reo_io.specs.Sinks.{Appended, TookPart}
use Rattle.reo_net_base.specs.declared.port.Port.{Port}
use Rattle.reo_net_base.specs.First.{IsFirst}
use Rattle.reo_net_base.specs.Moves.{moves_of}
use Rattle.reo_net_base.specs.Net.{Net, Wiring, net_of}
use Rattle.reo_net_base.specs.Step.{stepped}
use Rattle.reo_runner.specs.at_ports.Engines.{Running}
use Rattle.reo_players.specs.Players.{Player}
use Rattle.reo_players.specs.Offers.{offer_for}
use Rattle.reo_trace.specs.declared.line.Ending.{Ending}
use Rattle.reo_trace.specs.declared.line.Ending.TheVariants as endings
use Rattle.reo_trace.specs.Entries.{line_for}
use Rattle.reo_trace.specs.RoundText.{round_text}
use Rattle.reo_rounds.specs.declared.plan.Plan.{Plan}
use Rattle.reo_weights.specs.declared.exceeds.Exceeds.{Exceeds}
use Rattle.reo_weights.specs.declared.exceeds.Exceeds.TheVariants as faults
use Rattle.reo_rounds.specs.declared.plan.PlannedRound.{PlannedRound}
use Rattle.reo_rounds.specs.Plans.{IsPlannedRound, IsPlanFault}
use Rattle.reo_rounds.specs.Ready.{ready}
use Rattle.reo_rounds.specs.Rules.{Rules}
use Rattle.reo_weights.specs.Over.{IsOver}
use Rattle.reo_weights.specs.Over.Cause.{spent, wide}
use Rattle.reo_runs.specs.Round.{State, net_ready, advanced}
use Rattle.reo_runs.specs.Run.{firsts, over_after}
use Rattle.reo_runs.specs.at_ports.Pending.{IsButForOffers}
use Rattle.reo_runs.proofs.at_ports.AfterRound.{over_by}
use Rattle.reo_refute_base.specs.faults.Faults.{IsProof}
use Rattle.reo_proof_texts.specs.Cuts.{LoggedRound, lines_text}
use Rattle.reo_proof_texts.specs.Proven.{IsProven}
use Rattle.reo_proof_laws.specs.Logs.{LogsAreLines}
use Rattle.reo_proving.specs.Rounds.{ending_for, IsEndedLog, HasLogged, HasLoggedPart, Went, CutRound}

-- What stays of an engine whose kept rows alone change.
pub same_circuit : {P : Type 0} (x y : Running P) → x ≡ record y { kept = x.kept } → x.circuit ≡ y.circuit
same_circuit x y is = ap (λ (e : Running _). e.circuit) is

pub same_rounds : {P : Type 0} (x y : Running P) → x ≡ record y { kept = x.kept } → x.rounds ≡ y.rounds
same_rounds x y is = ap (λ (e : Running _). e.rounds) is

-- Why the next round cannot be planned is why the run stops in place of it.
stops_by : {P : Type 0} (r : Rules P) (budget limit turn : ℕ) (a : State P) (fault : Exceeds) (ending : Ending) → turn ≤ limit → IsPlanFault budget (net_ready r a) fault → ending_for turn budget fault ≡ Some ending
    → (firsts budget limit).stops (net_ready r a) turn ending
stops_by r budget limit turn a (faults.Wide knot) ending within over is =
    let same : ending ≡ endings.Wide turn knot = cc in
    inr (within, wide knot, over, same)
stops_by r budget limit turn a (faults.Spent knot weight) ending within over is =
    let same : ending ≡ endings.Spent turn knot weight budget = cc in
    inr (within, spent knot weight budget, over, same)
stops_by r budget limit turn a faults.NoMemory ending within over is = absurd (cc)

module _ {P : Type 0} (r : Rules P) (ports : List Port) (budget limit turn : ℕ) (a : State P) where
  -- The run stops in place of a round that cannot be planned.
  pub stopped_for : (w v : Wiring P) (players : List Player) (told : Option (List ℕ)) (fault : Exceeds) (ending : Ending) → turn ≤ limit → v ≡ ready r (offer_for a.players) a.circuit
      → IsPlanFault budget (net_of r.behaviour v) fault → Some ending ≡ ending_for turn budget fault → Went r ports budget limit turn a told told w players (Some ending)
  stopped_for w v players told fault ending within started over is =
      inl (record {
        ending = ending;
        over_is = refl;
        stops = stops_by r budget limit turn a fault ending within (subst (λ (u : Wiring P). IsPlanFault budget (net_of r.behaviour u) fault) started over) (sym is);
        same = refl;
      })

  module _ (cut : LogsAreLines) (v : Wiring P) (started : v ≡ ready r (offer_for a.players) a.circuit) (within : turn ≤ limit) (p : PlannedRound) (is : IsPlannedRound budget (net_of r.behaviour v) v.ports turn p) where
    abbrev net : Net
    net = net_of r.behaviour v

    abbrev plan : Plan
    plan = p.plan

    abbrev rows : List ℕ
    rows = p.plan.colouring.rows

    abbrev next : State P
    next = record { circuit = record v { primitives = stepped r.behaviour r.settled v p.plan.colouring.rows p.plan.colouring.items }; players = advanced (net_of r.behaviour v) p.plan.colouring.rows a.players }

    abbrev logged : List (List ℕ) → LoggedRound
    logged log = record { line = p.line; log = log }

    proven : (log : List (List ℕ)) → IsProof net turn rows (lines_text log) → IsProven (firsts budget limit) r turn a (logged log) next
    proven log proof = record {
      round = record {
        made = record {
          rows = rows;
          items = plan.colouring.items;
          suits = (
            within,
            (
              λ cause over. is.plan.within cause (subst (λ (x : Wiring P). IsOver budget (net_of r.behaviour x) cause) (sym started) over),
              subst (λ (x : Wiring P). IsFirst (net_of r.behaviour x) turn rows plan.colouring.items) started is.plan.first,
            ),
          );
          shown = is.line_is ∙ ap (λ ms. line_for net turn rows ms) is.plan.shows.moves
              ∙ ap (λ (x : Wiring P). line_for (net_of r.behaviour x) turn rows (moves_of (net_of r.behaviour x) x.ports rows plan.colouring.items)) started;
          circuit = ap (λ (x : Wiring P). record x { primitives = stepped r.behaviour r.settled x rows plan.colouring.items }) started;
        };
        players = ap (λ (x : Wiring P). advanced (net_of r.behaviour x) rows a.players) started;
      };
      proof = subst (λ (x : Wiring P). IsProof (net_of r.behaviour x) turn rows (lines_text log)) started proof;
    }

    -- A log with its end is that of lines.
    record HasLines (text : List ℕ) : Type 0 where
      log : List (List ℕ)
      proof : IsProof net turn rows (lines_text log)
      text_is : text ≡ lines_text log ++ codes "proved\n"

    lined : (text : List ℕ) → IsEndedLog net turn rows text → HasLines text
    lined text ended =
        let lines = cut net turn rows ended.log ended.proof.right in
        record {
          log = lines.0;
          proof = subst (IsProof net turn rows) lines.1.text_is ended.proof;
          text_is = ended.text_is ∙ ap (λ (l : List ℕ). l ++ codes "proved\n") lines.1.text_is;
        }

    -- A round that was made, and written with its log.
    pub made_with : (before now : Option (List ℕ)) (w : Wiring P) (players : List Player) (over : Option Ending) → HasLogged net turn rows ports p.line before now
        → players ≡ advanced net rows a.players → IsButForOffers r (record v { primitives = stepped r.behaviour r.settled v rows plan.colouring.items }) w
        → over ≡ over_after turn plan.idle a.players players → Went r ports budget limit turn a before now w players over
    made_with before now w players over written players_are but over_is =
        let lines = lined written.text written.ended in
        inr (record {
          logged = logged lines.log;
          next = next;
          proven = proven lines.log lines.proof;
          text = subst (λ (z : List ℕ). Appended before now (round_text ports p.line ++ z)) lines.text_is written.added;
          over_is = over_is ∙ ap (λ (ps : List Player). over_after turn plan.idle a.players ps) players_are ∙ over_by net turn v.ports plan p.line a.players (advanced net rows a.players) is.plan.shows is.line_is;
          circuit = but;
          players_are = players_are;
        })

    -- The sink has got a part of it.
    pub cut_with : (before now : Option (List ℕ)) → HasLoggedPart net turn rows ports p.line before now → CutRound r ports budget limit turn a before now
    cut_with before now written =
        let lines = lined written.text written.ended in
        record {
          logged = logged lines.log;
          next = next;
          proven = proven lines.log lines.proof;
          part = subst (λ (z : List ℕ). TookPart before now (round_text ports p.line ++ z)) lines.text_is written.part;
        }
