-- What runs write, round by round.
use Rattle.std.proofs.Common.{◌≡◌, ◌&&◌, inl, inr, ℕ, ◌+◌, ◌≤◌, ◌^◌, Bool, true, false, not, cond, List, [], ◌∷◌, refl, sym, subst, length, map, arith}
use Rattle.std.specs.Prelude.{Option, Some, None, slice_get}
use Rattle.std.proofs.lemmas.List.{length-map}
use Rattle.reo_values.specs.declared.value.Value.{Value}
use Rattle.reo_values.specs.Kind.{IsIn}
use Rattle.reo_exprs.proofs.Options.{some_same}
use Rattle.reo_net_base.specs.declared.port.Offer.{Offer}
use Rattle.reo_net_base.specs.declared.port.Port.{Port}
use Rattle.reo_net_base.specs.Net.{Net, Wiring, net_of, end_of}
use Rattle.reo_net_base.specs.Moves.{item_at, moves_of}
use Rattle.reo_net_base.specs.Step.{stepped}
use Rattle.reo_script.specs.declared.scripts.action.Component.{Component}
use Rattle.reo_players.specs.Players.{Player, beginning_of, all_done, someone_counts}
use Rattle.reo_players.specs.Offers.{offer_for}
use Rattle.reo_trace.specs.declared.line.RoundLine.{RoundLine}
use Rattle.reo_trace.specs.declared.line.Ending.{Ending}
use Rattle.reo_trace.specs.declared.line.Ending.TheVariants as endings
use Rattle.reo_trace.specs.Entries.{line_for, entries_of}
use Rattle.reo_trace.specs.TraceText.{trace_text}
use Rattle.reo_trace_reader.specs.texts.Lines.{IsEntry, IsMove, IsLine, AreLines, IsEnding}
use Rattle.reo_trace_reader.specs.texts.Texts.{IsTraceText}
use Rattle.reo_rounds.specs.Rules.{Rules}
use Rattle.reo_rounds.specs.Ready.{ready}
use Rattle.reo_rounds.specs.EngineRound.{EngineRound}
use Rattle.reo_runs.specs.Round.{net_ready}
use Rattle.reo_runs.specs.Run.{Place, Leads, EndsAs, IsRun, start_of, over_after, place_after, firsts}
use Rattle.reo_rounds.specs.Order.{HasOrder}
use Rattle.reo_rounds.specs.Lasting.{KeepsShape}
use Rattle.reo_rounds.proofs.OrderLemmas.{ready_order, round_order}
use Rattle.reo_runs.proofs.Each.{each_of}
use Rattle.reo_runs.proofs.run_texts.Keeping.{EndTypes, KeepsTypes}
use Rattle.reo_runs.proofs.run_texts.TypedItems.{type_at, IsTyped, items_typed, end_typed}
use Rattle.reo_runs.proofs.run_texts.TypedRounds.{ready_typed, stepped_right}
use Rattle.reo_runs.proofs.run_texts.LineLemmas.{entries_small, moves_good, moves_rise, nothing_moves}
use Rattle.reo_runs.proofs.run_texts.OverSmall.{over_small}
use Rattle.reo_runs.proofs.run_texts.Counting.{ready_count, stepped_count}
use Rattle.reo_weights.specs.Laws.{CausesAreSmall}

-- A run that is over has small numbers.
abbrev EndsSmall : Option Ending → Type 0
EndsSmall over = (ending : Ending) → over ≡ Some ending → IsEnding ending

ends_so : (t : Bool) (then : Ending) (other : Option Ending) → IsEnding then → EndsSmall other → EndsSmall (cond t (Some then) other)
ends_so true then other small rest ending is = subst IsEnding (some_same then ending is) small
ends_so false then other small rest ending is = rest ending is

not_over : EndsSmall None
not_over ending is = absurd (cc)

after_small : (turn : ℕ) (idle : Bool) (before now : List Player) → turn ≤ 10 ^ 9 → EndsSmall (over_after turn idle before now)
after_small turn idle before now few =
    ends_so (all_done now) (endings.Done turn) (cond (idle && not (someone_counts before)) (Some (endings.Stuck turn)) None) (omega (arith, few))
    (ends_so (idle && not (someone_counts before)) (endings.Stuck turn) None (omega (arith, few)) not_over)

module _ {P : Type 0} (r : Rules P) (shape : KeepsShape r) (right : P → EndTypes → Type 0) (keeps : KeepsTypes r right) (types : List EndTypes) (ports : List Port)
    (at_ports : (i : ℕ) (p : Port) → slice_get ports i ≡ Some p → type_at types (end_of i 0) ≡ p.kindred) (budget limit : ℕ) (few_budget : budget ≤ 10 ^ 9) (few : limit ≤ 10 ^ 9) (small_causes : CausesAreSmall) where
  -- The joints of the circuit have an order, its ends have these types, and it has as many ports.
  pub record IsGood (w : Wiring P) : Type 0 where
    pub order : HasOrder (net_of r.behaviour w)
    pub typed : IsTyped right w types
    pub count : w.ports ≡ length ports
    pub few_primitives : length w.primitives ≤ 4096

  ready_good : (offers : ℕ → Option Offer) (w : Wiring P) → IsGood w → IsGood (ready r offers w)
  ready_good offers w good = record { order = ready_order r shape offers w good.order; typed = ready_typed r right keeps offers w types good.typed; count = good.count; few_primitives = let n = ready_count r offers w in omega (arith, n, good.few_primitives) }

  module _ (offers : ℕ → Option Offer) (turn : ℕ) (a : Wiring P) (line : RoundLine) (b : Wiring P) (round : EngineRound (firsts budget limit).suits r offers turn a line b) (good : IsGood a) where
    line_good : IsLine ports turn line
    line_good =
        let w : Wiring P = ready r offers a in
        let net : Net = net_of r.behaviour w in
        let now = ready_good offers a good in
        let wired = now.order.wired in
        let rows = round.rows in
        let items = round.items in
        let col = round.suits.1.1.colouring in
        let typed = items_typed r right keeps w types now.typed wired rows items col now.order.order now.order.is_order in
        let fits : (port : ℕ) (p : Port) (v : Value) → slice_get ports port ≡ Some p → item_at w.joints items (end_of port 0) ≡ Some v → IsIn v p.kindred = λ port p v there is.
        subst (IsIn v) (at_ports port p there) (end_typed w.joints types items now.typed.joints typed col.one_each (end_of port 0) v is) in
        let written : IsLine ports turn (line_for net turn rows (moves_of net a.ports rows items)) = record {
          number_is = refl;
          small = omega (arith, round.suits.0, few);
          moves = each_of (IsMove ports) (moves_of net a.ports rows items) (moves_good net rows items ports fits a.ports good.count);
          rising = moves_rise net rows items ports fits a.ports good.count;
          still = λ idle. nothing_moves net wired rows items col.one_each idle a.ports;
          entries = each_of IsEntry (entries_of net rows) (entries_small net wired rows col.rows_fit.in_tables);
        } in
        subst (IsLine ports turn) (sym round.shown) written

    round_good : IsGood b
    round_good =
        let w : Wiring P = ready r offers a in
        let now = ready_good offers a good in
        let col = round.suits.1.1.colouring in
        let typed = items_typed r right keeps w types now.typed now.order.wired round.rows round.items col now.order.order now.order.is_order in
        let next : Wiring P = record w { primitives = stepped r.behaviour r.settled w round.rows round.items } in
        let kept : IsTyped right next types = record { primitives = stepped_right r right keeps w types now.typed round.items col.one_each typed round.rows; joints = now.typed.joints } in
        record {
          order = round_order r shape offers (firsts budget limit).suits turn a line b round good.order;
          typed = subst (λ (v : Wiring P). IsTyped right v types) (sym round.circuit) kept;
          count = subst (λ (v : Wiring P). v.ports ≡ length ports) (sym round.circuit) good.count;
          few_primitives = subst (λ (v : Wiring P). length v.primitives ≤ 4096) (sym round.circuit)
              (let n = stepped_count r w round.rows round.items in omega (arith, n, now.few_primitives));
        }

  -- The lines of rounds, and how far they lead.
  leads_lines : (turn : ℕ) (p : Place P) (lines : List RoundLine) (q : Place P) → IsGood p.state.circuit → EndsSmall p.over → Leads (firsts budget limit) r turn p lines q → AreLines ports turn lines × EndsSmall q.over × IsGood q.state.circuit
  leads_lines turn p [] q good small same = (tt, subst (λ (s : Place P). EndsSmall s.over) same small, subst (λ (s : Place P). IsGood s.state.circuit) same good)
  leads_lines turn p (x ∷ xs) q good small d =
      let offers = offer_for p.state.players in
      let made = d.2.made in
      let within : turn ≤ 10 ^ 9 = omega (arith, made.suits.0, few) in
      let next = place_after turn x p.state d.1 in
      let rest = leads_lines (turn + 1) next xs q (round_good offers turn p.state.circuit x d.1.circuit made good) (after_small turn x.idle p.state.players d.1.players within) d.3 in
      ((line_good offers turn p.state.circuit x d.1.circuit made good, rest.0), rest.1, rest.2)

  ending_good : (turn : ℕ) (q : Place P) (ending : Ending) → IsGood q.state.circuit → EndsSmall q.over → EndsAs (firsts budget limit) r turn q ending → IsEnding ending
  ending_good turn q ending good small (inl over) = small ending over
  ending_good turn q ending good small (inr (on, inl full)) = subst IsEnding (sym full.1) (omega (arith, few))
  ending_good turn q ending good small (inr (on, inr stop)) =
      let now = ready_good (offer_for q.state.players) q.state.circuit good in
      let primitives : length (map r.behaviour (ready r (offer_for q.state.players) q.state.circuit).primitives) ≤ 2 ^ 31 =
      let n = length-map (ready r (offer_for q.state.players) q.state.circuit).primitives r.behaviour in omega (arith, n, now.few_primitives) in
      subst IsEnding (sym stop.3) (over_small small_causes budget (net_ready r q.state) now.order.wired primitives turn stop.1 few_budget (omega (arith, stop.0, few)) stop.2)

  pub run_text : (w : Wiring P) (components : List Component) (lines : List RoundLine) (ending : Ending) → IsGood w → IsRun (firsts budget limit) r (start_of w components) lines ending
      → IsTraceText ports (trace_text ports lines ending) (record { rounds = lines; ending = ending })
  run_text w components lines ending good run =
      let players = map beginning_of components in
      let small = ends_so (all_done players) (endings.Done 0) None (omega arith) not_over in
      let walk = leads_lines 1 (start_of w components) lines run.last good small run.rounds in
      record { text_is = refl; lines = walk.0; ending = ending_good (length lines + 1) run.last ending walk.2 walk.1 run.ends }
