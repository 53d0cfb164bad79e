-- There is a whole run.
use Rattle.std.proofs.Common.{◌≡◌, ℕ, zero, suc, ◌+◌, ◌-◌, ◌≤◌, inl, inr, List, [], ◌∷◌, ◌++◌, refl, subst, length, arith, length-append}
use Rattle.std.specs.Prelude.{Some, None}
use Rattle.reo_net_base.specs.Net.{Net, net_of}
use Rattle.reo_net_laws.specs.FirstLaws.{FirstExists}
use Rattle.reo_players.specs.Offers.{offer_for}
use Rattle.reo_trace.specs.declared.line.RoundLine.{RoundLine}
use Rattle.reo_trace.specs.declared.line.Ending.{Ending}
use Rattle.reo_trace.specs.declared.line.Ending.TheVariants.{Limit}
use Rattle.reo_rounds.specs.Rules.{Rules}
use Rattle.reo_weights.specs.Over.{Cause, IsOver}
use Rattle.reo_rounds.specs.Order.{HasOrder}
use Rattle.reo_rounds.specs.Ready.{ready}
use Rattle.reo_rounds.specs.Stopping.{ending_by}
use Rattle.reo_rounds.proofs.RoundLemmas.{round_exists}
use Rattle.reo_runs.specs.Round.{State, Choosing, RoundOf, net_ready, advanced}
use Rattle.reo_runs.specs.Run.{Place, Leads, EndsAs, HasBegun, place_after, firsts}
use Rattle.reo_runs.specs.Whole.{GoesOn, HasRun}
use Rattle.reo_rounds.specs.Lasting.{KeepsShape}
use Rattle.reo_rounds.proofs.OrderLemmas.{ready_order, round_order}
use Rattle.reo_weights.specs.Laws.{OverIsDecided}

module _ {P : Type 0} (C : Choosing) (r : Rules P) where
  -- What is left of a run from a place on, before the round of this number.
  record RunsOn (turn : ℕ) (p : Place P) : Type 0 where
    pub rest : List RoundLine
    pub ending : Ending
    pub last : Place P
    pub rounds : Leads C r turn p rest last
    pub ends : EndsAs C r (turn + length rest) last ending

  -- Rounds, and further rounds from there.
  pub leads_on : (turn t : ℕ) (p : Place P) (lines : List RoundLine) (q : Place P) → t ≡ turn + length lines → Leads C r turn p lines q
      → (rest : List RoundLine) (s : Place P) → Leads C r t q rest s → Leads C r turn p (lines ++ rest) s
  leads_on turn t p [] q count same rest s more =
      let here : turn ≡ t = omega (arith, count) in
      rw (here, same) more
  leads_on turn t p (x ∷ xs) q count d rest s more =
      (d.0, d.1, d.2, leads_on (turn + 1) t (place_after turn x p.state d.1) xs q (omega (arith, count)) d.3 rest s more)

  -- The joints stay in order.
  pub leads_order : (k : KeepsShape r) (turn : ℕ) (p : Place P) (lines : List RoundLine) (q : Place P) → Leads C r turn p lines q → HasOrder (net_of r.behaviour p.state.circuit)
      → HasOrder (net_of r.behaviour q.state.circuit)
  leads_order k turn p [] q same old = subst (λ (s : Place P). HasOrder (net_of r.behaviour s.state.circuit)) same old
  leads_order k turn p (x ∷ xs) q d old =
      leads_order k (turn + 1) (place_after turn x p.state d.1) xs q d.3 (round_order r k (offer_for p.state.players) C.suits turn p.state.circuit x d.1.circuit d.2.made old)

  -- Rounds that lead to a place, and what runs on from there, are a run.
  goes_on : (start : Place P) (lines : List RoundLine) (q : Place P) → Leads C r 1 start lines q → RunsOn (length lines + 1) q → GoesOn C r start lines
  goes_on start lines q d more = record {
    rest = more.rest;
    ending = more.ending;
    run = record {
      last = more.last;
      rounds = leads_on 1 (length lines + 1) start lines q (omega arith) d more.rest more.last more.rounds;
      ends =
          let count : length lines + 1 + length more.rest ≡ length (lines ++ more.rest) + 1 = omega (arith, length-append lines more.rest) in
          subst (λ (t : ℕ). EndsAs C r t more.last more.ending) count more.ends;
    };
  }

module _ {P : Type 0} (r : Rules P) (budget limit : ℕ) where
  -- So many rounds are within the limit.
  leads_within : (turn : ℕ) (p : Place P) (lines : List RoundLine) (q : Place P) → Leads (firsts budget limit) r turn p lines q → turn ≤ limit + 1 → turn + length lines ≤ limit + 1
  leads_within turn p [] q same within = omega (arith, within)
  leads_within turn p (x ∷ xs) q d within =
      let rest = leads_within (turn + 1) (place_after turn x p.state d.1) xs q d.3 (omega (arith, d.2.made.suits.0)) in
      omega (arith, rest)

  module _ (k : KeepsShape r) (first : FirstExists) (decided : OverIsDecided) where
    round_here : (turn : ℕ) (a : State P) → turn ≤ limit → ((cause : Cause) → IsOver budget (net_ready r a) cause → ⊥) → HasOrder (net_of r.behaviour a.circuit)
        → (line : RoundLine) × (b : State P) × RoundOf (firsts budget limit) r turn a line b
    round_here turn a within none old =
        let net : Net = net_ready r a in
        let now : HasOrder net = ready_order r k (offer_for a.players) a.circuit old in
        let w = ready r (offer_for a.players) a.circuit in
        let found = round_exists r turn w first now budget none in (
          found.0,
          record { circuit = found.1; players = advanced net found.2.rows a.players },
          record { made = record { rows = found.2.rows; items = found.2.items; suits = (within, found.2.suits); shown = found.2.shown; circuit = found.2.circuit }; players = refl },
        )

    -- A run is over here.
    over_here : (turn : ℕ) (p : Place P) (ending : Ending) → p.over ≡ Some ending → RunsOn (firsts budget limit) r turn p
    over_here turn p ending over = record { rest = []; ending = ending; last = p; rounds = refl; ends = inl over }

    -- No round more is within the limit.
    limit_here : (turn : ℕ) (p : Place P) → limit + 1 ≡ turn → p.over ≡ None → RunsOn (firsts budget limit) r turn p
    limit_here turn p full on = record { rest = []; ending = Limit limit; last = p; rounds = refl; ends = inr (on, inl (omega (arith, full), refl)) }

    -- The next round cannot be planned.
    stopped_here : (turn : ℕ) (p : Place P) → turn ≤ limit → p.over ≡ None → (cause : Cause) → IsOver budget (net_ready r p.state) cause → RunsOn (firsts budget limit) r turn p
    stopped_here turn p within on cause over =
        let none : List RoundLine = [] in
        record {
          rest = none;
          ending = ending_by (turn + length none) cause;
          last = p;
          rounds = refl;
          ends = inr (on, inr (omega (arith, within), cause, over, refl));
        }

    -- With so many rounds left within the limit.
    runs_on : (left turn : ℕ) (p : Place P) → turn + left ≡ limit + 1 → HasOrder (net_of r.behaviour p.state.circuit) → RunsOn (firsts budget limit) r turn p
    runs_on zero turn p count old =
        elim p.over as (λ o. p.over ≡ o → RunsOn (firsts budget limit) r turn p) [
          | None ↦ λ on. limit_here turn p (omega (arith, count)) on
          | Some ending ↦ λ over. over_here turn p ending over
        ] refl
    runs_on (suc left) turn p count old =
        let within : turn ≤ limit = omega (arith, count) in
        elim p.over as (λ o. p.over ≡ o → RunsOn (firsts budget limit) r turn p) [
          | Some ending ↦ λ over. over_here turn p ending over
          | None ↦ λ on. elim (decided budget (net_ready r p.state) (ready_order r k (offer_for p.state.players) p.state.circuit old).wired (ready_order r k (offer_for p.state.players) p.state.circuit old).order (ready_order r k (offer_for p.state.players) p.state.circuit old).is_order) as (λ _. RunsOn (firsts budget limit) r turn p) [
            | inl d ↦ stopped_here turn p within on d.0 d.1
            | inr none ↦
                let next = round_here turn p.state within none old in
                let q : Place P = place_after turn next.0 p.state next.1 in
                let more = runs_on left (turn + 1) q (omega (arith, count)) (round_order r k (offer_for p.state.players) (firsts budget limit).suits turn p.state.circuit next.0 next.1.circuit next.2.made old) in
                let length_is : turn + 1 + length more.rest ≡ turn + length (next.0 ∷ more.rest) = omega arith in
                record {
                  rest = next.0 ∷ more.rest;
                  ending = more.ending;
                  last = more.last;
                  rounds = (on, next.1, next.2, more.rounds);
                  ends = subst (λ (t : ℕ). EndsAs (firsts budget limit) r t more.last more.ending) length_is more.ends;
                }
          ]
        ] refl

    module _ (start : Place P) (old : HasOrder (net_of r.behaviour start.state.circuit)) where
      goes_on_from : (lines : List RoundLine) (q : Place P) → Leads (firsts budget limit) r 1 start lines q → GoesOn (firsts budget limit) r start lines
      goes_on_from lines q d =
          let within = leads_within 1 start lines q d (omega arith) in
          let here = leads_order (firsts budget limit) r k 1 start lines q d old in
          goes_on (firsts budget limit) r start lines q d (runs_on (limit - length lines) (length lines + 1) q (omega (arith, within)) here)

      after_next : (lines : List RoundLine) (state : State P) (line : RoundLine) (next : State P) → HasBegun (firsts budget limit) r start lines state
          → RoundOf (firsts budget limit) r (length lines + 1) state line next → GoesOn (firsts budget limit) r start (lines ++ line ∷ [])
      after_next lines state line next begun round =
          let q : Place P = place_after (length lines + 1) line state next in
          goes_on_from (lines ++ line ∷ []) q
          (leads_on (firsts budget limit) r 1 (length lines + 1) start lines (record { state = state; over = None }) (omega arith) begun.rounds (line ∷ []) q (refl, next, round, refl))

      pub has_run : HasRun (firsts budget limit) r start
      has_run = record {
        whole = goes_on_from [] start refl;
        after = λ lines state begun. goes_on_from lines (record { state = state; over = None }) begun.rounds;
        after_next = after_next;
      }
