-- A run in which each round is some colouring is a replay, and a replay is such a run.
use Rattle.std.proofs.Common.{◌≡◌, ◌∙◌, ◌⊎◌, ap, sym, subst, refl, inl, inr, ℕ, zero, suc, ◌+◌, ◌<◌, zero-add, Bool, true, false, cond, List, [], ◌∷◌, length, arith}
use Rattle.std.specs.Prelude.{◌&&◌, not, Option, Some, None, slice_get}
use Rattle.std.proofs.lemmas.Option.{slice_get_within}
use Rattle.reo_players.specs.Players.{all_done, someone_counts}
use Rattle.reo_trace.specs.declared.line.RoundLine.{RoundLine}
use Rattle.reo_trace.specs.declared.line.Ending.{Ending}
use Rattle.reo_trace.specs.declared.line.Ending.TheVariants.{Done, Stuck, Limit, Spent, Wide}
use Rattle.reo_trace_reader.specs.declared.texts.trace.Trace.{Trace}
use Rattle.reo_rounds.specs.Rules.{Rules}
use Rattle.reo_runs.specs.Round.{State, RoundOf}
use Rattle.reo_runs.specs.Run.{Place, Leads, IsRun, over_after, place_after}
use Rattle.reo_runs.specs.verdicts.Replays.{MayStop, colourings}
use Rattle.reo_runs.specs.verdicts.Replay.{IsStill, IsStuckAfter, GoesOnAfter, IsEndingAfter, IsReplay}

-- A place at which the run is over so, or may stop so in place of the round of this number.
abbrev Ends : ℕ → Option Ending → Ending → Type 0
Ends turn over ending = (over ≡ Some ending) ⊎ ((over ≡ None) × MayStop turn ending)

module _ {P : Type 0} (states : ℕ → State P) (lines : List RoundLine) where
  -- How a run stands after so many rounds: done, else stuck, else it goes on.
  abbrev Stands : ℕ → Option Ending → Type 0
  Stands count over =
      ((over ≡ Some (Done count)) × (all_done (states count).players ≡ true))
      ⊎ ((over ≡ Some (Stuck count)) × (all_done (states count).players ≡ false) × IsStuckAfter states lines count)
      ⊎ ((over ≡ None) × GoesOnAfter states lines count)

  start_by : (done : Bool) → all_done (states 0).players ≡ done → Stands 0 (cond done (Some (Done 0)) None)
  start_by true e = inl (refl, e)
  start_by false e = inr (inr (refl, record { not_done = e; not_stuck = λ stuck. let none = stuck.count_is in absurd (omega (arith, none)) }))

  stands_start : Stands 0 (cond (all_done (states 0).players) (Some (Done 0)) None)
  stands_start = start_by (all_done (states 0).players) refl

  -- The round before was still.
  still_at : (k : ℕ) (line : RoundLine) → slice_get lines k ≡ Some line → IsStuckAfter states lines (k + 1) → IsStill line (states k).players
  still_at k line is stuck =
      let here : stuck.before ≡ k = omega (arith, stuck.count_is) in
      let line_at : slice_get lines k ≡ Some stuck.line = subst (λ (n : ℕ). slice_get lines n ≡ Some stuck.line) here stuck.line_is in
      let same : stuck.line ≡ line = cc in
      subst (λ (l : RoundLine). IsStill l (states k).players) same (subst (λ (n : ℕ). IsStill stuck.line (states n).players) here stuck.still)

  next_by : (k : ℕ) (line : RoundLine) → slice_get lines k ≡ Some line → (done idle counts : Bool) → all_done (states (k + 1)).players ≡ done → line.idle ≡ idle → someone_counts (states k).players ≡ counts
      → Stands (k + 1) (cond done (Some (Done (k + 1))) (cond (idle && not counts) (Some (Stuck (k + 1))) None))
  next_by k line is true idle counts e f h = inl (refl, e)
  next_by k line is false true false e f h =
      inr (inl (refl, e, record { before = k; line = line; count_is = omega arith; line_is = is; still = record { idle = f; nobody = h } }))
  next_by k line is false true true e f h =
      inr (inr (refl, record { not_done = e; not_stuck = λ stuck. let nobody = (still_at k line is stuck).nobody in absurd cc }))
  next_by k line is false false counts e f h =
      inr (inr (refl, record { not_done = e; not_stuck = λ stuck. let idle = (still_at k line is stuck).idle in absurd cc }))

  -- So it stands after a round.
  stands_next : (k : ℕ) (line : RoundLine) (a b : State P) → slice_get lines k ≡ Some line → states k ≡ a → states (k + 1) ≡ b → Stands (k + 1) (over_after (k + 1) line.idle a.players b.players)
  stands_next k line a b is from to =
      subst (λ (s : State P). Stands (k + 1) (over_after (k + 1) line.idle s.players b.players)) from
      (subst (λ (s : State P). Stands (k + 1) (over_after (k + 1) line.idle (states k).players s.players)) to
      (next_by k line is (all_done (states (k + 1)).players) line.idle (someone_counts (states k).players) refl refl refl))

  goes_on : (count : ℕ) (over : Option Ending) → Stands count over → over ≡ None → GoesOnAfter states lines count
  goes_on count over (inl done) none = let some = done.0 in absurd cc
  goes_on count over (inr (inl stuck)) none = let some = stuck.0 in absurd cc
  goes_on count over (inr (inr on)) none = on.1

  is_none : (count : ℕ) (over : Option Ending) → Stands count over → GoesOnAfter states lines count → over ≡ None
  is_none count over (inl done) going = let no = going.not_done in let yes = done.1 in absurd cc
  is_none count over (inr (inl stuck)) going = absurd (going.not_stuck stuck.2)
  is_none count over (inr (inr on)) going = on.0

  stops_after : (count : ℕ) (ending : Ending) → GoesOnAfter states lines count → MayStop (count + 1) ending → IsEndingAfter states lines count ending
  stops_after count (Done rounds) going stops = absurd stops
  stops_after count (Stuck rounds) going stops = absurd stops
  stops_after count (Limit rounds) going stops = (omega (arith, stops), going)
  stops_after count (Spent round knot weight budget) going stops = (stops, going)
  stops_after count (Wide round knot) going stops = (stops, going)

  ends_after : (count : ℕ) (over : Option Ending) (ending : Ending) → Stands count over → Ends (count + 1) over ending → IsEndingAfter states lines count ending
  ends_after count over ending (inl done) (inl is) =
      let some = done.0 in
      let same : Done count ≡ ending = cc in
      subst (IsEndingAfter states lines count) same (refl, done.1)
  ends_after count over ending (inl done) (inr stops) = let some = done.0 in let none = stops.0 in absurd cc
  ends_after count over ending (inr (inl stuck)) (inl is) =
      let some = stuck.0 in
      let same : Stuck count ≡ ending = cc in
      subst (IsEndingAfter states lines count) same (refl, stuck.1, stuck.2)
  ends_after count over ending (inr (inl stuck)) (inr stops) = let some = stuck.0 in let none = stops.0 in absurd cc
  ends_after count over ending (inr (inr on)) (inl is) = let none = on.0 in absurd cc
  ends_after count over ending (inr (inr on)) (inr stops) = stops_after count ending on.1 stops.1

  ends_so : (count : ℕ) (over : Option Ending) (ending : Ending) → Stands count over → IsEndingAfter states lines count ending → Ends (count + 1) over ending
  ends_so count over (Done rounds) (inl done) ends = inl (done.0 ∙ ap (λ (n : ℕ). Some (Done n)) (sym ends.0))
  ends_so count over (Done rounds) (inr (inl stuck)) ends = let no = stuck.1 in let yes = ends.1 in absurd cc
  ends_so count over (Done rounds) (inr (inr on)) ends = let no = on.1.not_done in let yes = ends.1 in absurd cc
  ends_so count over (Stuck rounds) (inl done) ends = let yes = done.1 in let no = ends.1 in absurd cc
  ends_so count over (Stuck rounds) (inr (inl stuck)) ends = inl (stuck.0 ∙ ap (λ (n : ℕ). Some (Stuck n)) (sym ends.0))
  ends_so count over (Stuck rounds) (inr (inr on)) ends = absurd (on.1.not_stuck ends.2)
  ends_so count over (Limit rounds) stands ends = inr (is_none count over stands ends.1, omega (arith, ends.0))
  ends_so count over (Spent round knot weight budget) stands ends = inr (is_none count over stands ends.1, ends.0)
  ends_so count over (Wide round knot) stands ends = inr (is_none count over stands ends.1, ends.0)

module _ {P : Type 0} (r : Rules P) where
  -- The states between the rounds.
  abbrev trail : (turn : ℕ) (p : Place P) (rest : List RoundLine) (q : Place P) → Leads colourings r turn p rest q → ℕ → State P
  trail turn p [] q d k = p.state
  trail turn p (x ∷ xs) q d zero = p.state
  trail turn p (x ∷ xs) q d (suc k) = trail (turn + 1) (place_after turn x p.state d.1) xs q d.3 k

  trail_zero : (turn : ℕ) (p : Place P) (rest : List RoundLine) (q : Place P) (d : Leads colourings r turn p rest q) → trail turn p rest q d 0 ≡ p.state
  trail_zero turn p [] q d = refl
  trail_zero turn p (x ∷ xs) q d = refl

  round_here : (turn t : ℕ) (a c : State P) (x y : RoundLine) (b d : State P) → turn ≡ t → a ≡ c → x ≡ y → b ≡ d → RoundOf colourings r turn a x b → RoundOf colourings r t c y d
  round_here turn t a c x y b d count from line to round =
      subst (λ (n : ℕ). RoundOf colourings r n c y d) count
      (subst (λ (s : State P). RoundOf colourings r turn s y d) from
      (subst (λ (l : RoundLine). RoundOf colourings r turn a l d) line
      (subst (λ (s : State P). RoundOf colourings r turn a x s) to round)))

  module _ (states : ℕ → State P) (lines : List RoundLine) where
    -- What a replay says of the rounds behind so many.
    record IsReplayed (i : ℕ) (rest : List RoundLine) (over : Option Ending) : Type 0 where
      pub rounds : (k : ℕ) (line : RoundLine) → slice_get rest k ≡ Some line → RoundOf colourings r (i + k + 1) (states (i + k)) line (states (i + k + 1))
      pub going : (k : ℕ) → k < length rest → GoesOnAfter states lines (i + k)
      pub last : Stands states lines (i + length rest) over

    replayed : (i : ℕ) (p : Place P) (rest : List RoundLine) (q : Place P) (d : Leads colourings r (i + 1) p rest q)
        → ((k : ℕ) → states (i + k) ≡ trail (i + 1) p rest q d k) → ((k : ℕ) → slice_get lines (i + k) ≡ slice_get rest k) → Stands states lines i p.over → IsReplayed i rest q.over
    replayed i p [] q d at on stands =
        let none : List RoundLine = [] in
        let count : i ≡ i + length none = omega arith in
        record {
          rounds = λ k line is. absurd cc;
          going = λ k lt. absurd (omega (arith, lt));
          last = subst (λ (n : ℕ). Stands states lines n q.over) count (subst (λ (s : Place P). Stands states lines i s.over) d stands);
        }
    replayed i p (x ∷ xs) q d at on stands =
        let next : Place P = place_after (i + 1) x p.state d.1 in
        let zero_is : i + zero ≡ i = omega arith in
        let from : states i ≡ p.state = ap states (sym zero_is) ∙ at zero in
        let to : states (i + 1) ≡ d.1 = at 1 ∙ trail_zero (i + 1 + 1) next xs q d.3 in
        let line : slice_get lines i ≡ Some x = ap (slice_get lines) (sym zero_is) ∙ on zero in
        let shift : (k : ℕ) → i + 1 + k ≡ i + suc k = λ k. omega arith in
        let rest = replayed (i + 1) next xs q d.3 (λ k. ap states (shift k) ∙ at (suc k)) (λ k. ap (slice_get lines) (shift k) ∙ on (suc k)) (stands_next states lines i x p.state d.1 line from to) in
        record {
          rounds = λ k line is.
              elim k as (λ k. slice_get (x ∷ xs) k ≡ Some line → RoundOf colourings r (i + k + 1) (states (i + k)) line (states (i + k + 1))) [
                | zero ↦ λ is.
                    let same : x ≡ line = cc in
                    let count : i + 1 ≡ i + zero + 1 = omega arith in
                    round_here (i + 1) (i + zero + 1) p.state (states (i + zero)) x line d.1 (states (i + zero + 1)) count (sym (at zero)) same (sym to ∙ ap states count) d.2
                | suc k ↦ λ is.
                    let count : i + 1 + k + 1 ≡ i + suc k + 1 = omega arith in
                    round_here (i + 1 + k + 1) (i + suc k + 1) (states (i + 1 + k)) (states (i + suc k)) line line (states (i + 1 + k + 1)) (states (i + suc k + 1)) count (ap states (shift k)) refl (ap states count) (rest.rounds k line is)
              ] is;
          going = λ k lt.
              elim k as (λ k. k < suc (length xs) → GoesOnAfter states lines (i + k)) [
                | zero ↦ λ lt. subst (GoesOnAfter states lines) (sym zero_is) (goes_on states lines i p.over stands d.0)
                | suc k ↦ λ lt. subst (GoesOnAfter states lines) (shift k) (rest.going k (omega (arith, lt)))
              ] lt;
          last = subst (λ (n : ℕ). Stands states lines n q.over) (shift (length xs)) rest.last;
        }

    -- What leads on from a place.
    record IsLed (i : ℕ) (p : Place P) (rest : List RoundLine) : Type 0 where
      pub last : Place P
      pub rounds : Leads colourings r (i + 1) p rest last
      pub stands : Stands states lines (i + length rest) last.over

    led : ((i : ℕ) (line : RoundLine) → slice_get lines i ≡ Some line → RoundOf colourings r (i + 1) (states i) line (states (i + 1))) → ((i : ℕ) → i < length lines → GoesOnAfter states lines i)
        → (i : ℕ) (p : Place P) (rest : List RoundLine) → states i ≡ p.state → ((k : ℕ) → slice_get lines (i + k) ≡ slice_get rest k) → Stands states lines i p.over → IsLed i p rest
    led rounds going i p [] from on stands =
        let none : List RoundLine = [] in
        let count : i ≡ i + length none = omega arith in
        record { last = p; rounds = refl; stands = subst (λ (n : ℕ). Stands states lines n p.over) count stands }
    led rounds going i p (x ∷ xs) from on stands =
        let zero_is : i + zero ≡ i = omega arith in
        let line : slice_get lines i ≡ Some x = ap (slice_get lines) (sym zero_is) ∙ on zero in
        let shift : (k : ℕ) → i + 1 + k ≡ i + suc k = λ k. omega arith in
        let round = subst (λ (s : State P). RoundOf colourings r (i + 1) s x (states (i + 1))) from (rounds i x line) in
        let next : Place P = place_after (i + 1) x p.state (states (i + 1)) in
        let rest = led rounds going (i + 1) next xs refl (λ k. ap (slice_get lines) (shift k) ∙ on (suc k)) (stands_next states lines i x p.state (states (i + 1)) line from refl) in
        record {
          last = rest.last;
          rounds = (is_none states lines i p.over stands (going i (slice_get_within lines i x line)), states (i + 1), round, rest.rounds);
          stands = subst (λ (n : ℕ). Stands states lines n rest.last.over) (shift (length xs)) rest.stands;
        }

  module _ (start : Place P) (begins : start.over ≡ cond (all_done start.state.players) (Some (Done 0)) None) where
    stands_first : (states : ℕ → State P) (lines : List RoundLine) → states 0 ≡ start.state → Stands states lines 0 start.over
    stands_first states lines from =
        subst (Stands states lines 0) (sym begins)
        (subst (λ (s : State P). Stands states lines 0 (cond (all_done s.players) (Some (Done 0)) None)) from (stands_start states lines))

    pub run_replayed : (t : Trace) → IsRun colourings r start t.rounds t.ending → IsReplay r start.state t
    run_replayed t run =
        let states : ℕ → State P = trail 1 start t.rounds run.last run.rounds in
        let from : states 0 ≡ start.state = trail_zero 1 start t.rounds run.last run.rounds in
        let all = replayed states t.rounds 0 start t.rounds run.last run.rounds (λ k. ap states (zero-add k)) (λ k. ap (slice_get t.rounds) (zero-add k)) (stands_first states t.rounds from) in
        record {
          states = states;
          begins = from;
          rounds = λ i line is.
              let count : 0 + i + 1 ≡ i + 1 = omega arith in
              round_here (0 + i + 1) (i + 1) (states (0 + i)) (states i) line line (states (0 + i + 1)) (states (i + 1)) count (ap states (zero-add i)) refl (ap states count) (all.rounds i line is);
          going = λ i lt. subst (GoesOnAfter states t.rounds) (zero-add i) (all.going i lt);
          ending = ends_after states t.rounds (length t.rounds) run.last.over t.ending (subst (λ (n : ℕ). Stands states t.rounds n run.last.over) (zero-add (length t.rounds)) all.last) run.ends;
        }

    pub replay_run : (t : Trace) → IsReplay r start.state t → IsRun colourings r start t.rounds t.ending
    replay_run t replay =
        let states : ℕ → State P = replay.states in
        let all = led states t.rounds replay.rounds replay.going 0 start t.rounds replay.begins (λ k. ap (slice_get t.rounds) (zero-add k)) (stands_first states t.rounds replay.begins) in
        record {
          last = all.last;
          rounds = all.rounds;
          ends = ends_so states t.rounds (length t.rounds) all.last.over t.ending (subst (λ (n : ℕ). Stands states t.rounds n all.last.over) (zero-add (length t.rounds)) all.stands) replay.ending;
        }
