-- Rounds, one after another.
use Rattle.std.proofs.Common.{◌≡◌, ◌∙◌, ℕ, ◌+◌, ◌≤◌, ◌&&◌, Bool, true, false, not, cond, inl, inr, List, [], ◌∷◌, ◌++◌, ap, sym, refl, subst, length, arith, append_assoc, length-append}
use Rattle.std.proofs.lemmas.List.{append-nil}
use Rattle.std.proofs.lemmas.Grind.{flat_map-append}
use Rattle.std.proofs.lemmas.List.Sums.{sum_by-append}
use Rattle.std.specs.List.{count_by, flat_map}
use Rattle.std.specs.Prelude.{Option, Some, None}
use Rattle.reo_net_base.specs.declared.colouring.Move.{Move}
use Rattle.reo_net_base.specs.declared.port.Port.{Port}
use Rattle.reo_net_base.specs.declared.port.Way.{Way}
use Rattle.reo_net_base.specs.Net.{Wiring}
use Rattle.reo_io.specs.Sinks.{Appended}
use Rattle.reo_io.proofs.Taken.{Appended-none, Appended-append}
use Rattle.reo_players.specs.Players.{Player, all_done, someone_counts}
use Rattle.reo_trace.specs.declared.line.RoundLine.{RoundLine}
use Rattle.reo_trace.specs.declared.line.Ending.{Ending}
use Rattle.reo_trace.specs.declared.line.Ending.TheVariants as endings
use Rattle.reo_trace.specs.EndingText.{ending_text}
use Rattle.reo_trace.specs.TraceText.{rounds_text}
use Rattle.reo_rounds.specs.Rules.{Rules}
use Rattle.reo_weights.specs.Over.Cause.{spent, wide}
use Rattle.reo_runs.specs.Round.{State, RoundOf}
use Rattle.reo_runs.specs.Run.{Place, Leads, IsRun, EndsAs, HasBegun, place_after, over_after, firsts}
use Rattle.reo_runs.specs.Whole.{GoesOn, HasRun}
use Rattle.reo_runs.specs.Written.{Ran, Cut, Kept, moved, goes, is_in, is_out}
use Rattle.reo_runs.proofs.WholeLemmas.{leads_on}
use Rattle.reo_runs.specs.at_ports.Pending.{IsButForOffers}
use Rattle.reo_runner.specs.declared.outcome.Outcome.{Outcome}
use Rattle.reo_runner.specs.declared.outcome.Tally.{Tally}
use Rattle.reo_runner.specs.declared.outcome.End2.{End2}
use Rattle.reo_runner.specs.declared.outcome.End2.TheVariants as ends
use Rattle.reo_runner.specs.Outcome.{Counts, tally_of, outcome_end, Closes, ClosesAs, StopsAs, Wrote, CameTo}
use Rattle.reo_runner.specs.Rounds.{IsTallied, PlayedRound, CutRound, IsRoundFault}
use Rattle.reo_runner.specs.declared.round.Played.{Played}
use Rattle.reo_runner.specs.declared.planning.RoundFault.{RoundFault}
use Rattle.reo_runner.specs.declared.planning.RoundFault.TheVariants as faults
use Rattle.reo_runner.proofs.SoFar.{SoFar}
use Rattle.reo_runner.proofs.TextLemmas.{text_on, front_of}

moved_more : (is : Way → Bool) (ports : List Port) (lines : List RoundLine) (line : RoundLine) → moved is ports (lines ++ line ∷ []) ≡ moved is ports lines + count_by (goes is ports) line.moves
moved_more is ports lines line =
    ap (λ (ms : List Move). count_by (goes is ports) ms) (flat_map-append (λ (l : RoundLine). l.moves) lines (line ∷ []) ∙ ap (λ (z : List Move). flat_map (λ (l : RoundLine). l.moves) lines ++ z) (append-nil line.moves))
    ∙ sum_by-append (λ m. cond (goes is ports m) 1 0) (flat_map (λ (l : RoundLine). l.moves) lines) line.moves

-- The numbers after one round more.
tally_more : (ports : List Port) (lines : List RoundLine) (line : RoundLine) (old new : Tally) → Counts ports lines old → IsTallied ports line.moves old new → Counts ports (lines ++ line ∷ []) new
tally_more ports lines line old new t more = record {
  rounds = omega (arith, more.rounds, t.rounds, length-append lines (line ∷ []));
  written = more.written ∙ ap (λ n. n + count_by (goes is_in ports) line.moves) t.written ∙ sym (moved_more is_in ports lines line);
  delivered = more.delivered ∙ ap (λ n. n + count_by (goes is_out ports) line.moves) t.delivered ∙ sym (moved_more is_out ports lines line);
}

counted : (ports : List Port) (lines : List RoundLine) (t : Tally) (o : Outcome) → Counts ports lines t → tally_of o ≡ t → Counts ports lines (tally_of o)
counted ports lines t o is has = subst (Counts ports lines) (sym has) is

-- The numbers in an ending behind so many rounds are right.
abbrev pub IsNumbered : ℕ → ℕ → Ending → Type 0
IsNumbered budget n (endings.Done rounds) = rounds ≡ n
IsNumbered budget n (endings.Stuck rounds) = rounds ≡ n
IsNumbered budget n (endings.Limit rounds) = rounds ≡ n
IsNumbered budget n (endings.Spent round knot weight most) = (round ≡ n + 1) × (most ≡ budget)
IsNumbered budget n (endings.Wide round knot) = round ≡ n + 1

over_cases : (budget turn : ℕ) (done still : Bool) (ending : Ending) → cond done (Some (endings.Done turn)) (cond still (Some (endings.Stuck turn)) None) ≡ Some ending → IsNumbered budget turn ending
over_cases budget turn true still ending is = let same : ending ≡ endings.Done turn = cc in rw same refl
over_cases budget turn false true ending is = let same : ending ≡ endings.Stuck turn = cc in rw same refl
over_cases budget turn false false ending is = absurd (cc)

-- A run that is over behind a round is so with its number.
over_numbered : (budget turn : ℕ) (idle : Bool) (before now : List Player) (ending : Ending) → over_after turn idle before now ≡ Some ending → IsNumbered budget turn ending
over_numbered budget turn idle before now ending is = over_cases budget turn (all_done now) (idle && not (someone_counts before)) ending is

-- Nothing was made yet.
pub so_far_none : {P : Type 0} (r : Rules P) (ports : List Port) (budget limit : ℕ) (w : Wiring P) (players : List Player) (before : Option (List ℕ)) (n : ℕ) (t : Tally) → IsButForOffers r w w → n ≡ 0 → t.rounds ≡ 0 → t.written ≡ 0 → t.delivered ≡ 0
    → SoFar r ports budget limit (record { state = record { circuit = w; players = players }; over = None }) before before n w players t
so_far_none r ports budget limit w players before n t left none rounds written delivered = record {
  lines = [];
  circuit = w;
  rounds = refl;
  left = left;
  count = none;
  text = Appended-none before;
  counts = record { rounds = rounds; written = written; delivered = delivered };
}

module _ {P : Type 0} (r : Rules P) (ports : List Port) (budget limit : ℕ) (start : Place P) where
  ran : (before mid now : Option (List ℕ)) (lines : List RoundLine) (ending : Ending) → IsRun (firsts budget limit) r start lines ending
      → Appended before mid (rounds_text ports lines) → Appended mid now (ending_text ending) → Ran (firsts budget limit) r ports start lines ending before now
  ran before mid now lines ending run app closes = record {
    run = run;
    text = Appended-append before mid now (rounds_text ports lines) (ending_text ending) app closes;
  }

  -- A whole run with its ending.
  ran_by : (before now : Option (List ℕ)) (lines : List RoundLine) (ending : Ending) → IsNumbered budget (length lines) ending → Ran (firsts budget limit) r ports start lines ending before now
      → Wrote r ports budget limit start lines before now (outcome_end ending)
  ran_by before now lines (endings.Done n) number is = subst (λ k. Ran (firsts budget limit) r ports start lines (endings.Done k) before now) number is
  ran_by before now lines (endings.Stuck n) number is = subst (λ k. Ran (firsts budget limit) r ports start lines (endings.Stuck k) before now) number is
  ran_by before now lines (endings.Limit n) number is = subst (λ k. Ran (firsts budget limit) r ports start lines (endings.Limit k) before now) number is
  ran_by before now lines (endings.Spent n knot weight most) number is =
      subst (λ k. Ran (firsts budget limit) r ports start lines (endings.Spent k knot weight budget) before now) number.0
      (subst (λ k. Ran (firsts budget limit) r ports start lines (endings.Spent n knot weight k) before now) number.1 is)
  ran_by before now lines (endings.Wide n knot) number is = subst (λ k. Ran (firsts budget limit) r ports start lines (endings.Wide k knot) before now) number is

  -- A whole run goes on with no line.
  made : (lines : List RoundLine) (ending : Ending) → IsRun (firsts budget limit) r start lines ending → GoesOn (firsts budget limit) r start lines
  made lines ending run = record { rest = []; ending = ending; run = subst (λ (ls : List RoundLine). IsRun (firsts budget limit) r start ls ending) (sym (append-nil lines)) run }

  -- A whole run, and the call that writes its ending.
  by_end : (before mid now : Option (List ℕ)) (lines : List RoundLine) (ending : Ending) (e : End2) → IsRun (firsts budget limit) r start lines ending → Appended before mid (rounds_text ports lines)
      → IsNumbered budget (length lines) ending → ClosesAs ending mid now e → Wrote r ports budget limit start lines before now e
  unfolding made
  by_end before mid now lines ending ends.WriteFault run app number closes = record {
    whole = made lines ending run;
    front = front_of ports before mid now lines [] ending app closes;
    between = mid;
    text = app;
    part = closes;
  }
  by_end before mid now lines ending ends.NoMemory run app number closes = record {
    whole = made lines ending run;
    text = subst (λ (z : Option (List ℕ)). Appended before z (rounds_text ports lines)) (sym closes) app;
  }
  by_end before mid now lines ending ends.Done run app number closes = subst (Wrote r ports budget limit start lines before now) (sym closes.0) (ran_by before now lines ending number (ran before mid now lines ending run app closes.1))
  by_end before mid now lines ending ends.Stuck run app number closes = subst (Wrote r ports budget limit start lines before now) (sym closes.0) (ran_by before now lines ending number (ran before mid now lines ending run app closes.1))
  by_end before mid now lines ending ends.Limit run app number closes = subst (Wrote r ports budget limit start lines before now) (sym closes.0) (ran_by before now lines ending number (ran before mid now lines ending run app closes.1))
  by_end before mid now lines ending (ends.Spent knot weight) run app number closes = subst (Wrote r ports budget limit start lines before now) (sym closes.0) (ran_by before now lines ending number (ran before mid now lines ending run app closes.1))
  by_end before mid now lines ending (ends.Wide knot) run app number closes = subst (Wrote r ports budget limit start lines before now) (sym closes.0) (ran_by before now lines ending number (ran before mid now lines ending run app closes.1))

  -- The run ended, and its ending was to be written.
  pub closed_by : (before mid now : Option (List ℕ)) (o : Outcome) (t : Tally) (lines : List RoundLine) (ending : Ending) → IsRun (firsts budget limit) r start lines ending
      → Appended before mid (rounds_text ports lines) → Counts ports lines t → IsNumbered budget (length lines) ending → Closes ending t mid now o → CameTo r ports budget limit start before now o
  closed_by before mid now o t lines ending run app counts number closes = record {
    lines = lines;
    counts = counted ports lines t o counts closes.tally;
    wrote = by_end before mid now lines ending o.end run app number closes.text;
  }

  module _ (before mid : Option (List ℕ)) (rounds_made : ℕ) (w : Wiring P) (players : List Player) (t : Tally) (so_far : SoFar r ports budget limit start before mid rounds_made w players t) where
    abbrev pub now_at : State P
    now_at = record { circuit = so_far.circuit; players = players }

    begun : HasBegun (firsts budget limit) r start so_far.lines now_at
    begun = record { rounds = so_far.rounds }

    -- The run stops in place of a round.
    pub stopped : (now : Option (List ℕ)) (o : Outcome) (ending : Ending) → EndsAs (firsts budget limit) r (rounds_made + 1) (record { state = now_at; over = None }) ending → IsNumbered budget rounds_made ending
        → Closes ending t mid now o → CameTo r ports budget limit start before now o
    stopped now o ending ends number closes =
        closed_by before mid now o t so_far.lines ending
        (record { last = record { state = now_at; over = None }; rounds = so_far.rounds; ends = subst (λ n. EndsAs (firsts budget limit) r (n + 1) (record { state = now_at; over = None }) ending) so_far.count ends })
        so_far.text so_far.counts (subst (λ n. IsNumbered budget n ending) so_far.count number) closes

    -- The sink failed on a round line.
    pub cut_round : HasRun (firsts budget limit) r start → (now : Option (List ℕ)) (o : Outcome) → CutRound r ports budget limit (rounds_made + 1) now_at mid now
        → tally_of o ≡ t → o.end ≡ ends.WriteFault → CameTo r ports budget limit start before now o
    cut_round runs now o cut has is =
        let lines : List RoundLine = so_far.lines in
        let line : RoundLine = cut.line in
        let more = runs.after_next lines now_at line cut.next begun (subst (λ (k : ℕ). RoundOf (firsts budget limit) r (k + 1) now_at line cut.next) so_far.count cut.round) in
        let whole : Cut (firsts budget limit) r ports start lines before now = record {
          whole = record {
            rest = line ∷ more.rest;
            ending = more.ending;
            run = subst (λ (ls : List RoundLine). IsRun (firsts budget limit) r start ls more.ending) (append_assoc lines (line ∷ []) more.rest) more.run;
          };
          front = front_of ports before mid now lines (line ∷ more.rest) more.ending so_far.text cut.part;
          between = mid;
          text = so_far.text;
          part = cut.part;
        } in
        record {
          lines = lines;
          counts = counted ports lines t o so_far.counts has;
          wrote = subst (Wrote r ports budget limit start lines before now) (sym is) whole;
        }

    -- Memory ran out between two lines.
    pub kept : HasRun (firsts budget limit) r start → (o : Outcome) → tally_of o ≡ t → o.end ≡ ends.NoMemory → CameTo r ports budget limit start before mid o
    kept runs o has is =
        let rest = runs.after so_far.lines now_at begun in
        let whole : Kept (firsts budget limit) r ports start so_far.lines before mid = record { whole = rest; text = so_far.text } in
        record {
          lines = so_far.lines;
          counts = counted ports so_far.lines t o so_far.counts has;
          wrote = subst (Wrote r ports budget limit start so_far.lines before mid) (sym is) whole;
        }

    -- As many rounds were made as are allowed.
    pub at_limit : (now : Option (List ℕ)) (o : Outcome) (made : ℕ) → made ≡ rounds_made → made ≡ limit → Closes (endings.Limit made) t mid now o → CameTo r ports budget limit start before now o
    at_limit now o made same full closes =
        let stops : EndsAs (firsts budget limit) r (rounds_made + 1) (record { state = now_at; over = None }) (endings.Limit made) = inr (refl, inl (omega (arith, same, full), ap endings.Limit full)) in
        stopped now o (endings.Limit made) stops same closes

    -- The round that stands next was not made.
    pub stopped_by : HasRun (firsts budget limit) r start → (between now : Option (List ℕ)) (o : Outcome) (fault : RoundFault) → rounds_made + 1 ≤ limit
        → IsRoundFault r ports budget limit (rounds_made + 1) now_at mid between fault → StopsAs (rounds_made + 1) budget t fault between now o → CameTo r ports budget limit start before now o
    stopped_by runs between now o (faults.Spent knot weight) within why stops =
        let here : EndsAs (firsts budget limit) r (rounds_made + 1) (record { state = now_at; over = None }) (endings.Spent (rounds_made + 1) knot weight budget)
        = inr (refl, inr (within, spent knot weight budget, why.0, refl)) in
        stopped now o (endings.Spent (rounds_made + 1) knot weight budget) here (refl, refl)
        (subst (λ z. Closes (endings.Spent (rounds_made + 1) knot weight budget) t z now o) why.1 stops)
    stopped_by runs between now o (faults.Wide knot) within why stops =
        let here : EndsAs (firsts budget limit) r (rounds_made + 1) (record { state = now_at; over = None }) (endings.Wide (rounds_made + 1) knot)
        = inr (refl, inr (within, wide knot, why.0, refl)) in
        stopped now o (endings.Wide (rounds_made + 1) knot) here refl (subst (λ z. Closes (endings.Wide (rounds_made + 1) knot) t z now o) why.1 stops)
    stopped_by runs between now o faults.Failed within why stops = cut_round runs now o (subst (λ z. CutRound r ports budget limit (rounds_made + 1) now_at mid z) (sym stops.0) why) stops.1 stops.2
    stopped_by runs between now o faults.NoMemory within why stops =
        subst (λ z. CameTo r ports budget limit start before z o) (sym (stops.0 ∙ why)) (kept runs o stops.1 stops.2)

    module _ (now : Option (List ℕ)) (v : Wiring P) (others : List Player) (one : Played) (round : PlayedRound r ports budget limit (rounds_made + 1) now_at mid now t v others one) where
      -- The rounds with one more.
      leads_more : Leads (firsts budget limit) r 1 start (so_far.lines ++ round.line ∷ []) (place_after (rounds_made + 1) round.line now_at round.next)
      leads_more =
          leads_on (firsts budget limit) r 1 (rounds_made + 1) start so_far.lines (record { state = now_at; over = None }) (omega (arith, so_far.count)) so_far.rounds
          (round.line ∷ []) (place_after (rounds_made + 1) round.line now_at round.next) (refl, round.next, round.round, refl)

      count_more : rounds_made + 1 ≡ length (so_far.lines ++ round.line ∷ [])
      count_more = omega (arith, so_far.count, length-append so_far.lines (round.line ∷ []))

      -- The run is over behind the round.
      pub ended : (last : Option (List ℕ)) (o : Outcome) (ending : Ending) → one.over ≡ Some ending → Closes ending one.tally now last o → CameTo r ports budget limit start before last o
      ended last o ending over closes =
          closed_by before now last o one.tally (so_far.lines ++ round.line ∷ []) ending
          (record { last = place_after (rounds_made + 1) round.line now_at round.next; rounds = leads_more; ends = inl (sym round.over ∙ over) })
          (text_on ports before mid now so_far.lines round.line so_far.text round.text)
          (tally_more ports so_far.lines round.line t one.tally so_far.counts round.tallied)
          (subst (λ n. IsNumbered budget n ending) count_more (over_numbered budget (rounds_made + 1) round.line.idle players round.next.players ending (sym round.over ∙ over)))
          closes

      -- The run goes on behind the round.
      pub so_far_more : one.over ≡ None → SoFar r ports budget limit start before now (rounds_made + 1) v others one.tally
      so_far_more over = record {
        lines = so_far.lines ++ round.line ∷ [];
        circuit = round.next.circuit;
        rounds =
            let none : over_after (rounds_made + 1) round.line.idle players round.next.players ≡ None = sym round.over ∙ over in
            let here : place_after (rounds_made + 1) round.line now_at round.next ≡ record { state = record { circuit = round.next.circuit; players = others }; over = None }
            = λ i. record { state = record { circuit = round.next.circuit; players = sym round.players_are i }; over = none i } in
            subst (Leads (firsts budget limit) r 1 start (so_far.lines ++ round.line ∷ [])) here leads_more;
        left = round.circuit;
        count = count_more;
        text = text_on ports before mid now so_far.lines round.line so_far.text round.text;
        counts = tally_more ports so_far.lines round.line t one.tally so_far.counts round.tallied;
      }
