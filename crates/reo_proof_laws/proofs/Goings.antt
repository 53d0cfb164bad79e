-- What has begun with right logs goes on to a proved text.
use Rattle.std.proofs.Common.{◌≡◌, ℕ, zero, suc, ◌+◌, ◌-◌, ◌≤◌, inl, inr, List, [], ◌∷◌, ◌++◌, refl, ap, sym, subst, length, arith, length-append}
use Rattle.std.specs.Prelude.{Option, Some, None}
use Rattle.std.proofs.lemmas.List.{length-map}
use Rattle.reo_net_base.specs.declared.port.Offer.{Offer}
use Rattle.reo_net_base.specs.declared.port.Port.{Port}
use Rattle.reo_net_base.specs.Net.{Net, Wiring, net_of}
use Rattle.reo_net_base.specs.Step.{all_chosen, all_taken}
use Rattle.reo_net_circuit.proofs.ReshapeLemmas.{reshaped}
use Rattle.reo_net_laws.specs.FirstLaws.{FirstExists}
use Rattle.reo_players.specs.Offers.{offer_for}
use Rattle.reo_trace.specs.declared.line.RoundLine.{RoundLine}
use Rattle.reo_trace.specs.declared.line.Ending.{Ending}
use Rattle.reo_trace.specs.declared.line.Ending.TheVariants.{Limit}
use Rattle.reo_trace.specs.EndingText.{ending_text}
use Rattle.reo_weights.specs.Laws.{OverIsDecided}
use Rattle.reo_weights.specs.Over.{Cause, IsOver}
use Rattle.reo_rounds.specs.Order.{HasOrder}
use Rattle.reo_rounds.specs.Ready.{ports_ready, ready, ready_net}
use Rattle.reo_rounds.specs.RoundOn.{Suiting, RoundOn}
use Rattle.reo_rounds.specs.Rules.{Rules}
use Rattle.reo_rounds.specs.Stopping.{ending_by}
use Rattle.reo_rounds.specs.Lasting.{KeepsShape}
use Rattle.reo_rounds.proofs.OrderLemmas.{ready_order, round_order}
use Rattle.reo_rounds.proofs.RoundLemmas.{round_exists}
use Rattle.reo_runs.specs.Round.{State, Choosing, RoundOf, net_ready, advanced}
use Rattle.reo_runs.specs.Run.{Place, EndsAs, place_after, firsts}
use Rattle.reo_proof_texts.specs.Cuts.{LoggedRound, all_logged}
use Rattle.reo_proof_texts.specs.Proven.{IsProven, AreProven}
use Rattle.reo_proof_laws.specs.Logs.{IsSized, FirstsHaveLogs}
use Rattle.reo_proof_laws.specs.Proofs.{ProofGoesOn, HasProofs}
use Rattle.reo_proof_laws.proofs.Narrowness.{within_is_narrow}

-- The joints are in order, and there are not too many of them.
pub record IsSound (net : Net) : Type 0 where
  pub order : HasOrder net
  pub sized : IsSized net

module _ {P : Type 0} (r : Rules P) where
  ready_count : (offers : ℕ → Option Offer) (limit n : ℕ) (ps : List P) → length (ports_ready r offers limit n ps) ≡ length ps
  ready_count offers limit n [] = refl
  ready_count offers limit n (p ∷ ps) = ap suc (ready_count offers limit (suc n) ps)

  ready_sized : (offers : ℕ → Option Offer) (w : Wiring P) → IsSized (net_of r.behaviour w) → IsSized (ready_net r offers w)
  ready_sized offers w old = record {
    primitives = omega (arith, old.primitives, length-map w.primitives r.behaviour, length-map (ready r offers w).primitives r.behaviour, ready_count offers w.ports 0 w.primitives);
    joints = old.joints;
  }

  module _ (k : KeepsShape r) where
    on_sized : (suiting : Suiting) (turn : ℕ) (w : Wiring P) (line : RoundLine) (b : Wiring P) → RoundOn suiting r turn w line b → IsSized (net_of r.behaviour w) → IsSized (net_of r.behaviour b)
    on_sized suiting turn w line b round old =
        let same = reshaped r.behaviour r.settled k.settled w.primitives (all_chosen (net_of r.behaviour w) round.rows) (all_taken (net_of r.behaviour w) round.items) in
        subst (λ (v : Wiring P). IsSized (net_of r.behaviour v)) (sym round.circuit) (record {
          primitives = omega (arith, old.primitives, same.count);
          joints = old.joints;
        })

    ready_sound : (a : State P) → IsSound (net_of r.behaviour a.circuit) → IsSound (net_ready r a)
    ready_sound a old = record {
      order = ready_order r k (offer_for a.players) a.circuit old.order;
      sized = ready_sized (offer_for a.players) a.circuit old.sized;
    }

    -- A round leaves the joints in order.
    round_sound : (C : Choosing) (turn : ℕ) (a : State P) (line : RoundLine) (b : State P) → RoundOf C r turn a line b → IsSound (net_of r.behaviour a.circuit) → IsSound (net_of r.behaviour b.circuit)
    round_sound C turn a line b round old = record {
      order = round_order r k (offer_for a.players) C.suits turn a.circuit line b.circuit round.made old.order;
      sized = on_sized C.suits turn (ready r (offer_for a.players) a.circuit) line b.circuit round.made (ready_sized (offer_for a.players) a.circuit old.sized);
    }

    rounds_sound : (C : Choosing) (turn : ℕ) (p : Place P) (xs : List LoggedRound) (q : Place P) → AreProven C r turn p xs q → IsSound (net_of r.behaviour p.state.circuit) → IsSound (net_of r.behaviour q.state.circuit)
    rounds_sound C turn p [] q same old = subst (λ (s : Place P). IsSound (net_of r.behaviour s.state.circuit)) same old
    rounds_sound C turn p (x ∷ xs) q d old =
        rounds_sound C (turn + 1) (place_after turn x.line p.state d.1) xs q d.3 (round_sound C turn p.state x.line d.1 d.2.round old)

module _ {P : Type 0} (C : Choosing) (r : Rules P) where
  -- What is left of a proved text from a place on, before the round of this number.
  record ProvedOn (turn : ℕ) (p : Place P) : Type 0 where
    rest : List LoggedRound
    ending : Ending
    last : Place P
    rounds : AreProven C r turn p rest last
    ends : EndsAs C r (turn + length rest) last ending

  -- Rounds, and further rounds from there.
  pub proven_on : (turn t : ℕ) (p : Place P) (xs : List LoggedRound) (q : Place P) → t ≡ turn + length xs → AreProven C r turn p xs q
      → (rest : List LoggedRound) (s : Place P) → AreProven C r t q rest s → AreProven C r turn p (xs ++ rest) s
  proven_on turn t p [] q count same rest s more =
      let here : turn ≡ t = omega (arith, count) in
      rw (here, same) more
  proven_on turn t p (x ∷ xs) q count d rest s more =
      (d.0, d.1, d.2, proven_on (turn + 1) t (place_after turn x.line p.state d.1) xs q (omega (arith, count)) d.3 rest s more)

  -- One round more.
  pub proven_more : (p : Place P) (xs : List LoggedRound) (a : State P) (x : LoggedRound) (b : State P) → AreProven C r 1 p xs (record { state = a; over = None }) → IsProven C r (length xs + 1) a x b
      → AreProven C r 1 p (xs ++ x ∷ []) (place_after (length xs + 1) x.line a b)
  proven_more p xs a x b d here =
      proven_on 1 (length xs + 1) p xs (record { state = a; over = None }) (omega arith) d (x ∷ []) (place_after (length xs + 1) x.line a b) (refl, b, here, refl)

  goes_on : (ports : List Port) (start : Place P) (xs : List LoggedRound) (q : Place P) → AreProven C r 1 start xs q → ProvedOn (length xs + 1) q → ProofGoesOn C r ports start xs
  goes_on ports start xs q d more =
      let all : List LoggedRound = xs ++ more.rest in
      let count : length xs + 1 + length more.rest ≡ length all + 1 = omega (arith, length-append xs more.rest) in
      record {
        rest = more.rest;
        ending = more.ending;
        text = all_logged ports all ++ ending_text more.ending;
        proved = record {
          text_is = refl;
          last = more.last;
          proven = proven_on 1 (length xs + 1) start xs q (omega arith) d more.rest more.last more.rounds;
          ends = subst (λ (t : ℕ). EndsAs C r t more.last more.ending) count more.ends;
        };
      }

module _ {P : Type 0} (r : Rules P) (budget limit : ℕ) where
  -- So many rounds are within the limit.
  proven_within : (turn : ℕ) (p : Place P) (xs : List LoggedRound) (q : Place P) → AreProven (firsts budget limit) r turn p xs q → turn ≤ limit + 1 → turn + length xs ≤ limit + 1
  proven_within turn p [] q same within = omega (arith, within)
  proven_within turn p (x ∷ xs) q d within =
      let rest = proven_within (turn + 1) (place_after turn x.line p.state d.1) xs q d.3 (omega (arith, d.2.round.made.suits.0)) in
      omega (arith, rest)

  module _ (k : KeepsShape r) (first : FirstExists) (decided : OverIsDecided) (logs : FirstsHaveLogs) where
    -- The round that stands next, with its log.
    record NextRound (turn : ℕ) (a : State P) : Type 0 where
      logged : LoggedRound
      next : State P
      proven : IsProven (firsts budget limit) r turn a logged next

    round_here : (turn : ℕ) (a : State P) → turn ≤ limit → ((cause : Cause) → IsOver budget (net_ready r a) cause → ⊥) → IsSound (net_of r.behaviour a.circuit) → NextRound turn a
    round_here turn a within none old =
        let net : Net = net_ready r a in
        let now : IsSound net = ready_sound r k a old in
        let found = round_exists r turn (ready r (offer_for a.players) a.circuit) first now.order budget none in
        let log = logs net now.order.wired now.order.order now.order.is_order now.sized (within_is_narrow budget net now.order.wired now.order.order now.order.is_order none) turn found.2.rows found.2.items found.2.suits.1 in
        record {
          logged = record { line = found.0; log = log.0 };
          next = record { circuit = found.1; players = advanced net found.2.rows a.players };
          proven = record {
            round = record {
              made = record { rows = found.2.rows; items = found.2.items; suits = (within, found.2.suits); shown = found.2.shown; circuit = found.2.circuit };
              players = refl;
            };
            proof = log.1.proof;
          };
        }

    -- The run is over here.
    over_here : (turn : ℕ) (p : Place P) (ending : Ending) → p.over ≡ Some ending → ProvedOn (firsts budget limit) r turn p
    over_here turn p ending over = record { rest = []; ending = ending; last = p; rounds = refl; ends = inl over }

    -- No round more is within the limit.
    limit_here : (turn : ℕ) (p : Place P) → limit + 1 ≡ turn → p.over ≡ None → ProvedOn (firsts budget limit) r turn p
    limit_here turn p full on = record { rest = []; ending = Limit limit; last = p; rounds = refl; ends = inr (on, inl (omega (arith, full), refl)) }

    -- The next round cannot be planned.
    stopped_here : (turn : ℕ) (p : Place P) → turn ≤ limit → p.over ≡ None → (cause : Cause) → IsOver budget (net_ready r p.state) cause → ProvedOn (firsts budget limit) r turn p
    stopped_here turn p within on cause over =
        let none : List LoggedRound = [] in
        record {
          rest = none;
          ending = ending_by (turn + length none) cause;
          last = p;
          rounds = refl;
          ends = inr (on, inr (omega (arith, within), cause, over, refl));
        }

    -- With so many rounds left within the limit.
    proved_on : (left turn : ℕ) (p : Place P) → turn + left ≡ limit + 1 → IsSound (net_of r.behaviour p.state.circuit) → ProvedOn (firsts budget limit) r turn p
    proved_on zero turn p count old =
        elim p.over as (λ o. p.over ≡ o → ProvedOn (firsts budget limit) r turn p) [
          | None ↦ λ on. limit_here turn p (omega (arith, count)) on
          | Some ending ↦ λ over. over_here turn p ending over
        ] refl
    proved_on (suc left) turn p count old =
        let within : turn ≤ limit = omega (arith, count) in
        let now : IsSound (net_ready r p.state) = ready_sound r k p.state old in
        elim p.over as (λ o. p.over ≡ o → ProvedOn (firsts budget limit) r turn p) [
          | Some ending ↦ λ over. over_here turn p ending over
          | None ↦ λ on. elim (decided budget (net_ready r p.state) now.order.wired now.order.order now.order.is_order) as (λ _. ProvedOn (firsts budget limit) r turn p) [
            | inl d ↦ stopped_here turn p within on d.0 d.1
            | inr none ↦
                let here = round_here turn p.state within none old in
                let x : LoggedRound = here.logged in
                let q : Place P = place_after turn x.line p.state here.next in
                let more = proved_on left (turn + 1) q (omega (arith, count)) (round_sound r k (firsts budget limit) turn p.state x.line here.next here.proven.round old) in
                let length_is : turn + 1 + length more.rest ≡ turn + length (x ∷ more.rest) = omega arith in
                record {
                  rest = x ∷ more.rest;
                  ending = more.ending;
                  last = more.last;
                  rounds = (on, here.next, here.proven, more.rounds);
                  ends = subst (λ (t : ℕ). EndsAs (firsts budget limit) r t more.last more.ending) length_is more.ends;
                }
          ]
        ] refl

    pub has_proofs : (ports : List Port) (start : Place P) → IsSound (net_of r.behaviour start.state.circuit) → HasProofs (firsts budget limit) r ports start
    has_proofs ports start old xs q d =
        let within = proven_within 1 start xs q d (omega arith) in
        let here = rounds_sound r k (firsts budget limit) 1 start xs q d old in
        goes_on (firsts budget limit) r ports start xs q d (proved_on (limit - length xs) (length xs + 1) q (omega (arith, within)) here)
