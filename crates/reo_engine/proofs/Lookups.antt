-- What is looked up of a circuit, when it changes.
use Rattle.std.proofs.Common.{◌≡◌, ◌≢◌, ◌∙◌, inl, inr, ℕ, zero, suc, ◌+◌, ◌<◌, Bool, true, false, List, [], ◌∷◌, length, map, get_or, refl, ap, sym, subst, arith}
use Rattle.std.proofs.lemmas.Bool.{both_ways, cases_eq}
use Rattle.std.specs.Prelude.{Option, Some, None, slice_get}
use Rattle.std.proofs.lemmas.List.{length-map}
use Rattle.reo_net_base.specs.Behaviour.{Behaviour, nothing}
use Rattle.reo_net_base.specs.Net.{Net, Wiring, net_of, behaviour_at}
use Rattle.reo_net_base.specs.Lawful.{TreatsAlike}
use Rattle.reo_net_base.specs.Shapes.{SameNetShape, TreatAlike}
use Rattle.reo_net_base.specs.Step.{change_at}
use Rattle.reo_net_base.specs.Wired.{IsWired}
use Rattle.reo_net_circuit.specs.found_ends.Ends.{AreEnds}
use Rattle.reo_net_laws.specs.Knots.{Knotted, AreKnots}
use Rattle.reo_settling.specs.Plannings.{Kept, is_settled, IsKept, AreFewer, AreMarkedUnsettled, AreMovingUnsettled, IsElsewhere, IsUnsettled, part_at}
use Rattle.reo_engine.proofs.Plannings.{kept_elsewhere, kept_fewer, kept_later, fewer_none, fewer_twice, knots_stay}
use Rattle.reo_settling.specs.declared.lookups.Lookups.{Lookups}
use Rattle.reo_settling.specs.Lookups.{AreLookups}
use Rattle.reo_settling.proofs.HeldTables.{lookups_stay}
use Rattle.reo_flows.specs.stepping.Changes.{is_changed}
use Rattle.reo_flows.proofs.stepping.Far.{ends_kept}
use Rattle.reo_engine.specs.Changes.{OthersStay}
use Rattle.reo_engine.specs.Engine.{IsLookedUp}
use Rattle.reo_engine.specs.Settled.{StaySettled}
use Rattle.reo_engine.proofs.Treating.{one_treats}

-- What is looked up stays right where nothing changes at a part that is still settled.
looked_up_elsewhere : (net other : Net) → IsWired net → IsWired other → (later : ℕ) (knots : Knotted) (ends : List (List ℕ)) (old new : Kept)
    → AreKnots net knots → AreEnds net ends → IsKept net knots (later + 1) old → AreFewer old new → IsElsewhere net other knots new → IsLookedUp other later knots ends new
looked_up_elsewhere net other wired after later knots ends old new are_knots are_ends is_kept fewer is = record {
  are_knots = knots_stay net other wired is.joints is.shapes knots are_knots;
  are_ends = ends_kept net other is.joints is.shapes ends are_ends;
  is_kept = kept_elsewhere net other wired after knots are_knots (later + 1) old new is_kept fewer is;
}

module _ {P : Type 0} (behaviour : P → Behaviour) where
  -- Where one primitive changes, the others behave as before.
  change_other : (f : P → P) (ps : List P) (port i : ℕ) → i ≢ port → behaviour_at (map behaviour (change_at f ps port)) i ≡ behaviour_at (map behaviour ps) i
  change_other f [] port i ne = refl
  change_other f (p ∷ ps) zero zero ne = absurd (ne refl)
  change_other f (p ∷ ps) zero (suc i) ne = refl
  change_other f (p ∷ ps) (suc port) zero ne = refl
  change_other f (p ∷ ps) (suc port) (suc i) ne = change_other f ps port i (λ e. ne (ap suc e))

  abbrev by_option : Option P → Behaviour
  by_option None = nothing
  by_option (Some p) = behaviour p

  -- A primitive's behaviour, by the primitive.
  behaviour_is : (ps : List P) (i : ℕ) → behaviour_at (map behaviour ps) i ≡ by_option (slice_get ps i)
  behaviour_is [] i = refl
  behaviour_is (p ∷ ps) zero = refl
  behaviour_is (p ∷ ps) (suc i) = behaviour_is ps i

  -- Where one primitive changes, nothing changes at a part that is still settled once the parts of its sides are unsettled.
  pub one_elsewhere : (old new : Wiring P) (f : P → P) (port : ℕ) → SameNetShape behaviour old new
      → new ≡ record old { primitives = change_at f old.primitives port } → (knots : Knotted) (kept now : Kept)
      → IsUnsettled (net_of behaviour old) knots port kept now → IsElsewhere (net_of behaviour old) (net_of behaviour new) knots now
  one_elsewhere old new f port shape is knots kept now unsettled =
      let net : Net = net_of behaviour old in
      record {
        joints = shape.joints;
        shapes = shape.primitives;
        same = λ i side i_in side_in settled. elim (cases_eq i port) [
          | inl e ↦
              let there : is_settled now (part_at net knots i side) ≡ false =
              subst (λ (k : ℕ). side < (behaviour_at net.primitives k).sides → is_settled now (part_at net knots k side) ≡ false) (sym e) (unsettled.gone side) side_in in
              absurd (both_ways (is_settled now (part_at net knots i side)) there settled)
          | inr ne ↦ ap (λ (w : Wiring P). behaviour_at (map behaviour w.primitives) i) is ∙ change_other f old.primitives port i ne
        ];
      }

  -- What is looked up stays right where one primitive changes, once the parts of its sides are unsettled.
  pub one_changes : (old new : Wiring P) (f : P → P) (port : ℕ) → IsWired (net_of behaviour old) → IsWired (net_of behaviour new) → SameNetShape behaviour old new
      → new ≡ record old { primitives = change_at f old.primitives port } → (rounds : ℕ) (knots : Knotted) (ends : List (List ℕ)) (kept now : Kept)
      → IsLookedUp (net_of behaviour old) rounds knots ends kept → IsUnsettled (net_of behaviour old) knots port kept now → IsLookedUp (net_of behaviour new) rounds knots ends now
  one_changes old new f port wired after shape is rounds knots ends kept now looked unsettled =
      looked_up_elsewhere (net_of behaviour old) (net_of behaviour new) wired after rounds knots ends kept now looked.are_knots looked.are_ends looked.is_kept unsettled.fewer
      (one_elsewhere old new f port shape is knots kept now unsettled)

  -- And so does what is looked up beside.
  pub one_held : (old new : Wiring P) (f : P → P) (port : ℕ) → IsWired (net_of behaviour old) → SameNetShape behaviour old new
      → new ≡ record old { primitives = change_at f old.primitives port } → (knots : Knotted) → AreKnots (net_of behaviour old) knots → (kept now : Kept) (lookups : Lookups)
      → AreLookups (net_of behaviour old) knots kept lookups → IsUnsettled (net_of behaviour old) knots port kept now → ((p : P) → TreatsAlike (behaviour p) (behaviour (f p)))
      → AreLookups (net_of behaviour new) knots now lookups
  one_held old new f port wired shape is knots are_knots kept now lookups held unsettled alike =
      lookups_stay (net_of behaviour old) (net_of behaviour new) wired knots are_knots kept now unsettled.fewer
      (one_elsewhere old new f port shape is knots kept now unsettled) (one_treats behaviour f alike old new port is) lookups held

  -- Over a round nothing changes at a part that is still settled, once the parts that it marks and those that move are unsettled.
  pub round_elsewhere : (old new : Wiring P) (marks : List Bool) → SameNetShape behaviour old new
      → OthersStay marks old.primitives new.primitives → length marks ≡ length old.primitives → (knots : Knotted) (kept some now : Kept)
      → AreMarkedUnsettled (net_of behaviour old) knots marks (length marks) kept some → AreMovingUnsettled some now → IsElsewhere (net_of behaviour old) (net_of behaviour new) knots now
  round_elsewhere old new marks shape stay one_each knots kept some now marked moving =
      let net : Net = net_of behaviour old in
      let count : length net.primitives ≡ length old.primitives = length-map old.primitives behaviour in
      record {
        joints = shape.joints;
        shapes = shape.primitives;
        same = λ i side i_in side_in settled.
            let before = moving.fewer.fewer (part_at net knots i side) settled in
            let not : is_changed marks i ≡ false = unmarked (is_changed marks i) (λ mark. both_ways (is_settled some (part_at net knots i side)) (marked.gone i (omega (arith, count, one_each, i_in)) mark side side_in) before) in
            behaviour_is new.primitives i ∙ ap by_option (stay i not) ∙ sym (behaviour_is old.primitives i);
      }
    where
      unmarked : (b : Bool) → (b ≡ true → ⊥) → b ≡ false
      unmarked true h = absurd (h refl)
      unmarked false h = refl

  -- What is looked up stays right over a round, once the parts that it marks and those that move are unsettled.
  pub round_made : (old new : Wiring P) (marks : List Bool) → IsWired (net_of behaviour old) → IsWired (net_of behaviour new) → SameNetShape behaviour old new
      → OthersStay marks old.primitives new.primitives → length marks ≡ length old.primitives → (rounds : ℕ) (knots : Knotted) (ends : List (List ℕ)) (kept some now : Kept)
      → IsLookedUp (net_of behaviour old) rounds knots ends kept → AreMarkedUnsettled (net_of behaviour old) knots marks (length marks) kept some → AreMovingUnsettled some now
      → IsLookedUp (net_of behaviour new) (rounds + 1) knots ends now
  round_made old new marks wired after shape stay one_each rounds knots ends kept some now looked marked moving =
      let net : Net = net_of behaviour old in
      let first = kept_fewer net knots (rounds + 1) kept some looked.is_kept marked.fewer in
      let later : IsKept net knots ((rounds + 1) + 1) now = kept_later net wired knots (rounds + 1) ((rounds + 1) + 1) some now first moving in
      looked_up_elsewhere net (net_of behaviour new) wired after (rounds + 1) knots ends now now looked.are_knots looked.are_ends later (fewer_none now)
      (round_elsewhere old new marks shape stay one_each knots kept some now marked moving)

  -- And so does what is looked up beside.
  pub round_held : (old new : Wiring P) (marks : List Bool) → IsWired (net_of behaviour old) → SameNetShape behaviour old new
      → OthersStay marks old.primitives new.primitives → length marks ≡ length old.primitives → (knots : Knotted) → AreKnots (net_of behaviour old) knots → (kept some now : Kept)
      → (lookups : Lookups) → AreLookups (net_of behaviour old) knots kept lookups
      → AreMarkedUnsettled (net_of behaviour old) knots marks (length marks) kept some → AreMovingUnsettled some now → TreatAlike (map behaviour old.primitives) (map behaviour new.primitives)
      → AreLookups (net_of behaviour new) knots now lookups
  round_held old new marks wired shape stay one_each knots are_knots kept some now lookups held marked moving alike =
      lookups_stay (net_of behaviour old) (net_of behaviour new) wired knots are_knots kept now (fewer_twice kept some now marked.fewer moving.fewer)
      (round_elsewhere old new marks shape stay one_each knots kept some now marked moving) alike lookups held

-- Over a round the parts that are not marked and do not move stay settled.
pub stay_settled : (net : Net) (knots : Knotted) (marks : List Bool) (old some now : Kept) → AreMarkedUnsettled net knots marks (length marks) old some → AreMovingUnsettled some now → StaySettled net knots marks old now
stay_settled net knots marks old some now marked moving = record {
  fewer = fewer_twice old some now marked.fewer moving.fewer;
  stay = λ k settled still apart. moving.stay k (ap (λ (xs : List Bool). get_or xs k true) marked.fewer.moving ∙ still) (marked.stay k apart settled);
}
