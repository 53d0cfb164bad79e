-- What is kept of parts where a circuit changes elsewhere, and in later rounds.
use Rattle.std.proofs.Common.{◌≡◌, ℕ, ◌+◌, ◌<◌, List, Bool, true, length, get_or, refl, ap, sym, ◌∙◌, subst, arith}
use Rattle.reo_net_base.specs.declared.joint.End.{End}
use Rattle.reo_net_base.specs.Behaviour.{Behaviour}
use Rattle.reo_net_base.specs.Net.{Net, first_side, behaviour_at, side_at, row_at, mark_at}
use Rattle.reo_net_base.specs.Sides.{side_count}
use Rattle.reo_net_base.specs.Wired.{IsWired}
use Rattle.reo_net_circuit.proofs.ReshapeLemmas.{first_same}
use Rattle.reo_net_laws.specs.Alike.{AreAlike}
use Rattle.reo_net_laws.proofs.Isolation.{isolated}
use Rattle.reo_net_laws.proofs.Sides.{side_at_place}
use Rattle.reo_net_laws.specs.Knots.{Knotted, AreKnots, in_knot, knot_count}
use Rattle.reo_weights.specs.still.Still.{IsStill}
use Rattle.reo_weights.proofs.still.Rounds.{still_stay_first}
use Rattle.reo_weights.proofs.still.WithinLemmas.{alike_weigh}
use Rattle.reo_search_tables.proofs.Staying.{same_side}
use Rattle.reo_planning.specs.declared.kept.Kept.{Kept}
use Rattle.reo_planning.specs.Keeping.{is_settled, is_moving, FlowsIn, HasSizes, IsKnown, IsKept}
use Rattle.reo_planning.specs.Unsettling.{AreFewer, IsElsewhere, KeptElsewhere, KeptLater}
use Rattle.reo_planning.proofs.Flowing.{still_same}
use Rattle.reo_planning.proofs.KnotSets.{number_is}
use Rattle.reo_planning.proofs.Shapes.{count_same}

pub mark_is : (net : Net) (rows : List ℕ) (e : End)
    → mark_at net rows e ≡ (behaviour_at net.primitives e.primitive).mark ((behaviour_at net.primitives e.primitive).side_of e.end) (get_or rows (first_side net.primitives e.primitive + (behaviour_at net.primitives e.primitive).side_of e.end) 0) e.end
unfolding mark_at row_at side_at
mark_is net rows e = refl

-- A part of which no primitive changes.
module _ (net other : Net) (wired : IsWired net) (after : IsWired other) (knots : Knotted) (are : AreKnots net knots) (kept : Kept) (is : IsElsewhere net other knots kept)
    (k : ℕ) (lt : k < knot_count knots) (settled : is_settled kept k ≡ true) where
  same_at : (i side : ℕ) → i < length net.primitives → side < (behaviour_at net.primitives i).sides → in_knot knots.numbers k (first_side net.primitives i + side) ≡ true
      → behaviour_at other.primitives i ≡ behaviour_at net.primitives i
  same_at i side i_in side_in h =
      is.same i side i_in side_in (ap (is_settled kept) (number_is knots.numbers k (first_side net.primitives i + side) h) ∙ settled)

  alike : AreAlike net other (in_knot knots.numbers k)
  alike = record {
    joints = is.joints;
    count = is.shapes.count;
    shape = is.shapes.same;
    sides = λ i side i_in side_in h. same_side (behaviour_at net.primitives i) (behaviour_at other.primitives i) side (same_at i side i_in side_in h);
  }

  -- At an end of the part, of which circuit it may be.
  module _ (e : End) (p_in : e.primitive < length net.primitives) (end_in : e.end < (behaviour_at net.primitives e.primitive).ends) where
    first : first_side other.primitives e.primitive ≡ first_side net.primitives e.primitive
    first = first_same net.primitives other.primitives is.shapes e.primitive

    place : side_at other e ≡ side_at net e
    place = side_at_place other e ∙ (λ i. first i + (is.shapes.same e.primitive p_in).side_of e.end i) ∙ sym (side_at_place net e)

    marks : (rows : List ℕ) → in_knot knots.numbers k (side_at net e) ≡ true → mark_at other rows e ≡ mark_at net rows e
    marks rows h =
        let b : Behaviour = behaviour_at net.primitives e.primitive in
        let same : behaviour_at other.primitives e.primitive ≡ b =
        same_at e.primitive (b.side_of e.end) p_in ((wired.lawful e.primitive p_in).sides_in e.end end_in) (ap (in_knot knots.numbers k) (sym (side_at_place net e)) ∙ h) in
        mark_is other rows e ∙ (λ i. (same i).mark ((same i).side_of e.end) (get_or rows (first i + (same i).side_of e.end) 0) e.end) ∙ sym (mark_is net rows e)

  still_there : (rows : List ℕ) → IsStill net (in_knot knots.numbers k) rows → IsStill other (in_knot knots.numbers k) rows
  still_there rows still e e_in h flows =
      let p_in : e.primitive < length net.primitives = omega (arith, e_in.0, is.shapes.count) in
      let end_in : e.end < (behaviour_at net.primitives e.primitive).ends = subst (λ (n : ℕ). e.end < n) (is.shapes.same e.primitive p_in).ends e_in.1 in
      let here : in_knot knots.numbers k (side_at net e) ≡ true = ap (in_knot knots.numbers k) (sym (place e p_in end_in)) ∙ h in
      still e (p_in, end_in) here (sym (marks e p_in end_in rows here) ∙ flows)

  flows_there : (rows : List ℕ) → FlowsIn net (in_knot knots.numbers k) rows → FlowsIn other (in_knot knots.numbers k) rows
  flows_there rows flow =
      let e : End = flow.end in
      let e_in = flow.is_end in
      record {
        end = e;
        is_end = (omega (arith, e_in.0, is.shapes.count), subst (λ (n : ℕ). e.end < n) (sym (is.shapes.same e.primitive e_in.0).ends) e_in.1);
        here = ap (in_knot knots.numbers k) (place e e_in.0 e_in.1) ∙ flow.here;
        flows = marks e e_in.0 e_in.1 rows flow.here ∙ flow.flows;
      }

  known_there : (budget turn : ℕ) (rows : List ℕ) (moves : Bool) → IsKnown budget net knots turn rows moves k → IsKnown budget other knots turn rows moves k
  known_there budget turn rows moves known =
      let closed = (are.are_knots k lt).closed in
      let sides = count_same net.primitives other.primitives is.shapes in
      record {
        within = alike_weigh budget net other wired after (in_knot knots.numbers k) closed alike known.within;
        first = record {
          others = known.first.others;
          items = known.first.items;
          first = isolated net other wired after (in_knot knots.numbers k) closed alike turn known.first.others known.first.items known.first.first;
          same = λ s s_in h. known.first.same s (omega (arith, sides)) h;
        };
        still = λ not. still_there rows (known.still not);
        flows = λ moves. flows_there rows (known.flows moves);
      }

-- What is known of a part, by the same rows, marks and budget.
known_same : (budget limit : ℕ) (net : Net) (knots : Knotted) (turn : ℕ) (rows others : List ℕ) (moves goes : Bool) (k : ℕ) → limit ≡ budget → others ≡ rows → goes ≡ moves
    → IsKnown budget net knots turn rows moves k → IsKnown limit net knots turn others goes k
known_same budget limit net knots turn rows others moves goes k e f g known =
    subst (λ (n : ℕ). IsKnown n net knots turn others goes k) (sym e)
    (subst (λ (xs : List ℕ). IsKnown budget net knots turn xs goes k) (sym f)
    (subst (λ (b : Bool). IsKnown budget net knots turn rows b k) (sym g) known))

sizes_same : (sides parts : ℕ) (old new : Kept) → AreFewer old new → HasSizes sides parts old → HasSizes sides parts new
sizes_same sides parts old new fewer sizes = record {
  one_row = ap length fewer.rows ∙ sizes.one_row;
  one_each = fewer.one_each ∙ sizes.one_each;
  one_mark = ap length fewer.moving ∙ sizes.one_mark;
}

-- Where fewer parts are settled, all is kept.
pub kept_fewer : (net : Net) (knots : Knotted) (turn : ℕ) (old new : Kept) → IsKept net knots turn old → AreFewer old new → IsKept net knots turn new
kept_fewer net knots turn old new kept fewer = record {
  sizes = sizes_same (side_count net) (knot_count knots) old new fewer kept.sizes;
  known = λ k lt settled.
      known_same old.budget new.budget net knots turn old.rows new.rows (is_moving old k) (is_moving new k) k fewer.budget fewer.rows (ap (λ (xs : List Bool). get_or xs k true) fewer.moving)
      (kept.known k lt (fewer.fewer k settled));
}

pub kept_elsewhere : KeptElsewhere
kept_elsewhere net other wired after knots are turn old new kept fewer is =
    let here = kept_fewer net knots turn old new kept fewer in
    let sides = count_same net.primitives other.primitives is.shapes in
    record {
      sizes = record { one_row = here.sizes.one_row ∙ sym sides; one_each = here.sizes.one_each; one_mark = here.sizes.one_mark };
      known = λ k lt settled. known_there net other wired after knots are new is k lt settled new.budget turn new.rows (is_moving new k) (here.known k lt settled);
    }

pub kept_later : KeptLater
kept_later net wired knots turn later old new kept unsettled =
    let here = kept_fewer net knots turn old new kept unsettled.fewer in
    record {
      sizes = here.sizes;
      known = λ k lt settled.
          let known = here.known k lt settled in
          let still = known.still (unsettled.still k settled) in
          let others_still : IsStill net (in_knot knots.numbers k) known.first.others = still_same net wired (in_knot knots.numbers k) new.rows known.first.others (λ s s_in h. sym (known.first.same s s_in h)) still in
          record {
            within = known.within;
            first = record {
              others = known.first.others;
              items = known.first.items;
              first = still_stay_first net wired (in_knot knots.numbers k) turn later known.first.others known.first.items known.first.first others_still;
              same = known.first.same;
            };
            still = λ _. still;
            flows = known.flows;
          };
    }
