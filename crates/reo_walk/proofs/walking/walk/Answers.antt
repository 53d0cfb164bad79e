use Rattle.std.proofs.Common.{◌≡◌, ◌∙◌, ◌<◌, ℕ, List, Bool, length, get_or, subst, take, take_all, arith}
use Rattle.std.proofs.lemmas.List.{take_more}
use Rattle.reo_net_base.specs.Net.{Net, net_of}
use Rattle.reo_joint_values.specs.Values.{Names}
use Rattle.reo_rows.specs.Sets.{code_of, family_of, names_of}
use Rattle.reo_propagate.specs.Queues.{among}
use Rattle.reo_walk.specs.declared.place.KeyPlace.{KeyPlace}
use Rattle.reo_walk.specs.declared.place.KeyPlace.TheVariants.{Class, Row}
use Rattle.reo_walk.specs.Places.{side_of_place}
use Rattle.reo_walk.specs.Walking.{IsWalked}
use Rattle.reo_walk.proofs.Stepping.{walk_begin, walking_more, walk_stuck, walk_end}
use Rattle.reo_walk.proofs.Resting.{rest_of, supported_of, none_of, among_at}
use Rattle.reo_walk.proofs.walking.walk.Goals as goal

pub loop-index-init : goal.loop-index-init
loop-index-init g c =
    let net : Net = net_of g.P.Primitive.behaviour c.args.basis.now.circuit.now in
    let names : Names = names_of c.args.basis.now.items.now in
    let inside : ℕ → Bool = among c.args.sides.now in
    let after = c.in_ok-propagate.ensures in
    let supported = supported_of net names inside c.propagate.new.state.alive c.propagate.new.state.rows c.propagate.new.state.queue after.search.tended after.empty c.requires.sides in
    record {
      alike = after.reduced.alike;
      search = after.search;
      empty = after.empty;
      walking = rw (c.new-chosen.ensures) (walk_begin net names inside c.args.turn (family_of c.args.state.now.alive) (family_of c.propagate.new.state.alive) after.reduced.narrowed (λ j v h. after.reduced.less j (code_of v) h) supported);
    }

pub returns-in-None-clause-found : goal.returns-in-None-clause-found
returns-in-None-clause-found g c =
    let net : Net = net_of g.P.Primitive.behaviour c.args.basis.now.circuit.now in
    let names : Names = names_of c.args.basis.now.items.now in
    let inside : ℕ → Bool = among c.args.sides.now in
    let none = rw (c.in-None.is) at c.in_ok-step.ensures.found in
    walk_stuck net c.known.ensures.wired names inside c.args.turn (family_of c.args.state.now.alive) (family_of c.loop-index.state.alive) (take c.loop-index.index c.args.places.now) c.loop-index.chosen c.loop-index.invariant.walking none

pub loop-index-preserved : goal.loop-index-preserved
loop-index-preserved g c =
    let net : Net = net_of g.P.Primitive.behaviour c.args.basis.now.circuit.now in
    let names : Names = names_of c.args.basis.now.items.now in
    let inside : ℕ → Bool = among c.args.sides.now in
    let i : ℕ = c.loop-index.index in
    let lt : i < length c.args.places.now = omega arith in
    let p : KeyPlace = get_or c.args.places.now i (Class 0) in
    let stepped = rw (c.in-Some.is) at c.in_ok-step.ensures.found in
    let is_in = c.requires.places i (Class 0) lt in
    record {
      alike = record {
        rows = c.in_ok-step.ensures.alike.rows ∙ c.loop-index.invariant.alike.rows;
        width = λ r. c.in_ok-step.ensures.alike.width r ∙ c.loop-index.invariant.alike.width r;
      };
      search = c.in_ok-step.ensures.search;
      empty = c.in_ok-step.ensures.empty;
      walking = rw (c.in_ok-push-in-Some.ensures.ok, take_more c.args.places.now i (Class 0) lt)
          (walking_more net c.known.ensures.wired names inside c.args.turn (family_of c.args.state.now.alive) (family_of c.loop-index.state.alive) (take i c.args.places.now) c.loop-index.chosen c.loop-index.invariant.walking
          (family_of c.step.new.state.alive) p c.in-Some.number (c.requires.sides (side_of_place p) is_in) is_in stepped);
    }

pub least_row-requires-clause-side : goal.least_row-requires-clause-side
least_row-requires-clause-side g c = c.requires.sides (get_or c.args.sides.now 0 0) (among_at c.args.sides.now 0 c.requires.some_side)

pub returns-in-None-least_row-clause-found : goal.returns-in-None-least_row-clause-found
returns-in-None-least_row-clause-found g c =
    let net : Net = net_of g.P.Primitive.behaviour c.args.basis.now.circuit.now in
    let names : Names = names_of c.args.basis.now.items.now in
    let inside : ℕ → Bool = among c.args.sides.now in
    let side : ℕ = get_or c.args.sides.now 0 0 in
    let is_in = among_at c.args.sides.now 0 c.requires.some_side in
    let none = none_of net c.known.ensures.wired names inside c.args.turn (Row side) (family_of c.loop-index.state.alive) c.loop-index.state.rows is_in (c.loop-index.invariant.search.tended.works side is_in) c.in-None-least_row.ensures in
    walk_stuck net c.known.ensures.wired names inside c.args.turn (family_of c.args.state.now.alive) (family_of c.loop-index.state.alive) (take c.loop-index.index c.args.places.now) c.loop-index.chosen c.loop-index.invariant.walking none

pub returns-in-Some-least_row-clause-found : goal.returns-in-Some-least_row-clause-found
returns-in-Some-least_row-clause-found g c =
    let net : Net = net_of g.P.Primitive.behaviour c.args.basis.now.circuit.now in
    let names : Names = names_of c.args.basis.now.items.now in
    let inside : ℕ → Bool = among c.args.sides.now in
    let side : ℕ = get_or c.args.sides.now 0 0 in
    let is_in = among_at c.args.sides.now 0 c.requires.some_side in
    let least = c.in-Some-least_row.ensures in
    let kept = c.loop-index.invariant in
    let rest = rest_of net names inside c.loop-index.state.alive c.loop-index.state.rows c.loop-index.state.queue kept.search.tended kept.empty side is_in (c.requires.sides side is_in) in
    let whole : take c.loop-index.index c.args.places.now ≡ c.args.places.now = take_all c.loop-index.index c.args.places.now (omega arith) in
    subst (λ (ps : List KeyPlace). IsWalked net names inside c.args.turn (family_of c.args.state.now.alive) (family_of c.loop-index.state.alive) ps c.loop-index.chosen) whole
    (walk_end net c.known.ensures.wired names inside c.args.turn (family_of c.args.state.now.alive) (family_of c.loop-index.state.alive) (take c.loop-index.index c.args.places.now) c.loop-index.chosen kept.walking
    side c.in-Some-least_row.field-0.row is_in (rest.sifted.only c.in-Some-least_row.field-0.row least.set))
