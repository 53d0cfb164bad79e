use Rattle.std.proofs.Common.{◌≡◌, ◌∙◌, ◌<◌, ◌++◌, ℕ, Bool, true, List, [], length, slice_index_or, take, take_all, le_refl, subst, refl}
use Rattle.std.specs.Prelude.{Contains}
use Rattle.reo_net_base.specs.Net.{Net, net_of}
use Rattle.reo_net_base.specs.Sides.{side_count}
use Rattle.reo_net_laws.specs.Knots.{in_knot}
use Rattle.reo_mark_sets.specs.declared.marks.PlainMarks.{PlainMarks}
use Rattle.reo_mark_search.specs.Fitting.{IsRival}
use Rattle.reo_mark_search.specs.Places.{lead_places, class_places, row_places}
use Rattle.reo_mark_search.specs.Walking.{GoesOn}
use Rattle.reo_mark_search.proofs.Ending.{jam_first, no_colouring}
use Rattle.reo_mark_search.proofs.Parts.{side_listed, knot_below}
use Rattle.reo_mark_search.proofs.Finding.{noted_walked, rows_found}
use Rattle.reo_mark_search.proofs.search.search_part.Goals as goal

pub returns-then-not-narrow_waiting-clause-found : goal.returns-then-not-narrow_waiting-clause-found
returns-then-not-narrow_waiting-clause-found g c =
    let net : Net = net_of g.P.Primitive.behaviour c.args.circuit.now in
    let inside : ℕ → Bool = in_knot c.args.knots.now.numbers c.args.part in
    let sides : List ℕ = slice_index_or c.args.knots.now.sides c.args.part [] in
    let below : (k : ℕ) → inside k ≡ true → k < side_count net = knot_below net c.args.knots.now c.requires.knots c.args.part in
    let all : (k : ℕ) → inside k ≡ true → Contains sides k = λ k h. side_listed net c.args.knots.now c.requires.knots c.args.part c.requires.part sides refl k (below k h) h in
    let knot = c.requires.knots.are_knots c.args.part c.requires.part in
    let none : (others : List ℕ) → IsRival net inside others → ⊥ = λ others rival. c.narrow_waiting.ensures.none c.if-not-narrow_waiting.true others rival (c.note_all.ensures.all c.if-not-note_all.false others rival) in (
      jam_first net c.known.ensures.wired inside knot sides all c.args.turn none c.jam_all.new.rows c.jam_all.ensures.here below,
      no_colouring net c.known.ensures.wired inside knot sides all c.args.turn none,
    )

pub returns-then-fixed_all-clause-found : goal.returns-then-fixed_all-clause-found
returns-then-fixed_all-clause-found g c =
    let net : Net = net_of g.P.Primitive.behaviour c.args.circuit.now in
    let inside : ℕ → Bool = in_knot c.args.knots.now.numbers c.args.part in
    let sides : List ℕ = slice_index_or c.args.knots.now.sides c.args.part [] in
    let last : List PlainMarks = c.lead_all.new.sets in
    let rows : List ℕ = c.fixed_all.new.rows in
    let fixed = c.fixed_all.ensures.fixed c.if-fixed_all.true in
    let whole : take (length sides) sides ≡ sides = take_all (length sides) sides (le_refl (length sides)) in
    let begun = noted_walked net inside c.note_all.new.sets c.narrow_waiting.new.sets (c.note_all.ensures.all c.if-not-note_all.false) c.narrow_waiting.ensures.reduced in
    let led = c.lead_all.ensures.goes_on c.if-not-lead_all.false [] begun in
    let classed : GoesOn net inside (class_places net c.args.turn sides) last last = subst (λ (xs : List ℕ). GoesOn net inside (class_places net c.args.turn xs) last last) whole (fixed.classes c.args.turn) in
    let numbered : GoesOn net inside (row_places sides) last last = subst (λ (xs : List ℕ). GoesOn net inside (row_places xs) last last) whole fixed.numbers in
    rows_found net c.known.ensures.wired c.args.knots.now c.requires.knots c.args.part c.requires.part c.args.spots.now c.requires.spots c.order-order.result.now c.order-order.ensures
    (c.note_all.ensures.lets_in c.if-not-note_all.false) c.args.turn last rows (c.fixed_all.ensures.elsewhere.one_each ∙ c.requires.rows) fixed.pinned fixed.met
    (numbered (lead_places net c.args.turn sides ++ class_places net c.args.turn sides) (classed (lead_places net c.args.turn sides) led))

pub returns-clause-found : goal.returns-clause-found
returns-clause-found g c =
    let net : Net = net_of g.P.Primitive.behaviour c.args.circuit.now in
    let inside : ℕ → Bool = in_knot c.args.knots.now.numbers c.args.part in
    let sides : List ℕ = slice_index_or c.args.knots.now.sides c.args.part [] in
    let begun = noted_walked net inside c.note_all.new.sets c.narrow_waiting.new.sets (c.note_all.ensures.all c.if-not-note_all.false) c.narrow_waiting.ensures.reduced in
    let led = c.lead_all.ensures.goes_on c.if-not-lead_all.false [] begun in
    let classed = c.class_all.ensures.goes_on c.if-not-class_all.false (lead_places net c.args.turn sides) led in
    rows_found net c.known.ensures.wired c.args.knots.now c.requires.knots c.args.part c.requires.part c.args.spots.now c.requires.spots c.order-order.result.now c.order-order.ensures
    (c.note_all.ensures.lets_in c.if-not-note_all.false) c.args.turn c.row_all.new.sets c.row_all.new.rows (c.row_all.ensures.elsewhere.one_each ∙ c.fixed_all.ensures.elsewhere.one_each ∙ c.requires.rows)
    (c.row_all.ensures.pinned c.if-not-row_all.false) (c.meets_all.ensures c.if-not-meets_all.false)
    (c.row_all.ensures.goes_on c.if-not-row_all.false (lead_places net c.args.turn sides ++ class_places net c.args.turn sides) classed)
