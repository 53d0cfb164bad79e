-- What a round that stands is made with, when a circuit changes.
use Rattle.std.proofs.Common.{◌≡◌, ◌≢◌, ◌∙◌, inl, inr, ℕ, ◌+◌, ◌<◌, Bool, true, false, not, List, [], ◌∷◌, length, get_or, refl, ap, sym, subst, arith}
use Rattle.std.specs.Prelude.{Option, None, nat_le, ◌==◌, if◌then◌else◌}
use Rattle.std.proofs.lemmas.Bool.{cases_Bool, and_parts, cases_lt}
use Rattle.std.proofs.lemmas.Bool.Decides.{nat_tests}
use Rattle.std.proofs.lemmas.Grind.{same_number_lists}
use Rattle.std.proofs.lemmas.List.{get_or_default}
use Rattle.reo_values.specs.declared.value.Value.{Value}
use Rattle.reo_net_base.specs.declared.joint.Joint.{Joint}
use Rattle.reo_net_base.specs.Behaviour.{Behaviour}
use Rattle.reo_net_base.specs.Net.{Net, Side, all_sides, behaviour_at, mark_at, no_side, row_count}
use Rattle.reo_net_base.specs.Shapes.{SameShapes}
use Rattle.reo_net_base.specs.Sides.{side_count}
use Rattle.reo_net_base.specs.Wired.{IsWired, IsOrder}
use Rattle.reo_net_base.specs.Colouring.{IsColouring, RowsFit}
use Rattle.reo_net_base.proofs.Marks.{flow_cases}
use Rattle.reo_net_circuit.proofs.ReshapeLemmas.{first_same}
use Rattle.reo_net_laws.specs.Jams.{jams}
use Rattle.reo_net_laws.proofs.Jams.{jams_whole}
use Rattle.reo_net_laws.proofs.OneFirst.{one_inside}
use Rattle.reo_net_laws.proofs.Sides.{Owner, owner_of, owner_side}
use Rattle.reo_trace.specs.declared.cells.cells.Cells.{Cells}
use Rattle.reo_trace.specs.cells.Cells.{AreCells, AreShown, code_at}
use Rattle.reo_trace.specs.cells.Texts.{jam_code}
use Rattle.reo_trace.proofs.cells.Laid.{cells_same}
use Rattle.reo_net_laws.specs.Knots.{Knotted, AreKnots, in_knot, knot_count}
use Rattle.reo_flows.specs.flowing.Flowing.{AreFlowingIn, AreFlowingOf}
use Rattle.reo_weights.proofs.still.Together.{parts_make_first}
use Rattle.reo_mark_search.proofs.Parts.{side_here}
use Rattle.reo_weights.proofs.CauseLemmas.{within_not_over}
use Rattle.reo_settling.specs.Plannings.{Kept, AllServe, IsKept, is_settled, ArePlanned, AreFewer, IsElsewhere, part_at}
use Rattle.reo_engine.proofs.Plannings.{told_by_joints, all_served, count_same}
use Rattle.reo_joint_values.specs.Standing.{giver_of, no_joint}
use Rattle.reo_flows.specs.stepping.Clearing.{ComesNoItem}
use Rattle.reo_flows.specs.stepping.Flowing.{AreFlowing}
use Rattle.reo_round.specs.Feeds.{AreFeeds}
use Rattle.reo_round.proofs.FeedLemmas.{feeds_same}
use Rattle.reo_round.specs.Filling.{AreHeldAmong, AreMoving, HaveColouring}
use Rattle.reo_round.proofs.Putting.{giver_flows, others_none}
use Rattle.reo_round.specs.MadeRound.{HaveFirstItems}
use Rattle.reo_round.proofs.Filled.{past_none}
use Rattle.reo_engine.specs.declared.flows.Flows.{Flows}
use Rattle.reo_engine.specs.Flows.{AreFlows, AreKeptShown, AreFlaggedShown, AreShownAt, AreWrittenAt, HasNoSheet, MayBeBlank, MayBeMarks, MayBeRows}
use Rattle.reo_engine.specs.Resting.{part_of}
use Rattle.reo_engine.specs.MadeWithin.{AreRenewed}
use Rattle.reo_engine.proofs.Resting.{in_own}

-- The code of a cell, by its row and how many rows its side has.
abbrev code_by : ℕ → ℕ → ℕ
code_by row count = if (row + 1) == count then jam_code else row

-- A side of a primitive that behaves as before, by the same rows, has the same code.
code_stays : (net other : Net) → SameShapes net.primitives other.primitives → (rows others : List ℕ) → others ≡ rows → (s : ℕ) → (o : Owner net.primitives s)
    → behaviour_at other.primitives o.primitive ≡ behaviour_at net.primitives o.primitive → (code : ℕ) → code ≡ code_at net rows s → code ≡ code_at other others s
code_stays net other shapes rows others same s o alike code shown =
    let there : Owner other.primitives s = record {
      primitive = o.primitive;
      number = o.number;
      primitive_in = omega (arith, o.primitive_in, shapes.count);
      number_in = subst (λ (b : Behaviour). o.number < b.sides) (sym alike) o.number_in;
      place = o.place ∙ ap (λ (first : ℕ). first + o.number) (sym (first_same net.primitives other.primitives shapes o.primitive));
    } in
    let side : get_or (all_sides net.primitives) s no_side ≡ get_or (all_sides other.primitives) s no_side =
    owner_side net.primitives s o no_side ∙ ap (λ (b : Behaviour). record { of = b; number = o.number }) (sym alike) ∙ sym (owner_side other.primitives s there no_side) in
    shown ∙ ap (λ (d : Side). code_by (get_or rows s 0) (row_count d)) side ∙ ap (λ (xs : List ℕ). code_at other xs s) (sym same)

-- A side that shows what it showed, by a row that stayed.
code_kept : (net : Net) (rows others : List ℕ) (s code now : ℕ) → get_or others s 0 ≡ get_or rows s 0 → now ≡ code → code ≡ code_at net rows s → now ≡ code_at net others s
code_kept net rows others s code now row same shown =
    same ∙ shown ∙ ap (λ (r : ℕ). code_by r (row_count (get_or (all_sides net.primitives) s no_side))) (sym row)

-- The sides of a part that is still settled show what they showed.
shown_stay : (net other : Net) (knots : Knotted) (old new : Kept) → AreFewer old new → IsElsewhere net other knots new → (cells : Cells) → AreKeptShown net knots old cells → AreKeptShown other knots new cells
shown_stay net other knots old new fewer is cells shown s s_in settled =
    let here : s < side_count net = omega (arith, s_in, count_same net.primitives other.primitives is.shapes) in
    let o = owner_of net.primitives s here in
    let there : is_settled new (part_at net knots o.primitive o.number) ≡ true = ap (λ (m : ℕ). is_settled new (get_or knots.numbers m 0)) (sym o.place) ∙ settled in
    let same = is.same o.primitive o.number o.primitive_in o.number_in there in
    code_stays net other is.shapes old.rows new.rows fewer.rows s o same (get_or cells.shown s 0) (shown s here (fewer.fewer (part_of knots s) settled))

-- It stays right where fewer parts are settled, and the circuit changes at none that still is.
pub flows_stay : (net other : Net) (knots : Knotted) (old new : Kept) → AreFewer old new → IsElsewhere net other knots new
    → (flows : Flows) → AreFlows net knots old flows → AreFlows other knots new flows
flows_stay net other knots old new fewer is flows are = record {
  blank = subst (λ (js : List Joint). MayBeBlank (length js) flows.blank) (sym is.joints) are.blank;
  rows = subst (λ (rows : List ℕ). MayBeRows rows flows.rows) (sym fewer.rows) are.rows;
  marks = subst (λ (n : ℕ). MayBeMarks n flows.marks) (sym is.shapes.count) are.marks;
  one_each = are.one_each;
  cells = cells_same net other is.shapes flows.cells are.cells;
  shown = λ h. shown_stay net other knots old new fewer is flows.cells (are.shown h);
  feeds = feeds_same net other is.joints is.shapes flows.feeds are.feeds;
}

-- Rows that come in place of those that were kept, all parts settled.
module _ (net : Net) (wired : IsWired net) (order : List ℕ) (is_order : IsOrder net order) (knots : Knotted) (are : AreKnots net knots) (turn : ℕ) (old new : Kept)
    (was : IsKept net knots turn old) (is : IsKept net knots turn new) (settled : (k : ℕ) → k < knot_count knots → is_settled new k ≡ true)
    (flows : Flows) (of : AreFlows net knots old flows) (flags : List Bool) (flagged : AreFlaggedShown flows.shown old (knot_count knots) flags) where
  -- In a part that was settled they are the same.
  rows_same : (k : ℕ) → k < knot_count knots → is_settled old k ≡ true → (s : ℕ) → s < side_count net → in_knot knots.numbers k s ≡ true → get_or new.rows s 0 ≡ get_or old.rows s 0
  rows_same k lt there s s_in h =
      let before = was.known k lt there in
      let now = is.known k lt (settled k lt) in
      let one = one_inside net wired order is_order (in_knot knots.numbers k) (are.are_knots k lt).closed turn before.first.others now.first.others before.first.items now.first.items before.first.first now.first.first in
      now.first.same s s_in h ∙ sym (one.rows s s_in h) ∙ sym (before.first.same s s_in h)

  -- They are shown at each side, once those of parts that are not flagged are.
  pub all_shown : (now : Cells) → AreShownAt net knots new.rows flags (knot_count knots) flows.cells now → AreShown net new.rows now
  all_shown now at s s_in =
      let k : ℕ = part_of knots s in
      let lt : k < knot_count knots = are.numbered.in_range s s_in in
      elim (cases_Bool (get_or flags k false)) [
        | inl flag ↦
            let was_so = flagged.each k flag in
            let row = rows_same k lt was_so.1 s s_in (in_own net knots are s k s_in refl) in
            code_kept net old.rows new.rows s (get_or flows.cells.shown s 0) (get_or now.shown s 0) row (at.others s s_in flag) (of.shown was_so.0 s s_in was_so.1)
        | inr clear ↦ at.here s s_in lt clear
      ]

  -- A list of those that were kept has those that are kept now, once it has them at the sides of the parts that are not flagged.
  pub all_written : (list now : List ℕ) → list ≡ old.rows → AreWrittenAt net knots new.rows flags (knot_count knots) list now → now ≡ new.rows
  all_written list now before written =
      let count : length now ≡ side_count net = written.one_each ∙ ap (λ (xs : List ℕ). length xs) before ∙ was.sizes.one_row in
      same_number_lists now new.rows (count ∙ sym is.sizes.one_row) (λ s lt.
      let s_in : s < side_count net = omega (arith, lt, count) in
      let k : ℕ = part_of knots s in
      let k_in : k < knot_count knots = are.numbered.in_range s s_in in
      elim (cases_Bool (get_or flags k false)) [
        | inl flag ↦ written.at.others s s_in flag ∙ ap (λ (xs : List ℕ). get_or xs s 0) before ∙ sym (rows_same k k_in (flagged.each k flag).1 s s_in (in_own net knots are s k s_in refl))
        | inr clear ↦ written.at.here s s_in k_in clear
      ])

-- Rows that are kept of all parts are those of a first colouring.
pub first_items : (budget : ℕ) (net : Net) → IsWired net → (knots : Knotted) → AreKnots net knots → (turn : ℕ) (rows : List ℕ) → ArePlanned budget net knots turn (knot_count knots) rows → HaveFirstItems net turn rows
first_items budget net wired knots are turn rows planned =
    let joined = parts_make_first net wired knots.numbers (knot_count knots) are.numbered turn rows planned.one_row planned.firsts in
    record { items = joined.items; first = joined.first }

-- After a round the joints that still have an item are among those that flowed.
pub held_among : (net : Net) → IsWired net → (rows : List ℕ) (items now : List (Option Value)) → IsColouring net rows items → (flowing : List ℕ) → AreFlowing net rows flowing → ComesNoItem items now → AreHeldAmong now flowing
held_among net wired rows items now is flowing are none j some =
    let before : get_or items j None ≢ None = λ e. some (none.none j e) in
    elim (cases_lt j (length net.joints)) [
      | inl lt ↦ elim (flow_cases (mark_at net rows (giver_of net j))) [
        | inl flows ↦ are.each j lt (giver_flows net rows j lt flows)
        | inr not ↦ absurd (before (others_none net wired rows items is j lt (λ flows. not (flows no_joint))))
      ]
      | inr past ↦ absurd (before (past_none items j (omega (arith, is.one_each, past))))
    ]

-- Parts that serve are settled.
pub served_settled : (kept : Kept) (budget count : ℕ) → AllServe count budget kept → (k : ℕ) → k < count → is_settled kept k ≡ true
served_settled kept budget count all k lt = (and_parts (nat_le kept.budget budget) (is_settled kept k) (all k lt)).1

-- All parts are renewed where they serve.
pub all_renewed : (budget : ℕ) (net : Net) → IsWired net → (knots : Knotted) → AreKnots net knots → (turn : ℕ) (new : Kept) → IsKept net knots turn new → AllServe (knot_count knots) budget new
    → AreRenewed budget net knots turn new
all_renewed budget net wired knots are turn new is serve =
    let planned = all_served budget net knots are turn new is serve new.rows refl in
    record {
      serve = serve;
      within = within_not_over budget net wired knots.numbers (knot_count knots) are.numbered planned.within;
      first = first_items budget net wired knots are turn new.rows planned;
    }

-- What is told of all parts is told of those that pass a test.
pub told_by_test : (net : Net) (knots : Knotted) (rows : List ℕ) (lists : List (List ℕ)) → AreFlowingIn net knots rows (λ _. true) lists → (test : ℕ → Bool) → AreFlowingIn net knots rows test lists
told_by_test net knots rows lists are test = record { one_each = are.one_each; each = λ k lt _. are.each k lt refl }

-- What is told of settled parts is told of all where all serve.
pub told_of_all : (net : Net) (knots : Knotted) (kept : Kept) (budget : ℕ) → AllServe (knot_count knots) budget kept → (lists : List (List ℕ)) → AreFlowingIn net knots kept.rows (is_settled kept) lists
    → AreFlowingIn net knots kept.rows (λ _. true) lists
told_of_all net knots kept budget serve lists are = record { one_each = are.one_each; each = λ k lt _. are.each k lt (served_settled kept budget (knot_count knots) serve k lt) }

-- Joints are listed only for parts in which something flows by the rows that are kept.
pub lists_moving : (net : Net) → IsWired net → (knots : Knotted) → AreKnots net knots → (turn : ℕ) (kept : Kept) → IsKept net knots turn kept → RowsFit net kept.rows → ((k : ℕ) → k < knot_count knots → is_settled kept k ≡ true)
    → (lists : List (List ℕ)) → AreFlowingIn net knots kept.rows (λ _. true) lists → AreMoving (knot_count knots) kept.moving lists
lists_moving net wired knots are turn kept is fit settled lists flowing = record {
  one_each = is.sizes.one_mark;
  none = λ k lt clear.
      let inside : ℕ → Bool = in_knot knots.numbers k in
      let marked : k < length kept.moving = omega (arith, lt, is.sizes.one_mark) in
      let still = (is.known k lt (settled k lt)).still (get_or_default kept.moving k true false marked ∙ clear) in
      elim (get_or lists k []) as (λ (xs : List ℕ). AreFlowingOf net inside kept.rows xs → xs ≡ []) [
        | [] ↦ λ of. refl
        | x ∷ xs ↦ λ of. absurd (
            let told = told_by_joints net wired inside (are.are_knots k lt).closed kept.rows fit (x ∷ xs) of (length (x ∷ xs) == 0) refl in
            let at = told.flows (some_long x xs) in
            still at.end at.is_end at.here at.flows)
      ] (flowing.each k lt refl);
}
  where
    some_long : (x : ℕ) (xs : List ℕ) → not (length (x ∷ xs) == 0) ≡ true
    some_long x xs = grind (arith, nat_tests)

-- What a round is made with stays right where nothing is shown.
pub flows_unshown : (net : Net) (knots : Knotted) (old new : Kept) (flows : Flows) (flags : List Bool) (list : Option (List ℕ)) → AreFlows net knots old flows → length flags ≡ length flows.shown_parts
    → MayBeRows new.rows list → AreFlows net knots new (record flows { rows = list; shown_parts = flags; shown = false })
flows_unshown net knots old new flows flags list are count rows = record {
  blank = are.blank;
  rows = rows;
  marks = are.marks;
  one_each = count ∙ are.one_each;
  cells = are.cells;
  shown = λ e. absurd cc;
  feeds = are.feeds;
}

-- And where all is shown.
pub flows_shown : (net : Net) (knots : Knotted) (old new : Kept) (flows : Flows) (flags : List Bool) (list : Option (List ℕ)) (now : Cells) → AreFlows net knots old flows → length flags ≡ length flows.shown_parts
    → MayBeRows new.rows list → AreCells net now → AreShown net new.rows now → AreFlows net knots new (record flows { rows = list; shown_parts = flags; cells = now; shown = true })
flows_shown net knots old new flows flags list now are count rows cells shown = record {
  blank = are.blank;
  rows = rows;
  marks = are.marks;
  one_each = count ∙ are.one_each;
  cells = cells;
  shown = λ e s s_in settled. shown s s_in;
  feeds = are.feeds;
}

-- And without a sheet.
pub flows_taken : (net : Net) (knots : Knotted) (kept : Kept) (old new : Flows) → AreFlows net knots kept old → HasNoSheet old new → AreFlows net knots kept new
flows_taken net knots kept old new are none = record {
  blank = subst (MayBeBlank (length net.joints)) (sym none.blank) tt;
  rows = none.rows kept.rows are.rows;
  marks = none.marks (length net.primitives) are.marks;
  one_each = ap (λ (xs : List Bool). length xs) none.shown_parts ∙ are.one_each;
  cells = subst (AreCells net) (sym none.cells) are.cells;
  shown = λ e. subst (AreKeptShown net knots kept) (sym none.cells) (are.shown (sym none.shown ∙ e));
  feeds = subst (AreFeeds net) (sym none.feeds) are.feeds;
}

-- And with any text.
pub flows_texted : (net : Net) (knots : Knotted) (kept : Kept) (flows : Flows) (text : List ℕ) → AreFlows net knots kept flows → AreFlows net knots kept (record flows { text = text })
flows_texted net knots kept flows text are = record { blank = are.blank; rows = are.rows; marks = are.marks; one_each = are.one_each; cells = are.cells; shown = are.shown; feeds = are.feeds }

-- Where the first side of a part has no jam row none has.
pub jams_as_first : (net : Net) → IsWired net → (knots : Knotted) → AreKnots net knots → (rows : List ℕ) → HaveColouring net rows → (k : ℕ) → k < knot_count knots → (sides : List ℕ) → sides ≡ get_or knots.sides k []
    → jams net rows (get_or sides 0 0) ≡ false → (m : ℕ) → m < length sides → jams net rows (get_or sides m 0) ≡ false
jams_as_first net wired knots are rows coloured k lt sides is calm m m_in =
    jams_whole net wired rows coloured.items coloured.colouring (get_or sides m 0) (get_or sides 0 0)
    ((are.are_knots k lt).joined (get_or sides m 0) (get_or sides 0 0) (side_here net knots are k lt sides is m m_in) (side_here net knots are k lt sides is 0 (omega arith)))
    ∙ calm
