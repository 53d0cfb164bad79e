use Rattle.std.proofs.Common.{◌≡◌, ◌∙◌, ℕ, ◌+◌, ◌<◌, ◌≤◌, List, [], length, sym, ap, subst, arith}
use Rattle.std.specs.List.{flat_map, range_with_len}
use Rattle.std.proofs.lemmas.List.{get_or_default}
use Rattle.reo_values.specs.declared.value.Value.{Value}
use Rattle.reo_net_base.specs.Ends.{IsGiver}
use Rattle.reo_net_base.specs.declared.joint.End.{End}
use Rattle.reo_net_base.specs.declared.joint.Joint.{Joint}
use Rattle.reo_net_base.specs.Net.{Net, net_of}
use Rattle.reo_joint_values.specs.Standing.{no_joint, giver_of}
use Rattle.reo_joint_values.proofs.StandLemmas.{giver_gives}
use Rattle.reo_refute_base.specs.Items.{Lists, items_at, given_by, plain_rows}
use Rattle.reo_refute_parts.specs.lists.Given.{given_at}
use Rattle.reo_refute_parts.specs.lists.Noted.{IsNoted}
use Rattle.reo_refute_parts.proofs.lists.NotedLemmas.{noted_none_yet, noted_row}
use Rattle.reo_refute_parts.proofs.lists.VisitLemmas.{many_found, new_found}
use Rattle.reo_refute_parts.proofs.lists.visits.new_items.Goals as goal

pub plain_rows-row-end-requires : goal.plain_rows-row-end-requires
plain_rows-row-end-requires g c =
    let net : Net = net_of g.P.Primitive.behaviour c.args.circuit.now in
    subst (λ (e : End). IsGiver net e) (ap (λ (j : Joint). j.giver) (c.joint.ensures no_joint)) (giver_gives net c.known.ensures.wired c.args.joint c.requires.joint)

pub loop-row-init : goal.loop-row-init
loop-row-init g c =
    let net : Net = net_of g.P.Primitive.behaviour c.args.circuit.now in
    let lists : Lists = c.args.lists.now in
    let joint : ℕ = c.args.joint in
    let lt : joint < length lists = omega (arith, c.requires.joint, c.requires.lists.one_each) in
    let old : c.as_slice-old.result.now ≡ items_at lists joint = c.as_slice-old.ensures ∙ c.index-lists-joint.is ∙ get_or_default lists joint c.index-lists-joint.result [] lt in
    let room : length c.as_slice-old.result.now ≤ 256 = omega (arith, ap (λ (l : List Value). length l) old, c.requires.lists.few joint) in
    record {
      noted = subst (λ (l : List Value). IsNoted c.as_slice-old.result.now [] [] l) (sym c.new-new.ensures) (noted_none_yet c.as_slice-old.result.now []);
      few = omega (arith, room, ap (λ (l : List Value). length l) c.new-new.ensures);
    }

pub note_row-requires-clause-giver : goal.note_row-requires-clause-giver
note_row-requires-clause-giver g c =
    let net : Net = net_of g.P.Primitive.behaviour c.args.circuit.now in
    subst (λ (e : End). IsGiver net e) (ap (λ (j : Joint). j.giver) (c.joint.ensures no_joint)) (giver_gives net c.known.ensures.wired c.args.joint c.requires.joint)

pub loop-row-preserved : goal.loop-row-preserved
loop-row-preserved g c =
    let net : Net = net_of g.P.Primitive.behaviour c.args.circuit.now in
    let lists : Lists = c.args.lists.now in
    let joint : ℕ = c.args.joint in
    let lt : joint < length lists = omega (arith, c.requires.joint, c.requires.lists.one_each) in
    let old : c.as_slice-old.result.now ≡ items_at lists joint = c.as_slice-old.ensures ∙ c.index-lists-joint.is ∙ get_or_default lists joint c.index-lists-joint.result [] lt in
    let room : length c.as_slice-old.result.now ≤ 256 = omega (arith, ap (λ (l : List Value). length l) old, c.requires.lists.few joint) in
    let given : c.joint.result.giver ≡ giver_of net joint = ap (λ (j : Joint). j.giver) (sym (c.joint.ensures no_joint)) in
    let count : c.plain_rows-row-end.result ≡ plain_rows net c.joint.result.giver = omega (arith, c.plain_rows-row-end.ensures) in
    let plain : c.plain_rows-row-end.result ≡ plain_rows net (giver_of net joint) = count ∙ ap (plain_rows net) given in
    let next : IsNoted c.as_slice-old.result.now c.loop-row.new (given_by net lists joint c.loop-row.row) c.note_row.new.new =
    subst (λ (e : End). IsNoted c.as_slice-old.result.now c.loop-row.new (given_at net lists e c.loop-row.row) c.note_row.new.new) given c.in_ok-note_row.ensures in
    let noted = noted_row (given_by net lists joint) c.loop-row.row c.as_slice-old.result.now [] c.loop-row.new c.note_row.new.new c.loop-row.invariant.noted next in
    record {
      noted = noted;
      few = omega (arith, room, c.if-len-old.false, c.len.ensures);
    }

pub returns-then-len-old : goal.returns-then-len-old
returns-then-len-old g c =
    let net : Net = net_of g.P.Primitive.behaviour c.args.circuit.now in
    let lists : Lists = c.args.lists.now in
    let joint : ℕ = c.args.joint in
    let lt : joint < length lists = omega (arith, c.requires.joint, c.requires.lists.one_each) in
    let old : c.as_slice-old.result.now ≡ items_at lists joint = c.as_slice-old.ensures ∙ c.index-lists-joint.is ∙ get_or_default lists joint c.index-lists-joint.result [] lt in
    let room : length c.as_slice-old.result.now ≤ 256 = omega (arith, ap (λ (l : List Value). length l) old, c.requires.lists.few joint) in
    let given : c.joint.result.giver ≡ giver_of net joint = ap (λ (j : Joint). j.giver) (sym (c.joint.ensures no_joint)) in
    let count : c.plain_rows-row-end.result ≡ plain_rows net c.joint.result.giver = omega (arith, c.plain_rows-row-end.ensures) in
    let plain : c.plain_rows-row-end.result ≡ plain_rows net (giver_of net joint) = count ∙ ap (plain_rows net) given in
    let next : IsNoted c.as_slice-old.result.now c.loop-row.new (given_by net lists joint c.loop-row.row) c.note_row.new.new =
    subst (λ (e : End). IsNoted c.as_slice-old.result.now c.loop-row.new (given_at net lists e c.loop-row.row) c.note_row.new.new) given c.in_ok-note_row.ensures in
    let noted = noted_row (given_by net lists joint) c.loop-row.row c.as_slice-old.result.now [] c.loop-row.new c.note_row.new.new c.loop-row.invariant.noted next in
    let whole : IsNoted (items_at lists joint) [] (flat_map (given_by net lists joint) (range_with_len 0 (c.loop-row.row + 1))) c.note_row.new.new =
    subst (λ (l : List Value). IsNoted l [] (flat_map (given_by net lists joint) (range_with_len 0 (c.loop-row.row + 1))) c.note_row.new.new) old noted in
    many_found net lists c.requires.lists joint c.requires.joint (c.loop-row.row + 1) c.note_row.new.new (omega (arith, plain, c.loop-row-test.true)) whole
    (omega (arith, room, c.if-len-old.true, c.len.ensures, ap (λ (l : List Value). length l) old))

pub returns : goal.returns
returns g c =
    let net : Net = net_of g.P.Primitive.behaviour c.args.circuit.now in
    let lists : Lists = c.args.lists.now in
    let joint : ℕ = c.args.joint in
    let lt : joint < length lists = omega (arith, c.requires.joint, c.requires.lists.one_each) in
    let old : c.as_slice-old.result.now ≡ items_at lists joint = c.as_slice-old.ensures ∙ c.index-lists-joint.is ∙ get_or_default lists joint c.index-lists-joint.result [] lt in
    let room : length c.as_slice-old.result.now ≤ 256 = omega (arith, ap (λ (l : List Value). length l) old, c.requires.lists.few joint) in
    let given : c.joint.result.giver ≡ giver_of net joint = ap (λ (j : Joint). j.giver) (sym (c.joint.ensures no_joint)) in
    let count : c.plain_rows-row-end.result ≡ plain_rows net c.joint.result.giver = omega (arith, c.plain_rows-row-end.ensures) in
    let plain : c.plain_rows-row-end.result ≡ plain_rows net (giver_of net joint) = count ∙ ap (plain_rows net) given in
    let whole : IsNoted (items_at lists joint) [] (flat_map (given_by net lists joint) (range_with_len 0 c.loop-row.row)) c.loop-row.new =
    subst (λ (l : List Value). IsNoted l [] (flat_map (given_by net lists joint) (range_with_len 0 c.loop-row.row)) c.loop-row.new) old c.loop-row.invariant.noted in
    new_found net lists c.requires.lists joint c.requires.joint c.loop-row.row c.loop-row.new (omega (arith, plain)) whole
    (omega (arith, c.loop-row.invariant.few, ap (λ (l : List Value). length l) old))
