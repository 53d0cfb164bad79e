use Rattle.std.proofs.Common.{◌≡◌, ◌≢◌, ◌↔◌, ◌∙◌, ◌<◌, ℕ, List, [], length, get_or, ap, sym, subst, arith}
use Rattle.std.specs.Prelude.{IsTrue}
use Rattle.std.proofs.lemmas.List.{get_or_default}
use Rattle.reo_net_base.specs.Net.{Net, net_of}
use Rattle.reo_net_base.specs.Sides.{side_count}
use Rattle.reo_joint_values.proofs.Inside.{side_below}
use Rattle.reo_refute_base.specs.Items.{numbered}
use Rattle.reo_refute_base.specs.Live.{alone, HasSupport}
use Rattle.reo_refute_parts.specs.places.AllowedRows.{AreBytes, AreMarked}
use Rattle.reo_refute_live.specs.Judged.{allowed_in}
use Rattle.reo_refute_live.specs.support.Families.{family_of}
use Rattle.reo_refute_live.specs.support.Flows.{MarksStand, StandingRow}
use Rattle.reo_refute_live.specs.support.Columns.{AreColumns}
use Rattle.reo_refute_live.proofs.support.Reading.{front_is}
use Rattle.reo_refute_live.proofs.support.Supporting.{support_by_bytes}
use Rattle.reo_refute_live.proofs.support.support.has_support.Goals as goal

pub at-requires : goal.at-requires
at-requires g c =
    let net : Net = net_of g.P.Primitive.behaviour c.args.judged.now.circuit.now in
    omega (arith, side_below net c.known.ensures.wired c.args.joint c.args.side c.requires.joint c.requires.at, c.requires.judged.tables.one_each)

pub rows-requires : goal.rows-requires
rows-requires g c =
    let net : Net = net_of g.P.Primitive.behaviour c.args.judged.now.circuit.now in
    omega (arith, side_below net c.known.ensures.wired c.args.joint c.args.side c.requires.joint c.requires.at, c.requires.judged.allowed.agreeing.one_each)

pub keep_fitting-requires-clause-ready : goal.keep_fitting-requires-clause-ready
keep_fitting-requires-clause-ready g c =
    let net : Net = net_of g.P.Primitive.behaviour c.args.judged.now.circuit.now in
    let lt : c.args.side < side_count net = side_below net c.known.ensures.wired c.args.joint c.args.side c.requires.joint c.requires.at in
    let is : c.as_slice.result.now ≡ get_or c.args.judged.now.tables.now c.args.side [] = c.as_slice.ensures ∙ c.at.ensures ∙ get_or_default c.args.judged.now.tables.now c.args.side c.at.result.now [] (omega (arith, lt, c.requires.judged.tables.one_each)) in
    record { supply = c.requires.judged.supply; columns_are = subst (AreColumns net c.args.side) (sym is) (c.requires.judged.tables.columns c.args.side lt); live_are = c.requires.live }

pub some_stands-requires-clause-ready : goal.some_stands-requires-clause-ready
some_stands-requires-clause-ready g c =
    let net : Net = net_of g.P.Primitive.behaviour c.args.judged.now.circuit.now in
    let lt : c.args.side < side_count net = side_below net c.known.ensures.wired c.args.joint c.args.side c.requires.joint c.requires.at in
    let is : c.as_slice.result.now ≡ get_or c.args.judged.now.tables.now c.args.side [] = c.as_slice.ensures ∙ c.at.ensures ∙ get_or_default c.args.judged.now.tables.now c.args.side c.at.result.now [] (omega (arith, lt, c.requires.judged.tables.one_each)) in
    record { supply = c.requires.judged.supply; columns_are = subst (AreColumns net c.args.side) (sym is) (c.requires.judged.tables.columns c.args.side lt); live_are = c.requires.live }

pub keep_fitting-requires-clause-rows : goal.keep_fitting-requires-clause-rows
keep_fitting-requires-clause-rows g c =
    let net : Net = net_of g.P.Primitive.behaviour c.args.judged.now.circuit.now in
    let bytes : AreBytes net c.args.side (allowed_in net c.args.judged.now c.args.side) c.rows.result.now = c.rows.ensures net c.args.judged.now.turn c.args.judged.now.given.now c.args.judged.now.number c.requires.judged.allowed in
    let copy : c.deref_mut.result.now ≡ c.rows.result.now = c.deref_mut.ensures.value ∙ c.in_ok-copy_bytes.ensures in
    λ d. ap (λ (l : List ℕ). length l) copy ∙ (bytes d).one_each

pub some_stands-requires-clause-rows : goal.some_stands-requires-clause-rows
some_stands-requires-clause-rows g c =
    let net : Net = net_of g.P.Primitive.behaviour c.args.judged.now.circuit.now in
    let bytes : AreBytes net c.args.side (allowed_in net c.args.judged.now c.args.side) c.rows.result.now = c.rows.ensures net c.args.judged.now.turn c.args.judged.now.given.now c.args.judged.now.number c.requires.judged.allowed in
    let copy : c.deref_mut.result.now ≡ c.rows.result.now = c.deref_mut.ensures.value ∙ c.in_ok-copy_bytes.ensures in
    let long : length c.keep_fitting.new.rows ≡ length c.deref_mut.result.now = c.keep_fitting.ensures.one_each in
    let rows : c.deref.result.now ≡ c.keep_fitting.new.rows = c.deref.ensures.value ∙ front_is c.copy_bytes.new.copy.len c.keep_fitting.new.rows _ (omega (arith, long, c.deref_mut.ensures.len)) in
    λ d. ap (λ (l : List ℕ). length l) rows ∙ long ∙ ap (λ (l : List ℕ). length l) copy ∙ (bytes d).one_each

pub returns : goal.returns
returns g c =
    let net : Net = net_of g.P.Primitive.behaviour c.args.judged.now.circuit.now in
    let lt : c.args.side < side_count net = side_below net c.known.ensures.wired c.args.joint c.args.side c.requires.joint c.requires.at in
    let is : c.as_slice.result.now ≡ get_or c.args.judged.now.tables.now c.args.side [] = c.as_slice.ensures ∙ c.at.ensures ∙ get_or_default c.args.judged.now.tables.now c.args.side c.at.result.now [] (omega (arith, lt, c.requires.judged.tables.one_each)) in
    let are : AreColumns net c.args.side c.as_slice.result.now = subst (AreColumns net c.args.side) (sym is) (c.requires.judged.tables.columns c.args.side lt) in
    let bytes : AreBytes net c.args.side (allowed_in net c.args.judged.now c.args.side) c.rows.result.now = c.rows.ensures net c.args.judged.now.turn c.args.judged.now.given.now c.args.judged.now.number c.requires.judged.allowed in
    let copy : c.deref_mut.result.now ≡ c.rows.result.now = c.deref_mut.ensures.value ∙ c.in_ok-copy_bytes.ensures in
    let long : length c.keep_fitting.new.rows ≡ length c.deref_mut.result.now = c.keep_fitting.ensures.one_each in
    let rows : c.deref.result.now ≡ c.keep_fitting.new.rows = c.deref.ensures.value ∙ front_is c.copy_bytes.new.copy.len c.keep_fitting.new.rows _ (omega (arith, long, c.deref_mut.ensures.len)) in
    let kept = subst (λ (l : List ℕ). AreMarked (length l) (λ row. (get_or l row 0 ≢ 0) × MarksStand net (alone (family_of c.args.live.now) c.args.joint c.args.value) row c.as_slice.result.now) c.keep_fitting.new.rows) copy c.keep_fitting.ensures in
    let both = support_by_bytes c.support_is_by_rows.ensures net c.known.ensures.wired c.args.judged.now.turn c.args.judged.now.given.now c.args.judged.now.number (numbered c.args.judged.now.lists.now) (family_of c.args.live.now) c.args.side c.args.joint c.args.value c.requires.joint c.requires.at c.requires.is_live
    c.as_slice.result.now are c.rows.result.now c.keep_fitting.new.rows bytes kept in
    subst (λ (l : List ℕ). (IsTrue c.some_stands.result ↔ StandingRow net (numbered c.args.judged.now.lists.now) (alone (family_of c.args.live.now) c.args.joint c.args.value) c.args.side c.as_slice.result.now l)
    → (IsTrue c.some_stands.result ↔ HasSupport net (numbered c.args.judged.now.lists.now) (allowed_in net c.args.judged.now) (family_of c.args.live.now) c.args.side c.args.joint c.args.value)) (sym rows)
    (λ e. (λ t. both.0 (e.0 t), λ h. e.1 (both.1 h))) c.some_stands.ensures
