use Rattle.std.proofs.Common.{◌≡◌, ◌∙◌, ◌<◌, ℕ, List, [], length, get_or, sym, subst, arith}
use Rattle.std.proofs.lemmas.List.{get_or_default}
use Rattle.reo_net_base.specs.Net.{Net, net_of}
use Rattle.reo_rows.specs.declared.groups.Group.{Group}
use Rattle.reo_rows.specs.declared.rows.Rows.{Rows}
use Rattle.reo_rows.specs.Sets.{family_of}
use Rattle.reo_rows.specs.Rows.{AreTables}
use Rattle.reo_rows.specs.Sparing.{CanSpare, GroupsHave}
use Rattle.reo_rows.proofs.Spared.{spared}
use Rattle.reo_rows.proofs.standing.can_stay.Goals.{else-groups_have-via-then-groups_have+else-can_spare, else-groups_have-via-else-groups_have}
use Rattle.reo_rows.proofs.standing.can_stay.Goals as goal

pub returns-then-can_spare-clause-yes : goal.returns-then-can_spare-clause-yes
returns-then-can_spare-clause-yes g c = λ h.
    let net : Net = net_of g.P.Primitive.behaviour c.args.basis.now.circuit.now in
    let side : ℕ = c.args.side in
    let lt : side < length c.args.rows.now.notes = omega (arith, c.requires.tables.noted, c.requires.side) in
    let notes : c.at-notes.result.now ≡ get_or c.args.rows.now.notes side [] = c.at-notes.ensures ∙ get_or_default c.args.rows.now.notes side c.at-notes.result.now [] lt in
    spared net c.known.ensures.wired (family_of c.args.alive.now) c.args.basis.now.items.now side c.args.joint c.requires.side c.requires.joint c.marks_left-marks.result c.marks_left-marks.ensures c.args.rows.now c.requires.tables c.requires.noted
    c.apart_there-apart.result.now c.apart_there-apart.ensures c.clear_lacking.new.live c.clear_lacking.ensures.cleared
    (subst (λ (l : List Group). GroupsHave net l side c.args.joint c.marks_left-marks.result) notes (c.groups_have.ensures.0 c.if-groups_have.true))
    (subst (λ (l : List Group). CanSpare net c.args.rows.now.live l side c.args.joint c.marks_left-marks.result c.apart_there-apart.result.now) notes (c.can_spare.ensures.0 c.if-can_spare.true))

pub returns-clause-tables : goal.returns-clause-tables
returns-clause-tables g c =
    let tables : Rows → Type 0 = λ rows. AreTables (net_of g.P.Primitive.behaviour c.args.basis.now.circuit.now) c.args.basis.now.items.now rows in
    elim c.else-groups_have.branch [
      | else-groups_have-via-then-groups_have+else-can_spare w ↦ subst tables (sym w.rows-is) c.requires.tables
      | else-groups_have-via-else-groups_have w ↦ subst tables (sym w.rows-is) c.requires.tables
    ]
