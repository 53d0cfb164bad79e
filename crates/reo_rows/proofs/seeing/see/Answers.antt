use Rattle.std.proofs.Common.{◌≡◌, ◌<◌, ◌≤◌, ℕ, false, List, [], length, get_or, refl, sym, subst, arith}
use Rattle.reo_net_base.specs.Net.{Net, net_of, no_side}
use Rattle.reo_joint_values.specs.Values.{Names, Family}
use Rattle.reo_side_tables.specs.Marks.{IsJointOf}
use Rattle.reo_rows.specs.RowFlags.{flag}
use Rattle.reo_rows.specs.Seeing.{LiveRowUse}
use Rattle.reo_rows.specs.Sets.{family_of, names_of}
use Rattle.reo_rows.proofs.Reading.{board_is}
use Rattle.reo_rows.proofs.Union.{seen_more}
use Rattle.reo_rows.proofs.Used.{seen_side, seen_tables}
use Rattle.reo_rows.proofs.seeing.see.Goals as goal

pub loop-row-preserved : goal.loop-row-preserved
loop-row-preserved g c =
    let net : Net = net_of g.P.Primitive.behaviour c.args.basis.now.circuit.now in
    let names : Names = names_of c.args.basis.now.items.now in
    let family : Family = family_of c.args.alive.now in
    record {
      tables = seen_tables net c.args.basis.now.items.now c.loop-row.rows (record { live = c.loop-row.rows.live; notes = c.loop-row.rows.notes; seen = c.see_live.new.seen; odds = c.loop-row.rows.odds; fits = c.loop-row.rows.fits })
          c.loop-row.invariant.tables refl refl c.see_live.ensures.alike;
      live = c.loop-row.invariant.live;
      notes = c.loop-row.invariant.notes;
      seen = seen_more (LiveRowUse net names family c.loop-row.rows.live c.args.side) c.loop-row.row c.unsee_all.new.seen c.loop-row.rows.seen c.see_live.new.seen c.loop-row.invariant.seen c.see_live.ensures;
    }

pub returns-clause-seen : goal.returns-clause-seen
returns-clause-seen g c =
    let net : Net = net_of g.P.Primitive.behaviour c.args.basis.now.circuit.now in
    let board = board_is net c.args.basis.now.boards.now c.requires.ready.boards_are c.args.side c.requires.side c.at.result.now c.at.ensures in
    let none : (j code : ℕ) → IsJointOf net c.args.side j → 4 ≤ code → flag c.unsee_all.new.seen j code ≡ false = λ j code of flows.
    let stands = subst (λ (l : List ℕ). (m : ℕ) × (m < length l) × (get_or l m 0 ≡ j)) (sym c.as_slice.ensures) (board.joints.whole j of) in
    subst (λ (k : ℕ). flag c.unsee_all.new.seen k code ≡ false) stands.2 (c.unsee_all.ensures.here stands.0 code stands.1 flows) in
    let all : length (get_or c.loop-row.rows.live c.args.side []) ≤ c.loop-row.row = omega (arith, c.loop-row.invariant.tables.width c.args.side c.requires.side, c.rows-row-end.ensures.count no_side) in
    seen_side net (names_of c.args.basis.now.items.now) (family_of c.args.alive.now) c.args.side c.loop-row.row c.unsee_all.new.seen c.loop-row.rows none all c.loop-row.invariant.seen
