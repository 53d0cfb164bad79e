use Rattle.std.proofs.Common.{ℕ, List}
use Rattle.reo_net_base.specs.Net.{Net, net_of}
use Rattle.reo_search_tables.specs.declared.tables.SearchTables.{SearchTables}
use Rattle.reo_search_tables.proofs.Renewed.{on_ok}
use Rattle.reo_search_tables.proofs.RenewedSides.{joints_stay, sides_stay, apart_joints, apart_sides, all_right}
use Rattle.reo_search_tables.proofs.renewing.renew.Goals as goal

pub returns-in_err-renew_joints-clause-others : goal.returns-in_err-renew_joints-clause-others
returns-in_err-renew_joints-clause-others g c other closed apart right =
    let net : Net = net_of g.P.Primitive.behaviour c.args.circuit.now in
    joints_stay net other c.known.ensures.wired closed c.args.joints.now c.args.tables.now c.renew_joints.new.tables c.requires.room c.renew_joints.ensures.only
    (apart_joints net c.args.sides.now c.args.joints.now other c.requires.joints apart) right

pub returns-clause-right : goal.returns-clause-right
returns-clause-right g c =
    let net : Net = net_of g.P.Primitive.behaviour c.args.circuit.now in
    on_ok c.renew_sides.result c.renew_sides.ensures.right
    (λ sides. all_right net c.args.sides.now c.args.joints.now c.renew_joints.new.tables c.renew_sides.new.tables c.requires.joints c.in_ok-renew_joints.ensures.right c.renew_sides.ensures.only sides)

pub returns-clause-others : goal.returns-clause-others
returns-clause-others g c other closed apart right =
    let net : Net = net_of g.P.Primitive.behaviour c.args.circuit.now in
    let sides : List ℕ = c.args.sides.now in
    let joints : List ℕ = c.args.joints.now in
    let mid : SearchTables = c.renew_joints.new.tables in
    sides_stay net other sides mid c.renew_sides.new.tables c.renew_joints.ensures.room c.renew_sides.ensures.only (apart_sides sides other apart)
    (joints_stay net other c.known.ensures.wired closed joints c.args.tables.now mid c.requires.room c.renew_joints.ensures.only (apart_joints net sides joints other c.requires.joints apart) right)
