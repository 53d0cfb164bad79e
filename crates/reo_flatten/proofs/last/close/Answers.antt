-- What the program unfolds to has no fault but a cycle.
use Rattle.std.proofs.Common.{arith, zero, suc, ◌<◌, Bool, ◌≡◌, ◌∙◌, ℕ, List, [], ◌∷◌, length, true, false, inl, inr, refl, sym, ap, subst, slice_index, slice_index_or}
use Rattle.std.proofs.lemmas.List.{length-map}
use Rattle.reo_net_base.specs.declared.joint.Joint.{Joint}
use Rattle.reo_net_base.specs.Net.{Net, net_of, end_of, side_at, from_sides, to_sides}
use Rattle.reo_net_base.specs.Wired.{ArePorts, IsLeastOnCycle, NoCycle}
use Rattle.reo_net_circuit.specs.Parts.{wiring_of, AreJoints}
use Rattle.reo_net_circuit.specs.Fault.{AllJoined, AllRight, IsEndsFault, IsWayFault, IsNetFault}
use Rattle.reo_kinds.specs.declared.kind.Kind.{Kind}
use Rattle.reo_kinds.specs.Kinds.{behaviour_of}
use Rattle.reo_trees.specs.declared.programs.Declaration.{Declaration}
use Rattle.reo_flat.specs.Flat.{primitives_of, ports_of, joints_in, nodes_of, homes_in, net_of_program}
use Rattle.reo_flatten.proofs.last.close.Goals as goal

same_net : (ds : List Declaration) (ks : List Kind) (n : ℕ) (js : List Joint) → ks ≡ primitives_of ds → n ≡ length (ports_of ds) → js ≡ joints_in ds → net_of behaviour_of (wiring_of ks n js) ≡ net_of_program ds
same_net ds ks n js kinds ports joints = λ i. net_of behaviour_of (wiring_of (kinds i) (ports i) (joints i))

no_loose : (net : Net) (i : ℕ) → AllJoined net → IsEndsFault net i → ⊥
no_loose net i joined fault = fault.loose.not_joined (joined i fault.in_range fault.loose.end fault.loose.is_end)

no_wrong : (net : Net) (j : ℕ) → AllRight net → IsWayFault net j → ⊥
no_wrong net j right fault =
    elim (fault.wrong none) [ inl takes ↦ differ (right j none fault.in_range).gives takes | inr gives ↦ differ gives (right j none fault.in_range).takes ] where
      none : Joint
      none = record { giver = end_of 0 0; taker = end_of 0 0 }

      differ : {b : Bool} → b ≡ false → b ≡ true → ⊥
      differ fails holds = cc

other_default : {X : Type 0} (xs : List X) (i : ℕ) (d e : X) → i < length xs → slice_index_or xs i d ≡ slice_index_or xs i e
other_default [] i d e below = absurd (omega arith)
other_default (x ∷ xs) zero d e below = refl
other_default (x ∷ xs) (suc i) d e below = other_default xs i d e (omega arith)

pub new-requires-clause-few_primitives : goal.new-requires-clause-few_primitives
new-requires-clause-few_primitives c =
    let small = (c.circuits_are_small.ensures c.args.program.now.declarations c.requires.names c.requires.no_break).1 in
    let same = ap length c.requires.parts.kinds in
    omega arith

pub new-requires-clause-few_joints : goal.new-requires-clause-few_joints
new-requires-clause-few_joints c =
    let small = (c.circuits_are_small.ensures c.args.program.now.declarations c.requires.names c.requires.no_break).0 in
    let same = ap length c.requires.parts.joints in
    omega arith

pub new-requires-clause-ports : goal.new-requires-clause-ports
new-requires-clause-ports c =
    let ds = c.args.program.now.declarations in
    let made = c.circuits_are_made.ensures ds c.requires.names c.requires.no_break in
    let net = same_net ds c.args.parts.kinds c.len-count.result c.args.parts.joints c.requires.parts.kinds (c.len-count.ensures ∙ ap length c.requires.parts.ports) c.requires.parts.joints in
    subst (λ (w : Net). ArePorts w.primitives c.len-count.result) (sym net) (subst (ArePorts (net_of_program ds).primitives) (sym (c.len-count.ensures ∙ ap length c.requires.parts.ports)) made.ports)

pub new-requires-clause-joints : goal.new-requires-clause-joints
new-requires-clause-joints c =
    let ds = c.args.program.now.declarations in
    let made = c.circuits_are_made.ensures ds c.requires.names c.requires.no_break in
    subst AreJoints (sym (same_net ds c.args.parts.kinds c.len-count.result c.args.parts.joints c.requires.parts.kinds (c.len-count.ensures ∙ ap length c.requires.parts.ports) c.requires.parts.joints)) made.ends

pub returns-in-Ok-clause-exact : goal.returns-in-Ok-clause-exact
returns-in-Ok-clause-exact c =
    let ds = c.args.program.now.declarations in
    let net = same_net ds c.args.parts.kinds c.len-count.result c.args.parts.joints c.requires.parts.kinds (c.len-count.ensures ∙ ap length c.requires.parts.ports) c.requires.parts.joints in
    record { no_break = c.requires.no_break; no_cycle = subst (λ (w : Net). NoCycle (from_sides w) (to_sides w)) net c.in-Ok.ensures.exact.no_cycle }

pub returns-in-Ok-copy-clause-exact : goal.returns-in-Ok-copy-clause-exact
returns-in-Ok-copy-clause-exact c =
    let ds = c.args.program.now.declarations in
    let joint = c.in-Err-Cycle.joint in
    let net = same_net ds c.args.parts.kinds c.len-count.result c.args.parts.joints c.requires.parts.kinds (c.len-count.ensures ∙ ap length c.requires.parts.ports) c.requires.parts.joints in
    let fault = subst (IsNetFault (net_of behaviour_of (wiring_of c.args.parts.kinds c.len-count.result c.args.parts.joints))) c.in-Err-Cycle.field-0-is c.in-Err-Cycle.ensures.exact in
    let least = subst (λ (w : Net). IsLeastOnCycle (from_sides w) (to_sides w) joint) net fault.2 in
    let long = length-map (joints_in ds) (λ (j : Joint). side_at (net_of_program ds) j.giver) in
    let on = least.on_cycle.0 in
    let fit = c.homes_fit.ensures ds in
    let below : joint < length (homes_in ds) = omega arith in
    let home = c.at.ensures ∙ ap (λ k. slice_index_or c.args.parts.homes k c.at.result.now) c.in-Err-Cycle.joint-is ∙ ap (λ hs. slice_index_or hs joint c.at.result.now) c.requires.parts.homes ∙ other_default (homes_in ds) joint c.at.result.now 0 below in
    let within = c.homes_are_nodes.ensures ds joint 0 below in
    let node = c.in-Ok-copy.ensures ∙ c.at-in-Err-Cycle.ensures ∙ (λ i. slice_index_or (c.requires.parts.nodes i) (home i) c.at-in-Err-Cycle.result.now) ∙ other_default (nodes_of ds) (slice_index (homes_in ds) joint) c.at-in-Err-Cycle.result.now [] within in
    (c.requires.no_break, record { joint = joint; least = least; home = sym node })

pub unreachable-requires : goal.unreachable-requires
unreachable-requires c =
    let ds = c.args.program.now.declarations in
    let made = c.circuits_are_made.ensures ds c.requires.names c.requires.no_break in
    let net = same_net ds c.args.parts.kinds c.len-count.result c.args.parts.joints c.requires.parts.kinds (c.len-count.ensures ∙ ap length c.requires.parts.ports) c.requires.parts.joints in
    let fault = subst (IsNetFault (net_of behaviour_of (wiring_of c.args.parts.kinds c.len-count.result c.args.parts.joints))) c.in-Err-Ends.field-0-is c.in-Err-Ends.ensures.exact in
    no_loose _ _ made.joined (subst (λ (w : Net). IsEndsFault w c.in-Err-Ends.field-0-0) net fault)

pub unreachable-requires-in-Err-Way : goal.unreachable-requires-in-Err-Way
unreachable-requires-in-Err-Way c =
    let ds = c.args.program.now.declarations in
    let made = c.circuits_are_made.ensures ds c.requires.names c.requires.no_break in
    let net = same_net ds c.args.parts.kinds c.len-count.result c.args.parts.joints c.requires.parts.kinds (c.len-count.ensures ∙ ap length c.requires.parts.ports) c.requires.parts.joints in
    let fault = subst (IsNetFault (net_of behaviour_of (wiring_of c.args.parts.kinds c.len-count.result c.args.parts.joints))) c.in-Err-Way.field-0-is c.in-Err-Way.ensures.exact in
    no_wrong _ _ made.right (subst (λ (w : Net). IsWayFault w c.in-Err-Way.field-0-0) net fault.1)
