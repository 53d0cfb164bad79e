-- The joints of a program without a directed cycle have an order.
use Rattle.std.proofs.Common.{inl, inr, List}
use Rattle.reo_net_base.specs.Wired.{NoCycle, OrderExists, IsWired}
use Rattle.reo_net_base.specs.Net.{Net, from_sides, to_sides}
use Rattle.reo_net_circuit.proofs.ReshapeLemmas.{lawful_at}
use Rattle.reo_net_circuit.proofs.WireLemmas.{wired_is}
use Rattle.reo_kinds.specs.Kinds.{behaviour_of}
use Rattle.reo_kinds.specs.KindLaws.{kind_lawful, kind_shape}
use Rattle.reo_kinds.specs.PortStateLaws.{placed_kind_shape, withdrawn_kind_shape}
use Rattle.reo_trees.specs.declared.programs.Declaration.{Declaration}
use Rattle.reo_flat.specs.Flat.{net_of_program, primitives_of}
use Rattle.reo_flat.specs.flatten_laws.Circuits.{IsMade}
use Rattle.reo_rounds.specs.Order.{HasOrder}
use Rattle.reo_rounds.specs.Lasting.{KeepsShape}
use Rattle.reo_runs.specs.run_texts.Laws.{kind_rules}

-- The kinds keep their laws and their shapes.
pub kinds_keep_shape : KeepsShape kind_rules
kinds_keep_shape = record { lawful = kind_lawful; settled = kind_shape; placed = placed_kind_shape; withdrawn = withdrawn_kind_shape }

pub program_order : OrderExists → (ds : List Declaration) → IsMade ds → NoCycle (from_sides (net_of_program ds)) (to_sides (net_of_program ds)) → HasOrder (net_of_program ds)
program_order exists ds made none =
    let net : Net = net_of_program ds in
    let wired : IsWired net = wired_is net made.ends made.joined made.right none (lawful_at behaviour_of kind_lawful (primitives_of ds)) in
    elim (exists (from_sides net) (to_sides net)) [
      | inl found ↦ record { wired = wired; order = found.0; is_order = found.1 }
      | inr cycle ↦ absurd (none cycle.0 cycle.1)
    ]
