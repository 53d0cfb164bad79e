-- What holds of a circuit's shape stays when its primitives go on.
pub use Rattle.reo_net_circuit.proofs.ReshapeLemmas.{first_same, lawful_at, order_same, side_same, wired_same}
