-- What is known of orders, for crates that stand on nets.
pub use Rattle.reo_net_base.proofs.order.LinkLemmas.{zero_at}
pub use Rattle.reo_net_base.proofs.order.ExistLemmas.{order_or_cycle}
