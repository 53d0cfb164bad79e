-- What rows give and let in at ends, by names that stand near.
pub use Rattle.reo_joint_values.specs.Fitting.{given_for}
pub use Rattle.reo_net_laws.specs.Ends.{mark_in}
