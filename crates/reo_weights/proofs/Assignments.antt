-- What an assignment hangs on: circuits of one shape that are alike on a closed set, with rows and items that agree there.
pub use Rattle.reo_net_laws.proofs.Assignments.{agreeing, first_same_at, side_inside, side_other, side_same}
