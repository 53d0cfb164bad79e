-- What stands in an engine, for crates that make runs with one.
pub use Rattle.reo_engine.specs.Engine.{Running}
pub use Rattle.reo_engine.specs.MadeWithin.{IsMadeWithin, MadeRound, IsMadeRound}
