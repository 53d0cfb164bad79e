-- Why the rows of a part are not found.
pub use Rattle.reo_search.specs.First.{IsSearchFault}
