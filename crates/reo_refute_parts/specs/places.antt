pub mod AllowedRows
pub mod KeyPlaces
