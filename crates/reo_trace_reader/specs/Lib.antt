pub mod Ends
pub mod Fronts
pub mod Given
pub mod ItemEnd
pub mod Reads
pub mod Streams
pub mod texts
