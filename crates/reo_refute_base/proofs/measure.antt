pub mod Lessening
