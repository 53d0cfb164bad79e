pub mod Mapped
pub mod AfterLemmas
pub mod Parts
pub mod Distinct
pub mod Declared
pub mod Forms
pub mod Same
