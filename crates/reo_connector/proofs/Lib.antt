pub mod Alone
pub mod MadeLemmas
pub mod Named
pub mod OpenedLemmas
pub mod PortsStay
