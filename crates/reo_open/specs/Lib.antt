pub mod Gates
pub mod GateLaws
pub mod Opens
pub mod OpenLaws
pub mod OpenPorts
pub mod Opened
pub mod OpenedLaws
