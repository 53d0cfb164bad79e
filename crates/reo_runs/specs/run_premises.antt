pub mod PortsOf
pub mod FlatPorts
pub mod Fitting
