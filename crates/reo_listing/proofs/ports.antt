pub mod PortRange
