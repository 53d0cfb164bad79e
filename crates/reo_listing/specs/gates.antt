pub mod OpenPorts
