pub mod Supporting
