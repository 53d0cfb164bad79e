pub mod Lists
pub mod Joints
pub mod Flows
pub mod Offers
