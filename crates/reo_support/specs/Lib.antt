pub mod ForestSupport
pub mod Laws
pub mod Sets
