mod Counted
mod World
mod Indexes
mod Items
mod Programs
