mod Placing
mod Placed
