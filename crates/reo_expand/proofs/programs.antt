mod Uses
mod Copies
mod Later
mod OneMore
mod Walks
mod Numbered
mod Whole
