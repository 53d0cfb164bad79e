pub mod Narrowness
pub mod ItemLists
pub mod Numbers
pub mod LogLines
pub mod FirstLogs
pub mod Goings
pub mod Cutting
