pub mod expand_tests
