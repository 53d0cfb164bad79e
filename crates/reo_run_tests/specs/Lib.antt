pub mod live_tests
