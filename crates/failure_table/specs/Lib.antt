pub mod FailuresAgree
