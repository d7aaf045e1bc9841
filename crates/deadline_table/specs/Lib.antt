pub mod DeadlinesAgree
