pub mod Inboxes
pub mod Jobs
