pub mod Asked
pub mod Command
pub mod Found
pub mod Outside
