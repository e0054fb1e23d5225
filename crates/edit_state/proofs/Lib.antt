pub mod Numbers
pub mod Telling
pub mod Steps
pub mod Looking
pub mod Choosing
