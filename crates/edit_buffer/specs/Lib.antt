pub mod Rings
pub mod BufferState
pub mod Undo
pub mod Edits
pub mod Moves
pub mod Menus
pub mod Insides
pub mod Laws
