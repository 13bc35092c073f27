-- A tracker over a block keeps its settings, reads only the live part of its window, and leaves the window's length as it was.
pub mod Settings
pub mod LiveWindow
pub mod WindowLength
