pub mod Compiling
pub mod Small
pub mod Arguments
mod Linking
mod Rooted
pub mod Coded
pub mod Running
pub mod Fitting
pub mod Certifying
pub mod Reading
pub mod Facts
mod Taking
mod Ending
pub mod Worked
mod Throughout
mod Depth
mod Commands
mod Emitted
mod Things
pub mod Shallow
mod Marks
mod Frames
mod Named
mod Framed
mod Tables
pub mod Sections
pub mod Labels
pub mod Numbers
pub mod Few
pub mod Words
