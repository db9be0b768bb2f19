pub mod Lists
pub mod Packets
mod Inv
mod Asked
pub mod Held
pub mod Switches
mod Cables
mod Keeps
mod Moves
mod Frames
mod Orders
mod Next
mod Copies
pub mod Steps
pub mod Whole
pub mod Between
mod Stages
mod Answering
mod OneStage
pub mod Live
pub mod Can
pub mod Leave
mod NoHops
mod Course
pub mod Cases
mod Answered
mod Room
pub mod Past
mod Told
pub mod Rehearsal
pub mod View
pub mod Late
