pub mod Singles
pub mod Shallow
pub mod Opens
pub mod Loads
pub mod Functions
pub mod JudgedAlike
pub mod Rounds
pub mod OneText
pub mod OneReading
pub mod Circles
pub mod SourceOrder
pub mod OneInfos
pub mod OneVerdict
pub mod Told
pub mod OneRefusal
pub mod Framed
pub mod OneEdit
pub mod FitToJudge
pub mod Loaded
pub mod Edited
mod Writes
mod BreakLists
mod Looks
mod Arrows
pub mod Below
mod Merging
pub mod Reaching
mod Elaborated
mod Supporting
mod Ended
pub mod Pure
pub mod Contexts
pub mod Cells
pub mod Soundness
pub mod Stands
pub mod Declared
pub mod Gathered
pub mod Tables
