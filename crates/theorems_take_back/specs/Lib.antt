-- The theorems of request [6], taking back one kept step and what came of it. Request6 has the statements.
pub mod Request6
pub mod Bottom
pub mod NearEnough
pub mod OnTheWay
pub mod Rooted
pub mod RowsKept
pub mod StillFits
pub mod TakeBackCall
pub mod TakeBackWords
pub mod TakenBack
pub mod TakenBackWorked
pub mod TurnedRound
