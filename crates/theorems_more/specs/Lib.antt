-- Further theorems on the definitions of rules, and their support.
pub mod Demands
pub mod Subjects
pub mod Lowest
pub mod Bytes
pub mod Refusing
pub mod FirstGiven
pub mod ZeroOnly
pub mod JudgeCounts
pub mod HandedOn
pub mod ListIsStep
pub mod NamesDecided
pub mod SemaphoresAlone
pub mod ProcessSets
pub mod Isleaf
pub mod OwnHistory
