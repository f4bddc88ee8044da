-- Support: which codes the tables of refusals can give, and who meets them.
pub mod FaultCodes
pub mod OnlyLeavesMeet
pub mod TableCodes
