mod Outputs
mod Statuses
mod VerifyLaws
mod GeneratedLaws
mod Asked
mod OneVerdict
mod SameEntries
mod OneAnswer
mod Tried
mod ServesLemmas
mod Printed
pub mod FewSteps
pub mod Few
pub mod Orders
pub mod Chains
pub mod ScriptValues
pub mod Replies
pub mod Answers
pub mod Causes
pub mod Takes
pub mod Whole
pub mod Back
