pub mod Judged
pub mod FaultsOfCalls
pub mod FaultsOfOrder
pub mod FaultsOfReplies
pub mod FaultsOfRefusals
pub mod FaultsOfRaces
pub mod FaultsOfResults
pub mod FaultsOfTakes
