pub mod Counting
pub mod Order
pub mod Shares
pub mod PartyVotes
