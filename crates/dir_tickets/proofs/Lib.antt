pub mod Agreeing
pub mod ShownRows
pub mod TicketDraws
