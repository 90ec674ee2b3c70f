pub mod TicketView
pub mod TicketSteps
