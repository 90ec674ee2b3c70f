mod Asked
mod Bounded
mod Progress
mod Going
mod WordLaws
mod Statuses
mod Tops
mod Written
