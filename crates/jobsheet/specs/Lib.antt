-- What holds of calls whose refusal is ruled out.
pub mod Accepted
