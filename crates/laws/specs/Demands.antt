-- The statements of `spec`, proved over the calls.
pub mod Reflects
pub mod Theorems
pub mod RefusalRows
pub mod ProgramRows
pub mod DemandOne
pub mod Delivery
pub mod DemandThree
pub mod PublishedIndex
pub mod DemandTwo
pub mod DemandsHold
pub mod FirstCalls
pub mod FirstTheorems
pub mod GapCalls
pub mod LoneForms
pub mod ModelsHold
pub mod ReplacedTheorems
