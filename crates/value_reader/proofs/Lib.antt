pub mod FormSteps
pub mod ShortestForms
pub mod Values
pub mod Readings
pub mod Bodies
