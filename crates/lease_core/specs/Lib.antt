pub mod DueLaws
pub mod GrantLaws
pub mod KeptLeases
pub mod LeaseLaws
pub mod LeaseSteps
pub mod LeaseTables
pub mod RisingLeases
