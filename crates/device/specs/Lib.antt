pub mod Access
pub mod Laws
