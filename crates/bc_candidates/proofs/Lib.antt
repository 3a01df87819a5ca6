pub mod Lower
pub mod Made
pub mod Together
pub mod Below
