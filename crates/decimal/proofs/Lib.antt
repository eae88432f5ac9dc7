pub mod Examples
pub mod IntText
pub mod Laws
pub mod Places
pub mod Powers
pub mod Sign
