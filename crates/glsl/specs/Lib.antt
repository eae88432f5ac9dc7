pub mod Printed
pub mod Root
pub mod Joined
