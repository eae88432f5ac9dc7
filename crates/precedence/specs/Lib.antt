pub mod Precedence
