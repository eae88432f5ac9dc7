pub mod Frame
pub mod Unlike
pub mod Shown
pub mod Rows
pub mod Operand
pub mod Apart
