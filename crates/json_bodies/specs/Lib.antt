pub mod Bodies
pub mod Exprs
pub mod Literals
pub mod Operators
pub mod Pats
pub mod Statements
