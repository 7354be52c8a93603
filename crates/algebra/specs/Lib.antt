pub mod Ring
pub mod Field
pub mod Gcd
pub mod Rational
pub mod Exact
pub mod Laws
pub mod Examples
