pub mod Answers
pub mod Rows
pub mod Forms
pub mod Steps
pub mod Fractions
pub mod Roots
pub mod RootValues
pub mod Texts
pub mod Examples
-- From here on lemmas: the laws of the implementations follow from them, and a term of src/ that shows a law cannot cite proofs/. They are proved;
-- a reader need not believe them.
pub mod FractionKind
pub mod FractionSteps
pub mod Signs
pub mod RowKinds
pub mod Lowering
pub mod RowSums
pub mod Machine
pub mod Bounds
pub mod RootKind
pub mod RootSteps
