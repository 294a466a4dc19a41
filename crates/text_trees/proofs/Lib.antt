pub mod Ascending
pub mod PlainExpressions
pub mod PlainForms
pub mod PlainTokens
pub mod WrittenTrees
