pub mod LexFaults
pub mod Lexemes
pub mod LexerParts
pub mod Spellings
pub mod Tokens
