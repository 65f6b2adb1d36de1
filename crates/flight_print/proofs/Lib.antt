mod Lexing
mod Alike
mod Said
mod Again
mod Numerals
mod Atoms
mod Parts
mod Trees
mod Imports
pub mod Programs
pub mod Quoted
pub mod Posts
pub mod Written
