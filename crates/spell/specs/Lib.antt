-- The program `spell`: what is shown of a line of formula text.
pub mod Shown
