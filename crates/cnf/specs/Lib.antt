-- The program `cnf`: DIMACS text to a board's rows and back.
pub mod Rewriting
