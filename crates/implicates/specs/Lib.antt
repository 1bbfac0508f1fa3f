-- Clauses by number, tables of hits, and the rows that a rule appends.
pub mod Numbers
pub mod Hits
pub mod Appending
