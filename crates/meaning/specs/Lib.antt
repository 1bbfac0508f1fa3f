-- What a reader must believe, in document 01's order: definitions, which compute, and last what is promised of them, each as a type.
pub mod Tests
pub mod BySize
pub mod Literals
pub mod Formulae
pub mod Clauses
pub mod Rounds
pub mod Ground
pub mod LeavingOff
pub mod SecondWay
pub mod Promises
