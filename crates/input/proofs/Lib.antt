-- A law over the contract.
mod Unique
