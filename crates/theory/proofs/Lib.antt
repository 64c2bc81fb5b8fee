-- tests, and lists: membership, places, distinct elements
pub mod Lists
-- names and paths, the parts of a tree, the trees that are visited
pub mod Trees
-- contents: their words, the types that stand in them, their bytes, and what simplifying and tidying keep
pub mod Contents
-- tables: labels, conditions, kinds, and tables that let in the same
pub mod Tables
-- automata on trees, and why a table that merges one is least
pub mod Automata
-- the steps of widening: what each of them keeps, and the forms of a reduced table
pub mod Steps
-- the sample of a document
pub mod Sample
-- membership: deciding it, and deciding it by marks in one walk
pub mod Matching
-- the contents of a result, straight from the source contents
pub mod Emission
-- reading and writing, and what stays within the limits
pub mod Bytes
-- what widening gives is least, and reads back; from printed pages the lister's texts come back; P1 to P8
pub mod Theorems
