-- Document 01, 'Tree' and 'Entries', and where a tree stands in the lent lists ('The store'): definitions, then laws.
pub mod Tree
pub mod Nodes
pub mod Layout
pub mod Made
pub mod Links
