-- The square root (document 01, 'Root and length'); the laws that follow are proved of it.
pub mod Root
pub mod RootLaws
pub mod RootValues
pub mod RootForms
