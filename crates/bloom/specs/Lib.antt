-- The filter (document 01, 'Filter'), its laws, those of pooling (02, K6), and trial values.
pub mod Filter
