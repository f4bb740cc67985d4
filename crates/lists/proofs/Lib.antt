pub mod SuffixLaws
