-- Document 01, 'Clusters', and the vectors that a float list holds.
pub mod Clusters
pub mod Trials
pub mod Vectors
pub mod Promises
pub mod VectorsLaws
pub mod ClustersLaws
