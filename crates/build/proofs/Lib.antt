pub mod PooledLaws
pub mod Pools
