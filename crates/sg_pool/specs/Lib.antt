pub mod Pools
pub mod PoolEntries
pub mod PoolView
pub mod SameEntry
