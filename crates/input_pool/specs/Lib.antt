pub mod PoolConforms
