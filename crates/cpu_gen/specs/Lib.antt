pub mod CpuValue
