-- The laws of building: its checks, its routes, the local time, and what the stages give.
pub mod Checks
pub mod Bounds
pub mod Routed
pub mod Times
pub mod Stages
