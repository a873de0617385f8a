pub mod Answer
pub mod Devices
pub mod Inputs
pub mod Promises
pub mod Status
pub mod inner
