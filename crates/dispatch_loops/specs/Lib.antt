pub mod Charted
pub mod Dispatched
pub mod inner
