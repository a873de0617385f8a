pub mod Image
pub mod Reading
pub mod Report
pub mod inner
