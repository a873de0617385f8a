pub mod Contents
pub mod Order
pub mod inner
