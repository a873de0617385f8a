pub mod Before
pub mod Places
pub mod inner
