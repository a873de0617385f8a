pub mod Lowering
pub mod Templates
pub mod Temporaries
pub mod UnitOrder
