pub mod Place
pub mod Raw
pub mod Part
