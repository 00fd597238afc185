pub mod IdLemmas
pub mod PlaceLemmas
