pub mod Covered
pub mod Sorting
pub mod Domains
pub mod OwnText
pub mod Digests
pub mod DomainsBack
pub mod Back
