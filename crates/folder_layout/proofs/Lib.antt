mod LayoutLemmas
mod ListingLemmas
