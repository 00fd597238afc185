pub mod MatchLemmas
