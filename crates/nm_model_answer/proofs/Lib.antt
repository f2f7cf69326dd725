mod DateLemmas
mod ListLemmas
mod MatchLemmas
mod OnceLemmas
mod PartLemmas
mod TreeLemmas
mod WordLemmas
