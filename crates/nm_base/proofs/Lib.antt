pub mod LentLemmas
mod WordListLemmas
