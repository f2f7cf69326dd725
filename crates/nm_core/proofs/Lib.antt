pub mod IndexLemmas
