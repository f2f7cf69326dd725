mod CutLemmas
mod LawLemmas
mod OwnLemmas
pub mod PathLemmas
mod StemLemmas
