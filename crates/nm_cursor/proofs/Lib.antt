pub mod SetLemmas
pub mod FromLemmas
pub mod PeekLemmas
pub mod BothLemmas
pub mod WithoutLemmas
pub mod EitherLemmas
pub mod OneLemmas
pub mod RisingLemmas
