pub mod EventLemmas
pub mod PrefixLemmas
pub mod PublicationLemmas
pub mod RuleLemmas
