pub mod ForgetLemmas
pub mod LivingLemmas
pub mod SearchLemmas
pub mod SizeLemmas
pub mod TierLemmas
