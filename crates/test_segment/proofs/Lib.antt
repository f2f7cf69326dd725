mod DocLemmas
mod TierLemmas
