mod BitsLemmas
mod CoverLemmas
mod Decided
