pub mod BitsLemmas
