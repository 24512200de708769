pub mod FrameLemmas
pub mod RawLemmas
