pub mod CutLemmas
pub mod ExistenceLemmas
pub mod FirstPieceLemmas
pub mod LawLemmas
pub mod PieceLemmas
pub mod SplitLemmas
pub mod UnclosedLemmas
pub mod WalkLemmas
