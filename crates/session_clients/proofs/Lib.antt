pub mod TranscriptLemmas
