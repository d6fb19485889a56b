pub mod Mitchell
pub mod MitchellRow
pub mod Refusal
