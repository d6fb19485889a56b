mod LeadsLemmas
mod LookingLemmas
mod PackedLemmas
mod ElementLemmas
mod GuardsLemmas
