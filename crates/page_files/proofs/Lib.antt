mod WholeLemmas
mod PageLemmas
