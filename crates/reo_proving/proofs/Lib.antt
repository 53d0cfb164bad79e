mod RoundLemmas
mod SoFar
mod RunLemmas
