mod TextLemmas
mod CountLemmas
mod SoFar
mod RunLemmas
mod RoundLemmas
mod StartLemmas
