mod PlainLemmas
mod ItemLemmas
mod ProgramLemmas
mod CountLemmas
