mod WalkLines
mod PrintedLemmas
