mod Reordering
mod Insertion
mod Comparison
mod Adding
