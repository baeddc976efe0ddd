mod Endings
mod Examples
mod Plain
mod Quotes
mod Runs
mod Spans
mod Steps
