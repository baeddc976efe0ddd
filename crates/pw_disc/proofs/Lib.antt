mod CallForms
mod LastingPairs
mod LineLemmas
mod Making
mod OneMember
mod ScriptLemmas
mod Seen
