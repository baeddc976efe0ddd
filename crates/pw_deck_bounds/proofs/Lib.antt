mod ServerRuns
mod Walks
mod Turns
mod Asking
mod Programs
mod Paths
