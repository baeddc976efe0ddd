mod Named
mod Places
