mod Changes
mod Damage
mod Files
mod Images
mod Plans
mod Reading
