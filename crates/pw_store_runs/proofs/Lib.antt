mod Beginning
mod Leaving
mod Refusing
mod Reporting
mod Setting
