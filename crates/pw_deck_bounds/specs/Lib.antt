pub mod Paces
pub mod SamplePaces
