pub mod Lists
mod Targets
