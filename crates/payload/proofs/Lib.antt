pub mod Steps
pub mod Tables
pub mod Checks
pub mod Laying
pub mod Cutting
pub mod Readings
pub mod LayingOut
pub mod Faulting
