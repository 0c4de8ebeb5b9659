pub mod Logic
pub mod OctetsLaws
pub mod Below
pub mod Regions
pub mod Pointwise
