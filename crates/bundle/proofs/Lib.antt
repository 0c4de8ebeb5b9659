pub mod BundlesLaws
pub mod LaidOutLaws
