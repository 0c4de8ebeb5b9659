pub mod FrameTableLaws
pub mod PlacesLaws
