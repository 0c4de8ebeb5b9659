pub mod Pieces
pub mod LaidLaws
pub mod PartsLaws
pub mod CallsLaws
