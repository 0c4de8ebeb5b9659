pub mod Cells
pub mod PacketLaws
pub mod JoinLaws
pub mod KnowledgeLaws
pub mod PutLaws
pub mod PouredLaws
