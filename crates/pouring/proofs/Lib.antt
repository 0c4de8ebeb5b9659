pub mod PouringLaws
pub mod Growing
