pub mod PointsEdit
pub mod LivePoints
pub mod Names
pub mod Rows
pub mod ActiveRange
pub mod Adjustments
