pub mod CostPlaces
pub mod DdTable
pub mod DdTableInside
pub mod PlayAnswer
pub mod PlayCostsInside
