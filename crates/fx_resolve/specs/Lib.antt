pub mod MeaningView
pub mod PartView
pub mod PlanView
pub mod ReservedView
pub mod RowsView
pub mod ScopeCode
pub mod ScopeView
pub mod SettingView
