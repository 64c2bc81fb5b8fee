pub mod PlanKind
pub mod Results
