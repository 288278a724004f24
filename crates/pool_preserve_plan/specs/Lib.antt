pub mod Copies
pub mod PlanRefusal
pub mod PreservePlan
