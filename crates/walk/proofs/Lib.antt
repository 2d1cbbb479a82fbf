pub mod Walking
pub mod Filled
pub mod VectorPlan
