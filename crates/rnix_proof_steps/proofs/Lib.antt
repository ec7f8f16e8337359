pub mod StepBounds
pub mod BoundedActions
pub mod BoundedOperands
pub mod Budgets
pub mod BudgetedOperands
pub mod BudgetedSteps
pub mod BudgetedRuns
pub mod StepExamples
