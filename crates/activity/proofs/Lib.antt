pub mod StepReturns
