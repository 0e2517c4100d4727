mod ChildReturns
mod CombineReturns
mod RootReturns
mod TakeReturns
mod OutcomeReturns
mod JudgingReturns
