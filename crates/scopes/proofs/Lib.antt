mod UndoReturns
mod ScopeReturns
mod StopReturns
