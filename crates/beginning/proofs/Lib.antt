mod BeginReturns
