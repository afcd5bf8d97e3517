mod Parts
mod StatementParts
mod FineFits
mod FineStatementFits
mod ModuleFits
mod NoReturns
