mod Unescaping
mod Points
mod RowsSoFar
