mod Ends
mod Untold
