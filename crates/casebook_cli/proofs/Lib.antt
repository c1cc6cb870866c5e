pub mod CheckLemmas
pub mod HarmlessLemmas
pub mod KindLemmas
pub mod Known
pub mod RowLemmas
pub mod ScreenLemmas
pub mod StatusStops
