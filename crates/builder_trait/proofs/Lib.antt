pub mod Kept
pub mod RebuildingLemmas
pub mod Places
pub mod Marking
pub mod SearchLemmas
pub mod FlatLemmas
pub mod RowsLemmas
pub mod StampLemmas
