pub mod PlaylistSeen
pub mod NamedBy
pub mod RowSeen
pub mod ListingSeen
