pub mod Rows
pub mod Screened
pub mod InternalRows
pub mod InternalDesk
pub mod InternalScreens
