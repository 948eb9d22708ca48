pub mod Settings
pub mod Commands
pub mod Numbers
pub mod Plain
pub mod Line
pub mod Asked
