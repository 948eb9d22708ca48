pub mod Rehearsed
pub mod InternalRehearsal
