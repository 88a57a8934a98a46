pub mod Prelude
pub mod Replay
pub mod Session
pub mod SessionCode
pub mod Print
pub mod RecordFile
pub mod Faults
pub mod Views
