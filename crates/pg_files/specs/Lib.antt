pub mod Prelude
pub mod Key
pub mod Sets
pub mod GameFile
pub mod Views
pub mod Print
pub mod Laws
