-- What the proofs of this crate name of std and of the crates below.
pub use Rattle.pg_cert.specs.Prelude.{Bytes, behind_spaces, decimal}
pub use Rattle.std.proofs.lemmas.List.{append-nil}
