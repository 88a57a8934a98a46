-- What the proofs of this crate name of std and of the crates below.
pub use Rattle.pg_evidence.specs.Prelude.{AreUnfolded, BeginCert, Bytes, Cert, CheckFault, Claim}
pub use Rattle.pg_evidence.specs.Prelude.{Fault, Game, Halt, HasGathered, Holding, ImageCert}
pub use Rattle.pg_evidence.specs.Prelude.{ImageClaim, IsClaim, IsCopied, IsFirstFault}
pub use Rattle.pg_evidence.specs.Prelude.{IsImageWithinLimits, IsNode, IsReadAs, IsUnfolded}
pub use Rattle.pg_evidence.specs.Prelude.{IsUnfoldedCert, IsValid, IsWithinLimits, Lacks, Node}
pub use Rattle.pg_evidence.specs.Prelude.{Part, Unfolded, all_parts, and_then, bytes_eq}
pub use Rattle.pg_evidence.specs.Prelude.{certificate_fault, image_header, number_of, or_halt}
unfoldable pub use Rattle.pg_evidence.specs.Prelude.{certificate, image_certificate}
pub use Rattle.std.proofs.lemmas.List.{append-nil, append_assoc, length-append, length-map}
