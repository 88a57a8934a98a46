-- What the definitions of this crate name of std and of the crates below.
pub use Rattle.pg_cert.specs.Limits.{IsClaim, IsNode, IsWithinLimits, node_count}
pub use Rattle.pg_cert.specs.Parts.{BeginCert, all_parts}
pub use Rattle.pg_cert.specs.Valid.{IsFirstFault, IsValid}
pub use Rattle.pg_cert.specs.declared.cert.Cert.{Cert}
pub use Rattle.pg_cert.specs.declared.cert.Claim.{Claim}
pub use Rattle.pg_cert.specs.declared.limits.TheConstants.{MAX_CLAIMS, MAX_NODES}
pub use Rattle.pg_cert.specs.declared.node.Node.{Node}
pub use Rattle.pg_cert.specs.declared.part.Part.{Part}
unfoldable pub use Rattle.pg_cert_files.specs.CertFile.{certificate}
pub use Rattle.pg_cert_files.specs.Gatherer.{HasGathered}
pub use Rattle.pg_cert_lines.specs.Views.{IsReadAs, number_of}
pub use Rattle.pg_cert_lines.specs.declared.fault.Fault.{Fault}
pub use Rattle.pg_check.specs.declared.checked.CheckFault.{CheckFault}
pub use Rattle.pg_game.specs.declared.game.Game.{Game}
unfoldable pub use Rattle.pg_image.specs.ImageFile.{image_certificate}
pub use Rattle.pg_image.specs.Limits.{IsImageWithinLimits}
pub use Rattle.pg_image.specs.Print.{image_header}
pub use Rattle.pg_image.specs.declared.cert.ImageCert.{ImageCert}
pub use Rattle.pg_image.specs.declared.cert.ImageClaim.{ImageClaim}
pub use Rattle.pg_io.specs.Files.{Bytes, Holding, IsAbsent, ReadsOnly}
pub use Rattle.pg_judge.specs.Judged.{IsReady}
pub use Rattle.pg_talk.specs.Halts.{HaltCauses, IsReadHalt}
pub use Rattle.pg_talk.specs.Reading.{Opens, certificate_fault, held_as, or_halt}
pub use Rattle.pg_talk.specs.declared.halt.Halt.{Halt}
pub use Rattle.pg_talk.specs.declared.halt.Halt.TheVariants.{Refused, Stopped}
pub use Rattle.pg_text.specs.Faults.{and_then}
pub use Rattle.pg_text.specs.Text.{Lacks, lines}
pub use Rattle.pg_unfold.specs.Unfolded.{AreUnfolded, IsCopied, IsUnfolded, IsUnfoldedCert}
pub use Rattle.pg_unfold.specs.declared.unfolded.Unfolded.{Unfolded}
pub use Rattle.std.specs.Str.{bytes_eq}
