-- What the definitions of this crate name of the crates below.
pub use Rattle.pg_cert.specs.Limits.{IsWithinLimits}
pub use Rattle.pg_cert.specs.Parts.{BeginCert, all_parts, claim_parts, parts_of}
pub use Rattle.pg_cert.specs.Valid.{AreSoundBefore, FollowMoves, FollowsMove, HasWeaker}
pub use Rattle.pg_cert.specs.Valid.{IsFirstFault, IsInGame, IsLeastFault, IsNodeOf, IsOwed}
pub use Rattle.pg_cert.specs.Valid.{IsValid, IsValidClaim, Passes}
pub use Rattle.pg_cert.specs.declared.cert.Cert.{Cert}
pub use Rattle.pg_cert.specs.declared.cert.Claim.{Claim}
pub use Rattle.pg_cert.specs.declared.node.Node.{Node}
pub use Rattle.pg_cert.specs.declared.part.Part.{Part}
pub use Rattle.pg_cert_files.specs.CertFile.{certificate, listed}
pub use Rattle.pg_cert_files.specs.Pieces.{AreAllParts, IsFed, parts_told, size_of}
pub use Rattle.pg_cert_files.specs.Shortened.{AreAlike, IsFedShort, clash, share}
pub use Rattle.pg_cert_files.specs.Shortened.{short_body, short_cert, short_claim, short_node}
pub use Rattle.pg_cert_files.specs.Shortened.{short_pairs, short_result, twice}
pub use Rattle.pg_cert_files.specs.declared.cert_state.CertReader.{CertReader}
pub use Rattle.pg_cert_lines.specs.Views.{number_of}
pub use Rattle.pg_game.specs.declared.game.Game.{Game}
pub use Rattle.pg_text.specs.Text.{Bytes}
