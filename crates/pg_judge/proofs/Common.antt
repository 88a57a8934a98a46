-- What the proofs of this crate name of std and of the crates below.
pub use Rattle.pg_judge.specs.Prelude.{AreAllParts, AreSoundBefore, BeginCert, Bytes, Cert}
pub use Rattle.pg_judge.specs.Prelude.{CertReader, Claim, FollowMoves, FollowsMove, Game}
pub use Rattle.pg_judge.specs.Prelude.{HasWeaker, IsFed, IsFedShort, IsFirstFault}
pub use Rattle.pg_judge.specs.Prelude.{IsInGame, IsLeastFault, IsNodeOf, IsOwed, IsValid}
pub use Rattle.pg_judge.specs.Prelude.{IsValidClaim, Node, Part, Passes, all_parts, certificate}
pub use Rattle.pg_judge.specs.Prelude.{claim_parts, clash, listed, number_of, parts_of, parts_told}
pub use Rattle.pg_judge.specs.Prelude.{share, short_body, short_cert, short_claim, short_node}
pub use Rattle.pg_judge.specs.Prelude.{short_pairs, short_result, size_of, twice}
pub use Rattle.pg_cert_files.proofs.ShortTexts.{alike_more, alike_on}
pub use Rattle.std.proofs.lemmas.List.{append-nil, append_assoc, length-append, length-drop}
pub use Rattle.std.proofs.lemmas.List.{length-map, nil_from_length, take-append-drop, take_all}
