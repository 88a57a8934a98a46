-- What the proofs of this crate name of std and of the crates below.
pub use Rattle.std.specs.List.{All, list_all}
pub use Rattle.std.proofs.lemmas.Bool.{and_parts, false≢true, ltb-true}
pub use Rattle.std.proofs.lemmas.List.{take_all}
pub use Rattle.std.proofs.lemmas.List.Elements.{All-more}
pub use Rattle.std.proofs.lemmas.List.Sums.{AllPass-from_list_all}
pub use Rattle.std.proofs.lemmas.Option.{slice_get_read}
pub use Rattle.std.proofs.lemmas.Result.{IfOk-weaker}
