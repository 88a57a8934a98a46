-- What the proofs of this crate name of std and of the crates below.
pub use Rattle.pg_places.specs.Prelude.{Chart, IsLayout, MAX_VERTICES, Place, Spot, spots_of}
pub use Rattle.std.proofs.Math.Bool.{and_comm}
pub use Rattle.std.proofs.Math.Nat.{add-mul-div_right, div-le_of_le-mul, div-lt_iff_lt-mul}
pub use Rattle.std.proofs.Math.Nat.{div-mul-le_self, lt-div-mul-add, mul-add, mul-le-mul_left}
pub use Rattle.std.proofs.lemmas.Bool.{and_parts, cases_Bool, cases_lt, or_cases, or_parts}
pub use Rattle.std.proofs.lemmas.Bool.Decides.{nat_tests}
pub use Rattle.std.proofs.lemmas.Nat.{div-add-mod', le-div, mod_below, mul-le}
