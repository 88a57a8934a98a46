-- What the proofs of this crate name of std and of the crates below.
pub use Rattle.pg_game.specs.Prelude.{All, AllPairs, AllZip, AreBelow, AreWithin, AvoiderEnforcer}
pub use Rattle.pg_game.specs.Prelude.{Contains, Decides, Draw, FinSet, Goal, Graph, IsBelow}
pub use Rattle.pg_game.specs.Prelude.{IsGraph, IsJoinedIn, IsStrictlyIncreasing, Kind, MakerBreaker}
pub use Rattle.pg_game.specs.Prelude.{MakerMaker, Score, ShareNone, Side, Switching, Win, X, XWins}
pub use Rattle.pg_game.specs.Prelude.{Y, YWins, below, contains, count_by, edge_count, filter, find}
pub use Rattle.pg_game.specs.Prelude.{first_end, first_end_of, in_insert, insert, is_none, joins_in}
pub use Rattle.pg_game.specs.Prelude.{len, list_all, list_any, nat_cmp, one_if, option_or, other}
pub use Rattle.pg_game.specs.Prelude.{range_with_len, second_end, second_end_of, sum_by}
unfoldable pub use Rattle.pg_game.specs.Prelude.{count, joins}
pub use Rattle.pg_base.proofs.SetLemmas.{count_same, find_below}
pub use Rattle.pg_graph.proofs.GraphLemmas.{first_end_of-edge, joins-below, joins_in-complete}
pub use Rattle.pg_graph.proofs.GraphLemmas.{joins_in-edges, joins_in-sound, joins_same}
pub use Rattle.pg_graph.proofs.GraphLemmas.{second_end_of-edge, switching_full}
pub use Rattle.std.proofs.Math.Nat.{add-mod_right, add-mul, mul-add, mul_comm, pow-le-pow_left}
pub use Rattle.std.proofs.Math.Nat.{pow-le-pow_right, zero-mod}
pub use Rattle.std.proofs.lemmas.Bool.{and_from, and_parts, both_ways, cases_Bool, cases_eq}
pub use Rattle.std.proofs.lemmas.Bool.{cases_lt, cases_order, cond-false, cond-true}
pub use Rattle.std.proofs.lemmas.Bool.{false_from_ne_true, false≢true, le-ltb, lt-ltb, ltb-true}
pub use Rattle.std.proofs.lemmas.Bool.{not-true, not_from_false, or_cases, or_from, or_left}
pub use Rattle.std.proofs.lemmas.Bool.{or_parts, or_right}
pub use Rattle.std.proofs.lemmas.List.{at_drop_more, get_or-set_other, get_or-set_same}
pub use Rattle.std.proofs.lemmas.List.{get_or_default, take_more}
pub use Rattle.std.proofs.lemmas.List.Elements.{All-contains, All-weaker, Contains-get_or}
pub use Rattle.std.proofs.lemmas.List.Elements.{filter_agree}
pub use Rattle.std.proofs.lemmas.List.Folds.{Any-from_list_any, list_all_at, list_any_at}
pub use Rattle.std.proofs.lemmas.List.Folds.{list_any_more}
pub use Rattle.std.proofs.lemmas.List.Sums.{count_by-le-length, get_or-le-sum_by, sum_by-cons}
pub use Rattle.std.proofs.lemmas.List.Sums.{sum_by-le, sum_by_more_le}
