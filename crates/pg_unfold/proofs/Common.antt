-- What the proofs of this crate name of std and of the crates below.
pub use Rattle.pg_unfold.specs.Prelude.{All, AllPairs, AllZip, AreInverse, ArePoints, Body, Cert}
pub use Rattle.pg_unfold.specs.Prelude.{Claim, Contains, Cuts, FinSet, Fits, Game, Grid, GridMap}
pub use Rattle.pg_unfold.specs.Prelude.{Image, ImageCert, ImageClaim, ImageNode, IsBody, IsClaim}
pub use Rattle.pg_unfold.specs.Prelude.{IsImageClaim, IsImageNode, IsImageWithinLimits, IsMapOf}
pub use Rattle.pg_unfold.specs.Prelude.{IsMarked, IsNode, IsOfVersion, IsPair, IsPermutation}
pub use Rattle.pg_unfold.specs.Prelude.{IsReply, IsSorted, IsSortedByKey, IsTurn, IsWithinLimits}
pub use Rattle.pg_unfold.specs.Prelude.{MAX_CLAIM_NODES, MAX_NODES, Move, NamesEarlier, Node, Over}
pub use Rattle.pg_unfold.specs.Prelude.{Pairs, Plain, Position, Potential, Reply, Side, Threat}
pub use Rattle.pg_unfold.specs.Prelude.{Trees, Two, Vec, Weaker, board_of, contains, followed_by}
pub use Rattle.pg_unfold.specs.Prelude.{has_body, identity, image_line, image_node_position}
pub use Rattle.pg_unfold.specs.Prelude.{image_of, image_on, image_pair, image_position, image_set}
pub use Rattle.pg_unfold.specs.Prelude.{is_lt, members, nat_cmp, node_count, number_of, numbered}
pub use Rattle.pg_unfold.specs.Prelude.{position_of, reverse_of}
pub use Rattle.pg_game.proofs.Members.{Contains-head, Contains-tail, member-from_any}
pub use Rattle.pg_maps.proofs.Boards.{Fits-followed, Fits-identity, cells, image_on-identity}
pub use Rattle.pg_maps.proofs.Criteria.{Contains-map-from, sum-through}
pub use Rattle.pg_maps.proofs.Numbers.{number-few, number-numbered, numbered-number}
pub use Rattle.pg_maps.proofs.SetImages.{image_set-from, in_image, of_member}
pub use Rattle.std.proofs.lemmas.Bool.{and_from, and_parts, both_ways, cases_Bool, cases_lt}
pub use Rattle.std.proofs.lemmas.Bool.{cases_order, false≢true}
pub use Rattle.std.proofs.lemmas.List.{append-nil, get_or_default, length-append, length-map}
pub use Rattle.std.proofs.lemmas.List.{length-replicate, length-set, map_push, take_all, take_more}
pub use Rattle.std.proofs.lemmas.List.Elements.{All-cons, All-contains, All-get_or, All-head}
pub use Rattle.std.proofs.lemmas.List.Elements.{All-map, All-more, All-nil, All-push, All-tail}
pub use Rattle.std.proofs.lemmas.List.Elements.{All-weaker, Contains-append_left, Contains-get_or}
pub use Rattle.std.proofs.lemmas.List.Elements.{Contains-push, Contains-push_cases, all_zip_more}
pub use Rattle.std.proofs.lemmas.List.Sorted.{All-permutation, Contains-permutation}
pub use Rattle.std.proofs.lemmas.List.Sorted.{IsPermutation-map, IsPermutation-sym, answers_always}
pub use Rattle.std.proofs.lemmas.List.Sums.{sum_by_more_le, sum_by_push}
pub use Rattle.std.proofs.lemmas.Option.{get_or_from_slice_get, none-some, slice_get-get_or}
pub use Rattle.std.proofs.lemmas.Option.{slice_get-map, slice_get_read, slice_get_within}
