-- What the proofs of this crate name of std and of the crates below.
pub use Rattle.pg_fold.specs.Prelude.{All, AllByRecursion, AllPairs, AllZip, AreBelow, AreCopies}
pub use Rattle.pg_fold.specs.Prelude.{AreReplyImages, AreSound, AreUnfolded, BecomesUnder, Body}
pub use Rattle.pg_fold.specs.Prelude.{Cert, Claim, ComesBefore, Contains, Copy, Cuts, EndsRight}
pub use Rattle.pg_fold.specs.Prelude.{FinSet, Fits, FollowMoves, FollowsMove, Game, Goal, Grid}
pub use Rattle.pg_fold.specs.Prelude.{GridMap, HasCuts, HasPairs, HasPotential, HasThreat, HasTrees}
pub use Rattle.pg_fold.specs.Prelude.{HasTurn, HasWeaker, Image, ImageCert, ImageClaim, ImageNode}
pub use Rattle.pg_fold.specs.Prelude.{IsAt, IsAutomorphism, IsBodyImage, IsClaim, IsCopied, IsImage}
pub use Rattle.pg_fold.specs.Prelude.{IsImageClaim, IsImageNode, IsImageWithinLimits, IsInGame}
pub use Rattle.pg_fold.specs.Prelude.{IsMapOf, IsMapOn, IsMarked, IsMet, IsMetBy, IsNode, IsNodeOf}
pub use Rattle.pg_fold.specs.Prelude.{IsOwed, IsPlaced, IsPlain, IsPosition, IsReplyImage}
pub use Rattle.pg_fold.specs.Prelude.{IsSoundClaim, IsTurn, IsUnfolded, IsUnfoldedCert, IsUsable}
pub use Rattle.pg_fold.specs.Prelude.{IsValid, IsValidClaim, IsWithinLimits, LeadsTo, MAX_MEMBERS}
pub use Rattle.pg_fold.specs.Prelude.{Move, NamesChild, NamesEarlier, Node, Over, Pairs, Passes}
pub use Rattle.pg_fold.specs.Prelude.{Plain, Position, Potential, PotentialFits, Reply, SettlesBy}
pub use Rattle.pg_fold.specs.Prelude.{Side, StandsFor, TakesFree, Threat, Trees, Weaker, after}
pub use Rattle.pg_fold.specs.Prelude.{board_of, contains, equal_positions, equal_positions-decides}
pub use Rattle.pg_fold.specs.Prelude.{followed_by, free_points, from_list, get, identity}
pub use Rattle.pg_fold.specs.Prelude.{image_node_count, image_node_position, image_of, image_on}
pub use Rattle.pg_fold.specs.Prelude.{image_position, image_set, insert, is_allowed, is_free}
pub use Rattle.pg_fold.specs.Prelude.{is_over, members, nat_cmp, node_count, number_of, point_count}
pub use Rattle.pg_fold.specs.Prelude.{position_of, range_with_len, reverse_of, shows_cuts}
pub use Rattle.pg_fold.specs.Prelude.{shows_trees, sum_by, with_turn}
pub use Rattle.pg_base.proofs.MemberLemmas.{points_below-small}
pub use Rattle.pg_base.proofs.Stands.{at_contains, at_new, at_old, at_push, contains_at}
pub use Rattle.pg_base.proofs.Stands.{contains_old, contains_push, from_take, one_at, same_some}
pub use Rattle.pg_base.proofs.Stands.{some≢none}
pub use Rattle.pg_game.proofs.RowLines.{zip-more}
pub use Rattle.pg_maps.proofs.Boards.{Fits-followed, Fits-identity, Fits-reverse}
pub use Rattle.pg_maps.proofs.Boards.{IsAutomorphism-fits, cells, image_on-identity}
pub use Rattle.pg_maps.proofs.Criteria.{AvoiderHolds-image, Contains-map, Contains-map-from}
pub use Rattle.pg_maps.proofs.Criteria.{PotentialHolds-image, sum-through}
pub use Rattle.pg_maps.proofs.Imaging.{IsImage-after, free-image, outcome-image, over-image}
pub use Rattle.pg_maps.proofs.Positions.{IsImage-further, IsImage-position, IsImage-undone}
pub use Rattle.pg_maps.proofs.Positions.{IsImage-unique, IsNoWorse-image, IsPosition-image}
pub use Rattle.pg_maps.proofs.Positions.{image_position-stays, image_set-below, image_set-has}
pub use Rattle.pg_maps.proofs.Positions.{replies-image}
pub use Rattle.pg_maps.proofs.Turning.{image-beyond, image-followed}
pub use Rattle.std.proofs.lemmas.Bool.{cases_Bool, cases_eq, cases_lt, cond-false, cond-true}
pub use Rattle.std.proofs.lemmas.Bool.{false≢true, leb-false, leb-true}
pub use Rattle.std.proofs.lemmas.List.{get_or-map, get_or_past, length-map, length-set, length_push}
pub use Rattle.std.proofs.lemmas.List.{map_push, take_all, take_more}
pub use Rattle.std.proofs.lemmas.List.Elements.{All-cons, All-head, All-map, All-nil, All-push}
pub use Rattle.std.proofs.lemmas.List.Elements.{All-tail}
pub use Rattle.std.proofs.lemmas.List.FromFn.{get_or-map-range_with_len, length-map-range_with_len}
pub use Rattle.std.proofs.lemmas.List.FromFn.{map-range_with_len_more}
pub use Rattle.std.proofs.lemmas.Option.{get_or_from_slice_get, none-some, slice_get-get_or}
pub use Rattle.std.proofs.lemmas.Option.{slice_get_read, slice_get_within}
pub use Rattle.std.proofs.lemmas.Result.{IfOk-weaker, on_ok_weaker}
