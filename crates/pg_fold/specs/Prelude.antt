-- What the definitions of this crate name of std and of the crates below.
pub use Rattle.pg_base.specs.Points.{AreBelow, members}
pub use Rattle.pg_base.specs.declared.goal.Goal.{Goal}
pub use Rattle.pg_base.specs.declared.grid.Grid.{Grid}
pub use Rattle.pg_base.specs.declared.limits.TheConstants.{MAX_MEMBERS}
pub use Rattle.pg_base.specs.declared.side.Side.{Side}
pub use Rattle.pg_cert.specs.Limits.{IsClaim, IsNode, IsTurn, IsWithinLimits, node_count}
pub use Rattle.pg_cert.specs.Node.{position_of}
pub use Rattle.pg_cert.specs.Valid.{EndsRight, FollowMoves, FollowsMove, HasCuts, HasPairs}
pub use Rattle.pg_cert.specs.Valid.{HasPotential, HasThreat, HasTrees, HasTurn, HasWeaker, IsInGame}
pub use Rattle.pg_cert.specs.Valid.{IsNodeOf, IsOwed, IsValid, IsValidClaim, NamesEarlier, Passes}
pub use Rattle.pg_cert.specs.Valid.{PotentialFits, TakesFree, is_allowed, shows_cuts, shows_trees}
pub use Rattle.pg_cert.specs.declared.cert.Cert.{Cert}
pub use Rattle.pg_cert.specs.declared.cert.Claim.{Claim}
pub use Rattle.pg_cert.specs.declared.node.Body.{Body}
pub use Rattle.pg_cert.specs.declared.node.Body.TheVariants.{Cuts, Move, Over, Pairs, Potential}
pub use Rattle.pg_cert.specs.declared.node.Body.TheVariants.{Threat, Trees, Weaker}
pub use Rattle.pg_cert.specs.declared.node.Node.{Node}
pub use Rattle.pg_cert.specs.declared.reply.Reply.{Reply}
pub use Rattle.pg_game.specs.Game.{IsPosition, after, free_points, is_over, point_count, with_turn}
pub use Rattle.pg_game.specs.Position.{is_free}
pub use Rattle.pg_game.specs.PositionLemmas.{equal_positions, equal_positions-decides}
pub use Rattle.pg_game.specs.declared.game.Game.{Game}
pub use Rattle.pg_game.specs.declared.position.Position.{Position}
pub use Rattle.pg_image.specs.Limits.{IsImageClaim, IsImageNode, IsImageWithinLimits, IsMarked}
pub use Rattle.pg_image.specs.Limits.{image_node_count}
pub use Rattle.pg_image.specs.Node.{image_node_position}
pub use Rattle.pg_image.specs.declared.cert.ImageCert.{ImageCert}
pub use Rattle.pg_image.specs.declared.cert.ImageClaim.{ImageClaim}
pub use Rattle.pg_image.specs.declared.node.ImageNode.{ImageNode}
pub use Rattle.pg_image.specs.declared.node.ImageNode.TheVariants.{Image, Plain}
pub use Rattle.pg_maps.specs.GridMaps.{IsMapOf, followed_by, identity, image_of, number_of}
pub use Rattle.pg_maps.specs.GridMaps.{reverse_of}
pub use Rattle.pg_maps.specs.Images.{Fits, HasSymmetry, IsAutomorphism, IsImage, IsMapOn, board_of}
pub use Rattle.pg_maps.specs.Images.{image_on, image_position, image_set}
pub use Rattle.pg_maps.specs.declared.grid_map.GridMap.{GridMap}
pub use Rattle.pg_unfold.specs.Copies.{AreCopies, ComesBefore, Copy, IsAt, IsMet, IsMetBy, IsPlaced}
pub use Rattle.pg_unfold.specs.Copies.{IsPlain, LeadsTo, NamesChild, SettlesBy, StandsFor}
pub use Rattle.pg_unfold.specs.Flaws.{AreSound, HaveRoom, IsSoundClaim, IsUsable}
pub use Rattle.pg_unfold.specs.Unfolded.{AreReplyImages, AreUnfolded, BecomesUnder, IsBodyImage}
pub use Rattle.pg_unfold.specs.Unfolded.{IsCopied, IsReplyImage, IsUnfolded, IsUnfoldedCert}
pub use Rattle.pg_unfold.specs.declared.unfolded.Unfolded.{Unfolded}
pub use Rattle.std.specs.FinSet.{FinSet, contains, from_list, insert}
pub use Rattle.std.specs.HashMap.{get}
pub use Rattle.std.specs.List.{All, AllByRecursion, AllPairs, AllZip, Contains, range_with_len}
pub use Rattle.std.specs.List.{sum_by}
pub use Rattle.std.specs.Ordering.{nat_cmp}
