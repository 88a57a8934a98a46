-- What the definitions of this crate name of std and of the crates below.
pub use Rattle.pg_base.specs.Points.{AreBelow, members}
pub use Rattle.pg_base.specs.Sets.{IsMarked}
pub use Rattle.pg_base.specs.declared.grid.Grid.{Grid}
pub use Rattle.pg_base.specs.declared.side.Side.{Side}
pub use Rattle.pg_cert.specs.Limits.{ArePoints, IsBody, IsClaim, IsNode, IsOfVersion, IsPair}
pub use Rattle.pg_cert.specs.Limits.{IsReply, IsTurn, IsWithinLimits, has_body, node_count}
pub use Rattle.pg_cert.specs.Node.{position_of}
pub use Rattle.pg_cert.specs.Valid.{NamesEarlier}
pub use Rattle.pg_cert.specs.declared.cert.Cert.{Cert}
pub use Rattle.pg_cert.specs.declared.cert.Claim.{Claim}
pub use Rattle.pg_cert.specs.declared.cert.Version.TheVariants.{Two}
pub use Rattle.pg_cert.specs.declared.limits.TheConstants.{MAX_CLAIMS, MAX_CLAIM_NODES, MAX_NODES}
pub use Rattle.pg_cert.specs.declared.node.Body.{Body}
pub use Rattle.pg_cert.specs.declared.node.Body.TheVariants.{Cuts, Move, Over, Pairs, Potential}
pub use Rattle.pg_cert.specs.declared.node.Body.TheVariants.{Threat, Trees, Weaker}
pub use Rattle.pg_cert.specs.declared.node.Node.{Node}
pub use Rattle.pg_cert.specs.declared.reply.Reply.{Reply}
pub use Rattle.pg_game.specs.declared.game.Game.{Game}
pub use Rattle.pg_game.specs.declared.position.Position.{Position}
pub use Rattle.pg_image.specs.Limits.{IsImageClaim, IsImageNode, IsImageWithinLimits}
pub use Rattle.pg_image.specs.Node.{image_node_position}
pub use Rattle.pg_image.specs.declared.cert.ImageCert.{ImageCert}
pub use Rattle.pg_image.specs.declared.cert.ImageClaim.{ImageClaim}
pub use Rattle.pg_image.specs.declared.node.ImageNode.{ImageNode}
pub use Rattle.pg_image.specs.declared.node.ImageNode.TheVariants.{Image, Plain}
pub use Rattle.pg_maps.specs.GridMaps.{IsMapOf, followed_by, identity, image_of, number_of}
pub use Rattle.pg_maps.specs.GridMaps.{numbered, reverse_of}
pub use Rattle.pg_maps.specs.Images.{AreInverse, Fits, IsMapOn, board_of, image_line, image_on}
pub use Rattle.pg_maps.specs.Images.{image_pair, image_position, image_set}
pub use Rattle.pg_maps.specs.declared.grid_map.GridMap.{GridMap}
pub use Rattle.std.specs.FinSet.{FinSet, contains}
pub use Rattle.std.specs.Global.{Vec}
pub use Rattle.std.specs.List.{All, AllPairs, AllZip, Contains}
pub use Rattle.std.specs.List.Sorted.{IsPermutation, IsSorted, IsSortedByKey}
pub use Rattle.std.specs.Ordering.{is_lt, nat_cmp}
