use Rattle.std.proofs.Common.{◌≡◌, ◌+◌, take}
use Rattle.std.specs.List.{All, AllZip}
use Rattle.pg_play_tree.specs.Prelude.{IsClaim, node_count}
use Rattle.pg_play_tree.specs.Tree.{IsClaimTree}
use Rattle.pg_play_tree.proofs.tree.claim_trees.Given as goal

abbrev pub invariant-loop-claim : goal.invariant-loop-claim
invariant-loop-claim l = record {
  trees : AllZip (IsClaimTree l.checked.game.now l.checked.cert.now)
      (take l.claim-index l.claims) l.trees.items;
  limits : All IsClaim l.trees.items;
  few : node_count l.trees.items + l.left ≡ l.most;
}
