use Rattle.std.proofs.Common.{◌≡◌, ◌+◌, ◌-◌, ◌<◌, List, ap, arith, get_or, length, subst, sym}
use Rattle.std.proofs.Common.{◌∙◌, ℕ, Ok, Option, take}
use Rattle.pg_play_tree.specs.Unplayed.{IsLarge}
use Rattle.std.proofs.lemmas.List.Elements.{All-push, all_zip_more}
use Rattle.std.proofs.lemmas.List.Sums.{sum_by_push}
use Rattle.std.specs.List.{All, AllZip}
use Rattle.pg_play_tree.specs.Prelude.{Claim, IsClaim, node_count}
use Rattle.pg_play_tree.specs.Tree.{IsClaimTree}
use Rattle.pg_play_tree.proofs.tree.claim_trees.Goals as goal

pub loop-claim-preserved : goal.loop-claim-preserved
loop-claim-preserved c =
    let is_tree = IsClaimTree c.args.checked.game.now c.args.checked.cert.now in
    let claims = c.as_slice-claims.result.now in
    let i = c.loop-claim.claim-index in
    let trees = c.loop-claim.trees.items in
    let tree = c.in-Some.tree in
    let more = sym c.in_ok-push.ensures.items in
    record {
      trees = subst (λ (ts : List Claim). AllZip is_tree (take (i + 1) claims) ts) more
          (all_zip_more is_tree claims trees i c.claim-item.result tree c.loop-claim-test.true
          c.claim-item.is c.loop-claim.invariant.trees
          (rw c.in-Some.is at c.in_ok-tree.ensures.tree));
      limits = subst (λ (ts : List Claim). All IsClaim ts) more
          (All-push IsClaim trees tree c.loop-claim.invariant.limits
          (rw c.in-Some.is at c.in_ok-tree.ensures.limits));
      few =
          let sum = sum_by_push (λ (claim : Claim). length claim.nodes) trees tree in
          let few = rw c.in-Some.is at c.in_ok-tree.ensures.few in
          let size = ap length c.as_slice.ensures in
          subst (λ (ts : List Claim). node_count ts + (c.loop-claim.left
          - length c.as_slice.result.now) ≡ c.args.most) more
          (omega (arith, sum, few, size, c.loop-claim.invariant.few));
    }

pub claim_tree-requires-clause-claim : goal.claim_tree-requires-clause-claim
claim_tree-requires-clause-claim c =
    let i = c.loop-claim.claim-index in
    let item = c.claim-item.result in
    let at = subst (λ (cs : List Claim). (i < length cs) × (item ≡ get_or cs i item))
    c.as_slice-claims.ensures (c.loop-claim-test.true, c.claim-item.is) in
    (i, at.0, at.1)

pub returns-in_default-clause-many : goal.returns-in_default-clause-many
returns-in_default-clause-many c = λ none.
    let g = c.args.checked.game.now in
    let cert = c.args.checked.cert.now in
    let i = c.loop-claim.claim-index in
    let item = c.claim-item.result in
    let trees = c.loop-claim.trees.items in
    let same = c.as_slice-claims.ensures in
    let at = subst (λ (cs : List Claim). (i < length cs) × (item ≡ get_or cs i item)) same
    (c.loop-claim-test.true, c.claim-item.is) in
    let left : c.loop-claim.left ≡ c.args.most - node_count trees =
    omega (arith, c.loop-claim.invariant.few) in
    record {
      before = i;
      within = at.0;
      trees = trees;
      played = subst (λ (cs : List Claim). AllZip (IsClaimTree g cert) (take i cs) trees) same
          c.loop-claim.invariant.trees;
      claim = item;
      at = at.1;
      large = subst (λ (n : ℕ). IsLarge g cert item n) left
          (c.claim_tree.ensures.many
          (c.in_ok-tree.was ∙ ap (λ (r : Option Claim). Ok r) c.in_default.is));
    }
