use Rattle.std.proofs.Common.{◌∙◌, Bool, List, Ok, ap, arith, inr, refl, subst, sym}
use Rattle.std.specs.List.{AllZip}
use Rattle.pg_play_tree.specs.Prelude.{Cert, Claim, One}
use Rattle.pg_play_tree.specs.Tree.{IsClaimTree}
use Rattle.pg_play_tree.proofs.Within.{trees_within}
use Rattle.pg_play_tree.proofs.tree.play_tree.Goals as goal

pub is_valid-requires : goal.is_valid-requires
is_valid-requires c = trees_within c.args.checked.game.now c.args.checked.cert.now
    c.in-Some.trees.items c.from_vec.result c.min.result c.requires c.from_vec.ensures
    (rw c.in-Some.is at c.in_ok-trees.ensures.trees)
    (rw c.in-Some.is at c.in_ok-trees.ensures.limits)
    (rw c.in-Some.is at c.in_ok-trees.ensures.few) (omega (arith, c.min.ensures))

pub returns-clause-limits : goal.returns-clause-limits
returns-clause-limits c = trees_within c.args.checked.game.now c.args.checked.cert.now
    c.in-Some.trees.items c.from_vec.result c.min.result c.requires c.from_vec.ensures
    (rw c.in-Some.is at c.in_ok-trees.ensures.trees)
    (rw c.in-Some.is at c.in_ok-trees.ensures.limits)
    (rw c.in-Some.is at c.in_ok-trees.ensures.few) (omega (arith, c.min.ensures))

pub returns-then-not-branch-clause-none : goal.returns-then-not-branch-clause-none
returns-then-not-branch-clause-none c = λ none.
    let g = c.args.checked.game.now in
    let cert = c.args.checked.cert.now in
    let tree : Cert = record { version = One; claims = c.from_vec.result } in
    inr (inr (inr (
      tree,
      record {
        version = refl;
        claims = subst (λ (cs : List Claim). AllZip (IsClaimTree g cert) cert.claims cs)
            (sym c.from_vec.ensures) (rw c.in-Some.is at c.in_ok-trees.ensures.trees);
      },
      c.is_valid.ensures.faulty
          (c.in_ok-is_valid.was ∙ ap (λ (b : Bool). Ok b) c.if-not-branch.true),
    )))
