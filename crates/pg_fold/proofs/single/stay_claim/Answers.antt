use Rattle.std.proofs.Common.{◌∷◌, ◌++◌, [], List, length, refl, sym, ap, ap₂, ◌∙◌, arith}
use Rattle.pg_fold.proofs.Common.{slice_get_read, Node, ImageNode, Plain}
use Rattle.pg_fold.proofs.Singles.{one-alone}
use Rattle.pg_fold.proofs.single.stay_claim.Goals as goal

pub returns : goal.returns
returns c =
    let ns = c.as_slice.result.now in
    let first : Node = c.index-as_slice-0.result in
    let size = ap (λ (xs : List Node). length xs) c.as_slice.ensures in
    let at = slice_get_read ns (length ns) 0 first refl
    (omega (arith, size, c.requires)) c.index-as_slice-0.is in
    let alone = one-alone ns first (omega (arith, size, c.requires)) at in
    record {
      turn = refl;
      side = refl;
      goal = refl;
      node = first;
      of = sym c.as_slice.ensures ∙ alone;
      nodes = c.from_vec.ensures
          ∙ c.in_ok-push.ensures.items
          ∙ ap₂ (λ (xs : List ImageNode) (n : Node). xs ++ Plain n ∷ []) c.in_ok-nodes.ensures.items
          c.in_ok-node.ensures;
    }
