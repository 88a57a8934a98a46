use Rattle.std.proofs.Common.{List, sym, subst, subst₂}
use Rattle.pg_fold.proofs.Common.{All, AllZip, IsClaim, Claim, ImageCert, ImageClaim}
use Rattle.std.specs.Global.{Vec}
use Rattle.pg_fold.specs.Folded.{IsFoldedClaim}
use Rattle.pg_fold.specs.Places.{AreFoldable}
use Rattle.pg_fold.specs.Tables.{AreOrdered, AreTables}
use Rattle.pg_fold.proofs.Limits.{folded-limits}
use Rattle.pg_fold.proofs.Singles.{all-folded, foldable-of}
use Rattle.pg_fold.proofs.folding.fold.Goals as goal
use Rattle.pg_fold.proofs.folding.fold.Goals.{then-have_one_node+in_ok-folded}
use Rattle.pg_fold.proofs.folding.fold.Goals.{else-have_one_node+in_ok-tables+in_ok-folded-2}

pub fold_claims-requires-clause-limits : goal.fold_claims-requires-clause-limits
fold_claims-requires-clause-limits c = subst (λ (cs : List Claim). All IsClaim cs)
    (sym c.as_slice-claims.ensures) c.requires.limits.claims

pub fold_claims-requires-clause-ordered : goal.fold_claims-requires-clause-ordered
fold_claims-requires-clause-ordered c =
    subst AreOrdered (sym c.as_slice.ensures.value) c.in_ok-tables.ensures.ordered

pub returns-clause-folded : goal.returns-clause-folded
returns-clause-folded c =
    let g = c.args.g.now in
    let cs = c.as_slice-claims.result.now in
    record {
      claims = subst₂ (λ (xs : List Claim) (ds : List ImageClaim). AllZip (IsFoldedClaim g) xs ds)
          c.as_slice-claims.ensures (sym c.from_vec.ensures) (elim c.if-have_one_node.branch [
            | then-have_one_node+in_ok-folded w ↦ subst
                (λ (v : Vec ImageClaim). AllZip (IsFoldedClaim g) cs v.items) (sym w.folded-is)
                (all-folded g cs w.in_ok-folded.folded.items w.in_ok-folded.ensures)
            | else-have_one_node+in_ok-tables+in_ok-folded-2 w ↦ subst
                (λ (v : Vec ImageClaim). AllZip (IsFoldedClaim g) cs v.items) (sym w.folded-is)
                (w.in_ok-folded-2.ensures g
                (subst (AreTables g) (sym w.as_slice.ensures.value) w.in_ok-tables.ensures.tables)
                (subst (AreFoldable g) (sym c.as_slice-claims.ensures)
                (foldable-of g c.args.c.now c.requires.valid c.requires.differ)))
          ]);
    }

pub returns-clause-limits : goal.returns-clause-limits
returns-clause-limits c =
    let d : ImageCert = record { claims = c.from_vec.result } in
    folded-limits c.args.g.now c.args.c.now d c.requires.limits (returns-clause-folded c)
