use Rattle.std.proofs.Common.{◌≡◌, ℕ, List, length, ap, ◌∙◌}
use Rattle.pg_gf2.proofs.Common.{contains, Matroid, free_with_e, elements-e}
use Rattle.pg_gf2.specs.declared.ground.VecGround.{VecGround}
use Rattle.pg_gf2.specs.Vectors.{vector_matroid}
use Rattle.pg_gf2.specs.Classes.{with_target}
use Rattle.pg_gf2.proofs.ClassLemmas.{VectorSetsHold-decided, vector_class-sets}
use Rattle.pg_gf2.proofs.classify.vec_classify.Goals as goal

matroid_of : VecGround → Matroid
matroid_of s = vector_matroid s.vectors.items (contains s.x) (contains s.elements)

same_matroid : (first bases : VecGround) (m : Matroid)
    → bases ≡ first
    → matroid_of first ≡ m
    → matroid_of bases ≡ m
same_matroid first bases m e h = ap matroid_of e ∙ h

pub decide-requires : goal.decide-requires
unfolding matroid_of
decide-requires c =
    let g = c.args.g.now in
    let same = same_matroid c.in_ok-first.first c.open-bases.result.first
    (vector_matroid (with_target g) (contains g.x)
    (free_with_e (contains g.x) (contains g.y) (length g.vectors))) c.open-bases.ensures.0
    c.in_ok-first.ensures in
    ap (λ (m : Matroid). m.elements (length c.as_slice.result.now)) same
    ∙ (ap (λ (vs : List ℕ).
    free_with_e (contains g.x) (contains g.y) (length g.vectors) (length vs)) c.as_slice.ensures
    ∙ elements-e (contains g.x) (contains g.y) (length g.vectors))

pub returns-clause-sets : goal.returns-clause-sets
unfolding matroid_of
returns-clause-sets c =
    let g = c.args.g.now in
    let same = same_matroid c.in_ok-first.first c.open-bases.result.first
    (vector_matroid (with_target g) (contains g.x)
    (free_with_e (contains g.x) (contains g.y) (length g.vectors))) c.open-bases.ensures.0
    c.in_ok-first.ensures in
    VectorSetsHold-decided g _ (length c.as_slice.result.now) c.decide.result same
    (ap length c.as_slice.ensures) c.decide.ensures.taken

pub returns-clause-class : goal.returns-clause-class
unfolding matroid_of
returns-clause-class c =
    let g = c.args.g.now in
    let same = same_matroid c.in_ok-first.first c.open-bases.result.first
    (vector_matroid (with_target g) (contains g.x)
    (free_with_e (contains g.x) (contains g.y) (length g.vectors))) c.open-bases.ensures.0
    c.in_ok-first.ensures in
    vector_class-sets g c.decide.result
    (VectorSetsHold-decided g _ (length c.as_slice.result.now) c.decide.result same
    (ap length c.as_slice.ensures) c.decide.ensures.taken)
