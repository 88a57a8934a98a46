use Rattle.std.proofs.Common.{◌≡◌, ◌↔◌, Bool, IsTrue, ◌∙◌, ap, sym, subst, subst₂}
use Rattle.pg_gf2.proofs.Common.{IfOk-weaker, FinSet, nat_cmp, Body}
use Rattle.pg_gf2.specs.Classes.{TreesAt}
use Rattle.pg_gf2.specs.Check.{with_e_named, AreVectorSets, HasTrees}
use Rattle.pg_gf2.proofs.node.has_trees.Goals as goal

pub returns : goal.returns
returns c =
    let g = c.args.g.now in
    let turn = c.args.turn in
    let w = c.in-Trees in
    let named : c.with_e_named.result ≡ with_e_named g w.with_e w.first =
    c.with_e_named.ensures ∙ ap (with_e_named g w.with_e) c.as_set-first.ensures in
    let sets : AreVectorSets g w.first w.second =
    subst₂ (λ (a b : FinSet nat_cmp). AreVectorSets g a b) c.as_set-first.ensures
    c.as_set-second.ensures (c.are_vector_sets.ensures.0 c.if-not-are_vector_sets.false) in
    let step : (b : Bool)
    → (IsTrue b ↔ TreesAt g turn c.with_e_named.result c.as_set-second.result.now)
    → (IsTrue b ↔ HasTrees g turn c.args.body.now) = λ b told. (
      λ t. subst (λ (body : Body). HasTrees g turn body) (sym w.is) (
        sets,
        subst₂ (λ (a1 a2 : FinSet nat_cmp). TreesAt g turn a1 a2) named c.as_set-second.ensures
            (told.0 t),
      ),
      λ has. told.1
          (subst₂ (λ (a1 a2 : FinSet nat_cmp). TreesAt g turn a1 a2) (sym named)
          (sym c.as_set-second.ensures) (subst (λ (body : Body). HasTrees g turn body) w.is has).1),
    ) in
    IfOk-weaker _ _ _ step c.are_trees.ensures
