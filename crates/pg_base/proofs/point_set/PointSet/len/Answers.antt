use Rattle.std.proofs.Common.{◌≡◌, ◌*◌, ◌∙◌, ap, sym, arith, get_or}
use Rattle.pg_base.proofs.Common.{len, ones-le}
use Rattle.pg_base.specs.Words.{members_below}
use Rattle.pg_base.specs.WordLemmas.{len-members_start, len-members_row}
use Rattle.pg_base.proofs.point_set.PointSet.len.Goals as goal
use Rattle.pg_base.specs.declared.limits.TheConstants.{MAX_MEMBERS}

pub loop-word-init : goal.loop-word-init
loop-word-init c =
    record { counted = sym (len-members_start c.self.inside.words); bound = omega arith }

pub overflow_add-points : goal.overflow_add-points
overflow_add-points c = omega (
  arith,
  ones-le 64 (get_or c.self.inside.words c.loop-word.word-index 0)
      (c.self.invariant.fit c.loop-word.word-index),
  c.loop-word.invariant.bound,
)

pub loop-word-preserved : goal.loop-word-preserved
loop-word-preserved c = record {
  counted = rw c.loop-word.invariant.counted
      (sym (len-members_row c.self.inside.words c.loop-word.word-index
      (c.self.invariant.fit c.loop-word.word-index)));
  bound = omega (
    arith,
    ones-le 64 (get_or c.self.inside.words c.loop-word.word-index 0)
        (c.self.invariant.fit c.loop-word.word-index),
    c.loop-word.invariant.bound,
  );
}

pub returns-clause-exact : goal.returns-clause-exact
returns-clause-exact c =
    let end : 64 * c.loop-word.word-index ≡ MAX_MEMBERS = omega arith in
    c.loop-word.invariant.counted
    ∙ ap (λ n. len (members_below c.self.inside.words n)) end
    ∙ ap len c.self.view_is

pub returns-clause-few : goal.returns-clause-few
returns-clause-few c = omega (arith, c.loop-word.invariant.bound)
