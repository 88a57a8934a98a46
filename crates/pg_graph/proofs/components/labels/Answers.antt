use Rattle.std.proofs.Common.{◌≡◌, ℕ, List, length, arith, sym, ◌∙◌, subst}
use Rattle.pg_graph.proofs.Common.{contains, take_at}
use Rattle.pg_graph.specs.Graph.{first_end_of, second_end_of}
use Rattle.pg_graph.specs.Labels.{IsLabelling, AreLabels}
use Rattle.pg_graph.proofs.ReadLemmas.{AreLabels-read}
use Rattle.pg_graph.proofs.components.labels.Goals as goal

pub returns : goal.returns
returns c =
    let g = c.args.g.now in
    let read = c.read_roots.new.names in
    let tops = c.label.new.parents in
    let size : length read ≡ c.in_ok-names.names.len = omega arith in
    let whole : length tops ≡ c.in_ok-parents.parents.len =
    omega (arith, c.in_ok-parents.ensures.len) in
    let seen : c.deref_mut-2.result.now ≡ tops =
    c.deref_mut-2.ensures.value ∙ take_at tops _ c.in_ok-parents.parents.len whole in
    let labelled = subst
    (λ (l : List ℕ). IsLabelling (first_end_of g) (second_end_of g) (contains c.args.set.now) l)
    (sym seen) c.label.ensures in
    subst (λ (l : List ℕ). AreLabels g (contains c.args.set.now) l)
    (sym (take_at read _ c.in_ok-names.names.len size))
    (AreLabels-read g (contains c.args.set.now) c.deref_mut-2.result.now read c.requires.set
    (omega (arith, c.in_ok-parents.ensures.len)) (omega (
      arith,
      c.in_ok-names.ensures.len,
      c.in_ok-parents.ensures.len,
    )) labelled c.read_roots.ensures)
