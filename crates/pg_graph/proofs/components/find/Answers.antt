use Rattle.std.proofs.Common.{◌≡◌, ◌≤◌, arith, length, get_or, sym, ◌∙◌}
use Rattle.std.proofs.Math.ListN.{set, length-set}
use Rattle.pg_graph.proofs.RootLemmas.{root-halved, root-own, root-parents, IsUpward-set}
use Rattle.pg_graph.proofs.components.find.Goals as goal

pub loop-parents-preserved : goal.loop-parents-preserved
loop-parents-preserved c =
    let parents = c.loop-parents.parents in
    let v = c.loop-parents.here in
    let i = c.loop-parents.invariant in
    let next : get_or parents v 0 ≤ v = i.upward v i.within in
    let over : get_or parents (get_or parents v 0) 0 ≤ get_or parents v 0 =
    i.upward (get_or parents v 0) (omega arith) in
    let size : length (set parents v (get_or parents (get_or parents v 0) 0)) ≡ length parents =
    length-set parents v (get_or parents (get_or parents v 0) 0) in
    record {
      upward =
          IsUpward-set parents v (get_or parents (get_or parents v 0) 0) i.upward (omega arith);
      same = λ w l. root-halved parents v i.upward i.within c.loop-parents-test.true w (omega arith)
          ∙ i.same w l;
      within = omega arith;
      path = sym (i.same (get_or parents (get_or parents v 0) 0) (omega arith))
          ∙ (root-parents parents i.upward (get_or parents v 0) (omega arith)
          ∙ (root-parents parents i.upward v i.within ∙ (i.same v (omega arith) ∙ i.path)));
    }

pub returns-clause-value : goal.returns-clause-value
returns-clause-value c =
    let i = c.loop-parents.invariant in
    sym (root-own c.loop-parents.parents c.loop-parents.here c.loop-parents-test.false)
    ∙ (i.same c.loop-parents.here (omega arith) ∙ i.path)
