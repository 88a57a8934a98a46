use Rattle.std.proofs.Common.{ℕ, Bool, subst, subst₂, sym}
use Rattle.pg_span.proofs.Common.{contains, IsBase, Matroid, AreBases, IsSettled}
use Rattle.pg_span.proofs.bases.settled.Goals as goal

pub returns-clause-settled : goal.returns-clause-settled
returns-clause-settled g c =
    let s = c.settle.new.self in
    let m = g.G.Ground.matroid s.first in
    let b = g.G.Ground.base s.first in
    let d = g.G.Ground.base s.second in
    let base2 : IsBase m.spans m.elements d = subst (λ (q : Matroid). IsBase q.spans q.elements d)
    (sym s.same) (g.met.G.Ground.is_base s.second) in
    let none : IsSettled m b d = subst (λ (q : Matroid). IsSettled q b d)
    (sym c.settle.ensures.kept.first) c.settle.ensures.none in
    let all : AreBases m b d (contains c.reached.result) = record {
      first_base = g.met.G.Ground.is_base s.first;
      second_base = base2;
      reached = c.reached.ensures.reached none;
    } in
    subst₂ (λ (p q : ℕ → Bool).
    AreBases (g.G.Ground.matroid c.args.bases.now.first) p q (contains c.reached.result))
    (sym c.reached.ensures.kept_bases.first) (sym c.reached.ensures.kept_bases.second)
    (subst (λ (q : Matroid). AreBases q b d (contains c.reached.result)) c.settle.ensures.kept.first
    all)
