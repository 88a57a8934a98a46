use Rattle.std.proofs.Common.{◌≡◌, ◌<◌, ◌≤◌, ◌+◌, ℕ, Bool, arith, ap, ◌∙◌, sym, subst, suc}
use Rattle.pg_exchange.proofs.Common.{contains, count, count_plus, edge_count}
use Rattle.pg_exchange.specs.Path.{first_label, second_label, above_of, via_of, IsTraced}
use Rattle.pg_exchange.proofs.Tests.{emptied, with_point}
use Rattle.pg_exchange.proofs.TreeLemmas.{count_most}
use Rattle.pg_exchange.proofs.PathLemmas.{IsTraced-begin, IsTraced-step, IsPath-traced}
use Rattle.pg_exchange.proofs.PathLemmas.{fresh_traced, step_here}
use Rattle.pg_exchange.proofs.path.path.Goals as goal

pub loop-here-init : goal.loop-here-init
loop-here-init c = IsTraced-begin (first_label c.args.g.now c.args.names.now)
    (second_label c.args.g.now c.args.names.now) (contains c.args.base.now) c.args.from c.args.to
    c.args.g.now.vertices (contains c.empty-found.result) (above_of c.find.new.steps)
    (via_of c.find.new.steps) (emptied c.empty-found.result c.empty-found.ensures)
    (c.find.ensures c.args.to c.requires.joined)

pub put-requires : goal.put-requires
put-requires c =
    let g = c.args.g.now in
    let s = step_here (first_label g c.args.names.now) (second_label g c.args.names.now)
    (contains c.args.base.now) c.args.from c.args.to g.vertices c.loop-here.here
    (contains c.loop-here.found) (above_of c.find.new.steps)
    (via_of c.find.new.steps) c.loop-here.invariant c.loop-here-test.true in
    let low = c.requires.base (via_of c.find.new.steps c.loop-here.here) s.member in
    omega (arith, low, c.requires.starred.labelled.graph.few_edges)

pub loop-here-smaller : goal.loop-here-smaller
loop-here-smaller c =
    let g = c.args.g.now in
    let found = contains c.loop-here.found in
    let k : ℕ = via_of c.find.new.steps c.loop-here.here in
    let s = step_here (first_label g c.args.names.now) (second_label g c.args.names.now)
    (contains c.args.base.now) c.args.from c.args.to g.vertices c.loop-here.here found
    (above_of c.find.new.steps)
    (via_of c.find.new.steps) c.loop-here.invariant c.loop-here-test.true in
    let new = fresh_traced (first_label g c.args.names.now) (second_label g c.args.names.now)
    (contains c.args.base.now) c.args.from c.args.to g.vertices c.loop-here.here found
    (above_of c.find.new.steps)
    (via_of c.find.new.steps) c.loop-here.invariant c.loop-here-test.true in
    let low : k < suc (edge_count g) = c.requires.base k s.member in
    let range : k < 1024 = omega (arith, low, c.requires.starred.labelled.graph.few_edges) in
    let now = with_point c.loop-here.found c.put.new.self k c.put.ensures in
    let more : count (contains c.put.new.self) 1024 ≡ count found 1024 + 1 =
    ap (λ (t : ℕ → Bool). count t 1024) now ∙ count_plus found k 1024 new range in
    let most : count (contains c.put.new.self) 1024 ≤ 1024 =
    count_most (contains c.put.new.self) 1024 in
    omega arith

pub loop-here-preserved : goal.loop-here-preserved
loop-here-preserved c =
    let g = c.args.g.now in
    let k : ℕ = via_of c.find.new.steps c.loop-here.here in
    let now = with_point c.loop-here.found c.put.new.self k c.put.ensures in
    subst
    (λ (t : ℕ → Bool). IsTraced (first_label g c.args.names.now) (second_label g c.args.names.now)
    (contains c.args.base.now) c.args.from c.args.to g.vertices
    (above_of c.find.new.steps c.loop-here.here) t (above_of c.find.new.steps)
    (via_of c.find.new.steps)) (sym now)
    (IsTraced-step (first_label g c.args.names.now) (second_label g c.args.names.now)
    (contains c.args.base.now) c.args.from c.args.to g.vertices c.loop-here.here
    (contains c.loop-here.found) (above_of c.find.new.steps)
    (via_of c.find.new.steps) c.loop-here.invariant c.loop-here-test.true)

pub returns : goal.returns
returns c =
    let g = c.args.g.now in
    IsPath-traced (first_label g c.args.names.now) (second_label g c.args.names.now)
    (contains c.args.base.now) c.args.from c.args.to g.vertices c.loop-here.here
    (contains c.loop-here.found) (above_of c.find.new.steps)
    (via_of c.find.new.steps) c.loop-here-test.false c.loop-here.invariant
