use Rattle.std.proofs.Common.{◌≡◌, ◌+◌, suc, ℕ, arith, slice_index, ap, sym, subst}
use Rattle.pg_exchange.proofs.Common.{edge_count}
use Rattle.pg_exchange.specs.Path.{first_label, second_label}
use Rattle.pg_exchange.specs.Stars.{AreStars}
use Rattle.pg_exchange.proofs.StarLemmas.{AreStars-next}
use Rattle.pg_exchange.proofs.stars.fill.Goals as goal

pub loop-k-preserved : goal.loop-k-preserved
unfolding first_label second_label
loop-k-preserved c =
    let g = c.args.g.now in
    let names = c.args.names.now in
    let k = c.loop-k.k in
    AreStars-next g names k (k + 1) (slice_index names c.ends_of-u.result.0)
    (slice_index names c.ends_of-u.result.1) c.loop-k.stars c.put_edge.new.stars
    c.put_edge-in-loop-k.new.stars (omega arith)
    (ap (λ (p : ℕ × ℕ). slice_index names p.0) (sym c.ends_of-u.ensures.ends))
    (ap (λ (p : ℕ × ℕ). slice_index names p.1) (sym c.ends_of-u.ensures.ends))
    (omega arith) c.put_edge.ensures c.put_edge-in-loop-k.ensures c.loop-k.invariant

pub returns : goal.returns
returns c =
    let last : c.loop-k.k ≡ suc (edge_count c.args.g.now) = omega arith in
    subst (λ (n : ℕ). AreStars c.args.g.now c.args.names.now n c.loop-k.stars) last
    c.loop-k.invariant
