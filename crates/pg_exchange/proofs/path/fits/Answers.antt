use Rattle.std.proofs.Common.{◌≡◌, nat_lt, ℕ, true, slice_index, ap, sym, ◌∙◌, refl, inl, inr}
use Rattle.pg_exchange.proofs.Common.{ltb-true}
use Rattle.pg_exchange.specs.Path.{first_label, second_label, above_of, via_of, depth_of}
use Rattle.pg_exchange.proofs.path.fits.Goals as goal

pub returns-then-are_ends-clause-step : goal.returns-then-are_ends-clause-step
unfolding first_label second_label
returns-then-are_ends-clause-step c h =
    let g = c.args.g.now in
    let names = c.args.names.now in
    let k : ℕ = via_of c.args.steps.now c.args.here in
    let first : first_label g names k ≡ slice_index names c.ends_of-u.result.0 =
    ap (λ (p : ℕ × ℕ). slice_index names p.0) (sym c.ends_of-u.ensures.ends) in
    let second : second_label g names k ≡ slice_index names c.ends_of-u.result.1 =
    ap (λ (p : ℕ × ℕ). slice_index names p.1) (sym c.ends_of-u.ensures.ends) in
    let less : nat_lt (depth_of c.args.steps.now (above_of c.args.steps.now c.args.here))
    (depth_of c.args.steps.now c.args.here) ≡ true = h in
    record {
      member = cc (c.has.ensures, c.if-not-has.false);
      ends = elim (c.are_ends.ensures c.if-are_ends.true) [
        | inl e ↦ inl (first ∙ e.0, second ∙ e.1)
        | inr e ↦ inr (first ∙ e.0, second ∙ e.1)
      ];
      onward = refl;
      lower = ltb-true _ _ less;
    }
