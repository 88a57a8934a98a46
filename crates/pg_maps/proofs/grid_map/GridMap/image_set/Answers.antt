use Rattle.std.proofs.Common.{◌≡◌, ◌<◌, ◌≤◌, ℕ, ◌||◌, sym, ap, ◌∙◌, inl, inr, arith, eqb, eq-eqb}
use Rattle.std.proofs.Common.{eqb-true}
use Rattle.pg_maps.proofs.Common.{cases_eq, cases_lt, both_ways, or_cases, or_left, or_right}
use Rattle.pg_maps.proofs.Common.{FinSet, contains, contains-empty, nat_cmp, in_insert}
use Rattle.pg_maps.specs.GridMaps.{image_of}
use Rattle.pg_maps.proofs.SetImages.{image_set-from}
use Rattle.pg_maps.proofs.grid_map.GridMap.image_set.Goals as goal

pub loop-v-init : goal.loop-v-init
loop-v-init c = record {
  next = omega arith;
  into = λ v lt on. absurd (omega (arith, lt));
  from = λ w on. absurd (both_ways _
      (ap (λ (s : FinSet nat_cmp). contains s w) c.empty-image.ensures ∙ contains-empty nat_cmp w)
      on);
}

pub loop-v-preserved : goal.loop-v-preserved
loop-v-preserved c =
    let i = c.loop-v.invariant in
    let at = c.in-Some.v in
    let found = c.in-Some.ensures.found in
    let range : at < 1024 = c.in-Some.ensures.range in
    let f : ℕ → ℕ = image_of c.args.self c.args.grid in
    let now : (w : ℕ)
    → contains c.put.new.self w ≡ (eqb w c.image_of.result || contains c.loop-v.image w) =
    λ w. ap (λ (s : FinSet nat_cmp). contains s w) c.put.ensures
    ∙ in_insert c.loop-v.image c.image_of.result w in
    record {
      next = omega arith;
      into = λ v lt on. elim (cases_eq v at) [
        | inl e ↦ now (f v)
            ∙ or_left _ _ (eq-eqb (f v) c.image_of.result (ap f e ∙ sym c.image_of.ensures.image))
        | inr ne ↦
            let before : v < c.loop-v.next = elim (cases_lt v c.loop-v.next) [
              | inl less ↦ less
              | inr ge ↦ absurd (let least : at ≤ v = found.least v ge on in omega arith)
            ] in
            now (f v) ∙ or_right _ _ (i.into v before on)
      ];
      from = λ w on. elim (or_cases _ _ (sym (now w) ∙ on)) [
        | inl same ↦ (
          at,
          found.member,
          sym c.image_of.ensures.image ∙ sym (eqb-true w c.image_of.result same),
        )
        | inr old ↦ i.from w old
      ];
    }

pub returns : goal.returns
returns c =
    let i = c.loop-v.invariant in
    image_set-from (image_of c.args.self c.args.grid) c.args.set.now c.loop-v.image
    c.in_default.ensures.limit (λ v on. i.into v (elim (cases_lt v c.loop-v.next) [
      | inl lt ↦ lt
      | inr ge ↦ absurd (both_ways _ (c.in_default.ensures.none v ge) on)
    ]) on) i.from
