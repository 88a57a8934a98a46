use Rattle.std.proofs.Common.{◌≡◌, ◌&&◌, not, ℕ, Bool, true, false, inl, inr, sym, ap, ◌∙◌, subst}
use Rattle.std.specs.Prelude.{nat_lt}
use Rattle.pg_gf2.proofs.Common.{and_parts, both_ways, not-true, or_cases, lt-ltb, contains}
use Rattle.pg_gf2.proofs.Common.{minus_from, outside_parts}
use Rattle.pg_gf2.proofs.room.with_above.Goals as goal

pub returns : goal.returns
returns c d low on z h =
    let set = contains c.args.set.now in
    let candidates = contains c.args.candidates.now in
    elim (or_cases _ _ (sym (c.union.ensures.members z) ∙ h)) [
      | inl a ↦
          let p : (set z ≡ true) × (candidates z ≡ false) =
          outside_parts set candidates z (c.requires.base z a) in
          minus_from set d z p.0
          (λ e. both_ways _ p.1 (subst (λ (k : ℕ). candidates k ≡ true) e on))
      | inr b ↦
          let p : (contains c.without-shared.result z ≡ true)
          × (not (nat_lt z c.args.limit) ≡ true) = and_parts _ _ (sym (c.without-2.ensures.members z
          ∙ ap (λ (t : Bool). contains c.without-shared.result z && not t) (c.all_below.ensures z))
          ∙ b) in
          let q : (set z ≡ true) × (not (contains c.without.result z) ≡ true) =
          and_parts _ _ (sym (c.without-shared.ensures.members z) ∙ p.0) in
          minus_from set d z q.0 (λ e. both_ways _ (not-true _ p.1)
          (subst (λ (k : ℕ). nat_lt k c.args.limit ≡ true) e (lt-ltb _ _ low)))
    ]
