use Rattle.std.proofs.Common.{◌≡◌, ◌∷◌, [], ℕ, refl, sym, ap, ◌∙◌, subst, subst₂, arith}
use Rattle.std.proofs.lemmas.Bool.{false≢true}
use Rattle.pg_maps.specs.declared.grid_map.GridMap.{GridMap}
use Rattle.pg_maps.specs.GridMaps.{number_of, identity}
use Rattle.pg_maps.specs.Images.{AreFitting}
use Rattle.pg_maps.proofs.Listing.{AreFitting-first, AreFitting-alone, AreFitting-same}
use Rattle.pg_maps.proofs.Listing.{AreFitting-plain}
use Rattle.pg_maps.proofs.Numbers.{number-numbered}
use Rattle.pg_maps.proofs.fitting.is_symmetric.Goals as goal

pub returns-in_default : goal.returns-in_default
returns-in_default c =
    let g = c.args.g.now in (
      λ no. absurd (false≢true no),
      λ has. absurd
          (AreFitting-plain g (AreFitting-alone g (sym c.board_of.ensures ∙ c.in_default.is)) has),
    )

pub loop-number-init : goal.loop-number-init
loop-number-init c = AreFitting-first c.args.g.now

pub fits_beside-requires-clause-maps : goal.fits_beside-requires-clause-maps
fits_beside-requires-clause-maps c =
    let number : number_of c.numbered-map.result ≡ c.loop-number.number =
    ap number_of c.numbered-map.ensures
    ∙ number-numbered c.loop-number.number c.loop-number-test.true in
    subst₂ (λ (k : ℕ) (m : GridMap). AreFitting c.args.g.now k (m ∷ [])) (sym number)
    (sym c.numbered.ensures) c.loop-number.invariant

pub loop-number-preserved : goal.loop-number-preserved
loop-number-preserved c =
    let k = c.loop-number.number in
    let number : number_of c.numbered-map.result ≡ k =
    ap number_of c.numbered-map.ensures ∙ number-numbered k c.loop-number-test.true in
    AreFitting-same c.args.g.now k (identity ∷ []) c.numbered-map.result c.loop-number.invariant
    number (λ h. false≢true (sym c.if-branch.false ∙ c.in_ok-fits_beside.ensures.1 h))

pub returns-then-branch : goal.returns-then-branch
returns-then-branch c =
    let m = c.numbered-map.result in
    let number : number_of m ≡ c.loop-number.number = ap number_of c.numbered-map.ensures
    ∙ number-numbered c.loop-number.number c.loop-number-test.true in (
      λ yes. record {
        map = m;
        fits = c.in_ok-fits_beside.ensures.0 c.if-branch.true;
        other = λ zero. omega (arith, zero, number, c.loop-number.auto.number);
      },
      λ has. refl,
    )

pub returns : goal.returns
returns c =
    let g = c.args.g.now in
    let end : c.loop-number.number ≡ 8 =
    omega (arith, c.loop-number-test.false, c.loop-number.auto.number-end) in (
      λ no. absurd (false≢true no),
      λ has. absurd
          (AreFitting-plain g
          (subst (λ (k : ℕ). AreFitting g k (identity ∷ [])) end c.loop-number.invariant) has),
    )
