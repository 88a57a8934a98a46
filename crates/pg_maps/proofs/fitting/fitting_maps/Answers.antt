use Rattle.std.proofs.Common.{◌≡◌, ◌∷◌, [], ◌++◌, List, sym, ap, ap₂, ◌∙◌, subst, subst₂, arith}
use Rattle.std.proofs.Common.{◌+◌, ℕ}
use Rattle.std.proofs.lemmas.Bool.{false≢true}
use Rattle.pg_maps.specs.declared.grid_map.GridMap.{GridMap}
use Rattle.pg_maps.specs.GridMaps.{number_of, identity}
use Rattle.pg_maps.specs.Images.{AreFitting}
use Rattle.pg_maps.proofs.Listing.{AreFitting-first, AreFitting-alone, AreFitting-whole}
use Rattle.pg_maps.proofs.Listing.{AreFitting-more, AreFitting-same}
use Rattle.pg_maps.proofs.Numbers.{number-numbered}
use Rattle.pg_maps.proofs.fitting.fitting_maps.Goals as goal
use Rattle.pg_maps.proofs.fitting.fitting_maps.Goals.{then-branch+in_ok-push-2, else-branch}

pub returns-in_default : goal.returns-in_default
returns-in_default c =
    let g = c.args.g.now in
    let items : c.push.new.self.items ≡ identity ∷ [] = c.in_ok-push.ensures.items
    ∙ ap₂ (λ (xs : List GridMap) (m : GridMap). xs ++ m ∷ []) c.in_ok-maps.ensures.items
    c.numbered.ensures in
    let all = AreFitting-whole g c.push.new.self.items
    (subst (AreFitting g 8) (sym items)
    (AreFitting-alone g (sym c.board_of.ensures ∙ c.in_default.is))) in
    record { fit = all.0; ascending = all.1 }

pub loop-number-init : goal.loop-number-init
loop-number-init c =
    let items : c.push.new.self.items ≡ identity ∷ [] = c.in_ok-push.ensures.items
    ∙ ap₂ (λ (xs : List GridMap) (m : GridMap). xs ++ m ∷ []) c.in_ok-maps.ensures.items
    c.numbered.ensures in
    subst (AreFitting c.args.g.now 1) (sym items) (AreFitting-first c.args.g.now)

pub fits_beside-requires-clause-maps : goal.fits_beside-requires-clause-maps
fits_beside-requires-clause-maps c =
    let number : number_of c.numbered-m.result ≡ c.loop-number.number =
    ap number_of c.numbered-m.ensures
    ∙ number-numbered c.loop-number.number c.loop-number-test.true in
    subst₂ (λ (k : ℕ) (maps : List GridMap). AreFitting c.args.g.now k maps) (sym number)
    (sym c.as_slice-in-loop-number.ensures.value) c.loop-number.invariant

pub loop-number-preserved : goal.loop-number-preserved
loop-number-preserved c =
    let g = c.args.g.now in
    let k = c.loop-number.number in
    let m = c.numbered-m.result in
    let number : number_of m ≡ k =
    ap number_of c.numbered-m.ensures ∙ number-numbered k c.loop-number-test.true in
    elim c.if-branch.branch [
      | then-branch+in_ok-push-2 w ↦ subst (AreFitting g (k + 1))
          (sym (ap (λ v. v.items) w.maps-is ∙ w.in_ok-push-2.ensures.items))
          (AreFitting-more g k c.loop-number.maps.items m c.loop-number.invariant number
          (c.in_ok-fits_beside.ensures.0 w.if-branch.true))
      | else-branch w ↦ subst (AreFitting g (k + 1)) (sym (ap (λ v. v.items) w.maps-is))
          (AreFitting-same g k c.loop-number.maps.items m c.loop-number.invariant number
          (λ h. false≢true (sym w.if-branch.false ∙ c.in_ok-fits_beside.ensures.1 h)))
    ]

pub returns : goal.returns
returns c =
    let g = c.args.g.now in
    let end : c.loop-number.number ≡ 8 =
    omega (arith, c.loop-number-test.false, c.loop-number.auto.number-end) in
    let all = AreFitting-whole g c.loop-number.maps.items
    (subst (λ (k : ℕ). AreFitting g k c.loop-number.maps.items) end c.loop-number.invariant) in
    record { fit = all.0; ascending = all.1 }
