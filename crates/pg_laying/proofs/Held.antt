-- What names contain, from what was read of them.
use Rattle.std.proofs.Common.{◌≡◌, ◌∙◌, ℕ, ◌+◌, List, take, Option, Some, None, Result, Ok, Err}
use Rattle.std.proofs.Common.{refl, sym, ap, subst}
use Rattle.std.specs.Prelude.{IsErrAnd}
use Rattle.pg_io.specs.Reading.{IsFile, IsWhole}
use Rattle.pg_layout.specs.declared.fault.Fault.TheVariants.{Size}
use Rattle.pg_layout.specs.declared.fault.TheConstants.{MAX_LAYOUT_BYTES}
use Rattle.pg_talk.proofs.Openings.{cut_same}
use Rattle.pg_laying.specs.Prelude.{Bytes, Fault, Holding, Spot, number_of}
unfoldable use Rattle.pg_laying.specs.Prelude.{layout_of}
use Rattle.pg_laying.specs.Laid.{IsLayoutRead, OpensSpots, layout_told, spots_held}
use Rattle.pg_laying.specs.declared.no_layout.NoLayout.{NoLayout}
use Rattle.pg_laying.specs.declared.no_layout.NoLayout.TheVariants.{Faulty}

-- one byte more than the limit tells as much as the whole file
layout_cut : (points : ℕ) (all : Bytes)
    → layout_of points (take (MAX_LAYOUT_BYTES + 1) all) ≡ layout_of points all
unfolding layout_of
layout_cut points all =
    cut_same MAX_LAYOUT_BYTES (layout_of points) (Err (Size, 0)) (λ text long. rw long refl) all

whole_read : (points : ℕ) (o : Option Bytes) (text : Bytes)
    (r : Result (List Spot) NoLayout)
    → IsWhole o MAX_LAYOUT_BYTES text
    → IsLayoutRead (layout_told (layout_of points text)) r
    → IsLayoutRead (spots_held points o) r
whole_read points None text r whole is = absurd whole
whole_read points (Some all) text r whole is = subst
    (λ (said : Result (List Spot) NoLayout). IsLayoutRead said r)
    (ap layout_told (ap (layout_of points) whole ∙ layout_cut points all)) is

pub spots_open : (points : ℕ) (h : Option Holding) (name text : Bytes)
    (r : Result (List Spot) NoLayout)
    → IsFile h name MAX_LAYOUT_BYTES text
    → IsLayoutRead (layout_told (layout_of points text)) r
    → OpensSpots points h name r
spots_open points None name text r whole is = tt
spots_open points (Some held) name text r whole is =
    whole_read points (held name) text r whole is

-- a fault that was read
pub told_bad : (said : Result (List Spot) (Fault × ℕ)) (number line : ℕ)
    → IsErrAnd said (λ bad. (number ≡ number_of bad.0) × (line ≡ bad.1))
    → layout_told said ≡ Err (Faulty number line)
told_bad (Ok spots) number line h = absurd h
told_bad (Err fault) number line h = ap (λ (n : ℕ). Err (Faulty n fault.1)) (sym h.0)
    ∙ ap (λ (l : ℕ). Err (Faulty number l)) (sym h.1)
