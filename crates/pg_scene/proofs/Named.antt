-- Members of lists that are looked up.
use Rattle.std.proofs.Common.{◌≡◌, ◌∙◌, ℕ, ◌<◌, List, Some, ap, get_or, length, sym}
use Rattle.std.specs.Prelude.{slice_get}
use Rattle.std.proofs.lemmas.Option.{slice_get-get_or}

-- the member at a place, of a list that is the same
pub looked_up : {A : Type 0} (xs ys : List A) (i : ℕ) (x : A)
    → xs ≡ ys
    → i < length xs
    → x ≡ get_or xs i x
    → slice_get ys i ≡ Some x
looked_up xs ys i x same lt is =
    ap (λ zs. slice_get zs i) (sym same) ∙ slice_get-get_or xs i x lt ∙ ap Some (sym is)
