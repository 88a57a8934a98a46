-- Changes one after the other.
use Rattle.std.proofs.Common.{◌≡◌, ℕ, ◌+◌, ◌≤◌, length, get_or, refl}
use Rattle.std.proofs.Common.{◌∙◌, arith}
use Rattle.std.proofs.lemmas.List.{length-set, length_push}
use Rattle.pg_undo.specs.Trail.{Cells, with_set, back_to}
use Rattle.pg_undo.specs.Extends.{Extends}
use Rattle.pg_undo.proofs.Undoing.{back_to-with_set, back_to-level}

pub extends-none : (t : Cells) → Extends 0 t t
extends-none t = record {
  levels = λ level low. refl;
  more = omega arith;
  bound = omega arith;
  spare = refl;
  width = refl;
}

pub extends-both : (one two : ℕ) (a b d : Cells)
    → Extends one a b
    → Extends two b d
    → Extends (one + two) a d
extends-both one two a b d h k = record {
  levels = λ level low. k.levels level (omega (arith, h.more)) ∙ h.levels level low;
  more = omega (arith, h.more, k.more);
  bound = omega (arith, h.bound, k.bound);
  spare = k.spare ∙ h.spare;
  width = k.width ∙ h.width;
}

pub extends-set : (t : Cells) (i v : ℕ) → 1 ≤ t.spare → Extends 1 t (with_set t i v)
unfolding with_set
extends-set t i v room =
    let e : ℕ × ℕ = (i, get_or t.cells i 0) in
    let more = length_push t.entries e in
    record {
      levels = λ level low. back_to-with_set level t i v low room;
      more = omega arith;
      bound = omega arith;
      spare = omega arith;
      width = length-set t.cells i v;
    }

-- going back to the level from which the changes began
pub extends-back : (few : ℕ) (t now : Cells)
    → Extends few t now
    → back_to (length t.entries) now ≡ t
extends-back few t now h = h.levels (length t.entries) (omega arith) ∙ back_to-level t
