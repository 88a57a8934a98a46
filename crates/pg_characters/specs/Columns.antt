-- How many columns of a terminal a line takes.
use Rattle.std.specs.Prelude.{ℕ, ◌+◌, ◌≤◌, ◌==◌, Bool, true, false, not, if◌then◌else◌, [], ◌∷◌}
use Rattle.std.specs.List.{All}
use Rattle.pg_base.specs.Texts.{Bytes}
use Rattle.pg_text.specs.Text.{lines}

-- what begins a colour code, and what ends it: the escape character, and `m`
abbrev pub begins_code : ℕ → Bool
begins_code b = b == 27

abbrev pub ends_code : ℕ → Bool
ends_code b = b == 109

-- how many columns bytes take that begin within a colour code or outside: each takes one, but those
-- of a colour code none
unfoldable pub columns_from : Bool → Bytes → ℕ
columns_from within [] = 0
columns_from true (b ∷ others) = columns_from (not (ends_code b)) others
columns_from false (b ∷ others) =
    if begins_code b then columns_from true others else 1 + columns_from false others

abbrev pub columns_of : Bytes → ℕ
columns_of line = columns_from false line

-- each line of a text takes at most so many columns
abbrev pub FitsIn : ℕ → Bytes → Type 0
FitsIn most text = All (λ line. columns_of line ≤ most) (lines text)
