use Rattle.std.proofs.Common.{◌≡◌, ◌∙◌, ℕ, List, ap, subst, sym}
use Rattle.std.specs.Prelude.{slice_get, Some}
use Rattle.std.proofs.lemmas.Option.{slice_get-get_or}
use Rattle.pg_characters.proofs.entries.put_ends.Goals as goal

pub returns-in-Some : goal.returns-in-Some
returns-in-Some c =
    let lookup = c.in-Some.ensures.lookup in
    let pair = c.in-Some.ends.now in
    let edge = c.args.edge in
    let found = subst (λ (ends : List (ℕ × ℕ)). slice_get ends edge ≡ Some pair) c.as_slice.ensures
    (slice_get-get_or c.as_slice.result.now edge pair lookup.3.0 ∙ ap Some (sym lookup.1)) in
    rw found c.put_pair.ensures
