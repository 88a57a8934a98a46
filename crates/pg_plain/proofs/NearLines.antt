-- Threats are at points of lines, which are few; and threat lines by their first two points.
use Rattle.std.specs.Prelude.{◌↔◌, IsTrue}
use Rattle.std.proofs.Common.{◌≡◌, ℕ, ◌<◌, Bool, true, ◌&&◌, ◌||◌, ◌==◌, ◌≤◌, ◌-◌, List, [], ◌∷◌}
use Rattle.std.proofs.Common.{length, get_or, take, drop, ap, ◌∙◌, subst, subst₂, arith}
use Rattle.pg_plain.proofs.Common.{and_parts, eqb-true, All-contains, All, list_all, contains, Side}
use Rattle.pg_plain.proofs.Common.{Game, Position, lines_of, after, is_free, points_of, is_on}
use Rattle.pg_plain.proofs.Common.{is_near, threatens, Forcing, LeadsToLine, member-from_any}
use Rattle.pg_plain.proofs.Common.{small_points}
use Rattle.std.proofs.lemmas.List.{take_all}

-- a point of a line of small points is small
pub on-small : (line : List ℕ) (u : ℕ) → All (λ v. v < 256) line → is_on u line ≡ true → u < 256
on-small line u small on =
    let found = member-from_any (λ q. q == u) line on in
    subst (λ (v : ℕ). v < 256) (eqb-true found.0 u found.2)
    (All-contains (λ v. v < 256) line found.0 small found.1)

-- so is one with which a line would be filled
pub threatens-small : (g : Game) (p : Position) (side : Side) (u : ℕ)
    → threatens g p side u ≡ true
    → u < 256
threatens-small g p side u threat =
    let found = member-from_any (λ line. is_near p side line u) (lines_of g) threat in
    let near = and_parts (is_free p u)
    (is_on u found.0 && list_all (λ q. (q == u) || contains (points_of p side) q) found.0)
    found.2 in
    on-small found.0 u
    (All-contains (All (λ v. v < 256)) (lines_of g) found.0 (small_points g) found.1)
    (and_parts (is_on u found.0) _ near.1).0

-- ---- threat lines

two_fewer : (v u : ℕ) (others : List ℕ) → take (length (v ∷ (u ∷ others)) - 2) others ≡ others
two_fewer v u others = take_all (length (v ∷ (u ∷ others)) - 2) others (omega arith)

-- after a forced reply the rest of the list decides
pub leads-on : (g : Game) (p q r : Position) (side : Side) (points : List ℕ) (b : Bool)
    → 2 ≤ length points
    → Forcing g p side (get_or points 0 0) (get_or points 1 0)
    → q ≡ after g p (get_or points 0 0)
    → r ≡ after g q (get_or points 1 0)
    → (IsTrue b ↔ LeadsToLine g r side (take (length points - 2) (drop 2 points)))
    → IsTrue b ↔ LeadsToLine g p side points
leads-on g p q r side [] b long forcing is_q is_r rest = absurd (omega arith)
leads-on g p q r side (v ∷ []) b long forcing is_q is_r rest = absurd (omega arith)
leads-on g p q r side (v ∷ (u ∷ others)) b long forcing is_q is_r rest =
    let reached : r ≡ after g (after g p v) u = is_r ∙ ap (λ (s : Position). after g s u) is_q in
    let there = subst₂ (λ (s : Position) (xs : List ℕ). IsTrue b ↔ LeadsToLine g s side xs) reached
    (two_fewer v u others) rest in (
      λ on. (forcing, there.0 on),
      λ leads. there.1 leads.1,
    )
