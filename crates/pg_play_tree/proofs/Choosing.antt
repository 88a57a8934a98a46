-- A certificate's claim can be played in the game in which its turn is the turn.
use Rattle.std.proofs.Common.{◌≡◌, ◌≢◌, ◌∙◌, ℕ, zero, suc, ◌<◌, Bool, true, ◌&&◌, List, []}
use Rattle.std.proofs.Common.{◌∷◌, length, Option, Some, None, inl, inr, refl, ap, arith, get_or}
use Rattle.std.proofs.Common.{sym}
use Rattle.std.proofs.Common.{subst}
use Rattle.std.proofs.lemmas.Bool.{cases_Bool}
use Rattle.std.specs.Option.{option_or}
use Rattle.std.specs.Prelude.{find}
use Rattle.pg_base.specs.Side.{is_same_side}
use Rattle.pg_base.specs.declared.side.Side.TheVariants.{X, Y}
use Rattle.pg_player.specs.Player.{chosen_claim, is_claim_of, is_win_of}
use Rattle.pg_play_tree.specs.Prelude.{Cert, Claim, Game, Side}
use Rattle.pg_play_tree.proofs.Meeting.{some_none}

finds : (f : Claim → Bool) (xs : List Claim) (i : ℕ) (x : Claim)
    → i < length xs
    → x ≡ get_or xs i x
    → f x ≡ true
    → find f xs ≢ None
finds f [] i x low at is none = absurd (omega (arith, low))
finds f (y ∷ ys) zero x low at is none =
    let here : f y ≡ true = ap f (sym at) ∙ is in
    some_none (find f (y ∷ ys)) y (rw here refl) none
finds f (y ∷ ys) (suc i) x low at is none = elim (cases_Bool (f y)) [
  | inl here ↦ some_none (find f (y ∷ ys)) y (rw here refl) none
  | inr off ↦ finds f ys i x (omega (arith, low)) at is (rw off at none)
]

its_own : (side turn : Side) → is_same_side side side && is_same_side turn turn ≡ true
its_own X X = refl
its_own X Y = refl
its_own Y X = refl
its_own Y Y = refl

or_none : (p q : Option Claim) → q ≢ None → option_or p q ≢ None
or_none None q some none = some none
or_none (Some x) q some none = some_none (Some x) x refl none

pub claim_chosen : (g : Game) (cert : Cert) (claim : Claim) (i : ℕ)
    → g.turn ≡ claim.turn
    → i < length cert.claims
    → claim ≡ get_or cert.claims i claim
    → chosen_claim g cert claim.side ≢ None
unfolding chosen_claim
claim_chosen g cert claim i turn low at = or_none (find (is_win_of claim.side g.turn) cert.claims)
    (find (is_claim_of claim.side g.turn) cert.claims)
    (finds (is_claim_of claim.side g.turn) cert.claims i claim low at
    (subst (λ (t : Side). is_claim_of claim.side t claim ≡ true) (sym turn)
    (its_own claim.side claim.turn)))
