-- Where a line leads.
use Rattle.std.proofs.Common.{◌≡◌, ◌∙◌, ◌⊎◌, ℕ, ◌+◌, ◌-◌, ◌<◌, ◌≤◌, List, [], ◌∷◌, ◌++◌, length}
use Rattle.std.proofs.Common.{get_or, take, Option, Some, None, Result, Ok, Err, slice_get, refl}
use Rattle.std.proofs.Common.{sym}
use Rattle.std.proofs.Common.{ap, subst, inl, inr, arith}
use Rattle.std.proofs.lemmas.Grind.{take_at_read}
use Rattle.std.proofs.lemmas.List.{take_all}
use Rattle.std.proofs.lemmas.List.Elements.{All-get_or}
use Rattle.std.proofs.lemmas.Option.{slice_get_cases}
use Rattle.std.specs.List.{All}
use Rattle.std.specs.Prelude.{IfSome}
use Rattle.pg_duel.proofs.Common.{Claim, Game, IsAnswered, IsFit, Illegal, Side, Sitting, claimed}
use Rattle.pg_duel.proofs.Common.{judged_move}
use Rattle.pg_duel.proofs.Common.{reason_of, turned}
use Rattle.pg_playing.specs.declared.note.Note.TheVariants.{Refused}
use Rattle.pg_duel.specs.DuelLog.{Claims, Notes}
use Rattle.pg_duel.specs.Words.{last_of}

-- a reply that was taken, or refused
pub answered_claims : (g : Game) (c : Claim) (s t : Sitting) (heard v : ℕ)
    (found : Result (Unit {0}) Illegal)
    → IsFit g c s
    → IsAnswered s v t found
    → Claims g s heard v (turned t heard (claimed found))
answered_claims g c s t heard v (Ok _) fits answered = inl (t, answered, refl)
answered_claims g c s t heard v (Err why) fits answered = inr (inl (
  why,
  (λ i. judged_move (sym fits.on.same_game i) (sym fits.on.position i) v) ∙ answered.0,
  (λ i. Notes (answered.1 i) heard (Refused (reason_of why))),
))

-- no reply
pub no_replies : (replies : List ℕ) → length replies < 1 → replies ≡ []
no_replies [] none = refl
no_replies (v ∷ others) none = absurd (omega (arith, none))

-- a list that isn't empty ends with its last element
pub last_and_others : (xs : List ℕ)
    → 1 ≤ length xs
    → xs ≡ take (length xs - 1) xs ++ get_or xs (length xs - 1) 0 ∷ []
last_and_others xs some =
    sym (take_all (length xs - 1 + 1) xs (omega (arith, some)))
    ∙ (take_at_read xs (length xs - 1) 0 (omega (arith, some))).1

-- one claim is chosen for a side
pub chosen_same : (f : Side → Option Claim) (s t : Side) (a b : Claim)
    → t ≡ s
    → f t ≡ Some a
    → f s ≡ Some b
    → a ≡ b
chosen_same f s t a b same one other =
    let both : ◌≡◌ {A = Option Claim} (Some a) (Some b) = sym one ∙ ap f same ∙ other in cc

-- the last of these points is one of them
pub last_within : (P : ℕ → Type 0) (points : List ℕ) → All P points → IfSome (last_of points) P
last_within P points all = go (slice_get_cases points (length points - 1)).1 where
  go : ((x : ℕ) × (length points - 1 < length points)
      × (slice_get points (length points - 1) ≡ Some x)
      × (get_or points (length points - 1) x ≡ x))
      ⊎ ((length points ≤ length points - 1) × (slice_get points (length points - 1) ≡ None))
      → IfSome (slice_get points (length points - 1)) P
  go (inl (x, within, is, at)) =
      rw is (subst P at (All-get_or P points (length points - 1) x within all))
  go (inr (past, is)) = rw is tt
