-- Places, and the positions that lines of play come to.
use Rattle.std.proofs.Common.{◌≡◌, ◌≢◌, ◌∙◌, ℕ, ◌+◌, ◌<◌, List, [], ◌∷◌, ◌++◌, length, map, Bool}
use Rattle.std.proofs.Common.{true}
use Rattle.std.proofs.Common.{false, Option, Some, None, Ok, Err, inl, inr, refl, ap, sym, subst}
use Rattle.std.proofs.Common.{arith}
use Rattle.std.proofs.Common.{eqb-true, get_or, nat_lt, if◌then◌else◌}
use Rattle.std.proofs.lemmas.Bool.Decides.{nat_tests}
use Rattle.std.proofs.lemmas.Bool.{cases_eq, false≢true}
use Rattle.std.proofs.lemmas.List.{get_or-map, get_or_default, length-map}
use Rattle.std.proofs.lemmas.List.Elements.{All-map, All-push}
use Rattle.std.proofs.lemmas.List.Quantifiers.{all_pairs_push}
use Rattle.std.specs.List.{AllPairs}
use Rattle.std.specs.Option.{is_some}
use Rattle.pg_game.specs.declared.position.Illegal.TheVariants.{Over as IsOver, Range, Taken}
use Rattle.pg_play_tree.specs.Prelude.{Cert, Game, MakesMove, Play, Position, Side, after}
use Rattle.pg_play_tree.specs.Prelude.{chosen_claim}
use Rattle.pg_play_tree.specs.Prelude.{is_free, is_over, judged_move, point_count}
use Rattle.pg_play_tree.specs.Lines.{AreMet, IsMet, MeetsMore, Plays}
use Rattle.pg_play_tree.specs.Places.{AreFound, CanOpen, CanPlay, CanPlayAll, IsNew, IsNext}
use Rattle.pg_play_tree.specs.Places.{IsPlace, IsStepAt, Leads, is_next}
use Rattle.pg_play_tree.specs.declared.place.Place.{Place}
use Rattle.pg_play_tree.specs.declared.place.Step.{Step}
use Rattle.pg_play_tree.specs.declared.place.Step.TheVariants as steps
use Rattle.pg_play_tree.proofs.Again.{all_able, leads_once, leads_split, opens_comes, opens_game}
use Rattle.pg_play_tree.proofs.Again.{opens_once}

-- ---- what follows a place

-- a free point in a game that goes on may be claimed
free_is_judged : (g : Game) (p : Position) (v : ℕ)
    → v < point_count g
    → is_over g p ≡ false
    → is_free p v ≡ true
    → judged_move g p v ≡ Ok (after g p v)
free_is_judged g p v within going free =
    let test : nat_lt v (point_count g) ≡ true = grind (arith, nat_tests, within) in
    rw (test, going, free) refl

-- what a move that isn't refused leads to
judged_after : (g : Game) (p q : Position) (v : ℕ) → judged_move g p v ≡ Ok q → q ≡ after g p v
judged_after g p q v e =
    go (nat_lt v (point_count g)) (is_over g p) (is_free p v) e
  where
    go : (within over free : Bool)
        → (if within
        then (if over then Err IsOver else (if free then Ok (after g p v) else Err Taken))
        else Err Range)
        ≡ Ok q
        → q ≡ after g p v
    go true false true e = cc
    go true false false e = absurd cc
    go true true free e = absurd cc
    go false over free e = absurd cc

-- where a point leads on
plays_after : (a b : Play) (v : ℕ) → Plays a b v → b.position ≡ after a.game a.position v
plays_after a b v (inl m) = m.position
plays_after a b v (inr (waits, t)) = judged_after a.game a.position b.position v t.legal

-- the point that is played next can be played
next_able : (a : Play) (p : Position) (s : Step) (v : ℕ)
    → p ≡ a.position
    → IsNext a s
    → is_next s p v ≡ true
    → v < point_count a.game
    → CanPlay a v
next_able a p steps.Over v at next is within = absurd cc
next_able a p (steps.Own w) v at (b, m) is within =
    inl (b, subst (λ (n : ℕ). MakesMove a b n) (eqb-true w v is) m)
next_able a p steps.Replies v at (waits, going) is within = inr (
  waits,
  after a.game a.position v,
  free_is_judged a.game a.position v within going
      (sym (ap (λ (q : Position). is_free q v) at) ∙ is),
)

pub some_none : {X : Type 0} (r : Option X) (x : X) → r ≡ Some x → r ≡ None → ⊥
some_none r x some none = cc

-- a test that found nothing
pub none_found : (r : Option ℕ) → false ≡ is_some r → r ≡ None
none_found None e = refl
none_found (Some k) e = absurd (false≢true e)

-- the line that goes on from a place can be played
pub goes_on : (g : Game) (cert : Cert) (side : Side) (place : Place) (v : ℕ) (line : List ℕ)
    → IsPlace g cert side place
    → is_next place.step place.position v ≡ true
    → v < point_count g
    → line ≡ place.points.items ++ v ∷ []
    → CanOpen g cert side line
goes_on g cert side place v line is next within same =
    let a = is.play in
    let points = place.points.items in
    let game = opens_game g cert side points a is.opens in
    let can = next_able a place.position place.step v is.position is.step next
    (subst (λ (h : Game). v < point_count h) (sym game) within) in (
      λ none. some_none (chosen_claim g cert side) is.opens.0.claim is.opens.1.claim none,
      λ o opens. subst (λ (vs : List ℕ). CanPlayAll o vs) (sym same)
          (subst (λ (x : Play). CanPlayAll x (points ++ v ∷ []))
          (opens_once g cert side is.opens.0 o is.opens.1 opens)
          (all_able points is.opens.0 a v is.opens.2 can)),
    )

-- where the line that goes on from a place leads
pub follows_place : (g : Game) (cert : Cert) (side : Side) (place next : Place) (v : ℕ)
    → IsPlace g cert side place
    → IsPlace g cert side next
    → next.points.items ≡ place.points.items ++ v ∷ []
    → next.position ≡ after g place.position v
follows_place g cert side place next v is on same =
    let points = place.points.items in
    let o = is.opens.0 in
    let leads = subst (λ (x : Play). Leads x (points ++ v ∷ []) on.play)
    (opens_once g cert side on.opens.0 o on.opens.1 is.opens.1)
    (subst (λ (vs : List ℕ). Leads on.opens.0 vs on.play) same on.opens.2) in
    let split = leads_split points o on.play v leads in
    let there = leads_once points o split.0 is.play split.1 is.opens.2 in
    let game = opens_game g cert side points is.play is.opens in
    on.position
    ∙ plays_after is.play on.play v (subst (λ (x : Play). Plays x on.play v) there split.2)
    ∙ ap (λ (h : Game). after h is.play.position v) game
    ∙ ap (λ (p : Position). after g p v) (sym is.position)

-- ---- places that are found

-- one more place
pub found_more : (g : Game) (cert : Cert) (side : Side) (places : List Place) (place : Place)
    → AreFound g cert side places
    → IsPlace g cert side place
    → IsNew places place.position
    → AreFound g cert side (places ++ place ∷ [])
found_more g cert side places place found is new = record {
  each = All-push (IsPlace g cert side) places place found.each is;
  different = all_pairs_push (λ (a b : Place). a.position ≢ b.position) places place
      found.different new;
}

pub found_first : (g : Game) (cert : Cert) (side : Side) (place : Place)
    → IsPlace g cert side place
    → AreFound g cert side (place ∷ [])
found_first g cert side place is =
    found_more g cert side [] place
    (record {
      each = λ k d low. absurd (omega (arith, low));
      different = λ i j d low under. absurd (omega (arith, under));
    })
    is (λ k d low. absurd (omega (arith, low)))

abbrev pub at_place : Place → Position
at_place place = place.position

pub place_met : (g : Game) (cert : Cert) (side : Side) (place : Place)
    → IsPlace g cert side place
    → IsMet g cert side place.position
place_met g cert side place is =
    (is.play, opens_comes g cert side place.points.items is.play is.opens, sym is.position)

different_at : (places : List Place)
    → AllPairs (λ (a b : Place). a.position ≢ b.position) places
    → AllPairs (λ (p q : Position). p ≢ q) (map at_place places)
different_at [] all = λ i j d low under. absurd (omega (arith, under))
different_at (x ∷ xs) all = λ i j d low under.
    let size : length (map at_place (x ∷ xs)) ≡ length (x ∷ xs) = length-map (x ∷ xs) at_place in
    let left : i < length (x ∷ xs) = omega (arith, low, under, size) in
    let right : j < length (x ∷ xs) = omega (arith, under, size) in
    λ same. all i j x low right
    (sym (get_or-map at_place (x ∷ xs) i x d left)
    ∙ same
    ∙ get_or-map at_place (x ∷ xs) j x d right)

-- lines of play come to the positions of the places, which differ
pub found_met : (g : Game) (cert : Cert) (side : Side) (places : List Place)
    → AreFound g cert side places
    → AreMet g cert side (map at_place places)
found_met g cert side places found = record {
  met = All-map (IsMet g cert side) at_place places
      (λ k d low. place_met g cert side (get_or places k d) (found.each k d low));
  different = different_at places found.different;
}

-- more places than so many
pub found_many : (g : Game) (cert : Cert) (side : Side) (places : List Place) (most : ℕ)
    → AreFound g cert side places
    → most < length places
    → MeetsMore g cert side most
found_many g cert side places most found more =
    let size : length (map at_place places) ≡ length places = length-map places at_place in
    (map at_place places, found_met g cert side places found, omega (arith, size, more))

-- ---- places that are read

-- two reads of a place agree
pub same_read : (places : List Place) (k : ℕ) (a b : Place)
    → k < length places
    → a ≡ get_or places k a
    → b ≡ get_or places k b
    → a ≡ b
same_read places k a b low one other = one ∙ get_or_default places k a b low ∙ sym other

-- a place that was found
pub found_at : (g : Game) (cert : Cert) (side : Side) (places : List Place) (k : ℕ) (a : Place)
    → AreFound g cert side places
    → k < length places
    → a ≡ get_or places k a
    → IsPlace g cert side a
found_at g cert side places k a found low is =
    subst (λ (x : Place). IsPlace g cert side x) (sym is) (found.each k a low)

-- one place more isn't at the position
pub new_more : (places : List Place) (p : Position) (k : ℕ) (a : Place)
    → ((j : ℕ) (d : Place) → j < k → (get_or places j d).position ≢ p)
    → k < length places
    → a ≡ get_or places k a
    → a.position ≢ p
    → (j : ℕ) (d : Place)
    → j < k + 1
    → (get_or places j d).position ≢ p
new_more places p k a before low is differs j d under = elim (cases_eq j k) [
  | inl same ↦ λ at. differs (ap at_place is
      ∙ ap (λ (n : ℕ). at_place (get_or places n a)) (sym same)
      ∙ ap at_place (get_or_default places j a d (omega (arith, low, same)))
      ∙ at)
  | inr other ↦ before j d (omega (arith, under, other))
]

-- the places with the one that follows a place, where no place was before
pub found_next : (g : Game) (cert : Cert) (side : Side) (places : List Place) (k : ℕ)
    (old next other : Place) (v : ℕ) (points line : List ℕ) (at : Position)
    → AreFound g cert side places
    → k < length places
    → old ≡ get_or places k old
    → other ≡ get_or places k other
    → IsPlace g cert side next
    → next.points.items ≡ line
    → line ≡ points ++ v ∷ []
    → points ≡ other.points.items
    → at ≡ after g old.position v
    → IsNew places at
    → AreFound g cert side (places ++ next ∷ [])
found_next g cert side places k old next other v points line at found low is read on goes long short
    leads new =
    let same : other ≡ old = same_read places k other old low read is in
    let follows = follows_place g cert side old next v
    (found_at g cert side places k old found low is) on
    (goes ∙ long
    ∙ ap (λ (xs : List ℕ). xs ++ v ∷ [])
    (short ∙ ap (λ (x : Place). x.points.items) same)) in
    found_more g cert side places next found on
    (subst (λ (p : Position). IsNew places p) (leads ∙ sym follows) new)

-- an own move at a place is that of the side's player
pub place_step : (g : Game) (cert : Cert) (side : Side) (place : Place)
    → IsPlace g cert side place
    → IsStepAt g cert side place.position place.step
place_step g cert side place is = go place.step is.step where
  go : (s : Step) → IsNext is.play s → IsStepAt g cert side place.position s
  go steps.Over next = tt
  go (steps.Own v) (b, makes) = record {
    before = is.play;
    now = b;
    comes = opens_comes g cert side place.points.items is.play is.opens;
    position = sym is.position;
    makes = makes;
  }
  go steps.Replies next = tt
