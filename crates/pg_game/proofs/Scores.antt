-- The best of scores, and what it reaches.
use Rattle.std.proofs.Common.{◌≡◌, true, false, ◌&&◌, ◌||◌, List, [], ◌∷◌, map, refl, ap, ◌∙◌}
use Rattle.pg_game.proofs.Common.{false≢true, list_any, list_all, Side, X, Y, other, Score, XWins}
use Rattle.pg_game.proofs.Common.{Draw, YWins, Goal, Win}
use Rattle.pg_base.specs.declared.goal.Goal.TheVariants.{Draw as AtLeastDraw}
use Rattle.pg_game.specs.Rules.{better, best, reaches}

-- what a side likes more of two reaches its goal where one of them does
reaches-better : (side : Side) (goal : Goal) (s t : Score)
    → reaches side goal (better side s t) ≡ (reaches side goal s || reaches side goal t)
reaches-better X Win XWins XWins = refl
reaches-better X Win XWins Draw = refl
reaches-better X Win XWins YWins = refl
reaches-better X Win Draw XWins = refl
reaches-better X Win Draw Draw = refl
reaches-better X Win Draw YWins = refl
reaches-better X Win YWins XWins = refl
reaches-better X Win YWins Draw = refl
reaches-better X Win YWins YWins = refl
reaches-better X AtLeastDraw XWins XWins = refl
reaches-better X AtLeastDraw XWins Draw = refl
reaches-better X AtLeastDraw XWins YWins = refl
reaches-better X AtLeastDraw Draw XWins = refl
reaches-better X AtLeastDraw Draw Draw = refl
reaches-better X AtLeastDraw Draw YWins = refl
reaches-better X AtLeastDraw YWins XWins = refl
reaches-better X AtLeastDraw YWins Draw = refl
reaches-better X AtLeastDraw YWins YWins = refl
reaches-better Y Win XWins XWins = refl
reaches-better Y Win XWins Draw = refl
reaches-better Y Win XWins YWins = refl
reaches-better Y Win Draw XWins = refl
reaches-better Y Win Draw Draw = refl
reaches-better Y Win Draw YWins = refl
reaches-better Y Win YWins XWins = refl
reaches-better Y Win YWins Draw = refl
reaches-better Y Win YWins YWins = refl
reaches-better Y AtLeastDraw XWins XWins = refl
reaches-better Y AtLeastDraw XWins Draw = refl
reaches-better Y AtLeastDraw XWins YWins = refl
reaches-better Y AtLeastDraw Draw XWins = refl
reaches-better Y AtLeastDraw Draw Draw = refl
reaches-better Y AtLeastDraw Draw YWins = refl
reaches-better Y AtLeastDraw YWins XWins = refl
reaches-better Y AtLeastDraw YWins Draw = refl
reaches-better Y AtLeastDraw YWins YWins = refl

-- what the other side likes more reaches it where both do
reaches-better_other : (side : Side) (goal : Goal) (s t : Score)
    → reaches side goal (better (other side) s t) ≡ (reaches side goal s && reaches side goal t)
reaches-better_other X Win XWins XWins = refl
reaches-better_other X Win XWins Draw = refl
reaches-better_other X Win XWins YWins = refl
reaches-better_other X Win Draw XWins = refl
reaches-better_other X Win Draw Draw = refl
reaches-better_other X Win Draw YWins = refl
reaches-better_other X Win YWins XWins = refl
reaches-better_other X Win YWins Draw = refl
reaches-better_other X Win YWins YWins = refl
reaches-better_other X AtLeastDraw XWins XWins = refl
reaches-better_other X AtLeastDraw XWins Draw = refl
reaches-better_other X AtLeastDraw XWins YWins = refl
reaches-better_other X AtLeastDraw Draw XWins = refl
reaches-better_other X AtLeastDraw Draw Draw = refl
reaches-better_other X AtLeastDraw Draw YWins = refl
reaches-better_other X AtLeastDraw YWins XWins = refl
reaches-better_other X AtLeastDraw YWins Draw = refl
reaches-better_other X AtLeastDraw YWins YWins = refl
reaches-better_other Y Win XWins XWins = refl
reaches-better_other Y Win XWins Draw = refl
reaches-better_other Y Win XWins YWins = refl
reaches-better_other Y Win Draw XWins = refl
reaches-better_other Y Win Draw Draw = refl
reaches-better_other Y Win Draw YWins = refl
reaches-better_other Y Win YWins XWins = refl
reaches-better_other Y Win YWins Draw = refl
reaches-better_other Y Win YWins YWins = refl
reaches-better_other Y AtLeastDraw XWins XWins = refl
reaches-better_other Y AtLeastDraw XWins Draw = refl
reaches-better_other Y AtLeastDraw XWins YWins = refl
reaches-better_other Y AtLeastDraw Draw XWins = refl
reaches-better_other Y AtLeastDraw Draw Draw = refl
reaches-better_other Y AtLeastDraw Draw YWins = refl
reaches-better_other Y AtLeastDraw YWins XWins = refl
reaches-better_other Y AtLeastDraw YWins Draw = refl
reaches-better_other Y AtLeastDraw YWins YWins = refl

worst_reaches : (side : Side) (goal : Goal) → reaches side goal (best side []) ≡ false
worst_reaches X Win = refl
worst_reaches X AtLeastDraw = refl
worst_reaches Y Win = refl
worst_reaches Y AtLeastDraw = refl

best_reaches : (side : Side) (goal : Goal) → reaches side goal (best (other side) []) ≡ true
best_reaches X Win = refl
best_reaches X AtLeastDraw = refl
best_reaches Y Win = refl
best_reaches Y AtLeastDraw = refl

best-cons : (side : Side) (s : Score) (ss : List Score)
    → best side (s ∷ ss) ≡ better side s (best side ss)
best-cons X s ss = refl
best-cons Y s ss = refl

-- the mover's best reaches its goal where some move does
pub reaches-best : {A : Type 0} (side : Side) (goal : Goal) (f : A → Score) (xs : List A)
    → reaches side goal (best side (map f xs)) ≡ list_any (λ x. reaches side goal (f x)) xs
reaches-best side goal f [] = worst_reaches side goal
reaches-best side goal f (x ∷ xs) = ap (reaches side goal) (best-cons side (f x) (map f xs))
    ∙ reaches-better side goal (f x) (best side (map f xs))
    ∙ ap (λ b. reaches side goal (f x) || b) (reaches-best side goal f xs)

-- the other side's best reaches the goal where every move does
pub reaches-best_other : {A : Type 0} (side : Side) (goal : Goal) (f : A → Score) (xs : List A)
    → reaches side goal (best (other side) (map f xs)) ≡ list_all (λ x. reaches side goal (f x)) xs
reaches-best_other side goal f [] = best_reaches side goal
reaches-best_other side goal f (x ∷ xs) =
    ap (reaches side goal) (best-cons (other side) (f x) (map f xs))
    ∙ reaches-better_other side goal (f x) (best (other side) (map f xs))
    ∙ ap (λ b. reaches side goal (f x) && b) (reaches-best_other side goal f xs)

-- a win is a draw at least
win_is_draw : (side : Side) (s : Score)
    → reaches side Win s ≡ true
    → reaches side AtLeastDraw s ≡ true
win_is_draw X XWins h = refl
win_is_draw X Draw h = absurd (false≢true h)
win_is_draw X YWins h = absurd (false≢true h)
win_is_draw Y XWins h = absurd (false≢true h)
win_is_draw Y Draw h = absurd (false≢true h)
win_is_draw Y YWins h = refl

-- a win reaches any goal
pub reaches-any : (side : Side) (goal : Goal) (s : Score)
    → reaches side Win s ≡ true
    → reaches side goal s ≡ true
reaches-any side Win s h = h
reaches-any side AtLeastDraw s h = win_is_draw side s h
