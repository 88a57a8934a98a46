-- What follows from the rules of dialogues.
use Rattle.std.proofs.Common.{◌≡◌, ◌≢◌, ◌⊎◌, ℕ, ◌+◌, ◌-◌, ◌<◌, ◌≤◌, nat_eq, nat_lt, if◌then◌else◌}
use Rattle.std.proofs.Common.{Bool, true, false, List, [], ◌∷◌, length, Option, Some, None, Result}
use Rattle.std.proofs.Common.{Ok, Err, refl, sym, ◌∙◌, ap, subst, inl, inr, arith}
use Rattle.pg_talk.proofs.Common.{nat_tests, other, Side, Entry, Said, Heard, Skipped, Ended}
use Rattle.pg_talk.proofs.Common.{Position, is_free, Rules, IsPlayBy, free_below, moved, played_by}
use Rattle.pg_talk.proofs.Common.{ReplyFault, NoPoint, Taken, DONE, INPUT_ENDED, OUT_OF_REPLIES}
use Rattle.std.specs.List.{count_by}
use Rattle.std.proofs.lemmas.List.Sums.{sum_by-cons}
use Rattle.pg_base.specs.declared.side.Side.TheVariants.{X, Y}
use Rattle.pg_game.proofs.RulesLaws.{length-moved}
use Rattle.pg_talk.specs.Contest.{Contest}
use Rattle.pg_talk.specs.Dialogue.{Stage, At, Owes, Over, Steps, Leads, EndsWith, IsOwnMove}
use Rattle.pg_talk.specs.Dialogue.{position_at, is_heard, after_refusal, after_reply}
use Rattle.pg_talk.specs.Reply.{said_number, point_or_refusal, replied_point}
use Rattle.pg_talk.specs.declared.dialogue.TheConstants.{MAX_REFUSALS}

-- no side is the other side
apart : (side turn : Side) → turn ≡ side → turn ≢ other side
apart X X same e = absurd (cc e)
apart X Y same e = absurd (cc same)
apart Y X same e = absurd (cc same)
apart Y Y same e = absurd (cc e)

-- where the side is to move, the next entry is its move
pub own_first : (g : Contest) (side : Side) (p : Position) (refusals : ℕ) (entry : Entry)
    (next : Stage)
    → g.rules.over p ≡ false
    → p.turn ≡ side
    → Steps g side (At p refusals) entry next
    → IsOwnMove g p entry
own_first g side p refusals (Said text) next going own (inl result) = absurd (cc (going, result.0))
own_first g side p refusals (Said text) next going own (inr move) =
    (move.0, move.3, move.4, ap Said move.5)
own_first g side p refusals (Heard line) next going own theirs =
    absurd (apart side p.turn own theirs.0.1)
own_first g side p refusals (Skipped line) next going own theirs =
    absurd (apart side p.turn own theirs.0.1)
own_first g side p refusals Ended next going own theirs = absurd (apart side p.turn own theirs.0.1)

-- a point that a line says is free
said_free : (g : Contest) (p : Position) (o : Option ℕ) (v : ℕ)
    → point_or_refusal g.rules p o ≡ Ok v
    → (v < g.rules.points) × (is_free p v ≡ true)
said_free g p None v e = absurd (cc e)
said_free g p (Some n) v e = go (nat_lt n (g.rules.points)) (is_free p n) refl refl e where
  go : (within free : Bool)
      → nat_lt n (g.rules.points) ≡ within
      → is_free p n ≡ free
      → (if within then (if free then Ok n else Err Taken) else Err NoPoint) ≡ Ok v
      → (v < g.rules.points) × (is_free p v ≡ true)
  go true true lt is e =
      let same : n ≡ v = cc e in
      let below : n < g.rules.points = grind (arith, nat_tests, lt) in (
        subst (λ (m : ℕ). m < g.rules.points) same below,
        subst (λ (m : ℕ). is_free p m ≡ true) same is,
      )
  go true false lt is e = absurd (cc e)
  go false free lt is e = absurd (cc e)

-- ---- positions

-- after a refusal the position is the same
refusal_stays : (p : Position) (refusals : ℕ) → position_at (after_refusal p refusals) ≡ p
refusal_stays p refusals = go (nat_eq (refusals + 1) MAX_REFUSALS) where
  go : (last : Bool) → position_at (if last then Over p OUT_OF_REPLIES else At p (refusals + 1)) ≡ p
  go true = refl
  go false = refl

-- a move of the game leads from one position to another, or they are the same
abbrev pub IsStep : Contest → Position → Position → Type 0
IsStep g p q = (q ≡ p)
    ⊎ ((v : ℕ) × (g.rules.over p ≡ false)
    × (v < g.rules.points)
    × (is_free p v ≡ true)
    × (q ≡ moved g.rules p v))

reply_moves : (g : Contest) (p : Position) (refusals : ℕ) (o : Option ℕ) (r : Result ℕ ReplyFault)
    → g.rules.over p ≡ false
    → point_or_refusal g.rules p o ≡ r
    → IsStep g p (position_at (after_reply g p refusals r))
reply_moves g p refusals o (Ok v) going e =
    let legal = said_free g p o v e in
    inr (v, going, legal.0, legal.1, refl)
reply_moves g p refusals o (Err fault) going e = inl refl

steps_move : (g : Contest) (side : Side) (s m : Stage) (entry : Entry)
    → Steps g side s entry m
    → IsStep g (position_at s) (position_at m)
steps_move g side (At p refusals) m (Said text) (inl result) = inl (ap position_at result.2)
steps_move g side (At p refusals) m (Said text) (inr move) =
    inr (move.0, move.1, move.3, move.4, ap position_at move.6)
steps_move g side (At p refusals) m (Heard line) h =
    subst (λ (q : Position). IsStep g p q) (sym (ap position_at h.1))
    (reply_moves g p refusals (said_number line) (replied_point g.rules p line) h.0.0 refl)
steps_move g side (At p refusals) m (Skipped line) h = inl (ap position_at h.1)
steps_move g side (At p refusals) m Ended h = inl (ap position_at h.1)
steps_move g side (Owes p refusals fault) m (Said text) h =
    inl (ap position_at h.1 ∙ refusal_stays p refusals)
steps_move g side (Owes p refusals fault) m (Heard line) h = absurd h
steps_move g side (Owes p refusals fault) m (Skipped line) h = absurd h
steps_move g side (Owes p refusals fault) m Ended h = absurd h
steps_move g side (Over p status) m entry h = absurd h

-- a legal play leads from one position to another
abbrev pub IsPlayTo : Contest → Position → Position → Type 0
IsPlayTo g p q = (moves : List ℕ) × IsPlayBy g.rules p moves × (played_by g.rules p moves ≡ q)

step_first : (g : Contest) (p q last : Position)
    → IsStep g p q
    → IsPlayTo g q last
    → IsPlayTo g p last
step_first g p q last (inl same) play = subst (λ (r : Position). IsPlayTo g r last) same play
step_first g p q last (inr (v, going, within, free, made)) play =
    let next = subst (λ (r : Position). IsPlayTo g r last) made play in
    (v ∷ next.0, (going, within, free, next.1), next.2)

pub dialogues_play : (g : Contest) (side : Side) (s t : Stage) (entries : List Entry)
    → Leads g side s entries t
    → IsPlayTo g (position_at s) (position_at t)
dialogues_play g side s t [] same = ([], tt, sym (ap position_at same))
dialogues_play g side s t (entry ∷ entries) (m, step, rest) =
    step_first g (position_at s) (position_at m) (position_at t) (steps_move g side s m entry step)
    (dialogues_play g side m t entries rest)

-- ---- how dialogues end

-- a refusal is owed in a game that goes on, and an end has its status
abbrev pub IsFair : Contest → Stage → Type 0
IsFair g (At p refusals) = Unit {0}
IsFair g (Owes p refusals fault) = g.rules.over p ≡ false
IsFair g (Over p status) = EndsWith g p status

refusal_fair : (g : Contest) (p : Position) (refusals : ℕ) (m : Stage)
    → g.rules.over p ≡ false
    → m ≡ after_refusal p refusals
    → IsFair g m
refusal_fair g p refusals m going is =
    subst (λ (n : Stage). IsFair g n) (sym is) (go (nat_eq (refusals + 1) MAX_REFUSALS)) where
      go : (last : Bool) → IsFair g (if last then Over p OUT_OF_REPLIES else At p (refusals + 1))
      go true = inr (going, inr refl)
      go false = tt

reply_fair : (g : Contest) (p : Position) (refusals : ℕ) (r : Result ℕ ReplyFault)
    → g.rules.over p ≡ false
    → IsFair g (after_reply g p refusals r)
reply_fair g p refusals (Ok v) going = tt
reply_fair g p refusals (Err fault) going = going

steps_fair : (g : Contest) (side : Side) (s m : Stage) (entry : Entry)
    → IsFair g s
    → Steps g side s entry m
    → IsFair g m
steps_fair g side (At p refusals) m (Said text) fair (inl result) =
    subst (λ (n : Stage). IsFair g n) (sym result.2) (inl (result.0, refl))
steps_fair g side (At p refusals) m (Said text) fair (inr move) =
    subst (λ (n : Stage). IsFair g n) (sym move.6) tt
steps_fair g side (At p refusals) m (Heard line) fair h = subst (λ (n : Stage). IsFair g n)
    (sym h.1) (reply_fair g p refusals (replied_point g.rules p line) h.0.0)
steps_fair g side (At p refusals) m (Skipped line) fair h =
    subst (λ (n : Stage). IsFair g n) (sym h.1) h.0.0
steps_fair g side (At p refusals) m Ended fair h =
    subst (λ (n : Stage). IsFair g n) (sym h.1) (inr (h.0.0, inl refl))
steps_fair g side (Owes p refusals fault) m (Said text) fair h =
    refusal_fair g p refusals m fair h.1
steps_fair g side (Owes p refusals fault) m (Heard line) fair h = absurd h
steps_fair g side (Owes p refusals fault) m (Skipped line) fair h = absurd h
steps_fair g side (Owes p refusals fault) m Ended fair h = absurd h
steps_fair g side (Over p status) m entry fair h = absurd h

pub stays_fair : (g : Contest) (side : Side) (s t : Stage) (entries : List Entry)
    → IsFair g s
    → Leads g side s entries t
    → IsFair g t
stays_fair g side s t [] fair same = subst (λ (n : Stage). IsFair g n) (sym same) fair
stays_fair g side s t (entry ∷ entries) fair (m, step, rest) =
    stays_fair g side m t entries (steps_fair g side s m entry fair step) rest

-- ---- how much is heard

-- a legal move leaves fewer points free
pub fewer_free : (r : Rules) (p : Position) (v : ℕ)
    → v < r.points
    → is_free p v ≡ true
    → length (free_below r.points (moved r p v)) < length (free_below r.points p)
fewer_free r p v within free = omega (arith, length-moved r p v within free)

-- how often something may still be heard, and that fewer replies have been refused than may be
abbrev pub budget : Contest → Stage → ℕ
budget g (At p refusals) = length (free_below g.rules.points p) + (MAX_REFUSALS - refusals)
budget g (Owes p refusals fault) =
    length (free_below g.rules.points p) + (MAX_REFUSALS - 1 - refusals)
budget g (Over p status) = 0

abbrev pub Under : Stage → Type 0
Under (At p refusals) = refusals < MAX_REFUSALS
Under (Owes p refusals fault) = refusals < MAX_REFUSALS
Under (Over p status) = Unit {0}

-- an entry that takes so much leaves the rest
abbrev pub Leaves : Contest → Stage → ℕ → Stage → Type 0
Leaves g s taken m = Under m × (taken + budget g m ≤ budget g s)

refusal_leaves : (g : Contest) (p : Position) (refusals : ℕ) (fault : ReplyFault) (m : Stage)
    → refusals < MAX_REFUSALS
    → m ≡ after_refusal p refusals
    → Leaves g (Owes p refusals fault) 0 m
refusal_leaves g p refusals fault m few is =
    subst (λ (n : Stage). Leaves g (Owes p refusals fault) 0 n) (sym is)
    (go (nat_eq (refusals + 1) MAX_REFUSALS) refl) where
      go : (last : Bool)
          → nat_eq (refusals + 1) MAX_REFUSALS ≡ last
          → Leaves g (Owes p refusals fault) 0
          (if last then Over p OUT_OF_REPLIES else At p (refusals + 1))
      go true e = (tt, omega arith)
      go false e =
          let other : refusals + 1 ≢ MAX_REFUSALS = grind (arith, nat_tests, e) in
          (omega (arith, few, other), omega (arith, few, other))

reply_leaves : (g : Contest) (p : Position) (refusals : ℕ) (o : Option ℕ) (r : Result ℕ ReplyFault)
    → refusals < MAX_REFUSALS
    → point_or_refusal g.rules p o ≡ r
    → Leaves g (At p refusals) 1 (after_reply g p refusals r)
reply_leaves g p refusals o (Ok v) few e =
    let legal = said_free g p o v e in
    (few, omega (arith, few, fewer_free g.rules p v legal.0 legal.1))
reply_leaves g p refusals o (Err fault) few e = (few, omega (arith, few))

result_leaves : (g : Contest) (p : Position) (refusals status : ℕ) (m : Stage)
    → m ≡ Over p status
    → refusals < MAX_REFUSALS
    → Leaves g (At p refusals) 1 m
result_leaves g p refusals status m is few =
    subst (λ (n : Stage). Leaves g (At p refusals) 1 n) (sym is) (tt, omega (arith, few))

-- how often an entry was heard
abbrev heard_in : Entry → ℕ
heard_in entry = if is_heard entry then 1 else 0

steps_leave : (g : Contest) (side : Side) (s m : Stage) (entry : Entry)
    → Under s
    → Steps g side s entry m
    → Leaves g s (heard_in entry) m
steps_leave g side (At p refusals) m (Said text) few (inl result) =
    let left = result_leaves g p refusals DONE m result.2 few in (left.0, omega (arith, left.1))
steps_leave g side (At p refusals) m (Said text) few (inr (v, going, own, within, free, said, is)) =
    subst (λ (n : Stage). Leaves g (At p refusals) 0 n) (sym is)
    (few, omega (arith, few, fewer_free g.rules p v within free))
steps_leave g side (At p refusals) m (Heard line) few h =
    subst (λ (n : Stage). Leaves g (At p refusals) 1 n) (sym h.1)
    (reply_leaves g p refusals (said_number line) (replied_point g.rules p line) few refl)
steps_leave g side (At p refusals) m (Skipped line) few h =
    subst (λ (n : Stage). Leaves g (At p refusals) 1 n) (sym h.1) (few, omega (arith, few))
steps_leave g side (At p refusals) m Ended few h = result_leaves g p refusals INPUT_ENDED m h.1 few
steps_leave g side (Owes p refusals fault) m (Said text) few h =
    refusal_leaves g p refusals fault m few h.1
steps_leave g side (Owes p refusals fault) m (Heard line) few h = absurd h
steps_leave g side (Owes p refusals fault) m (Skipped line) few h = absurd h
steps_leave g side (Owes p refusals fault) m Ended few h = absurd h
steps_leave g side (Over p status) m entry few h = absurd h

pub hears_few : (g : Contest) (side : Side) (s t : Stage) (entries : List Entry)
    → Under s
    → Leads g side s entries t
    → count_by is_heard entries ≤ budget g s
hears_few g side s t [] few same = omega arith
hears_few g side s t (entry ∷ entries) few (m, step, rest) =
    let one = steps_leave g side s m entry few step in
    let others = hears_few g side m t entries one.0 rest in
    let count : count_by is_heard (entry ∷ entries) ≡ heard_in entry + count_by is_heard entries =
    sum_by-cons heard_in entry entries in
    omega (arith, one.1, others, count)
