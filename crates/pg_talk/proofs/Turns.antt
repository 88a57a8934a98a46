-- Turns of a dialogue.
use Rattle.std.proofs.Common.{◌≡◌, ◌≢◌, ℕ, ◌+◌, ◌<◌, ◌≤◌, nat_eq, nat_lt, if◌then◌else◌, Bool, true}
use Rattle.std.proofs.Common.{false, [], ◌∷◌, Option, Some, None, Result, Ok, Err, refl, sym, ◌∙◌}
use Rattle.std.proofs.Common.{ap, subst, inl, inr, arith}
use Rattle.pg_talk.proofs.Common.{nat_tests, Kind, ConsoleTold, Grows, Said, Stop, Memory, Illegal}
use Rattle.pg_talk.proofs.Common.{Position, is_free, ending_by, judged_by, Rules, moved, move_text}
use Rattle.pg_talk.proofs.Common.{result_text, ReplyFault, NoPoint, DONE, OUT_OF_REPLIES}
use Rattle.pg_base.specs.declared.score.Score.{Score}
use Rattle.pg_game.specs.declared.position.Illegal.TheVariants.{Range, Taken, Over as OverNow}
use Rattle.pg_messages.specs.declared.message.ReplyFault.TheVariants.{Taken as IsTaken}
use Rattle.pg_talk.specs.Contender.{Contender, MakesMove, TakesReply, at}
use Rattle.pg_talk.specs.Contest.{Contest}
use Rattle.pg_talk.specs.Dialogue.{Stage, At, Owes, Over, Steps, IsOpen, after_refusal, after_reply}
use Rattle.pg_talk.specs.Reply.{point_or_refusal}
use Rattle.pg_talk.specs.Talk.{Talk, BreaksOff, Talks, answered, free_count, turned}
use Rattle.pg_talk.specs.declared.dialogue.TheConstants.{MAX_REFUSALS}
use Rattle.pg_talk.specs.declared.dialogue.Turn.{Turn}
use Rattle.pg_talk.proofs.Dialogues.{fewer_free}
use Rattle.pg_talk.proofs.Talking.{Talk-said, Talk-then, Breaks-then}

-- ---- a move

-- a move that the player has made is said
pub Talk-moved : (old new : Contender) (v refused : ℕ) (a b : ConsoleTold)
    → MakesMove old new v
    → Grows a.log b.log (Said (move_text v) ∷ [])
    → b.left ≡ a.left
    → Talk old.contest old.side a b (At old.position refused) (At new.position refused)
Talk-moved old new v refused a b made grows quiet = Talk-said old.contest old.side a b (move_text v)
    (At old.position refused) (At new.position refused) grows quiet (inr (
      v,
      made.going,
      made.turn,
      made.within,
      made.free,
      refl,
      ap (λ (c : Contender). At c.position refused) made.next,
    ))

-- and leaves fewer points free
pub moved_goes : (old new : Contender) (v : ℕ)
    → MakesMove old new v
    → (free_count new < free_count old) × (new ≡ at old new.position)
moved_goes old new v made = (
  subst (λ (c : Contender). free_count c < free_count old) (sym made.next)
      (fewer_free old.contest.rules old.position v made.within made.free),
  made.next ∙ ap (λ (c : Contender). at old c.position) (sym made.next),
)

-- ---- a reply

-- a point that a judge takes is a free point
judged_ok : (r : Rules) (p q : Position) (v : ℕ)
    → judged_by r p v ≡ Ok q
    → (point_or_refusal r p (Some v) ≡ Ok v)
    × (q ≡ moved r p v)
    × (v < r.points)
    × (is_free p v ≡ true)
judged_ok r p q v e = go (nat_lt v r.points) (r.over p) (is_free p v) refl refl e where
  go : (within over free : Bool)
      → nat_lt v r.points ≡ within
      → is_free p v ≡ free
      → (if within
      then (if over then Err OverNow else (if free then Ok (moved r p v) else Err Taken))
      else Err Range) ≡ Ok q
      → ((if within then (if free then Ok v else Err IsTaken) else Err NoPoint) ≡ Ok v)
      × (q ≡ moved r p v)
      × (v < r.points)
      × (is_free p v ≡ true)
  go true false true lt is e =
      let same : moved r p v ≡ q = cc e in
      (refl, sym same, grind (arith, nat_tests, lt), is)
  go true false false lt is e = absurd (cc e)
  go true true free lt is e = absurd (cc e)
  go false over free lt is e = absurd (cc e)

-- the stage after a point that is taken
pub taken_stage : (old mid : Contender) (v refused : ℕ)
    → TakesReply old mid v
    → answered old refused (Some v) ≡ At mid.position refused
taken_stage old mid v refused takes =
    let parts = judged_ok old.contest.rules old.position mid.position v takes.legal in
    ap (after_reply old.contest old.position refused) parts.0
    ∙ ap (λ (p : Position). At p refused) (sym parts.1)

pub taken_goes : (old mid : Contender) (v : ℕ)
    → TakesReply old mid v
    → (free_count mid < free_count old) × (mid ≡ at old mid.position)
taken_goes old mid v takes =
    let parts = judged_ok old.contest.rules old.position mid.position v takes.legal in
    let less = subst (λ (p : Position). free_count (at old p) < free_count old) (sym parts.1)
    (fewer_free old.contest.rules old.position v parts.2 parts.3) in
    (subst (λ (c : Contender). free_count c < free_count old) (sym takes.same) less, takes.same)

-- why a point isn't taken, as it is said
abbrev pub reason_of : Illegal → ReplyFault
reason_of Taken = IsTaken
reason_of Range = NoPoint
reason_of OverNow = NoPoint

-- a number that is no point is refused
pub beyond_stage : (old : Contender) (o : Option ℕ) (n refused : ℕ)
    → o ≡ Some n
    → old.contest.rules.points ≤ n
    → answered old refused o ≡ Owes old.position refused NoPoint
beyond_stage old o n refused is great =
    let test : nat_lt n old.contest.rules.points ≡ false = grind (arith, nat_tests, great) in
    rw (is, test) refl

-- a stage after a reply isn't the end
pub reply_is_open : (g : Contest) (p : Position) (refused : ℕ) (r : Result ℕ ReplyFault)
    → IsOpen (after_reply g p refused r)
reply_is_open g p refused (Ok v) = tt
reply_is_open g p refused (Err fault) = tt

-- ---- a reply and a move

-- a reply was taken, and the move by which the player has answered is said
pub Talk-answered : (old mid new : Contender) (v own refused : ℕ) (a b : ConsoleTold)
    → TakesReply old mid v
    → MakesMove mid new own
    → Grows a.log b.log (Said (move_text own) ∷ [])
    → b.left ≡ a.left
    → Talk old.contest old.side a b (answered old refused (Some v)) (At new.position refused)
Talk-answered old mid new v own refused a b takes made grows quiet =
    let said = Talk-moved mid new own refused a b made grows quiet in
    let here = subst (λ (c : Contender).
    Talk c.contest c.side a b (At c.position refused) (At new.position refused)) takes.same said in
    subst (λ (s : Stage). Talk old.contest old.side a b s (At new.position refused))
    (sym (taken_stage old mid v refused takes)) here

pub answered_goes : (old mid new : Contender) (v own : ℕ)
    → TakesReply old mid v
    → MakesMove mid new own
    → (free_count new < free_count old) × (new ≡ at old new.position)
answered_goes old mid new v own takes made =
    let first = taken_goes old mid v takes in
    let second = moved_goes mid new own made in
    (omega (arith, first.0, second.0), second.1 ∙ ap (λ (c : Contender). at c new.position) first.1)

-- a refusal before the last that is allowed, and the last
pub goes_on : (p : Position) (refused : ℕ)
    → refused + 1 ≢ MAX_REFUSALS
    → after_refusal p refused ≡ At p (refused + 1)
goes_on p refused other =
    let test : nat_eq (refused + 1) MAX_REFUSALS ≡ false = grind (arith, nat_tests, other) in
    rw test refl

pub ends_refused : (p : Position) (refused : ℕ)
    → refused + 1 ≡ MAX_REFUSALS
    → after_refusal p refused ≡ Over p OUT_OF_REPLIES
ends_refused p refused same =
    let test : nat_eq (refused + 1) MAX_REFUSALS ≡ true = grind (arith, nat_tests, same) in
    rw test refl

-- ---- a turn after others

-- where an outcome is given, the game is over
over_at : (over : Bool) (outcome score : Score)
    → Some score ≡ (if over then Some outcome else None)
    → (over ≡ true) × (score ≡ outcome)
over_at true outcome score e = (refl, cc e)
over_at false outcome score e = absurd (cc e)

pub is_over_at : (c : Contender) (score : Score)
    → Some score ≡ ending_by c.contest.rules c.position
    → (c.contest.rules.over c.position ≡ true) × (score ≡ c.contest.rules.outcome c.position)
is_over_at c score is =
    over_at (c.contest.rules.over c.position) (c.contest.rules.outcome c.position) score is

-- the result is said
pub result_step : (c : Contender) (refused : ℕ) (kind : Kind) (score : Score)
    → kind ≡ c.contest.kind
    → Some score ≡ ending_by c.contest.rules c.position
    → Steps c.contest c.side (At c.position refused) (Said (result_text kind score))
    (Over c.position DONE)
result_step c refused kind score same is =
    let over = is_over_at c score is in
    inl (
      over.0,
      ap (λ (k : Kind). result_text k score) same ∙ ap (result_text c.contest.kind) over.1,
      refl,
    )

module _ (begun old : Contender) (same : old ≡ at begun old.position) (a b c : ConsoleTold)
    (refused : ℕ)
    (before : Talk begun.contest begun.side a b (At begun.position 0)
    (At old.position refused)) where
  same_play : {T : Type 0} (s : Stage) (r : Result T Stop) (to : T → Stage)
      → Talks old.contest old.side b c s r to
      → Talks begun.contest begun.side b c s r to
  same_play {T} s r to talks =
      subst (λ (k : Contender). Talks {T = T} k.contest k.side b c s r to) same talks

  -- the result is said at the end
  pub result_ends : (kind : Kind) (score : Score)
      → kind ≡ old.contest.kind
      → Some score ≡ ending_by old.contest.rules old.position
      → Grows b.log c.log (Said (result_text kind score) ∷ [])
      → c.left ≡ b.left
      → Talk begun.contest begun.side a c (At begun.position 0) (Over old.position DONE)
  result_ends kind score kind_is is says left =
      let last =
      Talk-said old.contest old.side b c (result_text kind score) (At old.position refused)
      (Over old.position DONE) says left (result_step old refused kind score kind_is is) in
      Talk-then begun.contest begun.side a b c (At begun.position 0) (At old.position refused)
      (Over old.position DONE) before (subst (λ (k : Contender).
      Talk k.contest k.side b c (At old.position refused) (Over old.position DONE)) same last)

  -- a turn, and where it leads
  pub turn_leads : (new : Position) (turn : Turn) (to : Stage)
      → turned new refused turn ≡ to
      → Talk old.contest old.side b c (At old.position refused) (turned new refused turn)
      → Talk begun.contest begun.side a c (At begun.position 0) to
  turn_leads new turn to is talk =
      let next = same_play {T = Turn} (At old.position refused) (Ok turn)
      (λ turn. turned new refused turn) talk in
      Talk-then begun.contest begun.side a b c (At begun.position 0)
      (At old.position refused) to before
      (subst (λ (s : Stage). Talk begun.contest begun.side b c (At old.position refused) s) is next)

  -- a turn that breaks off
  pub turn_breaks : BreaksOff old.contest old.side b c (At old.position refused)
      → BreaksOff begun.contest begun.side a c (At begun.position 0)
  turn_breaks off = Breaks-then begun.contest begun.side a b c (At begun.position 0)
      (At old.position refused) before
      (same_play {T = Turn} (At old.position refused) (Err Memory)
      (λ turn. At old.position refused) off)
