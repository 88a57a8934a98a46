-- What names hold, and runs by what was read of them.
use Rattle.std.proofs.Common.{◌≡◌, ◌∙◌, ℕ, ◌+◌, false, List, [], take, Option, Some, None, Result}
use Rattle.std.proofs.Common.{Ok, Err, IfErr, refl, sym, ap, subst, inl, inr}
use Rattle.std.specs.Prelude.{IfSome, IsErrAnd, nat_lt}
use Rattle.pg_sessions.proofs.Common.{entry, Game, ConsoleTold, Bytes, Holding, FilesTold, Entry}
use Rattle.pg_sessions.proofs.Common.{Read, Write, Memory, OpensGame, game_held, Expanded, Event}
use Rattle.pg_sessions.proofs.Common.{record_of, number_of, Fault, cut_same, opens_whole}
use Rattle.pg_sessions.proofs.Common.{performs_more, runs_halt, runs_read, Done, End, Finished}
use Rattle.pg_sessions.proofs.Common.{Follows, Performs, stop_end, BothCauses, HaltCauses}
use Rattle.pg_sessions.proofs.Common.{IsLackingOne, IsReadAs, Opens, held_as, lacking, Runs, Halt}
use Rattle.pg_sessions.proofs.Common.{Refused, Stopped, Refusal, LeavesSearch}
use Rattle.pg_io.specs.Causes.{Faults, Rose}
use Rattle.pg_io.specs.Reading.{IsFile}
use Rattle.pg_record.specs.declared.fault.Fault.TheVariants.{Size}
use Rattle.pg_record.specs.declared.fault.TheConstants.{MAX_RECORD_BYTES}
use Rattle.pg_sessions.proofs.Standing.{leaves-more}
use Rattle.pg_sessions.specs.Along.{IsOfMoves, IsOfNames}
use Rattle.pg_sessions.specs.Review.{IsReviewLacking, IsTextHalt, RefusesReview, Reviews}
use Rattle.pg_sessions.specs.Review.{ReviewsMoves, ReviewsRead, ReviewsRecord, StandsAgainst}
use Rattle.pg_sessions.specs.Review.{moves_held, moves_told, record_fault}

-- ---- a record

pub moves_bad : (r : Result (List Event) (Fault × ℕ)) (number line : ℕ)
    → IsErrAnd r (λ bad. (number ≡ number_of bad.0) × (line ≡ bad.1))
    → moves_told r ≡ Err (record_fault number line)
moves_bad (Ok events) number line h = absurd h
moves_bad (Err fault) number line h = ap (λ (n : ℕ). Err (record_fault n fault.1)) (sym h.0)
    ∙ ap (λ (l : ℕ). Err (record_fault number l)) (sym h.1)

-- one byte more than the limit tells as much as the whole file
record_cut : (g : Game) (all : Bytes)
    → record_of g (take (MAX_RECORD_BYTES + 1) all) ≡ record_of g all
unfolding record_of
record_cut g all =
    cut_same MAX_RECORD_BYTES (record_of g) (Err (Size, 0)) (λ text long. rw long refl) all

moves-single : (g : Game)
    → nat_lt 1 g.bias ≡ false
    → (o : Option Bytes) → moves_held g o ≡ held_as (λ text. moves_told (record_of g text)) o
moves-single g single o = rw single refl

pub opens_moves : {A : Type 0} (view : A → List ℕ) (g : Game) (h : Option Holding)
    (name text : Bytes) (r : Result A Halt)
    → nat_lt 1 g.bias ≡ false
    → IsFile h name MAX_RECORD_BYTES text
    → IsReadAs view (moves_told (record_of g text)) r
    → Opens view (moves_held g) h name r
opens_moves {A} view g h name text r single whole is = go h
    (opens_whole MAX_RECORD_BYTES (λ (t : Bytes). moves_told (record_of g t))
    (λ all. ap moves_told (record_cut g all)) view h name text r whole is) where
      go : (h : Option Holding)
          → Opens view (held_as (λ t. moves_told (record_of g t))) h name r
          → Opens view (moves_held g) h name r
      go None opens = tt
      go (Some held) opens = subst (λ (read : Result (List ℕ) Halt). IsReadAs view read r)
          (sym (moves-single g single (held name))) opens

-- ---- a review of a record

module _ {A : Type 0} (view : A → List ℕ) (g : Game) (name : Bytes) (positions : ℕ)
    (work : Expanded) (files files' : FilesTold) (same : files'.held ≡ files.held) where
  -- what the review of the moves that were read does is what the review of the record does
  pub runs_moves : (moves : A)
      → Opens view (moves_held g) files.held name (Ok moves)
      → (before after : ConsoleTold) (r : Result ℕ Halt)
      → Performs (λ _. ⊥) (ReviewsMoves g (view moves) positions work) before after r
      → Runs (λ held refusal. moves_held g (held name) ≡ Err (Refused refusal))
      (λ held done end. ReviewsRecord g (held name) positions work done.entries end
      × (done.stored ≡ [])) files files' before after r
  runs_moves moves opens before after r performs =
      let Against =
      λ (read : Result (List ℕ) Halt) (refusal : Refusal). read ≡ Err (Refused refusal) in
      let Act = λ (read : Result (List ℕ) Halt) (entries : List Entry) (end : End). (moves : List ℕ)
      × (read ≡ Ok moves) × ReviewsMoves g moves positions work entries end in
      runs_read files files' same Against Act (λ held. moves_held g (held name)) (Ok (view moves))
      (λ held told. subst (λ (h : Option Holding). Opens view (moves_held g) h name (Ok moves)) told
      opens) before after r
      (performs_more (λ _. ⊥) (Against (Ok (view moves)))
      (ReviewsMoves g (view moves) positions work) (Act (Ok (view moves)))
      (λ refusal none. absurd none)
      (λ entries end acts. (view moves, refl, acts)) before after r performs)

  -- the record wasn't taken
  pub halts_moves : (halt : Halt)
      → Opens view (moves_held g) files.held name (Err halt)
      → (console : ConsoleTold)
      → Runs (λ held refusal. moves_held g (held name) ≡ Err (Refused refusal))
      (λ held done end. ReviewsRecord g (held name) positions work done.entries end
      × (done.stored ≡ [])) files files' console console (Err halt)
  halts_moves halt opens console =
      runs_halt files files' same (λ held refusal. moves_held g (held name) ≡ Err (Refused refusal))
      (λ held done end. ReviewsRecord g (held name) positions work done.entries end
      × (done.stored ≡ [])) console halt (λ held refusal told is.
      subst (λ (k : Halt). IsReadAs view (moves_held g (held name)) (Err k)) is
      (subst (λ (h : Option Holding). Opens view (moves_held g) h name (Err halt)) told opens))

-- ---- a review of a game and its record

-- what stands against a run, or what it does, in one way does so in another; files were only read
-- before
runs_more : (Against More : Holding → Refusal → Type 0) (Act Acts : Holding → Done → End → Type 0)
    (files mid files' : FilesTold)
    → mid.held ≡ files.held
    → ((held : Holding) (refusal : Refusal) → files.held ≡ Some held
    → Against held refusal
    → More held refusal)
    → ((held : Holding) (done : Done) (end : End) → files.held ≡ Some held
    → Act held done end
    → Acts held done end)
    → (before after : ConsoleTold) (r : Result ℕ Halt) → Runs Against Act mid files' before after r
    → Runs More Acts files files' before after r
runs_more Against More Act Acts files mid files' same against act before after r runs =
    go files.held refl r (subst (λ (h : Option Holding).
    IfSome h (λ held. Follows (Against held) (Act held) held files' before after r)) same runs)
  where
    go : (h : Option Holding)
        → files.held ≡ h
        → (r : Result ℕ Halt)
        → IfSome h (λ held. Follows (Against held) (Act held) held files' before after r)
        → IfSome h (λ held. Follows (More held) (Acts held) held files' before after r)
    go None told r follows = tt
    go (Some held) told (Ok status) (done, acts, changes) =
        (done, act held done (Finished status) told acts, changes)
    go (Some held) told (Err (Refused refusal)) (stands, changes) =
        (against held refusal told stands, changes)
    go (Some held) told (Err (Stopped stop)) (done, inl none, changes) = (done, inl none, changes)
    go (Some held) told (Err (Stopped stop)) (done, inr acts, changes) =
        (done, inr (act held done (stop_end stop) told acts), changes)

module _ (game_name record_name : Bytes) (positions : ℕ) (work : Expanded)
    (files files' : FilesTold) where
  -- the game was taken
  said_by : (g : Game)
      → OpensGame files.held game_name (Ok g)
      → (held : Holding) → files.held ≡ Some held
      → game_held (held game_name) ≡ Ok (entry g)
  said_by g opens held told =
      subst (λ (h : Option Holding). OpensGame h game_name (Ok g)) told opens

  pub runs_record : (g : Game) (mid : FilesTold)
      → mid.held ≡ files.held
      → OpensGame files.held game_name (Ok g)
      → (before after : ConsoleTold) (r : Result ℕ Halt)
      → Runs (λ held refusal. moves_held g (held record_name) ≡ Err (Refused refusal))
      (λ held done end. ReviewsRecord g (held record_name) positions work done.entries end
      × (done.stored ≡ [])) mid files' before after r
      → Runs (λ held. RefusesReview (held game_name) (held record_name))
      (λ held done end. Reviews (held game_name) (held record_name) positions work done end
      × (done.stored ≡ [])) files files' before after r
  runs_record g mid same opens before after r runs =
      runs_more (λ held refusal. moves_held g (held record_name) ≡ Err (Refused refusal))
      (λ held. RefusesReview (held game_name) (held record_name)) (λ held done end.
      ReviewsRecord g (held record_name) positions work done.entries end × (done.stored ≡ []))
      (λ held done end. Reviews (held game_name) (held record_name) positions work done end
      × (done.stored ≡ [])) files mid files' same (λ held refusal told stands.
      subst (λ (read : _). StandsAgainst read (held record_name) (Refused refusal))
      (sym (said_by g opens held told)) (g, refl, stands)) (λ held done end told acts. (
        subst (λ (read : _). ReviewsRead read (held record_name) positions work done.entries end)
            (sym (said_by g opens held told)) (g, refl, acts.0),
        acts.1,
      )) before after r runs

  -- it wasn't
  pub halts_game : (halt : Halt)
      → files'.held ≡ files.held
      → OpensGame files.held game_name (Err halt)
      → (console : ConsoleTold) → Runs (λ held. RefusesReview (held game_name) (held record_name))
      (λ held done end. Reviews (held game_name) (held record_name) positions work done end
      × (done.stored ≡ [])) files files' console console (Err halt)
  halts_game halt same opens console =
      runs_halt files files' same (λ held. RefusesReview (held game_name) (held record_name))
      (λ held done end. Reviews (held game_name) (held record_name) positions work done end
      × (done.stored ≡ [])) console halt (λ held refusal told is.
      let read = subst (λ (k : Halt). IsReadAs entry (game_held (held game_name)) (Err k)) is
      (subst (λ (h : Option Holding). OpensGame h game_name (Err halt)) told opens) in
      subst (λ (r : _). StandsAgainst r (held record_name) (Refused refusal)) (sym read) refl)

  -- the record isn't held
  pub lacks_record : (g : Game) (mid : FilesTold)
      → mid.held ≡ files.held
      → OpensGame files.held game_name (Ok g)
      → IsLackingOne (moves_held g) mid.held record_name
      → IsReviewLacking files.held game_name record_name
  lacks_record g mid same opens lacks = go files.held opens
      (subst (λ (h : Option Holding). IsLackingOne (moves_held g) h record_name) same lacks) where
        go : (h : Option Holding)
            → OpensGame h game_name (Ok g)
            → IsLackingOne (moves_held g) h record_name
            → IsReviewLacking h game_name record_name
        go None opens lacks = absurd lacks
        go (Some held) opens lacks = subst (λ (r : _). StandsAgainst r (held record_name) lacking)
            (sym opens) (g, refl, lacks)

-- ---- what is left of the work

-- what is so of the moves that were read is so of those that the name of the record holds
of-moves : {A : Type 0} (view : A → List ℕ) (Is : Game → List ℕ → Game → Type 0) (g : Game)
    (h : Option Holding) (name : Bytes) (moves : A) → Opens view (moves_held g) h name (Ok moves)
    → (here : Game) → Is g (view moves) here → IsOfMoves Is g h name here
of-moves view Is g None name moves opens here is = tt
of-moves view Is g (Some held) name moves opens here is = (view moves, opens, is)

-- what is so of the game that was read is so of the one that its name holds
of-names : (Is : Game → List ℕ → Game → Type 0) (g : Game) (h : Option Holding)
    (game_name record_name : Bytes) → OpensGame h game_name (Ok g) → (here : Game)
    → IsOfMoves Is g h record_name here → IsOfNames Is h game_name record_name here
of-names Is g None game_name record_name opens here is = tt
of-names Is g (Some held) game_name record_name opens here is = (g, opens, is)

module _ (Is : Game → List ℕ → Game → Type 0) (positions : ℕ) (first last : Expanded) where
  pub left-of-moves : {A : Type 0} (view : A → List ℕ) (g : Game) (h : Option Holding)
      (name : Bytes) (moves : A)
      → Opens view (moves_held g) h name (Ok moves)
      → LeavesSearch (Is g (view moves)) positions first last
      → LeavesSearch (IsOfMoves Is g h name) positions first last
  left-of-moves view g h name moves opens left =
      leaves-more (Is g (view moves)) (IsOfMoves Is g h name) positions first last
      (of-moves view Is g h name moves opens) left

  pub left-of-names : (g : Game) (h mid : Option Holding) (game_name record_name : Bytes)
      → mid ≡ h
      → OpensGame h game_name (Ok g)
      → LeavesSearch (IsOfMoves Is g mid record_name) positions first last
      → LeavesSearch (IsOfNames Is h game_name record_name) positions first last
  left-of-names g h mid game_name record_name same opens left =
      leaves-more (IsOfMoves Is g h record_name) (IsOfNames Is h game_name record_name) positions
      first last (of-names Is g h game_name record_name opens) (subst (λ (it : Option Holding).
      LeavesSearch (IsOfMoves Is g it record_name) positions first last) same left)

-- what stopped work has its cause, also where files were only read before
pub causes_more : (absent more : Type 0) (files mid files' : FilesTold) (before after : ConsoleTold)
    (r : Result ℕ Halt)
    → (absent → more)
    → mid.faults ≡ files.faults
    → BothCauses absent mid files' before after r
    → BothCauses more files files' before after r
causes_more absent more files mid files' before after (Ok status) lacks same calm =
    record { on_files = calm.on_files ∙ same; on_console = calm.on_console }
causes_more absent more files mid files' before after (Err (Refused refusal)) lacks same calm =
    record { on_files = calm.on_files ∙ same; on_console = calm.on_console }
causes_more absent more files mid files' before after (Err (Stopped Memory)) lacks same calm =
    record { on_files = calm.on_files ∙ same; on_console = calm.on_console }
causes_more absent more files mid files' before after (Err (Stopped Read)) lacks same
    (inl (inl rose)) =
    inl (inl (subst (λ (f : Faults). Rose f.reads files'.faults.reads) same rose))
causes_more absent more files mid files' before after (Err (Stopped Read)) lacks same
    (inl (inr rose)) = inl (inr rose)
causes_more absent more files mid files' before after (Err (Stopped Read)) lacks same
    (inr missing) = inr (lacks missing)
causes_more absent more files mid files' before after (Err (Stopped Write)) lacks same (inl rose) =
    inl (subst (λ (f : Faults). Rose f.writes files'.faults.writes) same rose)
causes_more absent more files mid files' before after (Err (Stopped Write)) lacks same (inr rose) =
    inr rose
