-- What a run has done.
use Rattle.std.proofs.Common.{◌≡◌, ◌∙◌, ℕ, List, [], ◌∷◌, ◌++◌, Option}
use Rattle.std.proofs.Common.{Some, None, Ok, Err, refl, sym, ap, subst, inl, inr}
use Rattle.std.specs.Prelude.{IfSome}
use Rattle.pg_joining.proofs.Common.{Budget, Bytes, Changes, ConsoleTold, Done, End, Ends, Entry}
use Rattle.pg_joining.proofs.Common.{REFUSED, Failed, FilesTold, Finished, Form, Grows}
use Rattle.pg_joining.proofs.Common.{Grows-then, Hearing, Hearing-said, Hearing-then, Holding}
use Rattle.pg_joining.proofs.Common.{Memory, NO_MEMORY, Need, Place, Ran, RanOn, Read}
use Rattle.pg_joining.proofs.Common.{Said, Starved, Stop, StoppedHalt, UNKNOWN}
use Rattle.pg_joining.proofs.Common.{Write, behind, ending, kept, needs_text}
use Rattle.pg_joining.proofs.Common.{nothing, silent, stop_end, stop_ends, talk}
use Rattle.pg_joining.proofs.Common.{talked_texts}
use Rattle.pg_joining.specs.Joins.{MayCome, JoinRan, JoinedBy, Joins, JoinsIn, Settled}
use Rattle.pg_joining.specs.Plans.{IsPlanRead, OpensPlan, plan_fault_text, plan_in}
use Rattle.pg_joining.specs.Telling.{EndsOnNeeds, EndsOnPlan}
use Rattle.pg_joining.specs.declared.plan_file.NoPlan.TheVariants.{Faulty}

module _ (form : Form) (game name : Bytes) (budget : Budget) (files files' : FilesTold) where
  -- ---- joining by a plan

  -- memory ran out before anything was done
  pub joined_starved : (before : ConsoleTold)
      → files'.held ≡ files.held
      → JoinedBy form game name budget files files' before before NO_MEMORY
  joined_starved before same = go files.held same where
    go : (h : Option Holding)
        → files'.held ≡ h
        → IfSome h (λ held. (done : Done) × Joins form game name budget held done Starved
        × Changes held files' before before done Starved)
    go None is = tt
    go (Some held) is = (
      nothing,
      inl (refl, refl),
      record {
        talked = silent Starved before before refl refl;
        names = kept held files'.held is;
      },
    )

  -- the game stays open, and the positions are printed that are needed, or that fails
  module _ (before mid after : ConsoleTold) (needs : List Need) (held : Holding) (first : Done)
      (settled : Settled form game name budget held first (Finished UNKNOWN))
      (changes : Changes held files' before mid first (Finished UNKNOWN)) where
    then_needs : (status : ℕ)
        → EndsOnNeeds needs mid after status
        → (done : Done) × Joins form game name budget held done (ending status)
        × Changes held files' before after done (ending status)
    then_needs status (inl (is, says, left, calm)) =
        let heard : Hearing before.left (first.entries ++ Said (needs_text needs) ∷ []) after.left =
        subst (λ (l : Option Bytes).
        Hearing before.left (first.entries ++ Said (needs_text needs) ∷ []) l) (sym left)
        (Hearing-then before.left mid.left mid.left first.entries (Said (needs_text needs) ∷ [])
        changes.talked.heard (Hearing-said mid.left (needs_text needs))) in
        let grown : Grows before.log after.log (first.entries ++ Said (needs_text needs) ∷ []) =
        Grows-then before.log mid.log after.log first.entries (Said (needs_text needs) ∷ [])
        changes.talked.logged says in
        subst (λ (s : ℕ). (done : Done) × Joins form game name budget held done (ending s)
        × Changes held files' before after done (ending s)) (sym is) (
          behind first (talk (Said (needs_text needs) ∷ [])),
          inr (refl, (first, settled, needs, refl)),
          record { talked = record { logged = grown; heard = heard }; names = changes.names },
        )
    then_needs status (inr (is, quiet, left, rose)) =
        subst (λ (s : ℕ). (done : Done) × Joins form game name budget held done (ending s)
        × Changes held files' before after done (ending s)) (sym is) (
          first,
          inr settled,
          record {
            talked = record {
              logged = subst (λ (l : Option (List Entry)). Grows before.log l first.entries)
                  (sym quiet) changes.talked.logged;
              heard = (mid.left, changes.talked.heard);
            };
            names = changes.names;
          },
        )

  pub joined_needs : (before mid after : ConsoleTold) (needs : List Need) (status : ℕ)
      → Ran MayCome form game name budget files files' before mid UNKNOWN
      → EndsOnNeeds needs mid after status
      → JoinedBy form game name budget files files' before after status
  joined_needs before mid after needs status ran ends = go files.held ran where
    go : (h : Option Holding)
        → IfSome h (λ held. RanOn MayCome form held game name budget files' before mid
        (Finished UNKNOWN))
        → IfSome h (λ held. (done : Done) × Joins form game name budget held done (ending status)
        × Changes held files' before after done (ending status))
    go None on = tt
    go (Some held) (first, allows, changes) =
        then_needs before mid after needs held first allows changes status ends

-- ---- after the plan was read

module _ (form : Form) (game name : Bytes) (budget : Budget) (folder : Bytes)
    (files mid files' : FilesTold) where
  pub ran_by_plan : (before after : ConsoleTold) (status : ℕ) (places : List Place)
      → mid.held ≡ files.held
      → OpensPlan files.held folder (Ok places)
      → JoinedBy form game name budget mid files' before after status
      → JoinRan form game name budget folder files files' before after status
  ran_by_plan before after status places same opens joined = go files.held opens
      (subst (λ (h : Option Holding). IfSome h (λ held. (done : Done)
      × Joins form game name budget held done (ending status)
      × Changes held files' before after done (ending status))) same joined) where
        go : (h : Option Holding)
            → OpensPlan h folder (Ok places)
            → IfSome h (λ held. (done : Done)
            × Joins form game name budget held done (ending status)
            × Changes held files' before after done (ending status))
            → IfSome h (λ held. (done : Done)
            × JoinsIn form game name budget folder held done (ending status)
            × Changes held files' before after done (ending status))
        go None opens on = tt
        go (Some held) opens (done, joins, changes) = (done, inr (places, opens, joins), changes)

-- ---- without a plan

module _ (form : Form) (game name : Bytes) (budget : Budget) (folder : Bytes)
    (files files' : FilesTold) (same : files'.held ≡ files.held) (before after : ConsoleTold)
  where
    abbrev Ended : ℕ → Holding → Type 0
    Ended status held = (done : Done)
        × JoinsIn form game name budget folder held done (ending status)
        × Changes held files' before after done (ending status)

    -- the fault is printed, or that fails, or memory ran out
    declined : (held : Holding) (number line status : ℕ)
        → files'.held ≡ Some held
        → IsPlanRead (held (plan_in folder)) (Err (Faulty number line))
        → EndsOnPlan number line before after status
        → Ended status held
    declined held number line status is faulty (inl (inl ends)) =
        subst (λ (s : ℕ). Ended s held) (sym ends.0) (
          talk (Said (plan_fault_text number line) ∷ []),
          inl (number, line, faulty, refl, refl, refl),
          record {
            talked = talked_texts (Finished REFUSED) before after
                (plan_fault_text number line ∷ []) ends.1 ends.2;
            names = kept held files'.held is;
          },
        )
    declined held number line status is faulty (inl (inr ends)) =
        subst (λ (s : ℕ). Ended s held) (sym ends.0) (
          nothing,
          inl (refl, refl),
          record {
            talked = silent Failed before after ends.1 ends.2;
            names = kept held files'.held is;
          },
        )
    declined held number line status is faulty (inr ends) =
        subst (λ (s : ℕ). Ended s held) (sym ends.0) (
          nothing,
          inl (refl, refl),
          record {
            talked = silent Starved before after
                (ap (λ (c : ConsoleTold). c.log) ends.1) (ap (λ (c : ConsoleTold). c.left) ends.1);
            names = kept held files'.held is;
          },
        )

    pub ran_on_fault : (number line status : ℕ)
        → OpensPlan files.held folder (Err (Faulty number line))
        → EndsOnPlan number line before after status
        → JoinRan form game name budget folder files files' before after status
    ran_on_fault number line status opens ends = go files.held same opens where
      go : (h : Option Holding)
          → files'.held ≡ h
          → OpensPlan h folder (Err (Faulty number line))
          → IfSome h (Ended status)
      go None is opens = tt
      go (Some held) is opens = declined held number line status is opens ends

    -- the run was stopped
    none_done : (stop : Stop) (held : Holding)
        → JoinsIn form game name budget folder held nothing (stop_end stop)
    none_done Read held = inl (refl, refl)
    none_done Write held = inl (refl, refl)
    none_done Memory held = inl (refl, refl)

    pub ran_on_stop : (stop : Stop) (status : ℕ)
        → Ends (StoppedHalt stop) before after status
        → JoinRan form game name budget folder files files' before after status
    ran_on_stop stop status ends = go files.held same where
      own : ending status ≡ stop_end stop
      own = ap ending ends.0 ∙ stop_ends stop

      go : (h : Option Holding) → files'.held ≡ h → IfSome h (Ended status)
      go None is = tt
      go (Some held) is = subst (λ (end : End). (done : Done)
          × JoinsIn form game name budget folder held done end
          × Changes held files' before after done end) (sym own) (
            nothing,
            none_done stop held,
            record {
              talked = silent (stop_end stop) before after
                  (ap (λ (c : ConsoleTold). c.log) ends.1)
                  (ap (λ (c : ConsoleTold). c.left) ends.1);
              names = kept held files'.held is;
            },
          )
