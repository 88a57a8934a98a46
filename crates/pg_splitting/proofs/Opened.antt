-- What the plan of a folder says.
use Rattle.std.proofs.Common.{◌≡◌, ◌∙◌, ◌+◌, ℕ, List, Option, Some, None, Result, Ok, Err}
use Rattle.std.proofs.Common.{ap, inl, inr, refl, subst, sym, take}
use Rattle.std.specs.Prelude.{IsErrAnd}
use Rattle.pg_game.specs.declared.game.Game.{Game}
use Rattle.pg_io.specs.Causes.{Faults, Rose}
use Rattle.pg_io.specs.Files.{Bytes, FilesTold, Holding, IsAbsent}
use Rattle.pg_io.specs.Reading.{IsFile, IsWhole}
unfoldable use Rattle.pg_plan.specs.PlanFile.{plan_of}
use Rattle.pg_plan.specs.Views.{number_of}
use Rattle.pg_plan.specs.declared.fault.Fault.{Fault}
use Rattle.pg_plan.specs.declared.fault.Fault.TheVariants as faults
use Rattle.pg_plan.specs.declared.fault.TheConstants.{MAX_PLAN_BYTES}
use Rattle.pg_plan.specs.declared.place.Place.{Place}
use Rattle.pg_talk.proofs.Openings.{cut_same}
use Rattle.pg_split.specs.declared.numbering.Split.{Split}
use Rattle.pg_splitting.specs.Prepared.{HasFault, HasPlaces, IsDeclined, IsPrepared, IsPreparedAs}
use Rattle.pg_splitting.specs.Prepared.{IsSplitAgain, plan_in}
use Rattle.pg_splitting.specs.declared.preparing.Decline.{Decline}
use Rattle.pg_splitting.specs.declared.preparing.Decline.TheVariants.{FaultyPlan, NoPlan, OtherPlan}
use Rattle.pg_splitting.specs.declared.preparing.Prepared.{Prepared}
use Rattle.pg_splitting.specs.declared.preparing.Prepared.TheVariants as prepared

plan_cut : (all : Bytes) → plan_of (take (MAX_PLAN_BYTES + 1) all) ≡ plan_of all
unfolding plan_of
plan_cut all =
    cut_same MAX_PLAN_BYTES plan_of (Err (faults.Size, 0)) (λ text long. rw long refl) all

-- what was read is what the whole file says
said_whole : (o : Option Bytes) (text : Bytes)
    → IsWhole o MAX_PLAN_BYTES text
    → (all : Bytes) × (o ≡ Some all) × (plan_of all ≡ plan_of text)
said_whole None text whole = absurd whole
said_whole (Some all) text whole = (all, refl, sym (plan_cut all) ∙ sym (ap plan_of whole))

pub has_places : (told : Option Holding) (folder text : Bytes) (places : List Place)
    → IsFile told (plan_in folder) MAX_PLAN_BYTES text
    → plan_of text ≡ Ok places
    → HasPlaces told folder places
has_places None folder text places file is = tt
has_places (Some held) folder text places file is =
    let (all, there, same) = said_whole (held (plan_in folder)) text file in
    (all, there, same ∙ is)

bad_is : (r : Result (List Place) (Fault × ℕ)) (number line : ℕ)
    → IsErrAnd r (λ bad. (number ≡ number_of bad.0) × (line ≡ bad.1))
    → (bad : Fault × ℕ) × (r ≡ Err bad) × (number ≡ number_of bad.0) × (line ≡ bad.1)
bad_is (Ok places) number line bad = absurd bad
bad_is (Err fault) number line bad = (fault, refl, bad.0, bad.1)

pub has_fault : (told : Option Holding) (folder text : Bytes) (number line said at : ℕ)
    → said ≡ number
    → at ≡ line
    → IsFile told (plan_in folder) MAX_PLAN_BYTES text
    → IsErrAnd (plan_of text) (λ bad. (number ≡ number_of bad.0) × (line ≡ bad.1))
    → HasFault told folder said at
has_fault None folder text number line said at said_is at_is file bad = tt
has_fault (Some held) folder text number line said at said_is at_is file bad =
    let (all, there, same) = said_whole (held (plan_in folder)) text file in
    let (fault, is, number_is, line_is) = bad_is (plan_of text) number line bad in
    (all, fault, there, same ∙ is, said_is ∙ number_is, at_is ∙ line_is)

-- ---- what comes of the game

pub again_prepared : (folder : Bytes) (most : ℕ) (g : Game) (files files' : FilesTold)
    (places : List Place) (p : Prepared)
    → HasPlaces files.held folder places
    → IsSplitAgain most g places p
    → IsPrepared folder most g files files' p
again_prepared folder most g files files' places (prepared.Split split) has (few, is) =
    (few, inr (record { places = places; has = has; refined = is }))
again_prepared folder most g files files' places (prepared.Declined decline) has is =
    subst (λ (d : Decline). IsDeclined folder files files' d) (sym is) (places, has)

-- the game was read before
pub prepared_on : (folder : Bytes) (most : ℕ) (g : Game) (files opened files' : FilesTold)
    (p : Prepared)
    → opened.held ≡ files.held
    → opened.faults ≡ files.faults
    → IsPrepared folder most g opened files' p
    → IsPrepared folder most g files files' p
prepared_on folder most g files opened files' (prepared.Split split) held calm is =
    subst (λ (h : Option Holding).
    IsPreparedAs folder most g h (Rose files.faults.reads files'.faults.reads) split) held
    (subst (λ (f : Faults).
    IsPreparedAs folder most g opened.held (Rose f.reads files'.faults.reads) split) calm is)
prepared_on folder most g files opened files' (prepared.Declined (FaultyPlan number line)) held
    calm is = subst (λ (h : Option Holding). HasFault h folder number line) held is
prepared_on folder most g files opened files' (prepared.Declined OtherPlan) held calm
    (places, has) = (places, subst (λ (h : Option Holding). HasPlaces h folder places) held has)
prepared_on folder most g files opened files' (prepared.Declined NoPlan) held calm (inl absent) =
    inl (subst (λ (h : Option Holding). IsAbsent h (plan_in folder)) held absent)
prepared_on folder most g files opened files' (prepared.Declined NoPlan) held calm (inr rose) =
    inr (subst (λ (f : Faults). Rose f.reads files'.faults.reads) calm rose)

-- another way in which the plan is lost
pub lost_so : (folder : Bytes) (most : ℕ) (g : Game) (told : Option Holding) (P Q : Type 0)
    (split : Split)
    → (P → Q)
    → IsPreparedAs folder most g told P split
    → IsPreparedAs folder most g told Q split
lost_so folder most g told P Q split more (few, inl (inl absent, is)) =
    (few, inl (inl absent, is))
lost_so folder most g told P Q split more (few, inl (inr lost, is)) =
    (few, inl (inr (more lost), is))
lost_so folder most g told P Q split more (few, inr again) = (few, inr again)
