-- What the name of a plan holds, from what was read of it.
use Rattle.std.proofs.Common.{◌≡◌, ◌+◌, ℕ, List, take, Option, Some, None, Result, Err}
use Rattle.std.proofs.Common.{refl, ◌∙◌, ap, subst}
use Rattle.pg_plan.specs.declared.fault.Fault.TheVariants.{Size}
use Rattle.pg_plan.specs.declared.fault.TheConstants.{MAX_PLAN_BYTES}
use Rattle.pg_joining.proofs.Common.{Bytes, Fault, Holding, IsFile, IsWhole, Place, cut_same}
unfoldable use Rattle.pg_joining.proofs.Common.{plan_of}
use Rattle.pg_joining.specs.Plans.{IsPlanRead, IsReadSo, OpensPlan, plan_in}
use Rattle.pg_joining.specs.declared.plan_file.NoPlan.{NoPlan}

-- one byte more than the limit tells as much as the whole file
plan_cut : (all : Bytes) → plan_of (take (MAX_PLAN_BYTES + 1) all) ≡ plan_of all
unfolding plan_of
plan_cut all = cut_same MAX_PLAN_BYTES plan_of (Err (Size, 0)) (λ text long. rw long refl) all

whole_read : (o : Option Bytes) (text : Bytes) (r : Result (List Place) NoPlan)
    → IsWhole o MAX_PLAN_BYTES text
    → IsReadSo (plan_of text) r
    → IsPlanRead o r
whole_read None text r whole is = absurd whole
whole_read (Some all) text r whole is = subst
    (λ (said : Result (List Place) (Fault × ℕ)). IsReadSo said r) (ap plan_of whole ∙ plan_cut all)
    is

pub plan_opens : (h : Option Holding) (folder text : Bytes) (r : Result (List Place) NoPlan)
    → IsFile h (plan_in folder) MAX_PLAN_BYTES text
    → IsReadSo (plan_of text) r
    → OpensPlan h folder r
plan_opens None folder text r whole is = tt
plan_opens (Some held) folder text r whole is =
    whole_read (held (plan_in folder)) text r whole is
