-- Scores that are printed are values.
use Rattle.std.proofs.Common.{◌≡◌, ◌≢◌, ◌∙◌, ℕ, List, [], ◌∷◌, ◌++◌, get_or, Option, Some}
use Rattle.std.proofs.Common.{None}
use Rattle.std.proofs.Common.{refl, sym, ap, subst, inl, inr, append_assoc}
use Rattle.std.specs.Prelude.{IfSome}
use Rattle.pg_base.specs.declared.score.Score.{Score}
use Rattle.pg_messages.specs.Texts.{result_text}
use Rattle.pg_settle.specs.JsonLines.{json_line, value_data}
use Rattle.serde_json.proofs.OnLiterals.{serde_json_on_literals}
use Rattle.pg_joining.proofs.Common.{AnnouncesValue, Budget, Bytes, ConsoleTold}
use Rattle.pg_joining.proofs.Common.{Contains-append_cases, Entry, FilesTold, Finished, Form}
use Rattle.pg_joining.proofs.Common.{Game, Grows, Grows-nothing, Holding, IsLineOf, Need, Ran}
use Rattle.pg_joining.proofs.Common.{RanOn, Said, SaysValue, UNKNOWN, apart}
use Rattle.pg_joining.proofs.Common.{append_cancel_left, needs_text, none_of, one_of, said_is}
use Rattle.pg_joining.specs.Joins.{MayCome}
use Rattle.pg_joining.specs.Plans.{plan_fault_text}
use Rattle.pg_joining.specs.Telling.{EndsOnNeeds, EndsOnPlan}

-- ---- texts that say no score

-- by its third letter the text says no score, and by its first it is no line of JSON
record IsOther (text : Bytes) : Type 0 where
  unscored : get_or text 2 0 ≢ 115
  unlined : get_or text 0 0 ≢ 123

line_begins : (name : Bytes) (g : Game) (score : Score) (nodes expanded size : ℕ)
    → get_or (json_line (value_data name g score nodes expanded size)) 0 0 ≡ 123
unfolding serde_json_on_literals
line_begins name g score nodes expanded size = refl

no_line : (g : Game) (score : Score) (text : Bytes)
    → get_or text 0 0 ≢ 123
    → IsLineOf g score text
    → ⊥
no_line g score text other (name, nodes, expanded, size, is) = other
    (ap (λ (t : Bytes). get_or t 0 0) is ∙ line_begins name g score nodes expanded size)

needs_other : (needs : List Need) → IsOther (needs_text needs)
needs_other needs = record { unscored = apart _ 115 refl; unlined = apart _ 123 refl }

fault_other : (number line : ℕ) → IsOther (plan_fault_text number line)
fault_other number line = record { unscored = apart _ 115 refl; unlined = apart _ 123 refl }

-- nothing was said
none_says : (bytes : Option Bytes) → SaysValue bytes []
none_says bytes = record {
  score = λ kind score among. absurd (none_of (Said (result_text kind score)) among);
  line = λ h score text is among. absurd (none_of (Said text) among);
}

-- one more text was said
more_says : (bytes : Option Bytes) (entries : List Entry) (text : Bytes)
    → IsOther text
    → SaysValue bytes entries
    → SaysValue bytes (entries ++ Said text ∷ [])
more_says bytes entries text other says = record {
  score = λ kind score among.
      elim (Contains-append_cases entries (Said text ∷ []) (Said (result_text kind score)) among) [
        | inl here ↦ says.score kind score here
        | inr later ↦ absurd (other.unscored (ap (λ (t : Bytes). get_or t 2 0)
            (said_is text (result_text kind score)
            (one_of (Said text) (Said (result_text kind score)) later))))
      ];
  line = λ h score line is among.
      elim (Contains-append_cases entries (Said text ∷ []) (Said line) among) [
        | inl here ↦ says.line h score line is here
        | inr later ↦ absurd (no_line h score text other.unlined
            (subst (λ (t : Bytes). IsLineOf h score t)
            (sym (said_is text line (one_of (Said text) (Said line) later))) is))
      ];
}

-- ---- logs

grown_so : (a b : Option (List Entry)) (earlier more : List Entry)
    → a ≡ Some earlier
    → Grows a b more
    → b ≡ Some (earlier ++ more)
grown_so None b earlier more is grows = absurd (cc is)
grown_so (Some old) b earlier more is grows =
    let same : old ≡ earlier = cc is in
    subst (λ (l : List Entry). b ≡ Some (l ++ more)) same grows

same_entries : (b : Option (List Entry)) (earlier more entries : List Entry)
    → b ≡ Some (earlier ++ more)
    → b ≡ Some (earlier ++ entries)
    → more ≡ entries
same_entries b earlier more entries one two =
    let whole : earlier ++ more ≡ earlier ++ entries = cc (one, two) in
    append_cancel_left earlier more entries whole

-- ---- runs

-- a run that prints nothing
quiet_values : (told : Option Holding) (game : Bytes) (log after : Option (List Entry))
    → Grows log after []
    → AnnouncesValue told game log after
quiet_values told game log after grows held earlier entries told_is log_is after_is =
    subst (λ (l : List Entry). SaysValue (held game) l)
    (same_entries after earlier [] entries (grown_so log after earlier [] log_is grows) after_is)
    (none_says (held game))

pub unsaid_values : (told : Option Holding) (game : Bytes) (before after : ConsoleTold)
    → after ≡ before
    → AnnouncesValue told game before.log after.log
unsaid_values told game before after same = quiet_values told game before.log after.log
    (subst (λ (c : ConsoleTold). Grows before.log c.log []) (sym same) (Grows-nothing before.log))

-- a run that prints a fault of the plan
pub fault_values : (told : Option Holding) (game : Bytes) (before after : ConsoleTold)
    (number line status : ℕ)
    → EndsOnPlan number line before after status
    → AnnouncesValue told game before.log after.log
fault_values told game before after number line status (inl (inl ends)) =
    λ held earlier entries told_is log_is after_is.
    subst (λ (l : List Entry). SaysValue (held game) l)
    (same_entries after.log earlier (Said (plan_fault_text number line) ∷ []) entries
    (grown_so before.log after.log earlier (Said (plan_fault_text number line) ∷ []) log_is ends.1)
    after_is) (more_says (held game) [] (plan_fault_text number line) (fault_other number line)
    (none_says (held game)))
fault_values told game before after number line status (inl (inr ends)) =
    quiet_values told game before.log after.log
    (subst (λ (l : Option (List Entry)). Grows before.log l []) (sym ends.1)
    (Grows-nothing before.log))
fault_values told game before after number line status (inr ends) =
    unsaid_values told game before after ends.1

-- a run that settles the game, and then prints which positions are needed
module _ (form : Form) (game name : Bytes) (budget : Budget) (files files' : FilesTold)
    (before mid after : ConsoleTold) (needs : List Need) where
  more_values : (held : Holding) (earlier first entries : List Entry) (status : ℕ)
      → EndsOnNeeds needs mid after status
      → mid.log ≡ Some (earlier ++ first)
      → after.log ≡ Some (earlier ++ entries)
      → SaysValue (held game) first
      → SaysValue (held game) entries
  more_values held earlier first entries status (inl ends) mid_is after_is says =
      let whole : after.log ≡ Some (earlier ++ (first ++ Said (needs_text needs) ∷ [])) =
      grown_so mid.log after.log (earlier ++ first) (Said (needs_text needs) ∷ []) mid_is ends.1
      ∙ ap (λ (l : List Entry). Some l)
      (append_assoc earlier first (Said (needs_text needs) ∷ [])) in
      subst (λ (l : List Entry). SaysValue (held game) l)
      (same_entries after.log earlier (first ++ Said (needs_text needs) ∷ []) entries whole
      after_is) (more_says (held game) first (needs_text needs) (needs_other needs) says)
  more_values held earlier first entries status (inr ends) mid_is after_is says =
      subst (λ (l : List Entry). SaysValue (held game) l)
      (same_entries after.log earlier first entries (ends.1 ∙ mid_is) after_is) says

  pub needs_values : (status : ℕ)
      → Ran MayCome form game name budget files files' before mid UNKNOWN
      → AnnouncesValue files.held game before.log mid.log
      → EndsOnNeeds needs mid after status
      → AnnouncesValue files.held game before.log after.log
  needs_values status ran announces ends held earlier entries told_is log_is after_is =
      let ran_on = subst (λ (h : Option Holding). IfSome h (λ held.
      RanOn MayCome form held game name budget files' before mid (Finished UNKNOWN)))
      told_is ran in
      let mid_is = grown_so before.log mid.log earlier ran_on.0.entries log_is
      ran_on.2.talked.logged in
      more_values held earlier ran_on.0.entries entries status ends mid_is after_is
      (announces held earlier ran_on.0.entries told_is log_is mid_is)
