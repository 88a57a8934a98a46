-- What settling a game stores and says.
use Rattle.std.specs.Prelude.{◌≡◌, ◌≢◌, ◌⊎◌, ℕ, Bool, [], ◌∷◌, length, Option}
use Rattle.pg_settle.specs.Prelude.{AreClassClaims, Bytes, Cert, Class, DONE, Delivers, Done, End}
use Rattle.pg_settle.specs.Prelude.{Failed, Finished, Game, IsFileOf, Said, Score, Shows, Starved}
use Rattle.pg_settle.specs.Prelude.{Switching, UNKNOWN, node_count}
use Rattle.pg_solve.specs.declared.solution.Solution.TheVariants.{Class as ForClass}
use Rattle.pg_settle.specs.Findings.{IsAnswer, IsKeptAs, ShowsValue}
use Rattle.pg_settle.specs.JsonLines.{json_name}
use Rattle.pg_settle.specs.Outputs.{class_texts, open_text, score_texts}
use Rattle.pg_settle.specs.declared.budget.Budget.{Budget}
use Rattle.pg_settle.specs.declared.finding.Finding.{Finding}
use Rattle.pg_settle.specs.declared.finding.Finding.TheVariants.{Certificate, Open}
use Rattle.pg_settle.specs.declared.finding.Outcome.{Outcome}

-- how a result is stored and printed: whether the certificate is folded; and the name of the
-- game's file, where a line of JSON is printed
pub record Form : Type 0 where
  pub images : Bool
  pub json : Option Bytes

abbrev pub form_of : Bool → Bool → Bytes → Form
form_of images json name = record { images = images; json = json_name json name }

-- how settling a game ends
abbrev pub IsSettleEnd : ℕ → Type 0
IsSettleEnd status = (status ≡ DONE) ⊎ (status ≡ UNKNOWN)

-- ---- a switching game

-- the class is the game's, as the certificate shows by sets of edges
pub record ShowsClass (g : Game) (class : Class) (c : Cert) : Type 0 where
  pub shows : Shows g (ForClass class c) c
  pub sets : AreClassClaims g class c.claims

-- a certificate that shows the class is stored under the name, and then the class is printed
abbrev pub SettlesSwitching : Form → Game → Bytes → Done → End → Type 0
SettlesSwitching form g name done end =
    (class : Class) × (c : Cert) × ShowsClass g class c
    × (text : Bytes) × IsFileOf form.images g c text
    × Delivers (name, text)
    (class_texts form.json g class (node_count c.claims) (length text)) done end

-- ---- a game on lines

-- this was found, with so many positions expanded
abbrev pub outcome_of : Finding → ℕ → Outcome
outcome_of finding expanded = record { finding = finding; expanded = expanded }

-- nothing was brought that shows its score, and it is said how many positions were expanded
pub record StaysOpen (Brings : Game → Budget → Outcome → Type 0) (form : Form) (g : Game)
    (budget : Budget) (done : Done) (status : ℕ) : Type 0 where
  pub expanded : ℕ
  pub answer : IsAnswer Brings g budget (outcome_of Open expanded)
  pub said : done.entries ≡ Said (open_text form.json g expanded) ∷ []
  pub stored : done.stored ≡ []
  pub status_is : status ≡ UNKNOWN

module _ (Brings : Game → Budget → Outcome → Type 0) (form : Form) (g : Game) (name : Bytes)
    (budget : Budget) where
  -- a certificate was brought that shows the value; its file is stored under the name, and then the
  -- value is said
  abbrev pub DeliversScore : Done → End → Type 0
  DeliversScore done end =
      (score : Score) × (c : Cert) × (expanded : ℕ) × ShowsValue g score c
      × IsAnswer Brings g budget (outcome_of (Certificate score c) expanded)
      × (text : Bytes) × IsKeptAs form.images g c text
      × Delivers (name, text)
      (score_texts form.json g score (node_count c.claims) expanded (length text)) done end

  -- what settling a game on lines does
  abbrev pub SettlesLines : Done → End → Type 0
  SettlesLines done (Finished status) =
      StaysOpen Brings form g budget done status ⊎ DeliversScore done (Finished status)
  SettlesLines done Failed = DeliversScore done Failed
  SettlesLines done Starved = ⊥

  -- what settling a game does
  abbrev pub SettlesGame : Done → End → Type 0
  SettlesGame done end =
      ((g.kind ≡ Switching) × SettlesSwitching form g name done end)
      ⊎ ((g.kind ≢ Switching) × SettlesLines done end)
