-- Texts that accept a claim or say one, and which claims are forced where entries say such texts;
-- for games of any family.
use Rattle.std.proofs.Common.{◌≡◌, ◌≢◌, ◌⊎◌, ℕ, zero, suc, nat_eq, false, List, [], ◌∷◌, ◌++◌}
use Rattle.std.proofs.Common.{get_or, map, slice_get, Option, Some, None, Result, Ok, Err, refl}
use Rattle.std.proofs.Common.{sym, ap, subst, inl, inr, arith}
use Rattle.std.specs.Prelude.{codes}
use Rattle.pg_families.proofs.Common.{Contains, nat_tests, append_cancel_left, Contains-append_left}
use Rattle.pg_families.proofs.Common.{Contains-append_right, Contains-append_cases, Goal, Win, Draw}
use Rattle.pg_families.proofs.Common.{Side, X, Y, Bytes, Making, Entry, Said, accepted_text}
use Rattle.pg_families.proofs.Common.{claim_text, reply_text, Contender, Done, End, Finished}
use Rattle.pg_families.proofs.Common.{Failed, Starved, IsPlay, both, held_as, or_halt, SaysAll}
use Rattle.pg_families.proofs.Common.{Delivers, Halt}
use Rattle.pg_base.specs.Goal.{goal_word}
use Rattle.pg_base.specs.Side.{side_word}
use Rattle.pg_messages.specs.declared.message.ReplyFault.{ReplyFault}
use Rattle.pg_messages.specs.declared.message.ReplyFault.TheVariants.{NoNumber, NoPoint, Taken}
use Rattle.pg_messages.specs.declared.message.ReplyFault.TheVariants.{Over as GameOver}
use Rattle.pg_messages.specs.declared.message.ReplyFault.TheVariants.{NothingToTakeBack}
use Rattle.pg_talk.specs.Contest.{Contest}
use Rattle.pg_talk.specs.Dialogue.{Stage, At, Owes, Over, Steps, Leads}
use Rattle.pg_families.specs.Family.{AreForcedBy}
use Rattle.pg_families.specs.Judged.{AcceptsValid, PlaysValid}

-- ---- texts that neither accept a claim nor say one

-- by its first letter it doesn't accept a claim, and by its fifth it says none
abbrev pub IsOther : Bytes → Type 0
IsOther text = (get_or text 0 0 ≢ 97) × (get_or text 4 0 ≢ 109)

-- the same of each text
abbrev pub AreOther : List Bytes → Type 0
AreOther texts = (text : Bytes) → Contains texts text → IsOther text

-- and of each that was said
abbrev pub AllOther : List Entry → Type 0
AllOther entries = (text : Bytes) → Contains entries (Said text) → IsOther text

pub apart : (a b : ℕ) → nat_eq a b ≡ false → a ≢ b
apart a b e = grind (arith, nat_tests, e)

reply_other : (fault : ReplyFault) → IsOther (reply_text fault)
reply_other NoNumber = (apart _ 97 refl, apart _ 109 refl)
reply_other NoPoint = (apart _ 97 refl, apart _ 109 refl)
reply_other Taken = (apart _ 97 refl, apart _ 109 refl)
reply_other GameOver = (apart _ 97 refl, apart _ 109 refl)
reply_other NothingToTakeBack = (apart _ 97 refl, apart _ 109 refl)

-- what is said next in a dialogue is another text
step_other : (c : Contest) (side : Side) (s m : Stage) (text : Bytes)
    → Steps c side s (Said text) m
    → IsOther text
step_other c side (At p refusals) m text (inl result) =
    subst (λ (t : Bytes). IsOther t) (sym result.1) (apart _ 97 refl, apart _ 109 refl)
step_other c side (At p refusals) m text (inr move) =
    subst (λ (t : Bytes). IsOther t) (sym move.5) (apart _ 97 refl, apart _ 109 refl)
step_other c side (Owes p refusals fault) m text step =
    subst (λ (t : Bytes). IsOther t) (sym step.0) (reply_other fault)
step_other c side (Over p status) m text step = absurd step

-- ---- members of lists

pub one_of : {A : Type 0} (x y : A) → Contains (x ∷ []) y → x ≡ y
one_of x y (zero, lt, e) = e
one_of x y (suc k, lt, e) = absurd (omega (arith, lt))

pub first_or_later : {A : Type 0} (x : A) (xs : List A) (y : A)
    → Contains (x ∷ xs) y
    → (x ≡ y) ⊎ Contains xs y
first_or_later x xs y among =
    elim (Contains-append_cases (x ∷ []) xs y among) as (λ _. (x ≡ y) ⊎ Contains xs y) [
      | inl here ↦ inl (one_of x y here)
      | inr later ↦ inr later
    ]

pub none_of : {A : Type 0} (y : A) → Contains [] y → ⊥
none_of y (k, lt, e) = absurd (omega (arith, lt))

-- a member of a list of images is the image of a member
pub image_of : {A B : Type 0} (f : A → B) (xs : List A) (y : B)
    → Contains (map f xs) y
    → (i : ℕ) × (x : A) × (slice_get xs i ≡ Some x) × (f x ≡ y)
image_of f [] y among = absurd (none_of y among)
image_of f (x ∷ xs) y among = elim (first_or_later (f x) (map f xs) y among) as (λ _.
    (i : ℕ) × (z : _) × (slice_get (x ∷ xs) i ≡ Some z) × (f z ≡ y)) [
      | inl here ↦ (0, x, refl, here)
      | inr later ↦ let rest = image_of f xs y later in (suc rest.0, rest.1, rest.2, rest.3)
    ]

pub said_is : (a b : Bytes) → Said a ≡ Said b → a ≡ b
said_is a b e = cc e

-- a text among those that were said
pub unsaid : (texts : List Bytes) (text : Bytes)
    → Contains (map Said texts) (Said text)
    → Contains texts text
unsaid texts text among =
    let one = image_of Said texts (Said text) among in
    subst (λ (t : Bytes). Contains texts t) (said_is one.1 text one.3)
    (at_place texts one.0 one.1 one.2) where
      at_place : (texts : List Bytes) (i : ℕ) (t : Bytes)
          → slice_get texts i ≡ Some t
          → Contains texts t
      at_place [] i t at = absurd (cc at)
      at_place (u ∷ texts) zero t at = (0, omega arith, cc at)
      at_place (u ∷ texts) (suc i) t at =
          Contains-append_right (u ∷ []) texts t (at_place texts i t at)

-- ---- what is said of other texts alone

pub one_other : (text : Bytes) → IsOther text → AreOther (text ∷ [])
one_other text other said among = subst (λ (t : Bytes). IsOther t) (one_of text said among) other

pub leads_other : (c : Contest) (side : Side) (s t : Stage) (entries : List Entry)
    → Leads c side s entries t
    → AllOther entries
leads_other c side s t [] leads text among = absurd (none_of (Said text) among)
leads_other c side s t (entry ∷ entries) (m, step, rest) text among =
    elim (first_or_later entry entries (Said text) among) as (λ _. IsOther text) [
      | inl here ↦ step_other c side s m text (subst (λ (e : Entry). Steps c side s e m) here step)
      | inr later ↦ leads_other c side m t entries rest text later
    ]

pub stays_other : (entries : List Entry) (texts : List Bytes)
    → entries ≡ map Said texts
    → AreOther texts
    → AllOther entries
stays_other entries texts is others text among =
    others text (unsaid texts text (subst (λ (l : List Entry). Contains l (Said text)) is among))

pub delivers_other : (file : Making) (texts : List Bytes) (done : Done) (end : End)
    → AreOther texts
    → Delivers file texts done end
    → AllOther done.entries
delivers_other file texts done (Finished status) others (is, status_is) =
    stays_other done.entries texts (ap (λ (d : Done). d.entries) is) others
delivers_other file texts done Failed others (front, (text, rest, whole), is) =
    stays_other done.entries front (ap (λ (d : Done). d.entries) is) (λ said among. others said
    (subst (λ (l : List Bytes). Contains l said) (sym whole)
    (Contains-append_left front (text ∷ rest) said among)))
delivers_other file texts done Starved others none = absurd none

-- ---- words that texts share

side_words : (s t : Side) (a b : Bytes) → side_word s ++ a ≡ side_word t ++ b → (s ≡ t) × (a ≡ b)
side_words X X a b e = (refl, append_cancel_left (codes "x") a b e)
side_words X Y a b e = absurd (apart 120 121 refl (ap (λ (t : Bytes). get_or t 0 0) e))
side_words Y X a b e = absurd (apart 121 120 refl (ap (λ (t : Bytes). get_or t 0 0) e))
side_words Y Y a b e = (refl, append_cancel_left (codes "y") a b e)

goal_words : (s t : Goal) (a b : Bytes) → goal_word s ++ a ≡ goal_word t ++ b → s ≡ t
goal_words Win Win a b e = refl
goal_words Win Draw a b e = absurd (apart 119 100 refl (ap (λ (t : Bytes). get_or t 0 0) e))
goal_words Draw Win a b e = absurd (apart 100 119 refl (ap (λ (t : Bytes). get_or t 0 0) e))
goal_words Draw Draw a b e = refl

pub claim_words : (side side' : Side) (claimed claimed' : Goal)
    → claim_text side claimed ≡ claim_text side' claimed'
    → (side ≡ side') × (claimed ≡ claimed')
claim_words side side' claimed claimed' e =
    let first = side_words side side' _ _ (append_cancel_left (codes "claim ") _ _ e) in
    (first.0, goal_words claimed claimed' _ _ (append_cancel_left (codes " ") _ _ first.1))

pub accepted_words : (turn turn' side side' : Side) (claimed claimed' : Goal)
    → accepted_text turn side claimed ≡ accepted_text turn' side' claimed'
    → (turn ≡ turn') × (side ≡ side') × (claimed ≡ claimed')
accepted_words turn turn' side side' claimed claimed' e =
    let first = side_words turn turn' _ _ (append_cancel_left (codes "accepted ") _ _ e) in
    let second = side_words side side' _ _ (append_cancel_left (codes " ") _ _ first.1) in (
      first.0,
      second.0,
      goal_words claimed claimed' _ _ (append_cancel_left (codes " ") _ _ second.1),
    )

pub accepted_not_claimed : (turn side side' : Side) (claimed claimed' : Goal)
    → accepted_text turn side claimed ≡ claim_text side' claimed'
    → ⊥
accepted_not_claimed turn side side' claimed claimed' e =
    apart 97 99 refl (ap (λ (t : Bytes). get_or t 0 0) e)

-- ---- what is forced

module _ (From : Side → Side → Goal → Type 0) (Here : Side → Goal → Type 0) where
  -- other texts announce nothing
  pub others_forced : (entries : List Entry) → AllOther entries → AreForcedBy From Here entries
  others_forced entries others = record {
    accepted =
        λ turn side claimed among. absurd ((others (accepted_text turn side claimed) among).0 refl);
    claimed = λ side claimed among. absurd ((others (claim_text side claimed) among).1 refl);
  }

  -- claims that are said to be accepted are forced, where each of the list is
  module _ {A : Type 0} (turn_of side_of : A → Side) (goal_of : A → Goal) (claims : List A) where
    abbrev acceptance : A → Bytes
    acceptance claim = accepted_text (turn_of claim) (side_of claim) (goal_of claim)

    -- all that was said accepts claims of the list
    accepts_among : (entries : List Entry) (end : End)
        → SaysAll (map acceptance claims) entries end
        → (text : Bytes) → Contains entries (Said text)
        → (i : ℕ) × (claim : A) × (slice_get claims i ≡ Some claim) × (acceptance claim ≡ text)
    accepts_among entries (Finished status) says text among = image_of acceptance claims text
        (unsaid (map acceptance claims) text
        (subst (λ (l : List Entry). Contains l (Said text)) says.0 among))
    accepts_among entries Failed (front, rest, whole, is) text among =
        let here =
        unsaid front text (subst (λ (l : List Entry). Contains l (Said text)) is among) in
        image_of acceptance claims text
        (subst (λ (l : List Bytes). Contains l text) (sym whole)
        (Contains-append_left front rest text here))
    accepts_among entries Starved says text among = absurd says

    pub accepted_forced : (entries : List Entry) (end : End)
        → SaysAll (map acceptance claims) entries end
        → ((i : ℕ) (claim : A) → slice_get claims i ≡ Some claim
        → From (turn_of claim) (side_of claim) (goal_of claim))
        → AreForcedBy From Here entries
    accepted_forced entries end says forced = record {
      accepted = λ turn side claimed among.
          let one = accepts_among entries end says (accepted_text turn side claimed) among in
          let words =
          accepted_words (turn_of one.1) turn (side_of one.1) side (goal_of one.1) claimed one.3 in
          let by_turn = subst (λ (t : Side). From t (side_of one.1) (goal_of one.1)) words.0
          (forced one.0 one.1 one.2) in
          subst (λ (k : Goal). From turn side k) words.2
          (subst (λ (s : Side). From turn s (goal_of one.1)) words.1 by_turn);
      claimed = λ side claimed among.
          let one = accepts_among entries end says (claim_text side claimed) among in
          absurd
          (accepted_not_claimed (turn_of one.1) (side_of one.1) side (goal_of one.1) claimed one.3);
    }

  -- a claim that is said, and then other texts
  module _ (side : Side) (goal : Goal) (entries others : List Entry)
      (is : entries ≡ Said (claim_text side goal) ∷ others) (quiet : AllOther others) where
    split : (text : Bytes)
        → Contains entries (Said text)
        → (claim_text side goal ≡ text) ⊎ Contains others (Said text)
    split text among = elim (first_or_later (Said (claim_text side goal)) others (Said text)
        (subst (λ (l : List Entry). Contains l (Said text)) is among)) as (λ _.
        (claim_text side goal ≡ text) ⊎ Contains others (Said text)) [
          | inl here ↦ inl (said_is _ text here)
          | inr later ↦ inr later
        ]

    pub claim_forced : Here side goal → AreForcedBy From Here entries
    claim_forced forced = record {
      accepted = λ turn other claimed among.
          elim (split (accepted_text turn other claimed) among) as (λ _. From turn other claimed) [
            | inl here ↦ absurd (accepted_not_claimed turn other side claimed goal (sym here))
            | inr later ↦ absurd ((quiet (accepted_text turn other claimed) later).0 refl)
          ];
      claimed = λ other claimed among.
          elim (split (claim_text other claimed) among) as (λ _. Here other claimed) [
            | inl here ↦
                let words = claim_words side other goal claimed here in
                subst (λ (k : Goal). Here other k) words.1
                (subst (λ (s : Side). Here s goal) words.0 forced)
            | inr later ↦ absurd ((quiet (claim_text other claimed) later).1 refl)
          ];
    }

  pub play_forced : (player : Contender) (entries : List Entry) (end : End)
      → Here player.side player.goal
      → IsPlay player entries end
      → AreForcedBy From Here entries
  play_forced player entries (Finished status) forced whole =
      claim_forced player.side player.goal entries whole.others whole.said
      (leads_other player.contest player.side (At player.position 0) _ whole.others whole.dialogue)
      forced
  play_forced player entries Failed forced unended =
      claim_forced player.side player.goal entries unended.others unended.said
      (leads_other player.contest player.side
      (At player.position 0) unended.dialogue.0 unended.others unended.dialogue.2) forced
  play_forced player entries Starved forced none = absurd none

  -- ---- checks and plays of what was read

  module _ {G E C : Type 0} (entry : G → E) (IsValid : G → C → Type 0) where
    pub accepts_forced : {A : Type 0} (turn_of side_of : A → Side) (goal_of : A → Goal)
        (claims_of : C → List A) (read : Result (E × C) Halt) (entries : List Entry) (end : End)
        → ((g : G) (c : C) → read ≡ Ok (entry g, c)
        → IsValid g c
        → (i : ℕ) (claim : A) → slice_get (claims_of c) i ≡ Some claim
        → From (turn_of claim) (side_of claim) (goal_of claim))
        → AcceptsValid entry IsValid
        (λ c. map (λ claim. accepted_text (turn_of claim) (side_of claim) (goal_of claim))
        (claims_of c)) read entries end
        → AreForcedBy From Here entries
    accepts_forced turn_of side_of goal_of claims_of (Err halt) entries end forced accepts =
        absurd accepts
    accepts_forced turn_of side_of goal_of claims_of (Ok pair) entries end forced (
      g,
      said,
      valid,
      says,
    ) = accepted_forced turn_of side_of goal_of (claims_of pair.1) entries end says
        (forced g pair.1 (ap (λ (e : E). Ok (e, pair.1)) (sym said)) valid)

    pub plays_forced : (Has : G → C → Type 0) (player : G → Contender) (read : Result (E × C) Halt)
        (entries : List Entry) (end : End)
        → ((g : G) (c : C) → read ≡ Ok (entry g, c)
        → IsValid g c
        → Has g c
        → Here (player g).side (player g).goal)
        → PlaysValid entry IsValid Has player read entries end
        → AreForcedBy From Here entries
    plays_forced Has player (Err halt) entries end forced plays = absurd plays
    plays_forced Has player (Ok pair) entries end forced (g, said, valid, has, plays) =
        play_forced (player g) entries end
        (forced g pair.1 (ap (λ (e : E). Ok (e, pair.1)) (sym said)) valid has) plays

-- ---- what a name holds

or_halt_ok : {T F : Type 0} (halt_of : F → Halt) (r : Result T F) (x : T)
    → or_halt halt_of r ≡ Ok x
    → r ≡ Ok x
or_halt_ok halt_of (Ok y) x e = let same : y ≡ x = cc e in ap (λ z. Ok z) same
or_halt_ok halt_of (Err fault) x e = absurd (cc e)

pub first_ok : {A B : Type 0} (p : Result A Halt) (q : Result B Halt) (x : A) (y : B)
    → both p q ≡ Ok (x, y)
    → p ≡ Ok x
first_ok (Err halt) q x y e = absurd (cc e)
first_ok (Ok a) (Err halt) x y e = absurd (cc e)
first_ok {A} {B} (Ok a) (Ok b) x y e =
    let same : (a, b) ≡ (x, y) = cc e in
    ap (λ (p : A × B). Ok p.0) same

pub held_there : {T F : Type 0} (halt_of : F → Halt) (read : Bytes → Result T F) (o : Option Bytes)
    (x : T)
    → held_as (λ text. or_halt halt_of (read text)) o ≡ Ok x
    → (text : Bytes) × (o ≡ Some text) × (read text ≡ Ok x)
held_there halt_of read None x e = absurd (cc e)
held_there halt_of read (Some text) x e = (text, refl, or_halt_ok halt_of (read text) x e)
