-- Parts of a dialogue, put together.
use Rattle.std.proofs.Common.{◌≡◌, ◌≢◌, ℕ, List, [], ◌∷◌, ◌++◌, drop, Option, Some, None, Result}
use Rattle.std.proofs.Common.{Ok, Err, refl, sym, subst, rules}
use Rattle.pg_talk.proofs.Common.{Side, Bytes, ConsoleTold, Grows, Consumes, reply, Entry, Said}
use Rattle.pg_talk.proofs.Common.{Heard, Skipped, Ended, Stop}
use Rattle.pg_talk.specs.Contest.{Contest}
use Rattle.pg_talk.specs.Dialogue.{Stage, Steps, Leads, IsOpen}
use Rattle.pg_talk.specs.Hearing.{InOrder, Hearing}
use Rattle.pg_talk.specs.Talk.{Talk, BreaksOff, Talks, with_left}
use Rattle.pg_talk.specs.declared.dialogue.TheConstants.{MAX_REPLY}
use Rattle.pg_talk.proofs.Speaking.{Grows-nothing, Grows-then}

-- ---- entries, one part after the other

Leads-then : (g : Contest) (side : Side) (s m t : Stage) (xs ys : List Entry)
    → Leads g side s xs m
    → Leads g side m ys t
    → Leads g side s (xs ++ ys) t
Leads-then g side s m t [] ys a b = subst (λ (m : Stage). Leads g side m ys t) a b
Leads-then g side s m t (x ∷ xs) ys a b = (a.0, a.1, Leads-then g side a.0 m t xs ys a.2 b)

InOrder-then : (a b c : Bytes) (xs ys : List Entry)
    → InOrder a xs b
    → InOrder b ys c
    → InOrder a (xs ++ ys) c
InOrder-then a b c [] ys h k = subst (λ (b : Bytes). InOrder b ys c) h k
InOrder-then a b c (Said text ∷ xs) ys h k = InOrder-then a b c xs ys h k
InOrder-then a b c (Heard text ∷ xs) ys h k =
    (h.0, InOrder-then (drop (reply MAX_REPLY a).taken a) b c xs ys h.1 k)
InOrder-then a b c (Skipped text ∷ xs) ys h k =
    (h.0, InOrder-then (drop (reply MAX_REPLY a).taken a) b c xs ys h.1 k)
InOrder-then a b c (Ended ∷ xs) ys h k =
    (h.0, InOrder-then (drop (reply MAX_REPLY a).taken a) b c xs ys h.1 k)

pub Hearing-then : (a b c : Option Bytes) (xs ys : List Entry)
    → Hearing a xs b
    → Hearing b ys c
    → Hearing a (xs ++ ys) c
Hearing-then None b c xs ys h k = tt
Hearing-then (Some l) None c xs ys h k = absurd h
Hearing-then (Some l) (Some m) None xs ys h k = absurd k
Hearing-then (Some l) (Some m) (Some n) xs ys h k = InOrder-then l m n xs ys h k

-- ---- one entry

pub Hearing-nothing : (a : Option Bytes) → Hearing a [] a
Hearing-nothing None = tt
Hearing-nothing (Some left) = refl

pub Hearing-said : (a : Option Bytes) (text : Bytes) → Hearing a (Said text ∷ []) a
Hearing-said None text = tt
Hearing-said (Some left) text = refl

-- what was said before makes no difference to what was heard
pub said_before : (left : Option Bytes) (text : Bytes) (others : List Entry) (unread : Option Bytes)
    → Hearing left others unread
    → Hearing left (Said text ∷ others) unread
said_before None text others unread heard = tt
said_before (Some left) text others None heard = absurd heard
said_before (Some left) text others (Some rest) heard = heard

heard_one : (left : Bytes) (entry : Entry)
    → ((text : Bytes) → entry ≢ Said text)
    → entry ≡ (reply MAX_REPLY left).entry
    → InOrder left (entry ∷ []) (drop (reply MAX_REPLY left).taken left)
heard_one left (Said text) unsaid is = absurd (unsaid text refl)
heard_one left (Heard text) unsaid is = (is, refl)
heard_one left (Skipped text) unsaid is = (is, refl)
heard_one left Ended unsaid is = (is, refl)

pub Hearing-heard : (a b : Option Bytes) (entry : Entry)
    → ((text : Bytes) → entry ≢ Said text)
    → Consumes a b MAX_REPLY entry
    → Hearing a (entry ∷ []) b
Hearing-heard None b entry unsaid h = tt
Hearing-heard (Some left) None entry unsaid h = absurd (cc h.1)
Hearing-heard (Some left) (Some rest) entry unsaid h =
    let e : rest ≡ drop (reply MAX_REPLY left).taken left = search (rules, h.1) in
    subst (λ (r : Bytes). InOrder left (entry ∷ []) r) (sym e) (heard_one left entry unsaid h.0)

-- ---- parts

module _ (g : Contest) (side : Side) where
  -- nothing was said or heard
  pub Talk-nothing : (a b : ConsoleTold) (s : Stage)
      → b.log ≡ a.log
      → b.left ≡ a.left
      → Talk g side a b s s
  Talk-nothing a b s same quiet = record {
    entries = [];
    log = subst (λ (l : Option (List Entry)). Grows a.log l []) (sym same) (Grows-nothing a.log);
    input = subst (λ (l : Option Bytes). Hearing a.left [] l) (sym quiet) (Hearing-nothing a.left);
    leads = refl;
  }

  pub Talk-then : (a b c : ConsoleTold) (s m t : Stage)
      → Talk g side a b s m
      → Talk g side b c m t
      → Talk g side a c s t
  Talk-then a b c s m t first second = record {
    entries = first.entries ++ second.entries;
    log = Grows-then a.log b.log c.log first.entries second.entries first.log second.log;
    input = Hearing-then a.left b.left c.left first.entries second.entries first.input second.input;
    leads = Leads-then g side s m t first.entries second.entries first.leads second.leads;
  }

  -- a text was said
  pub Talk-said : (a b : ConsoleTold) (text : Bytes) (s t : Stage)
      → Grows a.log b.log (Said text ∷ [])
      → b.left ≡ a.left
      → Steps g side s (Said text) t
      → Talk g side a b s t
  Talk-said a b text s t grows quiet step = record {
    entries = Said text ∷ [];
    log = grows;
    input = subst (λ (l : Option Bytes). Hearing a.left (Said text ∷ []) l) (sym quiet)
        (Hearing-said a.left text);
    leads = (t, step, refl);
  }

  -- something was heard, with the room that a reply may have
  pub Talk-heard : (a b : ConsoleTold) (room : ℕ) (entry given : Entry) (s t : Stage)
      → room ≡ MAX_REPLY
      → entry ≡ given
      → ((text : Bytes) → given ≢ Said text)
      → Grows a.log b.log (entry ∷ [])
      → Consumes a.left b.left room entry
      → Steps g side s given t
      → Talk g side a b s t
  Talk-heard a b room entry given s t long same unsaid grows took step = record {
    entries = given ∷ [];
    log = subst (λ (e : Entry). Grows a.log b.log (e ∷ [])) same grows;
    input = Hearing-heard a.left b.left given unsaid
        (subst (λ (e : Entry). Consumes a.left b.left MAX_REPLY e) same
        (subst (λ (n : ℕ). Consumes a.left b.left n entry) long took));
    leads = (t, step, refl);
  }

  -- a call has failed at a stage before the end
  pub Breaks-here : (a b : ConsoleTold) (s : Stage)
      → IsOpen s
      → b.log ≡ a.log
      → BreaksOff g side a b s
  Breaks-here a b s unended same = record {
    stage = s;
    unended = unended;
    unread = a.left;
    talk = Talk-nothing a (with_left b a.left) s same refl;
  }

  -- a part, and then one that breaks off
  pub Breaks-then : (a b c : ConsoleTold) (s m : Stage)
      → Talk g side a b s m
      → BreaksOff g side b c m
      → BreaksOff g side a c s
  Breaks-then a b c s m first second = record {
    stage = second.stage;
    unended = second.unended;
    unread = second.unread;
    talk = Talk-then a b (with_left c second.unread) s m second.stage first second.talk;
  }

  -- a part, and then work from where it ends
  pub Talks-then : {T : Type 0} (a b c : ConsoleTold) (s m : Stage) (r : Result T Stop)
      (to : T → Stage)
      → Talk g side a b s m
      → Talks g side b c m r to
      → Talks g side a c s r to
  Talks-then a b c s m (Ok x) to first second = Talk-then a b c s m (to x) first second
  Talks-then a b c s m (Err stop) to first second = Breaks-then a b c s m first second
