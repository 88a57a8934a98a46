-- Parts of a log by rules, put together.
use Rattle.std.proofs.Common.{◌≡◌, ◌≢◌, ℕ, List, [], ◌∷◌, ◌++◌, Option, Result, Ok, Err, refl, sym}
use Rattle.std.proofs.Common.{subst}
use Rattle.pg_sessions.proofs.Common.{Bytes, ConsoleTold, Grows, Consumes, Entry, Said, Stop}
use Rattle.pg_sessions.proofs.Common.{Hearing, with_left, MAX_REPLY, Grows-nothing, Grows-then}
use Rattle.pg_talk.proofs.Talking.{Hearing-heard, Hearing-nothing, Hearing-said, Hearing-then}
use Rattle.pg_sessions.specs.Course.{LeadsBy, Course, BreaksOff, Goes}

module _ {S : Type 0} (Steps : S → Entry → S → Type 0) where
  -- entries, one part after the other
  pub leads_then : (s m t : S) (xs ys : List Entry)
      → LeadsBy Steps s xs m
      → LeadsBy Steps m ys t
      → LeadsBy Steps s (xs ++ ys) t
  leads_then s m t [] ys a b = subst (λ (m : S). LeadsBy Steps m ys t) a b
  leads_then s m t (x ∷ xs) ys a b = (a.0, a.1, leads_then a.0 m t xs ys a.2 b)

  -- nothing was said or heard
  pub course_nothing : (a b : ConsoleTold) (s : S)
      → b.log ≡ a.log
      → b.left ≡ a.left
      → Course Steps a b s s
  course_nothing a b s same quiet = record {
    entries = [];
    log = subst (λ (l : Option (List Entry)). Grows a.log l []) (sym same) (Grows-nothing a.log);
    input = subst (λ (l : Option Bytes). Hearing a.left [] l) (sym quiet) (Hearing-nothing a.left);
    leads = refl;
  }

  pub course_then : (a b c : ConsoleTold) (s m t : S)
      → Course Steps a b s m
      → Course Steps b c m t
      → Course Steps a c s t
  course_then a b c s m t first second = record {
    entries = first.entries ++ second.entries;
    log = Grows-then a.log b.log c.log first.entries second.entries first.log second.log;
    input = Hearing-then a.left b.left c.left first.entries second.entries first.input second.input;
    leads = leads_then s m t first.entries second.entries first.leads second.leads;
  }

  -- a text was said
  pub course_said : (a b : ConsoleTold) (text : Bytes) (s t : S)
      → Grows a.log b.log (Said text ∷ [])
      → b.left ≡ a.left
      → Steps s (Said text) t
      → Course Steps a b s t
  course_said a b text s t grows quiet step = record {
    entries = Said text ∷ [];
    log = grows;
    input = subst (λ (l : Option Bytes). Hearing a.left (Said text ∷ []) l) (sym quiet)
        (Hearing-said a.left text);
    leads = (t, step, refl);
  }

  -- something was heard, with the room that a reply may have
  pub course_heard : (a b : ConsoleTold) (room : ℕ) (entry given : Entry) (s t : S)
      → room ≡ MAX_REPLY
      → entry ≡ given
      → ((text : Bytes) → given ≢ Said text)
      → Grows a.log b.log (entry ∷ [])
      → Consumes a.left b.left room entry
      → Steps s given t
      → Course Steps a b s t
  course_heard a b room entry given s t long same unsaid grows took step = record {
    entries = given ∷ [];
    log = subst (λ (e : Entry). Grows a.log b.log (e ∷ [])) same grows;
    input = Hearing-heard a.left b.left given unsaid
        (subst (λ (e : Entry). Consumes a.left b.left MAX_REPLY e) same
        (subst (λ (n : ℕ). Consumes a.left b.left n entry) long took));
    leads = (t, step, refl);
  }

  module _ (IsOpen : S → Type 0) where
    -- a call has failed at a stage before the end
    pub breaks_here : (a b : ConsoleTold) (s : S)
        → IsOpen s
        → b.log ≡ a.log
        → BreaksOff Steps IsOpen a b s
    breaks_here a b s unended same = record {
      stage = s;
      unended = unended;
      unread = a.left;
      course = course_nothing a (with_left b a.left) s same refl;
    }

    -- a part, and then one that breaks off
    pub breaks_then : (a b c : ConsoleTold) (s m : S)
        → Course Steps a b s m
        → BreaksOff Steps IsOpen b c m
        → BreaksOff Steps IsOpen a c s
    breaks_then a b c s m first second = record {
      stage = second.stage;
      unended = second.unended;
      unread = second.unread;
      course = course_then a b (with_left c second.unread) s m second.stage first second.course;
    }

    -- a part, and then work from where it ends
    pub goes_then : {T : Type 0} (a b c : ConsoleTold) (s m : S) (r : Result T Stop) (to : T → S)
        → Course Steps a b s m
        → Goes Steps IsOpen b c m r to
        → Goes Steps IsOpen a c s r to
    goes_then a b c s m (Ok x) to first second = course_then a b c s m (to x) first second
    goes_then a b c s m (Err stop) to first second = breaks_then a b c s m first second
