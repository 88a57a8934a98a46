-- Parts of a log by rules, put together.
use Rattle.std.proofs.Common.{◌≡◌, List, [], ◌∷◌, Result, Ok, Err, refl}
use Rattle.pg_playing.proofs.Common.{ConsoleTold, Course, Entry, LeadsBy, Stop, Read, Write, Memory}
use Rattle.pg_playing.proofs.Common.{course_nothing, course_then, with_left}
use Rattle.pg_playing.specs.Courses.{Breaks, Goes, GoesFrom}

module _ {S : Type 0} (Steps : S → Entry → S → Type 0) where
  -- work stopped where it began: nothing was said or heard
  pub breaks_here : (a b : ConsoleTold) (s : S) (stop : Stop)
      → b.log ≡ a.log
      → b.left ≡ a.left
      → Breaks Steps a b s stop
  breaks_here a b s Read same quiet =
      (a.left, s, course_nothing Steps a (with_left b a.left) s same refl)
  breaks_here a b s Write same quiet =
      (a.left, s, course_nothing Steps a (with_left b a.left) s same refl)
  breaks_here a b s Memory same quiet = (s, course_nothing Steps a b s same quiet)

  -- a read has failed
  pub breaks_read : (a b : ConsoleTold) (s : S) → b.log ≡ a.log → Breaks Steps a b s Read
  breaks_read a b s same = (a.left, s, course_nothing Steps a (with_left b a.left) s same refl)

  -- a part, and then work that stopped
  pub breaks_then : (a b c : ConsoleTold) (s m : S) (stop : Stop)
      → Course Steps a b s m
      → Breaks Steps b c m stop
      → Breaks Steps a c s stop
  breaks_then a b c s m Read first (unread, t, second) =
      (unread, t, course_then Steps a b (with_left c unread) s m t first second)
  breaks_then a b c s m Write first (unread, t, second) =
      (unread, t, course_then Steps a b (with_left c unread) s m t first second)
  breaks_then a b c s m Memory first (t, second) =
      (t, course_then Steps a b c s m t first second)

  -- a part, and then work from where it ends
  pub goes_then : {T : Type 0} (a b c : ConsoleTold) (s m : S) (r : Result T Stop) (to : T → S)
      → Course Steps a b s m
      → Goes Steps b c m r to
      → Goes Steps a c s r to
  goes_then a b c s m (Ok x) to first second = course_then Steps a b c s m (to x) first second
  goes_then a b c s m (Err stop) to first second = breaks_then a b c s m stop first second

-- work that goes on from some stage of those to which a line leads
module _ {S : Type 0} (Steps : S → Entry → S → Type 0) where
  pub goes_from : {T : Type 0} (a b c : ConsoleTold) (s : S) (Leads : S → Type 0)
      (r : Result T Stop) (to : T → S)
      → ((m : S) → Leads m → Course Steps a b s m)
      → GoesFrom Steps b c Leads r to
      → Goes Steps a c s r to
  goes_from a b c s Leads r to hears (m, leads, goes) =
      goes_then Steps a b c s m r to (hears m leads) goes

-- rules that allow more
module _ {S : Type 0} (A B : S → Entry → S → Type 0)
    (more : (s : S) (e : Entry) (t : S) → A s e t → B s e t) where
  leads_more : (s t : S) (entries : List Entry) → LeadsBy A s entries t → LeadsBy B s entries t
  leads_more s t [] same = same
  leads_more s t (e ∷ entries) (m, step, rest) = (m, more s e m step, leads_more m t entries rest)

  pub course_more : (a b : ConsoleTold) (s t : S) → Course A a b s t → Course B a b s t
  course_more a b s t course = record {
    entries = course.entries;
    log = course.log;
    input = course.input;
    leads = leads_more s t course.entries course.leads;
  }

  pub goes_more : {T : Type 0} (a b : ConsoleTold) (s : S) (r : Result T Stop) (to : T → S)
      → Goes A a b s r to
      → Goes B a b s r to
  goes_more a b s (Ok x) to course = course_more a b s (to x) course
  goes_more a b s (Err Read) to (unread, t, course) =
      (unread, t, course_more a (with_left b unread) s t course)
  goes_more a b s (Err Write) to (unread, t, course) =
      (unread, t, course_more a (with_left b unread) s t course)
  goes_more a b s (Err Memory) to (t, course) = (t, course_more a b s t course)
