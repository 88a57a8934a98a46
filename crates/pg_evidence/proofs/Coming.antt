-- A certificate that comes piece by piece.
use Rattle.std.proofs.Common.{[], ◌++◌, refl, sym, ◌∙◌, ap, subst}
use Rattle.pg_evidence.proofs.Common.{append-nil, append_assoc, Bytes, HasGathered}
use Rattle.pg_judge.specs.Judged.{HasCome as HasComeTo, StandsFor as HasBeenFed}
use Rattle.pg_judge.specs.declared.judging.Judging.{Judging}
use Rattle.pg_evidence.specs.Arriving.{Arrives, HasArrived}
use Rattle.pg_evidence.specs.Incoming.{HasCome, HasTaken, IsKept, IsKeptShort}
use Rattle.pg_evidence.specs.declared.arriving.Arriving.{Arriving}
use Rattle.pg_evidence.specs.declared.incoming.Incoming.{Incoming}

-- nothing came
pub come_none : (i : Incoming) → HasCome i i []
come_none i = record { game = refl; taken = λ text h. subst (HasTaken i) (sym (append-nil text)) h }

judged_none : (j : Judging) → HasComeTo j j []
judged_none j =
    record { game = refl; stands = λ text h. subst (HasBeenFed j) (sym (append-nil text)) h }

-- some text came, and a piece more
pub taken_more : (before after : Incoming) (piece : Bytes)
    → ((first : Judging) (bytes : Bytes) → HasComeTo first before.judging bytes
    → HasComeTo first after.judging (bytes ++ piece))
    → ((text : Bytes) → IsKeptShort before.kept text text
    → IsKeptShort after.kept (text ++ piece) (text ++ piece))
    → (text : Bytes) → HasTaken before text
    → HasTaken after (text ++ piece)
taken_more before after piece judged keeps text h =
    let now : HasComeTo before.judging after.judging piece =
    judged before.judging [] (judged_none before.judging) in
    record { judged = now.stands text h.judged; kept = keeps text h.kept }

-- a piece more came
pub come_more : (before after : Incoming) (piece : Bytes)
    → ((first : Judging) (bytes : Bytes) → HasComeTo first before.judging bytes
    → HasComeTo first after.judging (bytes ++ piece))
    → ((text : Bytes) → IsKeptShort before.kept text text
    → IsKeptShort after.kept (text ++ piece) (text ++ piece))
    → (first : Incoming) (bytes : Bytes) → HasCome first before bytes
    → HasCome first after (bytes ++ piece)
come_more before after piece judged keeps first bytes come =
    let now : HasComeTo before.judging after.judging piece =
    judged before.judging [] (judged_none before.judging) in
    record {
      game = ap (λ g. g.now) now.game ∙ come.game;
      taken = λ text h. subst (HasTaken after) (append_assoc text bytes piece)
          (taken_more before after piece judged keeps (text ++ bytes) (come.taken text h));
    }

-- ---- where it is gathered

-- nothing arrived
pub arrive_none : (a : Arriving) → Arrives a a []
arrive_none a text h = subst (HasArrived a) (sym (append-nil text)) h

-- a piece arrived
pub arrive_one : (before after : Arriving) (piece : Bytes)
    → ((text : Bytes) → HasGathered before.gathering text
    → HasGathered after.gathering (text ++ piece))
    → ((text short : Bytes) → IsKept before.kept text short
    → IsKept after.kept (text ++ piece) (short ++ piece))
    → Arrives before after piece
arrive_one before after piece gathers keeps text h =
    record { gathered = gathers text h.gathered; kept = keeps text text h.kept }

-- a piece more arrived
pub arrive_more : (before after : Arriving) (piece : Bytes) → Arrives before after piece
    → (first : Arriving) (bytes : Bytes) → Arrives first before bytes
    → Arrives first after (bytes ++ piece)
arrive_more before after piece one first bytes come text h =
    subst (HasArrived after) (append_assoc text bytes piece) (one (text ++ bytes) (come text h))
