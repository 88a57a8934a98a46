-- Lines that were read, and what is said of them with those that come.
use Rattle.std.proofs.Common.{◌≡◌, ◌∙◌, ℕ, ◌+◌, ◌<◌, ◌≤◌, ◌^◌, false, List, [], ◌∷◌}
use Rattle.std.proofs.Common.{◌++◌, length, Option, Some, None, Result, Ok, Err, refl, sym, ap, ap₂}
use Rattle.std.proofs.Common.{subst, append_assoc, arith}
use Rattle.std.specs.Prelude.{◌==◌, IfNone}
use Rattle.std.specs.Global.{Vec}
use Rattle.std.proofs.lemmas.List.Elements.{All-nil}
use Rattle.pg_text.proofs.FirstLine.{no_lines}
use Rattle.pg_image.proofs.Common.{All-append, Bytes, Fault, LINE_FEED, Lacks, and_then, append-nil}
use Rattle.pg_image.proofs.Common.{end_fault, go_on, last_line, length-append, lines, lines_feed}
use Rattle.pg_image.proofs.Common.{reading}
use Rattle.pg_image.specs.Gathering.{HasRead, HasReadLine, goes_on, said_after, said_by, said_from}
use Rattle.pg_image.specs.ImageFile.{Draft, after, ended, nothing, said}
use Rattle.pg_image.specs.Views.{view}
use Rattle.pg_image.specs.declared.draft.ImageDraft.{ImageDraft}
use Rattle.pg_image.specs.declared.image_lines.ImageLines.{ImageLines}

-- ---- from the first line on

from_goes : (n m : ℕ) (r : Result Draft Fault) (ls : List Bytes)
    → m ≡ length ls + (n + 1)
    → ((d : Draft) → and_then (reading after (n + 1) d ls)
    (λ e. ended (length ls + (n + 1)) e (end_fault e.progress e.progress.due))
    ≡ said_from (n + 1) d ls)
    → and_then (go_on n r (λ next. reading after (n + 1) next ls))
    (λ e. ended m e (end_fault e.progress e.progress.due))
    ≡ goes_on n r (λ next. said_from (n + 1) next ls)
from_goes n m (Ok d) ls e next = rw e (next d)
from_goes n m (Err fault) ls e next = refl

from_line : (ls : List Bytes) (n : ℕ) (d : Draft)
    → and_then (reading after n d ls)
    (λ e. ended (length ls + n) e (end_fault e.progress e.progress.due)) ≡ said_from n d ls
unfolding reading
from_line [] n d =
    let same : 0 + n ≡ n = omega arith in
    ap (λ (k : ℕ). ended k d (end_fault d.progress d.progress.due)) same
from_line (line ∷ ls) n d = from_goes n (length (line ∷ ls) + n) (after d line) ls (omega arith)
    (λ next. from_line ls (n + 1) next)

-- what all lines say
pub said_is_from : (ls : List Bytes) → said ls ≡ said_from 1 nothing ls
said_is_from ls = from_line ls 1 nothing

pub read_none : (v : Vec ℕ) (d : ImageDraft)
    → v.items ≡ []
    → view d ≡ nothing
    → HasRead (record { pending = v; draft = d; number = 1; fault = None }) []
read_none v d empty none = record {
  front = [];
  rest = [];
  cut = refl;
  pending = empty;
  lacks = All-nil (λ (b : ℕ). (b == LINE_FEED) ≡ false);
  few = omega arith;
  reads = λ more. said_is_from (lines more)
      ∙ ap (λ (e : Draft). said_from 1 e (lines more)) (sym none);
}

-- ---- bytes

-- the line in hand goes on
pub keeps : (l : ImageLines) (v : Vec ℕ) (text bytes : Bytes)
    → IfNone l.fault (v.items ≡ l.pending.items ++ bytes)
    → Lacks LINE_FEED bytes
    → HasRead l text
    → HasRead (record l { pending = v }) (text ++ bytes)
keeps l v text bytes more quiet h = record {
  front = h.front;
  rest = h.rest ++ bytes;
  cut = ap (λ (t : Bytes). t ++ bytes) h.cut ∙ append_assoc h.front h.rest bytes;
  pending = grown l.fault h.pending more;
  lacks = quiet_too l.fault h.lacks;
  few = h.few;
  reads = h.reads;
}
  where
    grown : (o : Option (Fault × ℕ))
        → IfNone o (l.pending.items ≡ h.rest)
        → IfNone o (v.items ≡ l.pending.items ++ bytes)
        → IfNone o (v.items ≡ h.rest ++ bytes)
    grown None was now = now ∙ ap (λ (t : Bytes). t ++ bytes) was
    grown (Some fault) was now = tt

    quiet_too : (o : Option (Fault × ℕ))
        → IfNone o (Lacks LINE_FEED h.rest)
        → IfNone o (Lacks LINE_FEED (h.rest ++ bytes))
    quiet_too None lacks =
        All-append (λ b. (b == LINE_FEED) ≡ false) h.rest bytes lacks quiet
    quiet_too (Some fault) lacks = tt

-- the line in hand ends with these bytes
line_said : (o : Option (Fault × ℕ)) (n : ℕ) (d : Draft) (pending rest last more : Bytes)
    → IfNone o (pending ≡ rest)
    → IfNone o (Lacks LINE_FEED rest)
    → Lacks LINE_FEED last
    → said_by o n d (lines ((rest ++ last) ++ LINE_FEED ∷ more))
    ≡ said_by o n d ((pending ++ last) ∷ lines more)
line_said None n d pending rest last more same lacks quiet =
    ap (said_from n d) (lines_feed (rest ++ last) more
    (All-append (λ b. (b == LINE_FEED) ≡ false) rest last lacks quiet)
    ∙ ap (λ (t : Bytes). (t ++ last) ∷ lines more) (sym same))
line_said (Some fault) n d pending rest last more same lacks quiet = refl

quiet_none : (o : Option (Fault × ℕ)) → IfNone o (Lacks LINE_FEED [])
quiet_none None = All-nil (λ (b : ℕ). (b == LINE_FEED) ≡ false)
quiet_none (Some fault) = tt

none_left : (o : Option (Fault × ℕ)) (bytes : Bytes) → bytes ≡ [] → IfNone o (bytes ≡ [])
none_left None bytes e = e
none_left (Some fault) bytes e = tt

pub ends : (l n : ImageLines) (text last : Bytes)
    → Lacks LINE_FEED last
    → length text < 2 ^ 30
    → n.pending.items ≡ []
    → n.number ≤ l.number + 1
    → HasReadLine l (l.pending.items ++ last) n
    → HasRead l text
    → HasRead n (text ++ (last ++ LINE_FEED ∷ []))
ends l n text last quiet small empty count read h = record {
  front = text ++ (last ++ LINE_FEED ∷ []);
  rest = [];
  cut = sym (append-nil (text ++ (last ++ LINE_FEED ∷ [])));
  pending = none_left n.fault n.pending.items empty;
  lacks = quiet_none n.fault;
  few = omega (
    arith,
    count,
    h.few,
    ap length h.cut,
    length-append h.front h.rest,
    length-append text (last ++ LINE_FEED ∷ []),
    length-append last (LINE_FEED ∷ []),
  );
  reads = λ more.
      let seam : (text ++ (last ++ LINE_FEED ∷ [])) ++ more
      ≡ h.front ++ ((h.rest ++ last) ++ LINE_FEED ∷ more) =
      ap (λ (t : Bytes). (t ++ (last ++ LINE_FEED ∷ [])) ++ more) h.cut ∙ simp append_assoc in
      let few : l.number < 2 ^ 31 =
      omega (arith, small, h.few, ap length h.cut, length-append h.front h.rest) in
      ap (λ (t : Bytes). said (lines t)) seam
      ∙ h.reads ((h.rest ++ last) ++ LINE_FEED ∷ more)
      ∙ line_said l.fault l.number (view l.draft) l.pending.items h.rest last more h.pending h.lacks
      quiet
      ∙ read few (lines more);
}

-- all of the piece but the rest was taken
abbrev pub HasTaken : ImageLines → ImageLines → Bytes → Bytes → Type 0
HasTaken old new piece rest = (front : Bytes) × (piece ≡ front ++ rest)
    × ((text : Bytes) → length (text ++ piece) ≤ 268435456 → HasRead old text
    → HasRead new (text ++ front))

pub taken_none : (l : ImageLines) (piece : Bytes) → HasTaken l l piece piece
taken_none l piece =
    ([], refl, λ text few h. subst (HasRead l) (sym (append-nil text)) h)

pub taken_line : (old mid new : ImageLines) (piece rest line others : Bytes)
    → HasTaken old mid piece rest
    → rest ≡ line ++ LINE_FEED ∷ others
    → ((text : Bytes) → length text < 2 ^ 30 → HasRead mid text
    → HasRead new (text ++ (line ++ LINE_FEED ∷ [])))
    → HasTaken old new piece others
taken_line old mid new piece rest line others h is ends =
    let front = h.0 ++ (line ++ LINE_FEED ∷ []) in
    let whole : piece ≡ front ++ others =
    h.1 ∙ ap (λ (r : Bytes). h.0 ++ r) is ∙ simp append_assoc in (
      front,
      whole,
      λ text few read.
          let small : length (text ++ h.0) < 2 ^ 30 = omega (
            arith,
            few,
            length-append text piece,
            ap length h.1,
            length-append h.0 rest,
            length-append text h.0,
          ) in
          subst (HasRead new) (append_assoc text h.0 (line ++ LINE_FEED ∷ []))
          (ends (text ++ h.0) small (h.2 text few read)),
    )

pub taken_all : (old mid new : ImageLines) (piece rest : Bytes)
    → HasTaken old mid piece rest
    → ((text : Bytes) → HasRead mid text → HasRead new (text ++ rest))
    → (text : Bytes) → length (text ++ piece) ≤ 268435456 → HasRead old text
    → HasRead new (text ++ piece)
taken_all old mid new piece rest h keeps text few read =
    subst (HasRead new) (append_assoc text h.0 rest
    ∙ ap (λ (t : Bytes). text ++ t) (sym h.1)) (keeps (text ++ h.0) (h.2 text few read))

-- ---- the end

-- no line is in hand
pub end_whole : (l : ImageLines) (text : Bytes)
    → l.pending.items ≡ []
    → HasRead l text
    → said (lines text) ≡ said_after l []
end_whole l text empty h =
    ap (λ (t : Bytes). said (lines t)) h.cut
    ∙ h.reads h.rest
    ∙ go l.fault h.pending
  where
    go : (o : Option (Fault × ℕ))
        → IfNone o (l.pending.items ≡ h.rest)
        → said_by o l.number (view l.draft) (lines h.rest) ≡ said_by o l.number (view l.draft) []
    go None same =
        ap (said_from l.number (view l.draft))
        (ap lines (sym same ∙ empty) ∙ no_lines [] refl)
    go (Some fault) same = refl

-- the last line lacks its line feed
pub end_pending : (l n : ImageLines) (text : Bytes)
    → length text ≤ 268435456
    → 0 < length l.pending.items
    → HasReadLine l l.pending.items n
    → HasRead l text
    → said (lines text) ≡ said_after n []
end_pending l n text small some read h =
    let few : l.number < 2 ^ 31 =
    omega (arith, small, h.few, ap length h.cut, length-append h.front h.rest) in
    ap (λ (t : Bytes). said (lines t)) h.cut
    ∙ h.reads h.rest
    ∙ go l.fault h.pending h.lacks
    ∙ read few []
  where
    go : (o : Option (Fault × ℕ))
        → IfNone o (l.pending.items ≡ h.rest)
        → IfNone o (Lacks LINE_FEED h.rest)
        → said_by o l.number (view l.draft) (lines h.rest)
        ≡ said_by o l.number (view l.draft) (l.pending.items ∷ [])
    go None same lacks =
        let long : 0 < length h.rest = omega (arith, some, ap length same) in
        ap (λ (ls : List Bytes). said_from l.number (view l.draft) ls)
        (last_line h.rest long lacks
        ∙ ap₂ (λ (t : Bytes) (ts : List Bytes). t ∷ ts) (sym same) (no_lines [] refl))
    go (Some fault) same lacks = refl
