-- What a reader stands for after a step.
use Rattle.std.proofs.Common.{◌≡◌, ℕ, ◌+◌, ◌-◌, ◌<◌, take, length, arith, true, false, List, []}
use Rattle.std.proofs.Common.{◌∷◌, ◌++◌, refl, sym, ap, subst, ◌∙◌, append_assoc, Option, Some}
use Rattle.std.proofs.Common.{None, Ok, Err}
use Rattle.std.specs.Prelude.{IfNone, is_some}
use Rattle.pg_cert_files.proofs.Common.{Vec, append-nil, length-append, take-append_seam, Bytes}
use Rattle.pg_cert_files.proofs.Common.{Lacks, without_empty_end, lines, Part}
use Rattle.pg_cert_files.proofs.Common.{without_empty_end-append, one_line, number_of, Fault}
use Rattle.pg_cert_files.specs.Lines.{Cut, cut}
use Rattle.pg_cert_files.specs.CertFile.{Seen, nothing, step, taken, after, seen, listed, outcome}
use Rattle.pg_cert_files.specs.CertFile.{fault_of, text_parts}
use Rattle.pg_cert_files.specs.Reader.{StandsFor, told, IsBad}
use Rattle.pg_cert_files.specs.declared.progress.Progress.{Progress}
use Rattle.pg_cert_files.specs.declared.reader.LineReader.{LineReader}
use Rattle.pg_cert_files.proofs.Growing.{cut_add, cut_feed, told_add, told_feed, told_line}
use Rattle.pg_cert_files.proofs.Growing.{rest_line, cut_is_split}

pub stands_new : (v : Vec ℕ)
    → v.items ≡ []
    → StandsFor (record { pending = v; progress = nothing.progress; count = 0; fault = None }) []
unfolding cut seen
stands_new v e = record { progress = refl; count = refl; fault = refl; pending = e }

pub if_none : (fault : Option (Fault × ℕ)) {P : Type 0} → P → IfNone fault P
if_none None h = h
if_none (Some f) h = tt

pub if_some : (fault : Option (Fault × ℕ)) (P : Type 0) → is_some fault ≡ true → IfNone fault P
if_some None P e = absurd cc
if_some (Some f) P e = tt

pub some_is : (fault : Option (Fault × ℕ))
    → is_some fault ≡ true
    → (f : Fault × ℕ) × (fault ≡ Some f)
some_is None e = absurd cc
some_is (Some f) e = (f, refl)

pub none_is : (fault : Option (Fault × ℕ)) → is_some fault ≡ false → fault ≡ None
none_is None e = refl
none_is (Some f) e = absurd cc

pub at_none : (fault : Option (Fault × ℕ)) (P : Type 0) → fault ≡ None → IfNone fault P → P
at_none None P e h = h
at_none (Some f) P e h = absurd cc

pending_adds : (fault : Option (Fault × ℕ)) (new old text bs : Bytes)
    → Lacks 10 bs
    → IfNone fault (old ≡ (cut text).rest)
    → IfNone fault (new ≡ old ++ bs)
    → IfNone fault (new ≡ (cut (text ++ bs)).rest)
pending_adds None new old text bs h was grown =
    grown ∙ ap (λ (x : Bytes). x ++ bs) was ∙ sym (ap (λ (c : Cut). c.rest) (cut_add text bs h))
pending_adds (Some fault) new old text bs h was grown = tt

progress_stays : (fault : Option (Fault × ℕ)) (a b : Seen) (p : Progress)
    → b ≡ a
    → IfNone fault (a.progress ≡ p)
    → IfNone fault (b.progress ≡ p)
progress_stays None a b p e h = ap (λ (s : Seen). s.progress) e ∙ h
progress_stays (Some f) a b p e h = tt

-- bytes without a line feed
pub adds : (r : LineReader) (v : Vec ℕ) (text bs : Bytes)
    → Lacks 10 bs
    → StandsFor r text
    → IfNone r.fault (v.items ≡ r.pending.items ++ bs)
    → StandsFor (record r { pending = v }) (text ++ bs) × (told (text ++ bs) ≡ told text)
adds r v text bs h stands grown =
    let same = told_add text bs h in (
      record {
        progress =
            progress_stays r.fault (told text) (told (text ++ bs)) r.progress same stands.progress;
        count = ap (λ (s : Seen). s.count) same ∙ stands.count;
        fault = ap (λ (s : Seen). s.fault) same ∙ stands.fault;
        pending = pending_adds r.fault v.items r.pending.items text bs h stands.pending grown;
      },
      same,
    )

pub after_none : (s : Seen) (line : Bytes)
    → s.fault ≡ None
    → after s line ≡ taken s (step s.progress line)
unfolding after
after_none s line e = rw e refl

pub after_some : (s : Seen) (line : Bytes) (f : Fault × ℕ) → s.fault ≡ Some f → after s line ≡ s
unfolding after
after_some s line f e = rw e refl

step_is : (r : LineReader) (text last : Bytes)
    → StandsFor r text
    → r.fault ≡ None
    → step (told text).progress ((cut text).rest ++ last)
    ≡ step r.progress (r.pending.items ++ last)
step_is r text last stands none =
    let line : r.pending.items ≡ (cut text).rest = at_none r.fault _ none stands.pending in
    let progress : (told text).progress ≡ r.progress = at_none r.fault _ none stands.progress in
    rw (progress, line) refl

-- a line that is read
pub ends_ok : (r n : LineReader) (part : Option Part) (text last : Bytes)
    → Lacks 10 last
    → StandsFor r text
    → r.fault ≡ None
    → step r.progress (r.pending.items ++ last) ≡ Ok (n.progress, part)
    → n.count ≡ r.count + 1
    → n.fault ≡ r.fault
    → n.pending.items ≡ []
    → StandsFor n (text ++ (last ++ 10 ∷ []))
    × ((told (text ++ (last ++ 10 ∷ []))).parts ≡ (told text).parts ++ listed part)
ends_ok r n part text last h stands none stepped count fault empty =
    let e : told (text ++ (last ++ 10 ∷ [])) ≡ record {
      progress = n.progress;
      count = (told text).count + 1;
      fault = None;
      parts = (told text).parts ++ listed part;
    } = told_line text last h
    ∙ after_none (told text) ((cut text).rest ++ last) (stands.fault ∙ none)
    ∙ ap (taken (told text)) (step_is r text last stands none ∙ stepped) in (
      record {
        progress = if_none n.fault (ap (λ (s : Seen). s.progress) e);
        count = ap (λ (s : Seen). s.count) e ∙ ap (λ (k : ℕ). k + 1) stands.count ∙ sym count;
        fault = ap (λ (s : Seen). s.fault) e ∙ sym (fault ∙ none);
        pending = if_none n.fault (empty ∙ sym (rest_line text last));
      },
      ap (λ (s : Seen). s.parts) e,
    )

-- a line that is faulty
pub ends_err : (r n : LineReader) (fault : Fault) (text last : Bytes)
    → Lacks 10 last
    → StandsFor r text
    → r.fault ≡ None
    → step r.progress (r.pending.items ++ last) ≡ Err fault
    → n.count ≡ r.count + 1
    → n.fault ≡ Some (fault, r.count + 1)
    → StandsFor n (text ++ (last ++ 10 ∷ []))
    × ((told (text ++ (last ++ 10 ∷ []))).parts ≡ (told text).parts ++ [])
ends_err r n fault text last h stands none stepped count some =
    let e : told (text ++ (last ++ 10 ∷ [])) ≡ taken (told text) (Err fault) = told_line text last h
    ∙ after_none (told text) ((cut text).rest ++ last) (stands.fault ∙ none)
    ∙ ap (taken (told text)) (step_is r text last stands none ∙ stepped) in (
      record {
        progress = rw some tt;
        count = ap (λ (s : Seen). s.count) e ∙ ap (λ (k : ℕ). k + 1) stands.count ∙ sym count;
        fault = ap (λ (s : Seen). s.fault) e
            ∙ ap (λ (k : ℕ). Some (fault, k + 1)) stands.count
            ∙ sym some;
        pending = rw some tt;
      },
      ap (λ (s : Seen). s.parts) e ∙ sym (append-nil (told text).parts),
    )

-- behind a faulty line
pub ends_past : (r : LineReader) (f : Fault × ℕ) (text last : Bytes)
    → Lacks 10 last
    → StandsFor r text
    → r.fault ≡ Some f
    → StandsFor r (text ++ (last ++ 10 ∷ []))
    × ((told (text ++ (last ++ 10 ∷ []))).parts ≡ (told text).parts ++ [])
ends_past r f text last h stands some =
    let e : told (text ++ (last ++ 10 ∷ [])) ≡ told text = told_line text last h
    ∙ after_some (told text) ((cut text).rest ++ last) f (stands.fault ∙ some) in (
      record {
        progress = rw some tt;
        count = ap (λ (s : Seen). s.count) e ∙ stands.count;
        fault = ap (λ (s : Seen). s.fault) e ∙ stands.fault;
        pending = rw some tt;
      },
      ap (λ (s : Seen). s.parts) e ∙ sym (append-nil (told text).parts),
    )

-- all of the piece but the rest has been fed, and no part is whole
abbrev pub HasFed : LineReader → LineReader → Bytes → Bytes → Type 0
HasFed old new piece rest = (front : Bytes) × (piece ≡ front ++ rest)
    × ((text : Bytes) → StandsFor old text
    → StandsFor new (text ++ front) × ((told (text ++ front)).parts ≡ (told text).parts))

-- the same, where the part is whole with the last byte of the front
abbrev pub HasGiven : LineReader → LineReader → Bytes → Bytes → Option Part → Type 0
HasGiven old new piece rest part = (front : Bytes) × (piece ≡ front ++ rest)
    × ((text : Bytes) → StandsFor old text
    → StandsFor new (text ++ front)
    × ((told (text ++ front)).parts ≡ (told text).parts ++ listed part))

pub feeds : (old mid ended : LineReader) (piece rest line behind : Bytes) (part : Option Part)
    → HasFed old mid piece rest
    → rest ≡ line ++ 10 ∷ behind
    → ((text : Bytes) → StandsFor mid text
    → StandsFor ended (text ++ (line ++ 10 ∷ []))
    × ((told (text ++ (line ++ 10 ∷ []))).parts ≡ (told text).parts ++ listed part))
    → HasGiven old ended piece behind part
feeds old mid ended piece rest line behind part fed is ends =
    let front = fed.0 ++ (line ++ 10 ∷ []) in
    let whole : piece ≡ front ++ behind =
    fed.1 ∙ ap (λ (r : Bytes). fed.0 ++ r) is ∙ simp append_assoc in (
      front,
      whole,
      λ text stands.
          let a = fed.2 text stands in
          let b = ends (text ++ fed.0) a.0 in
          let same : (text ++ fed.0) ++ (line ++ 10 ∷ []) ≡ text ++ front = simp append_assoc in
          let parts : (told ((text ++ fed.0) ++ (line ++ 10 ∷ []))).parts
          ≡ (told text).parts ++ listed part =
          b.1 ∙ ap (λ (ps : List Part). ps ++ listed part) a.1 in (
            subst (λ (t : Bytes). StandsFor ended t) same b.0,
            subst (λ (t : Bytes). (told t).parts ≡ (told text).parts ++ listed part) same parts,
          ),
    )

-- no part is whole yet
pub gives_none : (old new : LineReader) (piece rest : Bytes)
    → HasGiven old new piece rest None
    → HasFed old new piece rest
gives_none old new piece rest h =
    (h.0, h.1, λ text stands. let s = h.2 text stands in (s.0, s.1 ∙ append-nil (told text).parts))

pub front_is : (front piece rest : Bytes)
    → piece ≡ front ++ rest
    → front ≡ take (length piece - length rest) piece
front_is front piece rest e =
    let n : length piece - length rest ≡ length front =
    omega (arith, ap length e, length-append front rest) in
    rw (n, e) (sym (take-append_seam front rest))

-- a part is whole, and so many bytes were used
pub gives : (old new : LineReader) (piece rest : Bytes) (part : Option Part)
    → HasGiven old new piece rest part
    → (text : Bytes) → StandsFor old text
    → StandsFor new (text ++ take (length piece - length rest) piece)
    × ((told (text ++ take (length piece - length rest) piece)).parts
    ≡ (told text).parts ++ listed part)
gives old new piece rest part h text stands =
    let front : h.0 ≡ take (length piece - length rest) piece = front_is h.0 piece rest h.1 in
    subst
    (λ (t : Bytes). StandsFor new (text ++ t)
    × ((told (text ++ t)).parts ≡ (told text).parts ++ listed part)) front (h.2 text stands)

-- without its line feed the line isn't whole
pub not_before : (old mid : LineReader) (piece rest line behind : Bytes)
    → HasFed old mid piece rest
    → rest ≡ line ++ 10 ∷ behind
    → Lacks 10 line
    → (text : Bytes) → StandsFor old text
    → (told (text ++ take (length piece - length behind - 1) piece)).parts ≡ (told text).parts
not_before old mid piece rest line behind fed is lacks text stands =
    let front = fed.0 ++ line in
    let whole : piece ≡ front ++ 10 ∷ behind =
    fed.1 ∙ ap (λ (r : Bytes). fed.0 ++ r) is ∙ sym (append_assoc fed.0 line (10 ∷ behind)) in
    let n : length piece - length behind - 1 ≡ length front =
    omega (arith, ap length whole, length-append front (10 ∷ behind)) in
    let cut : take (length piece - length behind - 1) piece ≡ front = ap (λ (k : ℕ). take k piece) n
    ∙ ap (λ (t : Bytes). take (length front) t) whole
    ∙ take-append_seam front (10 ∷ behind) in
    ap (λ (t : Bytes). (told t).parts)
    (ap (λ (t : Bytes). text ++ t) cut ∙ sym (append_assoc text fed.0 line))
    ∙ ap (λ (s : Seen). s.parts) (told_add (text ++ fed.0) line lacks)
    ∙ (fed.2 text stands).1

-- ---- the end

pub outcome_at_some : (r : LineReader) (text : Bytes) (bad : Fault × ℕ)
    → StandsFor r text
    → r.fault ≡ Some bad
    → outcome (told text) ≡ Some bad
outcome_at_some r text bad stands some = rw (stands.fault, some) refl

lines_are : (text : Bytes)
    → lines text ≡ (cut text).whole ++ without_empty_end ((cut text).rest ∷ [])
unfolding lines
lines_are text = ap without_empty_end (cut_is_split text)
    ∙ without_empty_end-append (cut text).whole (cut text).rest

-- a text without an unfinished line
pub at_feed : (text : Bytes) → (cut text).rest ≡ [] → seen (lines text) ≡ told text
at_feed text e = ap seen (lines_are text
    ∙ ap (λ (last : Bytes). (cut text).whole ++ without_empty_end (last ∷ [])) e
    ∙ append-nil (cut text).whole)

-- an unfinished line counts as if its line feed had come
pub unfinished : (text : Bytes)
    → 0 < length (cut text).rest
    → seen (lines text) ≡ told (text ++ 10 ∷ [])
unfinished text some = ap seen (lines_are text
    ∙ ap (λ (last : List Bytes). (cut text).whole ++ last) (one_line (cut text).rest some))
    ∙ sym (ap (λ (c : Cut). seen c.whole) (cut_feed text))

seen_cases : (text rest : Bytes)
    → (cut text).rest ≡ rest
    → (f : Fault × ℕ) → (told text).fault ≡ Some f
    → seen (lines text) ≡ told text
seen_cases text [] e f some = at_feed text e
seen_cases text (b ∷ bs) e f some = unfinished text (rw e (omega arith))
    ∙ told_feed text
    ∙ after_some (told text) (cut text).rest f some

-- a fault that has come stays
pub end_bad : (r : LineReader) (text : Bytes) (bad : Fault × ℕ)
    → StandsFor r text
    → r.fault ≡ Some bad
    → fault_of text ≡ Some bad
unfolding fault_of
end_bad r text bad stands some =
    ap outcome (seen_cases text (cut text).rest refl bad (stands.fault ∙ some))
    ∙ outcome_at_some r text bad stands some

-- no line is unfinished
pub end_whole : (r : LineReader) (text : Bytes) (o : Option (Fault × ℕ))
    → StandsFor r text
    → r.fault ≡ None
    → r.pending.items ≡ []
    → o ≡ outcome (told text)
    → (fault_of text ≡ o) × (text_parts text ≡ (told text).parts ++ [])
unfolding fault_of text_parts
end_whole r text o stands none empty is =
    let line : r.pending.items ≡ (cut text).rest = at_none r.fault _ none stands.pending in
    let all = at_feed text (sym line ∙ empty) in
    (ap outcome all ∙ sym is, ap (λ (s : Seen). s.parts) all ∙ sym (append-nil (told text).parts))

-- the last line lacks its line feed
pub end_unfinished : (r : LineReader) (text : Bytes) (o : Option (Fault × ℕ)) (part : Option Part)
    → StandsFor r text
    → r.fault ≡ None
    → 0 < length r.pending.items
    → o ≡ outcome (told (text ++ 10 ∷ []))
    → (told (text ++ 10 ∷ [])).parts ≡ (told text).parts ++ listed part
    → (fault_of text ≡ o) × (text_parts text ≡ (told text).parts ++ listed part)
unfolding fault_of text_parts
end_unfinished r text o part stands none some is parts =
    let line : r.pending.items ≡ (cut text).rest = at_none r.fault _ none stands.pending in
    let all = unfinished text (omega (arith, ap length line)) in
    (ap outcome all ∙ sym is, ap (λ (s : Seen). s.parts) all ∙ parts)

-- the fault that callers see
pub is_bad : (o : Option (Fault × ℕ)) (fault : Fault) (line : ℕ)
    → o ≡ Some (fault, line)
    → IsBad (number_of fault) line o
is_bad o fault line e = rw e (refl, refl)
