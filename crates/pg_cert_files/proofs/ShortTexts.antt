-- A text whose line in hand is cut short says the same, cut short, whatever comes behind it.
use Rattle.std.proofs.Common.{◌≡◌, ◌∙◌, ℕ, ◌+◌, ◌-◌, ◌<◌, ◌≤◌, Bool, true, false, List, [], ◌∷◌}
use Rattle.std.proofs.Common.{◌++◌, length, map, append_assoc, Ok, Err, Option, Some, None}
use Rattle.std.proofs.Common.{refl, sym, ap, ap₂, subst, inl, inr, eqb-true, arith}
use Rattle.std.specs.Prelude.{◌==◌, nat_lt, fold, option_map}
use Rattle.pg_cert_files.proofs.Common.{Vec, cases_Bool, nat_tests, append-nil}
use Rattle.pg_cert_files.proofs.Common.{length-append, map-append, map_push, All-from_recursion}
use Rattle.pg_cert_files.proofs.Common.{fold-append, Claim, Version, Node, Part, Bytes}
use Rattle.pg_cert_files.proofs.Common.{lines, all_append, Fault, Head}
use Rattle.pg_cert.specs.declared.part.Part.TheVariants as parts
use Rattle.pg_cert_files.specs.CertFile.{Step, Seen, nothing, step, node_step, taken, after, seen}
use Rattle.pg_cert_files.specs.CertFile.{listed, or_at_end, outcome, Gathered, last_claim, closed}
use Rattle.pg_cert_files.specs.CertFile.{with_part, none_gathered, gathered, unless_faulty}
use Rattle.pg_cert_files.specs.CertFile.{certificate, fault_of, text_version, text_parts}
use Rattle.pg_cert_files.specs.Lines.{Cut, with_byte, cut}
use Rattle.pg_cert_files.specs.Pieces.{IsFed, size_of}
use Rattle.pg_cert_files.specs.Reader.{StandsFor, told}
use Rattle.pg_cert_files.specs.Shortened.{AreAlike, HasBeenFed, IsFedShort, said, says}
use Rattle.pg_cert_files.specs.Shortened.{short_claim, short_node, short_part, short_result}
use Rattle.pg_cert_files.specs.Shortening.{IsSpare, StandsShort, short_step}
use Rattle.pg_cert_files.specs.declared.cert_state.CertReader.{CertReader}
use Rattle.pg_cert_files.specs.declared.limits.TheConstants.{MAX_CERT_BYTES}
use Rattle.pg_cert_files.specs.declared.progress.Due.TheVariants as due
use Rattle.pg_cert_files.specs.declared.progress.Progress.{Progress}
use Rattle.pg_cert_files.specs.declared.reader.LineReader.{LineReader}
use Rattle.pg_cert_files.proofs.Growing.{HasNoFeed, cut_add, cut_feed}
use Rattle.pg_cert_files.proofs.Stands.{after_none, after_some, at_feed, at_none, if_none}
use Rattle.pg_cert_files.proofs.Stands.{unfinished}
use Rattle.pg_cert_files.proofs.Growing.{told_feed}
use Rattle.pg_cert_files.proofs.Within.{is_past, is_within, size_past, size_within, told_within}

-- ---- what lines say, cut short

abbrev short_seen : Seen → Seen
short_seen s = record {
  progress = s.progress;
  count = s.count;
  fault = s.fault;
  parts = map short_part s.parts;
}

seen_is : (p q : Progress) (i j : ℕ) (f g : Option (Fault × ℕ)) (ps qs : List Part)
    → p ≡ q
    → i ≡ j
    → f ≡ g
    → ps ≡ qs
    → ◌≡◌ {A = Seen} (record { progress = p; count = i; fault = f; parts = ps }) (record {
      progress = q;
      count = j;
      fault = g;
      parts = qs;
    })
seen_is p q i j f g ps qs a b c d = rw (a, b, c, d) refl

listed_short : (o : Option Part) → map short_part (listed o) ≡ listed (option_map short_part o)
listed_short None = refl
listed_short (Some part) = refl

parts_short : (ps : List Part) (o : Option Part)
    → map short_part (ps ++ listed o) ≡ map short_part ps ++ listed (option_map short_part o)
parts_short ps o = map-append short_part ps (listed o)
    ∙ ap (λ (l : List Part). map short_part ps ++ l) (listed_short o)

taken_same : (s t : Seen) (a b : Step)
    → short_seen s ≡ short_seen t
    → short_step a ≡ short_step b
    → short_seen (taken s a) ≡ short_seen (taken t b)
taken_same s t (Ok n) (Ok m) e h =
    let both : (n.0, option_map short_part n.1) ≡ (m.0, option_map short_part m.1) = cc in
    let progress : n.0 ≡ m.0 = ap (λ (q : Progress × Option Part). q.0) both in
    let part : option_map short_part n.1 ≡ option_map short_part m.1 =
    ap (λ (q : Progress × Option Part). q.1) both in
    let count : s.count ≡ t.count = ap (λ (q : Seen). q.count) e in
    let before : map short_part s.parts ≡ map short_part t.parts = ap (λ (q : Seen). q.parts) e in
    seen_is n.0 m.0 (s.count + 1) (t.count + 1) None None _ _ progress
    (ap (λ (k : ℕ). k + 1) count) refl (parts_short s.parts n.1
    ∙ ap₂ (λ (l : List Part) (o : Option Part). l ++ listed o) before part
    ∙ sym (parts_short t.parts m.1))
taken_same s t (Err f) (Err g) e h =
    let fault : f ≡ g = cc in
    let count : s.count ≡ t.count = ap (λ (q : Seen). q.count) e in
    seen_is s.progress t.progress (s.count + 1) (t.count + 1) (Some (f, s.count + 1))
    (Some (g, t.count + 1)) _ _ (ap (λ (q : Seen). q.progress) e) (ap (λ (k : ℕ). k + 1) count)
    (ap₂ (λ (x : Fault) (k : ℕ). Some (x, k + 1)) fault count) (ap (λ (q : Seen). q.parts) e)
taken_same s t (Ok n) (Err g) e h = absurd cc
taken_same s t (Err f) (Ok m) e h = absurd cc

after_at : (s t : Seen) (l m : Bytes) (f : Option (Fault × ℕ))
    → s.fault ≡ f
    → short_seen s ≡ short_seen t
    → (s.fault ≡ None → short_step (step s.progress l) ≡ short_step (step t.progress m))
    → short_seen (after s l) ≡ short_seen (after t m)
after_at s t l m None is e same =
    let other : t.fault ≡ None = sym (ap (λ (q : Seen). q.fault) e) ∙ is in
    ap short_seen (after_none s l is)
    ∙ taken_same s t (step s.progress l) (step t.progress m) e (same is)
    ∙ sym (ap short_seen (after_none t m other))
after_at s t l m (Some f) is e same =
    let other : t.fault ≡ Some f = sym (ap (λ (q : Seen). q.fault) e) ∙ is in
    ap short_seen (after_some s l f is) ∙ e ∙ sym (ap short_seen (after_some t m f other))

after_same : (s t : Seen) (l m : Bytes)
    → short_seen s ≡ short_seen t
    → (s.fault ≡ None → short_step (step s.progress l) ≡ short_step (step t.progress m))
    → short_seen (after s l) ≡ short_seen (after t m)
after_same s t l m e same = after_at s t l m s.fault refl e same

-- the same line behind lines that say the same
after_line : (s t : Seen) (l : Bytes)
    → short_seen s ≡ short_seen t
    → short_seen (after s l) ≡ short_seen (after t l)
after_line s t l e = after_same s t l l e
    (λ _. ap (λ (p : Progress). short_step (step p l)) (ap (λ (q : Seen). q.progress) e))

-- ---- whole lines and what stands behind them

-- what they say where the text ends there
abbrev end_of : List Bytes → Bytes → Seen
end_of whole [] = seen whole
end_of whole (b ∷ bs) = after (seen whole) (b ∷ bs)

abbrev end_at : Cut → Seen
end_at c = end_of c.whole c.rest

end_some : (whole : List Bytes) (rest : Bytes)
    → 0 < length rest
    → end_of whole rest ≡ after (seen whole) rest
end_some whole [] some = absurd (omega arith)
end_some whole (b ∷ bs) some = refl

seen_at : (text rest : Bytes)
    → (cut text).rest ≡ rest
    → seen (lines text) ≡ end_of (cut text).whole rest
seen_at text [] e = at_feed text e
seen_at text (b ∷ bs) e =
    unfinished text (rw e (omega arith)) ∙ told_feed text ∙ ap (after (told text)) e

seen_push : (whole : List Bytes) (line : Bytes)
    → seen (whole ++ line ∷ []) ≡ after (seen whole) line
unfolding seen
seen_push whole line = fold-append after nothing whole (line ∷ [])

end_same : (w v : List Bytes) (rest : Bytes)
    → short_seen (seen w) ≡ short_seen (seen v)
    → short_seen (end_of w rest) ≡ short_seen (end_of v rest)
end_same w v [] e = e
end_same w v (b ∷ bs) e = after_line (seen w) (seen v) (b ∷ bs) e

-- lines that say the same, and what comes behind them
same_rest : (w v : List Bytes) (rest more : Bytes)
    → short_seen (seen w) ≡ short_seen (seen v)
    → short_seen (end_at (fold with_byte (record { whole = w; rest = rest }) more))
    ≡ short_seen (end_at (fold with_byte (record { whole = v; rest = rest }) more))
same_rest w v rest [] e = end_same w v rest e
same_rest w v rest (b ∷ bs) e = elim (cases_Bool (b == 10)) [
  | inl on ↦
      let c : with_byte (record { whole = w; rest = rest }) b ≡ record {
        whole = w ++ rest ∷ [];
        rest = [];
      } = rw on refl in
      let d : with_byte (record { whole = v; rest = rest }) b ≡ record {
        whole = v ++ rest ∷ [];
        rest = [];
      } = rw on refl in
      let both = ap short_seen (seen_push w rest)
      ∙ after_line (seen w) (seen v) rest e
      ∙ sym (ap short_seen (seen_push v rest)) in
      ap (λ (k : Cut). short_seen (end_at (fold with_byte k bs))) c
      ∙ same_rest (w ++ rest ∷ []) (v ++ rest ∷ []) [] bs both
      ∙ sym (ap (λ (k : Cut). short_seen (end_at (fold with_byte k bs))) d)
  | inr off ↦
      let c : with_byte (record { whole = w; rest = rest }) b ≡ record {
        whole = w;
        rest = rest ++ b ∷ [];
      } = rw off refl in
      let d : with_byte (record { whole = v; rest = rest }) b ≡ record {
        whole = v;
        rest = rest ++ b ∷ [];
      } = rw off refl in
      ap (λ (k : Cut). short_seen (end_at (fold with_byte k bs))) c
      ∙ same_rest w v (rest ++ b ∷ []) bs e
      ∙ sym (ap (λ (k : Cut). short_seen (end_at (fold with_byte k bs))) d)
]

pushed : (l : Bytes) (b : ℕ) (t : Bytes) → (l ++ b ∷ []) ++ t ≡ l ++ (b ∷ t)
pushed l b t = append_assoc l (b ∷ []) t

-- a line in hand that says the same, whatever comes behind it
abbrev SayAlike : Progress → Bytes → Bytes → Type 0
SayAlike p l m = (t : Bytes) → short_step (step p (l ++ t)) ≡ short_step (step p (m ++ t))

alike_here : (p : Progress) (l m : Bytes)
    → SayAlike p l m
    → short_step (step p l) ≡ short_step (step p m)
alike_here p l m alike = ap (λ (r : Bytes). short_step (step p r)) (sym (append-nil l))
    ∙ alike []
    ∙ ap (λ (r : Bytes). short_step (step p r)) (append-nil m)

alike_rest : (w : List Bytes) (l m more : Bytes)
    → 0 < length l
    → 0 < length m
    → SayAlike (seen w).progress l m
    → short_seen (end_at (fold with_byte (record { whole = w; rest = l }) more))
    ≡ short_seen (end_at (fold with_byte (record { whole = w; rest = m }) more))
alike_rest w l m [] some_l some_m alike = ap short_seen (end_some w l some_l)
    ∙ after_same (seen w) (seen w) l m refl (λ _. alike_here (seen w).progress l m alike)
    ∙ sym (ap short_seen (end_some w m some_m))
alike_rest w l m (b ∷ bs) some_l some_m alike = elim (cases_Bool (b == 10)) [
  | inl on ↦
      let c : with_byte (record { whole = w; rest = l }) b ≡ record {
        whole = w ++ l ∷ [];
        rest = [];
      } = rw on refl in
      let d : with_byte (record { whole = w; rest = m }) b ≡ record {
        whole = w ++ m ∷ [];
        rest = [];
      } = rw on refl in
      let both = ap short_seen (seen_push w l)
      ∙ after_same (seen w) (seen w) l m refl (λ _. alike_here (seen w).progress l m alike)
      ∙ sym (ap short_seen (seen_push w m)) in
      ap (λ (k : Cut). short_seen (end_at (fold with_byte k bs))) c
      ∙ same_rest (w ++ l ∷ []) (w ++ m ∷ []) [] bs both
      ∙ sym (ap (λ (k : Cut). short_seen (end_at (fold with_byte k bs))) d)
  | inr off ↦
      let c : with_byte (record { whole = w; rest = l }) b ≡ record {
        whole = w;
        rest = l ++ b ∷ [];
      } = rw off refl in
      let d : with_byte (record { whole = w; rest = m }) b ≡ record {
        whole = w;
        rest = m ++ b ∷ [];
      } = rw off refl in
      let more : SayAlike (seen w).progress (l ++ b ∷ []) (m ++ b ∷ []) =
      λ t. ap (λ (r : Bytes). short_step (step (seen w).progress r)) (pushed l b t)
      ∙ alike (b ∷ t)
      ∙ sym (ap (λ (r : Bytes). short_step (step (seen w).progress r)) (pushed m b t)) in
      ap (λ (k : Cut). short_seen (end_at (fold with_byte k bs))) c
      ∙ alike_rest w (l ++ b ∷ []) (m ++ b ∷ []) bs (omega (arith, length-append l (b ∷ [])))
      (omega (arith, length-append m (b ∷ []))) more
      ∙ sym (ap (λ (k : Cut). short_seen (end_at (fold with_byte k bs))) d)
]

cut_more : (text more : Bytes) → cut (text ++ more) ≡ fold with_byte (cut text) more
unfolding cut
cut_more text more = fold-append with_byte (record { whole = []; rest = [] }) text more

seen_more : (text more : Bytes) (c : Cut)
    → cut text ≡ c
    → seen (lines (text ++ more)) ≡ end_at (fold with_byte c more)
seen_more text more c is = seen_at (text ++ more) (cut (text ++ more)).rest refl
    ∙ ap end_at (cut_more text more ∙ ap (λ (d : Cut). fold with_byte d more) is)

-- ---- the certificate

abbrev short_gathered : Gathered → Gathered
short_gathered g = record {
  whole = map short_claim g.whole;
  head = g.head;
  nodes = map short_node g.nodes;
}

last_short : (head : Option Head) (nodes : List Node)
    → map short_claim (last_claim head nodes) ≡ last_claim head (map short_node nodes)
last_short None nodes = refl
last_short (Some head) nodes = refl

closed_short : (g : Gathered) → map short_claim (closed g) ≡ closed (short_gathered g)
closed_short g = map-append short_claim g.whole (last_claim g.head g.nodes)
    ∙ ap (λ (l : List Claim). map short_claim g.whole ++ l) (last_short g.head g.nodes)

part_short : (g : Gathered) (p : Part)
    → short_gathered (with_part g p) ≡ with_part (short_gathered g) (short_part p)
part_short g (parts.Claim turn side goal nodes) = ap (λ (l : List Claim). record {
  whole = l;
  head = Some (record { turn = turn; side = side; goal = goal });
  nodes = [];
}) (closed_short g)
part_short g (parts.Node node) = ap (λ (l : List Node). record {
  whole = map short_claim g.whole;
  head = g.head;
  nodes = l;
}) (map_push short_node g.nodes node)

gathered_from : (g : Gathered) (ps : List Part)
    → short_gathered (fold with_part g ps) ≡ fold with_part (short_gathered g) (map short_part ps)
gathered_from g [] = refl
gathered_from g (p ∷ ps) = gathered_from (with_part g p) ps
    ∙ ap (λ (h : Gathered). fold with_part h (map short_part ps)) (part_short g p)

claims_short : (ps : List Part)
    → map short_claim (closed (gathered ps)) ≡ closed (gathered (map short_part ps))
unfolding gathered
claims_short ps =
    closed_short (fold with_part none_gathered ps) ∙ ap closed (gathered_from none_gathered ps)

result_short : (o : Option (Fault × ℕ)) (version : Version) (ps : List Part)
    → short_result (unless_faulty o version ps) ≡ unless_faulty o version (map short_part ps)
result_short None version ps = ap (λ (claims : List Claim). Ok (record {
  version = version;
  claims = claims;
})) (claims_short ps)
result_short (Some fault) version ps = refl

outcome_short : (s : Seen) (f : Option (Fault × ℕ)) → or_at_end s f ≡ or_at_end (short_seen s) f
outcome_short s None = refl
outcome_short s (Some fault) = refl

said_short : (s : Seen) → short_result (said s) ≡ said (short_seen s)
said_short s = result_short (outcome s) s.progress.version s.parts
    ∙ ap (λ (o : Option (Fault × ℕ)). unless_faulty o s.progress.version (map short_part s.parts))
    (outcome_short s s.fault)

says_same : (t u : Bytes)
    → short_seen (seen (lines t)) ≡ short_seen (seen (lines u))
    → short_result (says t) ≡ short_result (says u)
unfolding says
says_same t u e = said_short (seen (lines t)) ∙ ap said e ∙ sym (said_short (seen (lines u)))

-- ---- the front of a text, up to its last line feed

record IsFronted (t : Bytes) : Type 0 where
  front : Bytes
  whole_is : t ≡ front ++ (cut t).rest
  cut_is : cut front ≡ record { whole = (cut t).whole; rest = [] }
  lacks : HasNoFeed (cut t).rest
  few : length (cut t).whole ≤ length front

none_fronted : IsFronted []
unfolding cut
none_fronted = record { front = []; whole_is = refl; cut_is = refl; lacks = tt; few = omega arith }

feed_fronted : (t : Bytes) → IsFronted t → IsFronted (t ++ 10 ∷ [])
feed_fronted t h =
    let is : cut (t ++ 10 ∷ []) ≡ record { whole = (cut t).whole ++ (cut t).rest ∷ []; rest = [] } =
    cut_feed t in
    let rest : (cut (t ++ 10 ∷ [])).rest ≡ [] = ap (λ (c : Cut). c.rest) is in
    let whole : (cut (t ++ 10 ∷ [])).whole ≡ (cut t).whole ++ (cut t).rest ∷ [] =
    ap (λ (c : Cut). c.whole) is in
    let size : length (cut (t ++ 10 ∷ [])).whole ≡ length (cut t).whole + 1 =
    ap length whole ∙ length-append (cut t).whole ((cut t).rest ∷ []) in
    record {
      front = t ++ 10 ∷ [];
      whole_is = sym (ap (λ (r : Bytes). (t ++ 10 ∷ []) ++ r) rest ∙ append-nil (t ++ 10 ∷ []));
      cut_is = is ∙ ap (λ (w : List Bytes). record { whole = w; rest = [] }) (sym whole);
      lacks = subst HasNoFeed (sym rest) tt;
      few = omega (
        arith,
        size,
        h.few,
        ap length h.whole_is,
        length-append h.front (cut t).rest,
        length-append t (10 ∷ []),
      );
    }

byte_fronted : (t : Bytes) (b : ℕ) → (b == 10) ≡ false → IsFronted t → IsFronted (t ++ b ∷ [])
byte_fronted t b off h =
    let is : cut (t ++ b ∷ []) ≡ record { whole = (cut t).whole; rest = (cut t).rest ++ b ∷ [] } =
    cut_add t (b ∷ []) (All-from_recursion (λ c. (c == 10) ≡ false) (b ∷ []) (off, tt)) in
    let rest : (cut (t ++ b ∷ [])).rest ≡ (cut t).rest ++ b ∷ [] = ap (λ (c : Cut). c.rest) is in
    let whole : (cut (t ++ b ∷ [])).whole ≡ (cut t).whole = ap (λ (c : Cut). c.whole) is in
    record {
      front = h.front;
      whole_is = ap (λ (r : Bytes). r ++ b ∷ []) h.whole_is
          ∙ append_assoc h.front (cut t).rest (b ∷ [])
          ∙ ap (λ (r : Bytes). h.front ++ r) (sym rest);
      cut_is = h.cut_is ∙ ap (λ (w : List Bytes). record { whole = w; rest = [] }) (sym whole);
      lacks = subst HasNoFeed (sym rest)
          (all_append (λ c. (c == 10) ≡ false) (cut t).rest (b ∷ []) h.lacks (off, tt));
      few = omega (arith, h.few, ap length whole);
    }

fronted_from : (t more : Bytes) → IsFronted t → IsFronted (t ++ more)
fronted_from t [] h = subst IsFronted (sym (append-nil t)) h
fronted_from t (b ∷ bs) h = subst IsFronted (append_assoc t (b ∷ []) bs)
    (fronted_from (t ++ b ∷ []) bs (one (b == 10) refl))
  where
    one : (on : Bool) → (b == 10) ≡ on → IsFronted (t ++ b ∷ [])
    one true e =
        subst (λ (c : ℕ). IsFronted (t ++ c ∷ [])) (sym (eqb-true b 10 e)) (feed_fronted t h)
    one false e = byte_fronted t b e h

fronted : (t : Bytes) → IsFronted t
fronted t = fronted_from [] t none_fronted

-- ---- how many lines a text has

count_one : (s : Seen) (line : Bytes) (f : Option (Fault × ℕ))
    → s.fault ≡ f
    → (after s line).count ≤ s.count + 1
count_one s line None e = of_step (step s.progress line) (after_none s line e)
  where
    of_step : (r : Step) → after s line ≡ taken s r → (after s line).count ≤ s.count + 1
    of_step (Ok next) is =
        let c : (after s line).count ≡ s.count + 1 = ap (λ (q : Seen). q.count) is in
        omega (arith, c)
    of_step (Err fault) is =
        let c : (after s line).count ≡ s.count + 1 = ap (λ (q : Seen). q.count) is in
        omega (arith, c)
count_one s line (Some f) e =
    let c : (after s line).count ≡ s.count = ap (λ (q : Seen). q.count) (after_some s line f e) in
    omega (arith, c)

count_from : (s : Seen) (ls : List Bytes) → (fold after s ls).count ≤ s.count + length ls
count_from s [] = omega arith
count_from s (l ∷ ls) =
    let more = count_from (after s l) ls in
    let one = count_one s l s.fault refl in
    omega (arith, more, one)

count_most : (ls : List Bytes) → (seen ls).count ≤ length ls
unfolding seen
count_most ls =
    subst (λ (k : ℕ). (fold after nothing ls).count ≤ k) (omega arith) (count_from nothing ls)

few_lines : (r : LineReader) (text : Bytes) → StandsFor r text → r.count ≤ length text
few_lines r text stands =
    let h = fronted text in
    omega (
      arith,
      stands.count,
      count_most (cut text).whole,
      h.few,
      ap length h.whole_is,
      length-append h.front (cut text).rest,
    )

-- ---- the reader

pub stands_unchanged : (r : LineReader) (text : Bytes) → StandsFor r text → StandsShort r r text
stands_unchanged r text stands = record {
  short = text;
  stands = stands;
  same = refl;
  sizes = refl;
  alike = λ more. refl;
}

step_node : (p : Progress) (others : ℕ) (line : Bytes)
    → p.due ≡ due.Node others
    → step p line ≡ node_step others p line
unfolding step
step_node p others line e = rw e refl

no_feed_in : (a b c : Bytes) → HasNoFeed (a ++ (b ++ c)) → HasNoFeed (a ++ c)
no_feed_in [] [] c h = h
no_feed_in [] (y ∷ ys) c h = no_feed_in [] ys c h.1
no_feed_in (x ∷ xs) b c h = (h.0, no_feed_in xs b c h.1)

pub stands_less : (r : LineReader) (v : Vec ℕ) (kept rest text : Bytes) (others : ℕ)
    → r.fault ≡ None
    → r.progress.due ≡ due.Node others
    → IsSpare r.pending.items kept rest
    → v.items ≡ kept ++ rest
    → StandsFor r text
    → StandsShort r (record r { pending = v }) text
stands_less r v kept rest text others none at spare is stands =
    let h = fronted text in
    let line : r.pending.items ≡ (cut text).rest = at_none r.fault _ none stands.pending in
    let progress : (told text).progress ≡ r.progress = at_none r.fault _ none stands.progress in
    let lacks : HasNoFeed (kept ++ rest) =
    no_feed_in kept spare.dropped rest (subst HasNoFeed (sym line ∙ spare.cut) h.lacks) in
    let short = h.front ++ (kept ++ rest) in
    let cut_short : cut short ≡ record { whole = (cut text).whole; rest = kept ++ rest } = cut_add
    h.front (kept ++ rest) (All-from_recursion (λ b. (b == 10) ≡ false) (kept ++ rest) lacks)
    ∙ ap (λ (c : Cut). record { whole = c.whole; rest = c.rest ++ (kept ++ rest) }) h.cut_is in
    let cut_text : cut text ≡ record { whole = (cut text).whole; rest = r.pending.items } =
    ap (λ (b : Bytes). record { whole = (cut text).whole; rest = b }) (sym line) in
    let same : told short ≡ told text = ap (λ (c : Cut). seen c.whole) cut_short in
    let some : 0 < length (kept ++ rest) = omega (arith, spare.some, length-append kept rest) in
    let some_line : 0 < length r.pending.items =
    omega (arith, spare.some, ap length spare.cut, length-append kept (spare.dropped ++ rest)) in
    let alike : SayAlike (told text).progress r.pending.items (kept ++ rest) =
    λ t. ap (λ (p : Progress). short_step (step p (r.pending.items ++ t))) progress
    ∙ ap short_step (step_node r.progress others (r.pending.items ++ t) at)
    ∙ spare.same others r.progress t
    ∙ sym (ap (λ (p : Progress). short_step (step p ((kept ++ rest) ++ t))) progress
    ∙ ap short_step (step_node r.progress others ((kept ++ rest) ++ t) at)) in
    record {
      short = short;
      stands = record {
        progress = if_none r.fault (ap (λ (s : Seen). s.progress) same ∙ progress);
        count = ap (λ (s : Seen). s.count) same ∙ stands.count;
        fault = ap (λ (s : Seen). s.fault) same ∙ stands.fault;
        pending = if_none r.fault (is ∙ sym (ap (λ (c : Cut). c.rest) cut_short));
      };
      same = same;
      sizes = omega (
        arith,
        ap length h.whole_is,
        length-append h.front (cut text).rest,
        ap length line,
        ap length is,
        length-append h.front (kept ++ rest),
      );
      alike = λ more. says_same (text ++ more) (short ++ more)
          (ap short_seen (seen_more text more _ cut_text)
          ∙ alike_rest (cut text).whole r.pending.items (kept ++ rest) more some_line some alike
          ∙ sym (ap short_seen (seen_more short more _ cut_short)));
    }

-- ---- the reader of a certificate

pub fed_unchanged : (r new : CertReader) (text : Bytes)
    → new.size ≡ r.size
    → new.lines ≡ r.lines
    → IsFed r text
    → IsFedShort new text
fed_unchanged r new text size lines fed = record {
  short = text;
  fed = record {
    size = size ∙ fed.size;
    lines = λ few. subst (λ (l : LineReader). StandsFor l text) (sym lines) (fed.lines few);
  };
  parts = refl;
  fewer = omega arith;
  alike = λ more. refl;
}

-- what is known of the sizes where the reader has been fed
pub record AreSizes (r : CertReader) (lines : LineReader) : Type 0 where
  pub room : length r.lines.pending.items - length lines.pending.items ≤ r.size
  pub few : lines.count ≤ r.size - (length r.lines.pending.items - length lines.pending.items)

pub sizes_are : (r : CertReader) (lines : LineReader)
    → HasBeenFed r
    → r.size ≤ MAX_CERT_BYTES
    → length lines.pending.items ≤ length r.lines.pending.items
    → ((text : Bytes) → StandsFor r.lines text → StandsShort r.lines lines text)
    → AreSizes r lines
sizes_are r lines been small fewer step =
    let within = is_within been.text r.size been.fed.size small in
    let h = step been.text (been.fed.lines within.0) in
    let count = few_lines lines h.short h.stands in
    record {
      room = omega (arith, within.1, h.sizes, fewer);
      few = omega (arith, within.1, h.sizes, fewer, count);
    }

pub fed_less : (r new : CertReader) (text : Bytes)
    → r.size ≤ MAX_CERT_BYTES
    → length new.lines.pending.items ≤ length r.lines.pending.items
    → new.size ≡ r.size - (length r.lines.pending.items - length new.lines.pending.items)
    → (StandsFor r.lines text → StandsShort r.lines new.lines text)
    → IsFed r text
    → IsFedShort new text
fed_less r new text small fewer size step fed =
    let within = is_within text r.size fed.size small in
    let h = step (fed.lines within.0) in
    let shorter : length h.short ≤ length text = omega (arith, h.sizes, fewer) in
    let fits : length h.short ≤ MAX_CERT_BYTES = omega (arith, shorter, within.0) in
    let is : new.size ≡ length h.short = omega (arith, size, within.1, h.sizes, fewer) in
    record {
      short = h.short;
      fed = record { size = is ∙ sym (size_within h.short fits); lines = λ _. h.stands };
      parts = told_within h.short fits
          ∙ ap (λ (s : Seen). s.parts) h.same
          ∙ sym (told_within text within.0);
      fewer = shorter;
      alike = h.alike;
    }

-- ---- what a text within the limit says

-- it is the certificate
pub says_within : (text : Bytes) → length text ≤ MAX_CERT_BYTES → certificate text ≡ says text
unfolding certificate says fault_of text_version text_parts
says_within text few =
    let t : nat_lt MAX_CERT_BYTES (length text) ≡ false = grind (arith, nat_tests) in
    rw t refl

-- two texts that are alike say the same, cut short
pub certificates_alike : (text short : Bytes)
    → length text ≤ MAX_CERT_BYTES
    → length short ≤ length text
    → AreAlike text short
    → short_result (certificate text) ≡ short_result (certificate short)
certificates_alike text short few fewer alike =
    ap short_result (says_within text few ∙ ap says (sym (append-nil text)))
    ∙ alike []
    ∙ sym (ap short_result (says_within short (omega (
      arith,
      few,
      fewer,
    )) ∙ ap says (sym (append-nil short))))

pub alike_on : (text mid short : Bytes)
    → AreAlike text mid
    → AreAlike mid short
    → AreAlike text short
alike_on text mid short a b = λ more. a more ∙ b more

pub alike_more : (text short bytes : Bytes)
    → AreAlike text short
    → AreAlike (text ++ bytes) (short ++ bytes)
alike_more text short bytes a =
    λ more. ap (λ (t : Bytes). short_result (says t)) (append_assoc text bytes more)
    ∙ a (bytes ++ more)
    ∙ sym (ap (λ (t : Bytes). short_result (says t)) (append_assoc short bytes more))

-- how many bytes came, and one more than the limit for all that are more: the text is past the
-- limit, or comes past it, or stays within
pub size_over : (text bytes : Bytes) (size : ℕ)
    → size ≡ size_of text
    → MAX_CERT_BYTES < size
    → size ≡ size_of (text ++ bytes)
size_over text bytes size is past =
    let long = is_past text size is past in
    is
    ∙ size_past text long
    ∙ sym (size_past (text ++ bytes) (omega (arith, long, length-append text bytes)))

pub size_crosses : (text bytes : Bytes) (size more : ℕ)
    → size ≡ size_of text
    → more ≡ length bytes
    → size ≤ MAX_CERT_BYTES
    → MAX_CERT_BYTES - size < more
    → MAX_CERT_BYTES + 1 ≡ size_of (text ++ bytes)
size_crosses text bytes size more is count small past =
    let within = is_within text size is small in
    sym (size_past (text ++ bytes) (omega (
      arith,
      within.1,
      count,
      past,
      small,
      length-append text bytes,
    )))

pub size_fits : (text bytes : Bytes) (size more : ℕ)
    → size ≡ size_of text
    → more ≡ length bytes
    → size ≤ MAX_CERT_BYTES
    → more ≤ MAX_CERT_BYTES - size
    → size + more ≡ size_of (text ++ bytes)
size_fits text bytes size more is count small fits =
    let within = is_within text size is small in
    let len : length (text ++ bytes) ≡ size + more =
    omega (arith, within.1, count, length-append text bytes) in
    sym (size_within (text ++ bytes) (omega (arith, len, small, fits)) ∙ len)
