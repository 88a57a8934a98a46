-- What a look-up, a move to the front and a put leave of a cache.
use Rattle.std.proofs.Common.{◌≡◌, ◌≢◌, ℕ, zero, suc, ◌+◌, ◌-◌, ◌<◌, ◌≤◌, Bool, Some, None, List}
use Rattle.std.proofs.Common.{[], ◌∷◌, ◌++◌, length, map, get_or, take, refl, sym, ap, ◌∙◌, subst}
use Rattle.std.proofs.Common.{subst₂, inl, inr, arith, Result, Ok, Err}
use Rattle.pg_match.proofs.Common.{OnOk, OnErr, cases_Bool, false≢true, take-map, length-take}
use Rattle.pg_match.proofs.Common.{All-map, All-cons, All-take, All-contains, none-some, same_Some}
use Rattle.pg_match.proofs.Common.{All, Any, Contains, lookup, lookup_entry, remove_entry, LruCache}
use Rattle.pg_match.proofs.Common.{lru_cache, promoted, put_entries, All-from_members}
use Rattle.pg_match.proofs.Common.{Contains-head, Contains-tail}
use Rattle.std.specs.Option.{option_map_or}
use Rattle.lru.proofs.CallerLemmas.{Contains-lookup, Contains-lookup_entry, Contains-promoted}
use Rattle.pg_match.specs.declared.matching.Matching.{Matching}
use Rattle.pg_match.specs.Private.{Answer, told, IsAnswer}
use Rattle.pg_match.specs.Cache.{Asked, Kept, Cache, Fits, IsFor, keeps, leaves, Remembers, Keeps}
use Rattle.pg_match.specs.Cache.{stays, puts, same_asked, same_asked-decides, kept_of, one_more}
use Rattle.pg_match.proofs.PrivateLaws.{Contains-parts}

-- the cache with these entries
abbrev pub seen : ℕ → ℕ → List (Asked × Matching) → Cache
seen cap hits es = record { capacity = cap; hits = hits; kept = map kept_of es }

module _ (asked : Asked) where
  abbrev test : Asked → Bool
  test = same_asked asked

  -- an entry is found where its answer is
  entry-from_lookup : (es : List (Asked × Matching)) (m : Matching)
      → lookup (same_asked asked) es ≡ Some m
      → (e : Asked × Matching) × (lookup_entry (same_asked asked) es ≡ Some e) × (e.1 ≡ m)
  entry-from_lookup [] m h = absurd (none-some m h)
  entry-from_lookup (f ∷ es) m h = elim (cases_Bool (same_asked asked f.0)) [
    | inl on ↦ (f, rw on refl, same_Some f.1 m (rw on at h))
    | inr off ↦
        let found = entry-from_lookup es m (rw off at h) in
        (found.0, rw off found.1, found.2)
  ]

  entry-none : (es : List (Asked × Matching))
      → lookup (same_asked asked) es ≡ None
      → lookup_entry (same_asked asked) es ≡ None
  entry-none [] h = refl
  entry-none (f ∷ es) h = elim (cases_Bool (same_asked asked f.0)) [
    | inl on ↦ absurd (none-some f.1 (sym (rw on at h)))
    | inr off ↦ rw off (entry-none es (rw off at h))
  ]

  -- where none is found, no entry has the question
  not_there : (es : List (Asked × Matching))
      → lookup (same_asked asked) es ≡ None
      → (e : Asked × Matching) → Contains es e
      → e.0 ≢ asked
  not_there [] h e c same = omega (arith, c.1)
  not_there (f ∷ es) h e c same = elim (cases_Bool (same_asked asked f.0)) [
    | inl on ↦ none-some f.1 (sym (rw on at h))
    | inr off ↦ elim (Contains-parts f e es c) [
      | inl here ↦ false≢true (sym off
          ∙ (same_asked-decides asked f.0).1
          (sym same ∙ ap (λ (g : Asked × Matching). g.0) (sym here)))
      | inr later ↦ not_there es (rw off at h) e later same
    ]
  ]

Contains-map : (es : List (Asked × Matching)) (e : Asked × Matching)
    → Contains es e
    → Contains (map kept_of es) (kept_of e)
Contains-map [] e c = absurd (omega (arith, c.1))
Contains-map (f ∷ es) e c = elim (Contains-parts f e es c) [
  | inl here ↦ subst (λ (k : Kept). Contains (kept_of f ∷ map kept_of es) k) (ap kept_of here)
      (Contains-head (kept_of f) (map kept_of es))
  | inr later ↦ Contains-tail (kept_of f) (kept_of e) (map kept_of es) (Contains-map es e later)
]

held-at : (es : List (Asked × Matching)) (asked : Asked) (k : ℕ) (x : Kept)
    → k < length (map kept_of es)
    → get_or (map kept_of es) k x ≡ x
    → x.asked ≡ asked
    → (e : Asked × Matching) × Contains es e × (e.0 ≡ asked)
held-at [] asked k x inside is same = absurd (omega arith)
held-at (f ∷ es) asked zero x inside is same =
    (f, Contains-head f es, ap (λ (k : Kept). k.asked) is ∙ same)
held-at (f ∷ es) asked (suc k) x inside is same =
    let found = held-at es asked k x (omega arith) is same in
    (found.0, Contains-tail f found.0 es found.1, found.2)

held-entry : (es : List (Asked × Matching)) (asked : Asked)
    → Any (λ k. k.asked ≡ asked) (map kept_of es)
    → (e : Asked × Matching) × Contains es e × (e.0 ≡ asked)
held-entry es asked any = held-at es asked any.0 any.1 any.2 any.3 any.4

-- entries that were there keep what holds of all
pub kept-among : (P : Kept → Type 0) (es fs : List (Asked × Matching))
    → ((e : Asked × Matching) → Contains fs e → Contains es e)
    → All P (map kept_of es)
    → All P (map kept_of fs)
kept-among P es fs among all = All-map P kept_of fs
    (All-from_members (λ e. P (kept_of e)) fs
    (λ e c. All-contains P (map kept_of es) (kept_of e) all (Contains-map es e (among e c))))

-- ---- a hit

-- an entry that is found stands between others, and without it those are left
parted : (asked : Asked) (es : List (Asked × Matching)) (e : Asked × Matching)
    → lookup_entry (same_asked asked) es ≡ Some e
    → (before : List Kept) × (after : List Kept) × (map kept_of es ≡ before ++ kept_of e ∷ after)
    × (map kept_of (remove_entry (same_asked asked) es) ≡ before ++ after)
parted asked [] e h = absurd (none-some e h)
parted asked (f ∷ es) e h = elim (cases_Bool (same_asked asked f.0)) [
  | inl on ↦ (
    [],
    map kept_of es,
    ap (λ (g : Asked × Matching). kept_of g ∷ map kept_of es) (same_Some f e (rw on at h)),
    rw on refl,
  )
  | inr off ↦
      let rest = parted asked es e (rw off at h) in (
        kept_of f ∷ rest.0,
        rest.1,
        ap (λ ks. kept_of f ∷ ks) rest.2,
        rw off (ap (λ ks. kept_of f ∷ ks) rest.3),
      )
]

promoted-is : (asked : Asked) (es : List (Asked × Matching)) (e : Asked × Matching)
    → lookup_entry (same_asked asked) es ≡ Some e
    → promoted (same_asked asked) es ≡ e ∷ remove_entry (same_asked asked) es
promoted-is asked es e h =
    ap (λ o. option_map_or (λ f. f ∷ remove_entry (same_asked asked) es) o es) h

pub hit-remembers : (es : List (Asked × Matching)) (cap hits : ℕ) (asked : Asked) (m : Matching)
    (answer : Answer)
    → lookup (same_asked asked) es ≡ Some m
    → answer ≡ told m
    → Remembers (seen cap hits es) (seen cap (one_more hits) (promoted (same_asked asked) es))
    (record { asked = asked; answer = answer })
hit-remembers es cap hits asked m answer found same =
    let entry = entry-from_lookup asked es m found in
    let e = entry.0 in
    let there = Contains-lookup_entry (same_asked asked) es e entry.1 in
    let is_asked : e.0 ≡ asked = sym ((same_asked-decides asked e.0).0 there.1) in
    let is : kept_of e ≡ record { asked = asked; answer = answer } =
    ap (λ q. record { asked = q; answer = told e.1 }) is_asked
    ∙ ap (λ a. record { asked = asked; answer = a }) (ap told entry.2 ∙ sym same) in
    let member = Contains-map es e there.0 in
    let parts = parted asked es e entry.1 in
    record {
      capacity = refl;
      hit = λ _. record {
        counted = refl;
        before = parts.0;
        after = parts.1;
        was = parts.2 ∙ ap (λ k. parts.0 ++ k ∷ parts.1) is;
        now = ap (map kept_of) (promoted-is asked es e entry.1)
            ∙ ap (λ k. k ∷ map kept_of (remove_entry (same_asked asked) es)) is
            ∙ ap (λ ks. record { asked = asked; answer = answer } ∷ ks) parts.3;
      };
      missed = λ not_held. absurd (not_held (member.0, kept_of e, member.1, member.2, is_asked));
    }

pub hit-fits : (lines : List (List ℕ)) (es : List (Asked × Matching)) (asked : Asked)
    → All (IsFor lines) (map kept_of es)
    → All (IsFor lines) (map kept_of (promoted (same_asked asked) es))
hit-fits lines es asked all = kept-among (IsFor lines) es (promoted (same_asked asked) es)
    (Contains-promoted (same_asked asked) es) all

pub hit-answer : (lines : List (List ℕ)) (es : List (Asked × Matching)) (asked : Asked)
    (m : Matching) (answer : Answer)
    → All (IsFor lines) (map kept_of es)
    → lookup (same_asked asked) es ≡ Some m
    → answer ≡ told m
    → IsAnswer lines asked.wanted asked.free answer
hit-answer lines es asked m answer all found same =
    let there = Contains-lookup (same_asked asked) es m found in
    let is_asked : there.0 ≡ asked = sym ((same_asked-decides asked there.0).0 there.2) in
    let fits : IsAnswer lines there.0.wanted there.0.free (told m) = All-contains (IsFor lines)
    (map kept_of es) (kept_of (there.0, m)) all (Contains-map es (there.0, m) there.1) in
    subst₂ (λ (q : Asked) (a : Answer). IsAnswer lines q.wanted q.free a) is_asked (sym same) fits

length-removed : (asked : Asked) (es : List (Asked × Matching)) (e : Asked × Matching)
    → lookup_entry (same_asked asked) es ≡ Some e
    → length (remove_entry (same_asked asked) es) + 1 ≡ length es
length-removed asked [] e h = absurd (none-some e h)
length-removed asked (f ∷ es) e h = elim (cases_Bool (same_asked asked f.0)) [
  | inl on ↦ rw on (omega arith)
  | inr off ↦ let rest = length-removed asked es e (rw off at h) in rw off (omega (arith, rest))
]

pub hit-length : (es : List (Asked × Matching)) (asked : Asked) (m : Matching)
    → lookup (same_asked asked) es ≡ Some m
    → length (promoted (same_asked asked) es) ≡ length es
hit-length es asked m found =
    let entry = entry-from_lookup asked es m found in
    let removed = length-removed asked es entry.0 entry.1 in
    ap length (promoted-is asked es entry.0 entry.1) ∙ omega (arith, removed)

-- ---- a miss

put-is : (c : LruCache Asked Matching) (asked : Asked) (m : Matching)
    → lookup (same_asked asked) c.entries ≡ None
    → put_entries same_asked c asked m ≡ (asked, m) ∷ take (c.cap - 1) c.entries
put-is c asked m none =
    ap (λ o. option_map_or (λ e. (e.0, m) ∷ remove_entry (same_asked asked) c.entries) o ((
      asked,
      m,
    ) ∷ take (c.cap - 1) c.entries)) (entry-none asked c.entries none)

pub miss-remembers : (es : List (Asked × Matching)) (cap hits : ℕ) (new : LruCache Asked Matching)
    (asked : Asked) (found : Matching)
    → lookup (same_asked asked) es ≡ None
    → Keeps (lru_cache es cap) new asked found
    → Remembers (seen cap hits es) (seen new.cap hits new.entries) (record {
      asked = asked;
      answer = told found;
    })
miss-remembers es cap hits new asked found none (stays same) = record {
  capacity = ap (λ (c : LruCache Asked Matching). c.cap) same;
  hit = λ held. absurd
      (let there = held-entry es asked held in not_there asked es none there.0 there.1 there.2);
  missed = λ _. (refl, leaves (ap (λ (c : LruCache Asked Matching). map kept_of c.entries) same));
}
miss-remembers es cap hits new asked found none (puts copy same is) = record {
  capacity = ap (λ (c : LruCache Asked Matching). c.cap) is;
  hit = λ held. absurd
      (let there = held-entry es asked held in not_there asked es none there.0 there.1 there.2);
  missed = λ _. (
    refl,
    keeps (ap (λ (c : LruCache Asked Matching). map kept_of c.entries) is
        ∙ ap (map kept_of) (put-is (lru_cache es cap) asked copy none)
        ∙ ap (λ a. record { asked = asked; answer = a } ∷ map kept_of (take (cap - 1) es)) same
        ∙ ap (λ ks. record {
          asked = asked;
          answer = told found;
        } ∷ ks) (sym (take-map kept_of (cap - 1) es))),
  );
}

pub miss-fits : (lines : List (List ℕ)) (es : List (Asked × Matching)) (cap : ℕ)
    (new : LruCache Asked Matching) (asked : Asked) (found : Matching)
    → lookup (same_asked asked) es ≡ None
    → Keeps (lru_cache es cap) new asked found
    → All (IsFor lines) (map kept_of es)
    → IsAnswer lines asked.wanted asked.free (told found)
    → All (IsFor lines) (map kept_of new.entries)
miss-fits lines es cap new asked found none (stays same) all answer = subst
    (λ (c : LruCache Asked Matching). All (IsFor lines) (map kept_of c.entries)) (sym same) all
miss-fits lines es cap new asked found none (puts copy same is) all answer =
    subst (λ (c : LruCache Asked Matching). All (IsFor lines) (map kept_of c.entries)) (sym is)
    (subst (λ fs. All (IsFor lines) (map kept_of fs))
    (sym (put-is (lru_cache es cap) asked copy none))
    (All-cons (IsFor lines) (kept_of (asked, copy)) (map kept_of (take (cap - 1) es))
    (subst (IsAnswer lines asked.wanted asked.free) (sym same) answer) (subst (All (IsFor lines))
    (take-map kept_of (cap - 1) es) (All-take (IsFor lines) (cap - 1) (map kept_of es) all))))

pub miss-length : (es : List (Asked × Matching)) (cap : ℕ) (new : LruCache Asked Matching)
    (asked : Asked) (found : Matching)
    → lookup (same_asked asked) es ≡ None
    → Keeps (lru_cache es cap) new asked found
    → 1 ≤ cap
    → length es ≤ cap
    → (1 ≤ new.cap) × (length new.entries ≤ new.cap)
miss-length es cap new asked found none (stays same) some few =
    subst (λ (c : LruCache Asked Matching). (1 ≤ c.cap) × (length c.entries ≤ c.cap)) (sym same)
    (some, few)
miss-length es cap new asked found none (puts copy same is) some few =
    subst (λ (c : LruCache Asked Matching). (1 ≤ c.cap) × (length c.entries ≤ c.cap)) (sym is) (
      some,
      subst (λ fs. length fs ≤ cap) (sym (put-is (lru_cache es cap) asked copy none))
          (omega (arith, length-take (cap - 1) es, some)),
    )

-- what a put answers
pub keeps-from_put : {T E : Type 0} (r : Result T E) (old new : LruCache Asked Matching)
    (asked : Asked) (copy answer : Matching)
    → OnOk r (new ≡ lru_cache (put_entries same_asked old asked copy) old.cap)
    → OnErr r (new ≡ old)
    → told copy ≡ told answer
    → Keeps old new asked answer
keeps-from_put (Ok x) old new asked copy answer put none same = puts copy same put
keeps-from_put (Err e) old new asked copy answer put none same = stays none

-- ---- by the names that a cache has

module _ (old : Cache) (es : List (Asked × Matching)) (cap hits : ℕ) (new : LruCache Asked Matching)
    (old_is : seen cap hits es ≡ old) (found_as asked : Asked) (asked_is : found_as ≡ asked) where
  pub hit-remembers_to : (hits_new : ℕ) (m : Matching) (answer : Answer)
      → lookup (same_asked found_as) es ≡ Some m
      → answer ≡ told m
      → new ≡ lru_cache (promoted (same_asked found_as) es) cap
      → hits_new ≡ one_more hits
      → Remembers old (seen new.cap hits_new new.entries) (record {
        asked = asked;
        answer = answer;
      })
  hit-remembers_to hits_new m answer found same new_is hits_are =
      subst₂ (λ (o : Cache) (q : Asked). Remembers o (seen new.cap hits_new new.entries) (record {
        asked = q;
        answer = answer;
      })) old_is asked_is (subst₂ (λ (c : LruCache Asked Matching) (n : ℕ).
      Remembers (seen cap hits es) (seen c.cap n c.entries) (record {
        asked = found_as;
        answer = answer;
      })) (sym new_is) (sym hits_are) (hit-remembers es cap hits found_as m answer found same))

  pub hit-fits_to : (lines : List (List ℕ))
      → new ≡ lru_cache (promoted (same_asked found_as) es) cap
      → Fits old lines
      → All (IsFor lines) (map kept_of new.entries)
  hit-fits_to lines new_is fits = subst
      (λ (c : LruCache Asked Matching). All (IsFor lines) (map kept_of c.entries)) (sym new_is)
      (hit-fits lines es found_as (subst (λ (o : Cache). Fits o lines) (sym old_is) fits))

  pub hit-answer_to : (lines : List (List ℕ)) (m : Matching) (answer : Answer)
      → lookup (same_asked found_as) es ≡ Some m
      → answer ≡ told m
      → Fits old lines
      → IsAnswer lines asked.wanted asked.free answer
  hit-answer_to lines m answer found same fits =
      subst (λ (q : Asked). IsAnswer lines q.wanted q.free answer) asked_is
      (hit-answer lines es found_as m answer
      (subst (λ (o : Cache). Fits o lines) (sym old_is) fits) found same)

  pub hit-length_to : (m : Matching)
      → lookup (same_asked found_as) es ≡ Some m
      → new ≡ lru_cache (promoted (same_asked found_as) es) cap
      → 1 ≤ cap
      → length es ≤ cap
      → (1 ≤ new.cap) × (length new.entries ≤ new.cap)
  hit-length_to m found new_is some few =
      subst (λ (c : LruCache Asked Matching). (1 ≤ c.cap) × (length c.entries ≤ c.cap)) (sym new_is)
      (some, omega (arith, few, hit-length es found_as m found))

  pub miss-remembers_to : (found : Matching)
      → lookup (same_asked found_as) es ≡ None
      → Keeps (lru_cache es cap) new found_as found
      → Remembers old (seen new.cap hits new.entries) (record {
        asked = asked;
        answer = told found;
      })
  miss-remembers_to found none kept =
      subst₂ (λ (o : Cache) (q : Asked). Remembers o (seen new.cap hits new.entries) (record {
        asked = q;
        answer = told found;
      })) old_is asked_is (miss-remembers es cap hits new found_as found none kept)

  pub miss-fits_to : (lines : List (List ℕ)) (found : Matching)
      → lookup (same_asked found_as) es ≡ None
      → Keeps (lru_cache es cap) new found_as found
      → Fits old lines
      → IsAnswer lines asked.wanted asked.free (told found)
      → All (IsFor lines) (map kept_of new.entries)
  miss-fits_to lines found none kept fits answer = miss-fits lines es cap new found_as found none
      kept (subst (λ (o : Cache). Fits o lines) (sym old_is) fits)
      (subst (λ (q : Asked). IsAnswer lines q.wanted q.free (told found)) (sym asked_is) answer)
