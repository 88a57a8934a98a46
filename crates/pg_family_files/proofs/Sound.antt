-- What is read is within the limits.
use Rattle.std.proofs.Common.{◌≡◌, ℕ, ◌+◌, ◌^◌, ◌<◌, ◌≤◌, lit<, lit≤, Bool, true, false, cond, ◌&&◌}
use Rattle.std.proofs.Common.{◌||◌, inl, inr, List, [], ◌∷◌, ◌++◌, length, arith, refl, sym, ap}
use Rattle.std.proofs.Common.{subst, ◌∙◌, Option, Some, None, Result, Ok, Err}
use Rattle.std.specs.Prelude.{◌==◌, nat_lt, nat_le, not, is_none, find}
use Rattle.pg_family_files.proofs.Common.{list_all, All, FinSet, contains, empty, contains-empty}
use Rattle.pg_family_files.proofs.Common.{nat_cmp, bytes_eq, cases_lt, ltb-false, and_parts}
use Rattle.pg_family_files.proofs.Common.{or_parts, nat_tests, length-append, All-push, Side, Bytes}
use Rattle.pg_family_files.proofs.Common.{words, lines, numbers, reading, go_on, Fault, first, rest}
use Rattle.pg_family_files.proofs.Common.{numbers_of, first_number, second_number, is_printable}
use Rattle.pg_family_files.proofs.Common.{begins_comment, in_set_of, repeats_apart, AreSpanParts}
use Rattle.pg_family_files.proofs.Common.{AreVectorParts}
use Rattle.std.proofs.lemmas.Nat.{pow_pos}
use Rattle.pg_files.specs.declared.fault.Fault.TheVariants as faults
use Rattle.pg_files.proofs.Sound.{AreEnds, AreMarks, none_applies, not_false, outside_not}
use Rattle.pg_files.proofs.Sound.{none_below, no_marks, set_below, no_ends, more_ends, two_below}
use Rattle.pg_files.proofs.Sound.{unless_ok, done, ok_is, chosen}
use Rattle.pg_family_files.specs.Family.{has_key, key_name, key_of, all_keys, rank_of, needed_rank}
use Rattle.pg_family_files.specs.Family.{head_rank, is_connectivity, is_vectors}
use Rattle.pg_family_files.specs.FamilyFile.{Draft, Whole, nothing, points_so_far, is_out_of_place}
use Rattle.pg_family_files.specs.FamilyFile.{keyed_faults, keyed_fault, said, first_vector, keyed}
use Rattle.pg_family_files.specs.FamilyFile.{named, is_header, significant, after, turned, ended}
use Rattle.pg_family_files.specs.FamilyFile.{whole, made, SpanEntry, span_of, span_game}
use Rattle.pg_family_files.specs.FamilyFile.{VectorEntry, vectors_of, vector_game}
use Rattle.pg_family_files.specs.declared.family.Family.{Family}
use Rattle.pg_family_files.specs.declared.family.Family.TheVariants as families
use Rattle.pg_family_files.specs.declared.family.Key.{Key}
use Rattle.pg_family_files.specs.declared.family.Key.TheVariants as keys
use Rattle.pg_family_files.proofs.Bits.{vector_below}

-- ---- what holds of a draft

-- nothing has been said before its rank
pub record IsBefore (d : Draft) : Type 0 where
  pub target : d.rank < 3 → d.target ≡ 0
  pub lists : d.rank < 4 → (d.ends ≡ []) × (d.vectors ≡ [])
  pub x : d.rank < 5 → d.x ≡ empty
  pub y : d.rank < 6 → d.y ≡ empty
  pub turn : d.rank < 7 → d.turn ≡ None

-- the number of rank 2 that the family has is within its limits
abbrev pub HasSize : Family → ℕ → ℕ → Type 0
HasSize families.Connectivity vertices rows = (2 ≤ vertices) × (vertices ≤ 500)
HasSize families.Vectors vertices rows = (1 ≤ rows) × (rows ≤ 128)

-- the target and the vectors are within the limits
pub record AreVectors (rows target : ℕ) (vectors : List ℕ) : Type 0 where
  pub goal : target < 2 ^ rows
  pub each : All (λ v. v < 2 ^ rows) vectors
  pub count : length vectors ≤ 1000

-- what the lines so far have said is within the limits
pub record IsSound (family : Family) (d : Draft) : Type 0 where
  pub order : IsBefore d
  pub size : 2 ≤ d.rank → HasSize family d.vertices d.rows
  pub ends : AreEnds d.vertices d.ends
  pub vectors : AreVectors d.rows d.target d.vectors
  pub marks : AreMarks (points_so_far family d) d.x d.y

-- ---- where a key stands

record IsPlaced (family : Family) (d : Draft) (key : Key) : Type 0 where
  up : d.rank ≤ rank_of key
  under : (rank_of key == 4) ≡ false → d.rank < rank_of key
  needed : needed_rank family key ≤ d.rank

place : (family : Family) (d : Draft) (key : Key)
    → is_out_of_place family d key ≡ false
    → IsPlaced family d key
place family d key e =
    let r = d.rank in
    let k = rank_of key in
    let one =
    or_parts (nat_lt k r) ((k == r && not (k == 4)) || nat_lt r (needed_rank family key)) e in
    let two = or_parts (k == r && not (k == 4)) (nat_lt r (needed_rank family key)) one.1 in
    record {
      up = ltb-false k r one.0;
      under = λ h. grind (arith, nat_tests, one.0, two.0, h);
      needed = ltb-false r (needed_rank family key) two.1;
    }

head_two : (family : Family) (r : ℕ) → head_rank family ≤ r → 2 ≤ r
head_two families.Connectivity r le = le
head_two families.Vectors r le = omega (arith, le)

-- ---- the parts

no_vectors : (rows target : ℕ) (vectors : List ℕ)
    → target < 2 ^ rows
    → vectors ≡ []
    → AreVectors rows target vectors
no_vectors rows target vectors small e = rw e (record {
  goal = small;
  each = λ i d lt. absurd (omega arith);
  count = lit≤ tt;
})

more_vectors : (rows target v : ℕ) (vectors : List ℕ)
    → AreVectors rows target vectors
    → v < 2 ^ rows
    → length vectors < 1000
    → AreVectors rows target (vectors ++ v ∷ [])
more_vectors rows target v vectors h small few = record {
  goal = h.goal;
  each = All-push (λ v. v < 2 ^ rows) vectors v h.each small;
  count = omega (arith, length-append vectors (v ∷ []));
}

of_connectivity : (family : Family) (vertices rows : ℕ)
    → is_connectivity family ≡ true
    → 2 ≤ vertices
    → vertices ≤ 500
    → HasSize family vertices rows
of_connectivity families.Connectivity vertices rows is some few = (some, few)
of_connectivity families.Vectors vertices rows is some few = absurd cc

of_vectors : (family : Family) (vertices rows : ℕ)
    → is_vectors family ≡ true
    → 1 ≤ rows
    → rows ≤ 128
    → HasSize family vertices rows
of_vectors families.Connectivity vertices rows is some few = absurd cc
of_vectors families.Vectors vertices rows is some few = (some, few)

-- ---- each key

-- a line with the key keeps the limits
abbrev Keeps : Family → Key → Type 0
Keeps family key = (d : Draft) (arguments : List Bytes) → has_key family key ≡ true
    → IsSound family d
    → keyed_fault family d key arguments ≡ None
    → IsSound family (said d key arguments)

keeps_vertices : (family : Family) → Keeps family keys.Vertices
keeps_vertices family d arguments has sound e =
    let rows = none_applies (keyed_faults family d keys.Vertices arguments) e in
    let n = first_number (numbers_of arguments) in
    let at = place family d keys.Vertices rows.1.0 in
    let up : d.rank ≤ 2 = at.up in
    let limits = outside_not 2 500 n rows.1.1.1.1.1.0 in
    let order = sound.order in
    record {
      order = record {
        target = λ lt. order.target (omega arith);
        lists = λ lt. order.lists (omega arith);
        x = λ lt. order.x (omega arith);
        y = λ lt. order.y (omega arith);
        turn = λ lt. order.turn (omega arith);
      };
      size = λ h. of_connectivity family n d.rows has limits.0 limits.1;
      ends = no_ends n d.ends (order.lists (omega arith)).0;
      vectors = sound.vectors;
      marks = no_marks _ d.x d.y (order.x (omega arith)) (order.y (omega arith));
    }

keeps_rows : (family : Family) → Keeps family keys.Rows
keeps_rows family d arguments has sound e =
    let rows = none_applies (keyed_faults family d keys.Rows arguments) e in
    let n = first_number (numbers_of arguments) in
    let at = place family d keys.Rows rows.1.0 in
    let up : d.rank ≤ 2 = at.up in
    let limits = outside_not 1 128 n rows.1.1.1.1.1.0 in
    let order = sound.order in
    let small : d.target < 2 ^ n = omega (arith, order.target (omega arith), pow_pos n) in
    record {
      order = record {
        target = λ lt. order.target (omega arith);
        lists = λ lt. order.lists (omega arith);
        x = λ lt. order.x (omega arith);
        y = λ lt. order.y (omega arith);
        turn = λ lt. order.turn (omega arith);
      };
      size = λ h. of_vectors family d.vertices n has limits.0 limits.1;
      ends = sound.ends;
      vectors = no_vectors n d.target d.vectors small (order.lists (omega arith)).1;
      marks = no_marks _ d.x d.y (order.x (omega arith)) (order.y (omega arith));
    }

keeps_target : (family : Family) → Keeps family keys.Target
keeps_target family d arguments has sound e =
    let rows = none_applies (keyed_faults family d keys.Target arguments) e in
    let at = place family d keys.Target rows.1.0 in
    let up : d.rank ≤ 3 = at.up in
    let under : d.rank < 3 = at.under refl in
    let order = sound.order in
    record {
      order = record {
        target = λ lt. absurd (omega arith);
        lists = λ lt. order.lists (omega arith);
        x = λ lt. order.x (omega arith);
        y = λ lt. order.y (omega arith);
        turn = λ lt. order.turn (omega arith);
      };
      size = λ h. sound.size at.needed;
      ends = sound.ends;
      vectors = no_vectors d.rows (first_vector d arguments) d.vectors
          (vector_below d.rows (first arguments) rows.1.1.1.1.1.1.0) (order.lists (omega arith)).1;
      marks = no_marks _ d.x d.y (order.x (omega arith)) (order.y (omega arith));
    }

keeps_edge : (family : Family) → Keeps family keys.Edge
keeps_edge family d arguments has sound e =
    let rows = none_applies (keyed_faults family d keys.Edge arguments) e in
    let ns = numbers_of arguments in
    let at = place family d keys.Edge rows.1.0 in
    let up : d.rank ≤ 4 = at.up in
    let form = or_parts (not (length arguments == 2)) (is_none (numbers arguments)) rows.1.1.0 in
    let pair : length arguments ≡ 2 = grind (arith, nat_tests, form.0) in
    let each = two_below d.vertices arguments pair form.1
    (not_false (list_all (λ n. nat_lt n d.vertices) ns) rows.1.1.1.0) in
    let room : nat_le 1000 (length d.ends) ≡ false = rows.1.1.1.1.1.0 in
    let fewer : length d.ends < 1000 = grind (arith, nat_tests) in
    let order = sound.order in
    record {
      order = record {
        target = λ lt. absurd (omega arith);
        lists = λ lt. absurd (omega arith);
        x = λ lt. order.x (omega arith);
        y = λ lt. order.y (omega arith);
        turn = λ lt. order.turn (omega arith);
      };
      size = λ h. sound.size (head_two family d.rank at.needed);
      ends = more_ends d.vertices (first_number ns)
          (second_number ns) d.ends sound.ends each.0 each.1 fewer;
      vectors = sound.vectors;
      marks = no_marks _ d.x d.y (order.x (omega arith)) (order.y (omega arith));
    }

keeps_vector : (family : Family) → Keeps family keys.Vector
keeps_vector family d arguments has sound e =
    let rows = none_applies (keyed_faults family d keys.Vector arguments) e in
    let at = place family d keys.Vector rows.1.0 in
    let up : d.rank ≤ 4 = at.up in
    let room : nat_le 1000 (length d.vectors) ≡ false = rows.1.1.1.1.1.0 in
    let fewer : length d.vectors < 1000 = grind (arith, nat_tests) in
    let order = sound.order in
    record {
      order = record {
        target = λ lt. absurd (omega arith);
        lists = λ lt. absurd (omega arith);
        x = λ lt. order.x (omega arith);
        y = λ lt. order.y (omega arith);
        turn = λ lt. order.turn (omega arith);
      };
      size = λ h. sound.size (head_two family d.rank at.needed);
      ends = sound.ends;
      vectors = more_vectors d.rows d.target (first_vector d arguments) d.vectors sound.vectors
          (vector_below d.rows (first arguments) rows.1.1.1.1.1.1.0) fewer;
      marks = no_marks _ d.x d.y (order.x (omega arith)) (order.y (omega arith));
    }

keeps_x : (family : Family) → Keeps family keys.X
keeps_x family d arguments has sound e =
    let rows = none_applies (keyed_faults family d keys.X arguments) e in
    let at = place family d keys.X rows.1.0 in
    let up : d.rank ≤ 5 = at.up in
    let below = not_false (list_all (λ n. nat_lt n (points_so_far family d)) (numbers_of arguments))
    rows.1.1.1.0 in
    let order = sound.order in
    let none = order.y (omega arith) in
    record {
      order = record {
        target = λ lt. absurd (omega arith);
        lists = λ lt. absurd (omega arith);
        x = λ lt. absurd (omega arith);
        y = λ lt. order.y (omega arith);
        turn = λ lt. order.turn (omega arith);
      };
      size = λ h. sound.size (head_two family d.rank at.needed);
      ends = sound.ends;
      vectors = sound.vectors;
      marks = record {
        x_below = set_below (points_so_far family d) (numbers_of arguments) below;
        y_below = none_below (points_so_far family d) d.y none;
        apart = λ v h. ap (λ (u : FinSet nat_cmp). contains u v) none ∙ contains-empty nat_cmp v;
      };
    }

keeps_y : (family : Family) → Keeps family keys.Y
keeps_y family d arguments has sound e =
    let rows = none_applies (keyed_faults family d keys.Y arguments) e in
    let at = place family d keys.Y rows.1.0 in
    let up : d.rank ≤ 6 = at.up in
    let below = not_false (list_all (λ n. nat_lt n (points_so_far family d)) (numbers_of arguments))
    rows.1.1.1.0 in
    let order = sound.order in
    record {
      order = record {
        target = λ lt. absurd (omega arith);
        lists = λ lt. absurd (omega arith);
        x = λ lt. absurd (omega arith);
        y = λ lt. absurd (omega arith);
        turn = λ lt. order.turn (omega arith);
      };
      size = λ h. sound.size (head_two family d.rank at.needed);
      ends = sound.ends;
      vectors = sound.vectors;
      marks = record {
        x_below = sound.marks.x_below;
        y_below = set_below (points_so_far family d) (numbers_of arguments) below;
        apart = λ v h. in_set_of (numbers_of arguments) v
            ∙ repeats_apart d.x (numbers_of arguments) v rows.1.1.1.1.0 h;
      };
    }

keeps_turn : (family : Family) → Keeps family keys.Turn
keeps_turn family d arguments has sound e =
    let rows = none_applies (keyed_faults family d keys.Turn arguments) e in
    let at = place family d keys.Turn rows.1.0 in
    record {
      order = record {
        target = λ lt. absurd (omega arith);
        lists = λ lt. absurd (omega arith);
        x = λ lt. absurd (omega arith);
        y = λ lt. absurd (omega arith);
        turn = λ lt. absurd (omega arith);
      };
      size = λ h. sound.size (head_two family d.rank at.needed);
      ends = sound.ends;
      vectors = sound.vectors;
      marks = sound.marks;
    }

keeps : (family : Family) (key : Key) → Keeps family key
keeps family keys.Vertices = keeps_vertices family
keeps family keys.Edge = keeps_edge family
keeps family keys.Rows = keeps_rows family
keeps family keys.Target = keeps_target family
keeps family keys.Vector = keeps_vector family
keeps family keys.X = keeps_x family
keeps family keys.Y = keeps_y family
keeps family keys.Turn = keeps_turn family

-- ---- lines

found_first : (test : Key → Bool) (k key : Key) (b : Bool) (others : Option Key)
    → test k ≡ b
    → (others ≡ Some key → test key ≡ true)
    → cond b (Some k) others ≡ Some key
    → test key ≡ true
found_first test k key true others is later e = let same : k ≡ key = cc in ap test (sym same) ∙ is
found_first test k key false others is later e = later e

found_passes : (test : Key → Bool) (ks : List Key) (key : Key)
    → find test ks ≡ Some key
    → test key ≡ true
found_passes test [] key e = absurd cc
found_passes test (k ∷ ks) key e =
    found_first test k key (test k) (find test ks) refl (found_passes test ks key) e

-- a word stands for keys of the family alone
key_fits : (family : Family) (word : Bytes) (key : Key)
    → key_of family word ≡ Some key
    → has_key family key ≡ true
key_fits family word key e =
    (and_parts (has_key family key) (bytes_eq (key_name key) word)
    (found_passes (λ k. has_key family k && bytes_eq (key_name k) word) all_keys key e)).0

keyed_ok : (family : Family) (d next : Draft) (key : Key) (arguments : List Bytes)
    → keyed family d key arguments ≡ Ok next
    → (keyed_fault family d key arguments ≡ None) × (said d key arguments ≡ next)
unfolding keyed
keyed_ok family d next key arguments e =
    unless_ok (keyed_fault family d key arguments) (said d key arguments) next e

sound_named : (family : Family) (d next : Draft) (word : Bytes) (key : Option Key)
    (arguments : List Bytes)
    → IsSound family d
    → key_of family word ≡ key
    → named family d key arguments ≡ Ok next
    → IsSound family next
sound_named family d next word None arguments sound is e = absurd cc
sound_named family d next word (Some key) arguments sound is e =
    let found = keyed_ok family d next key arguments e in
    subst (IsSound family) found.1
    (keeps family key d arguments (key_fits family word key is) sound found.0)

begins : (family : Family) (d : Draft)
    → IsSound family d
    → IsSound family (record d { begun = true })
begins family d sound = record {
  order = record {
    target = sound.order.target;
    lists = sound.order.lists;
    x = sound.order.x;
    y = sound.order.y;
    turn = sound.order.turn;
  };
  size = sound.size;
  ends = sound.ends;
  vectors = sound.vectors;
  marks = sound.marks;
}

sound_significant : (family : Family) (d next : Draft) (ws : List Bytes)
    → IsSound family d
    → significant family d ws ≡ Ok next
    → IsSound family next
unfolding significant
sound_significant family d next ws sound e =
    elim (chosen d.begun (named family d (key_of family (first ws)) (rest ws))
    (cond (is_header family ws) (Ok (record d { begun = true })) (Err faults.Header)) (Ok next) e) [
      | inl h ↦
          sound_named family d next (first ws) (key_of family (first ws)) (rest ws) sound refl h.1
      | inr h ↦ elim (chosen (is_header family ws) (done (record d {
        begun = true;
      })) (Err faults.Header) (Ok next) h.1) [
        | inl k ↦ subst (IsSound family) (ok_is (record d { begun = true }) next k.1)
            (begins family d sound)
        | inr k ↦ absurd (cc k.1)
      ]
    ]

sound_after : (family : Family) (d next : Draft) (line : Bytes)
    → IsSound family d
    → after family d line ≡ Ok next
    → IsSound family next
unfolding after
sound_after family d next line sound e =
    elim (chosen (not (list_all is_printable line)) (Err faults.Bytes)
    (cond (begins_comment line || length (words line) == 0) (Ok d)
    (significant family d (words line))) (Ok next) e) [
      | inl h ↦ absurd (cc h.1)
      | inr h ↦ elim (chosen (begins_comment line || length (words line) == 0) (done d)
          (significant family d (words line)) (Ok next) h.1) [
            | inl k ↦ subst (IsSound family) (ok_is d next k.1) sound
            | inr k ↦ sound_significant family d next (words line) sound k.1
          ]
    ]

sound_step : (family : Family) (n : ℕ) (r : Result Draft Fault) (others : List Bytes) (last : Draft)
    → ((next : Draft) → r ≡ Ok next
    → reading (after family) (n + 1) next others ≡ Ok last
    → IsSound family last)
    → go_on n r (λ next. reading (after family) (n + 1) next others) ≡ Ok last
    → IsSound family last
sound_step family n (Ok next) others last h e = h next refl e
sound_step family n (Err f) others last h e = absurd cc

sound_reading : (family : Family) (n : ℕ) (d last : Draft) (ls : List Bytes)
    → IsSound family d
    → reading (after family) n d ls ≡ Ok last
    → IsSound family last
unfolding reading
sound_reading family n d last [] sound e = subst (IsSound family) (ok_is d last e) sound
sound_reading family n d last (line ∷ others) sound e =
    sound_step family n (after family d line) others last (λ next went f.
    sound_reading family (n + 1) next last others (sound_after family d next line sound went) f) e

sound_nothing : (family : Family) → IsSound family nothing
sound_nothing family = record {
  order = record {
    target = λ lt. refl;
    lists = λ lt. (refl, refl);
    x = λ lt. refl;
    y = λ lt. refl;
    turn = λ lt. refl;
  };
  size = λ h. absurd (omega arith);
  ends = no_ends 0 [] refl;
  vectors = no_vectors 0 0 [] (lit< tt) refl;
  marks = no_marks _ empty empty refl refl;
}

-- ---- whole files

-- what a whole file has said is within the limits, and the number of rank 2 has been said
pub record IsComplete (family : Family) (w : Whole) : Type 0 where
  pub sound : IsSound family w.draft
  pub size : HasSize family w.draft.vertices w.draft.rows

complete : (family : Family) (d : Draft) (turn : Side)
    → IsSound family d
    → d.turn ≡ Some turn
    → IsComplete family (record { draft = d; turn = turn })
complete family d turn sound is =
    let high : 7 ≤ d.rank = elim (cases_lt d.rank 7) [
      | inl lt ↦ let none : d.turn ≡ None = sound.order.turn lt in absurd cc
      | inr ge ↦ ge
    ] in
    record { sound = sound; size = sound.size (omega arith) }

turned_complete : (family : Family) (d : Draft) (turn : Option Side) (w : Whole)
    → IsSound family d
    → d.turn ≡ turn
    → turned d turn ≡ Ok w
    → IsComplete family w
turned_complete family d (Some turn) w sound is e = subst (IsComplete family)
    (ok_is (record { draft = d; turn = turn }) w e) (complete family d turn sound is)
turned_complete family d None w sound is e = absurd cc

end_complete : (family : Family) (begun : Bool) (d : Draft) (w : Whole)
    → IsSound family d
    → cond begun (turned d d.turn) (Err (faults.Header, 0)) ≡ Ok w
    → IsComplete family w
end_complete family true d w sound e = turned_complete family d d.turn w sound refl e
end_complete family false d w sound e = absurd cc

ended_complete : (family : Family) (read : Result Draft (Fault × ℕ)) (w : Whole)
    → ((d : Draft) → read ≡ Ok d → IsSound family d)
    → ended read ≡ Ok w
    → IsComplete family w
ended_complete family (Ok d) w sound e = end_complete family d.begun d w (sound d refl) e
ended_complete family (Err f) w sound e = absurd cc

size_complete : (family : Family) (big : Bool) (read : Result Draft (Fault × ℕ)) (w : Whole)
    → ((d : Draft) → read ≡ Ok d → IsSound family d)
    → cond big (Err (faults.Size, 0)) (ended read) ≡ Ok w
    → IsComplete family w
size_complete family true read w sound e = absurd cc
size_complete family false read w sound e = ended_complete family read w sound e

pub whole_complete : (family : Family) (text : Bytes) (w : Whole)
    → whole family text ≡ Ok w
    → IsComplete family w
unfolding whole
whole_complete family text w e = size_complete family (nat_lt 4194304 (length text))
    (reading (after family) 1 nothing (lines text)) w
    (λ d h. sound_reading family 1 nothing d (lines text) (sound_nothing family) h) e

-- ---- games

pub span_fits : (w : Whole)
    → IsComplete families.Connectivity w
    → AreSpanParts (span_of w).graph w.draft.x w.draft.y
span_fits w h =
    let some = h.size.0 in
    record {
      graph = record {
        few_edges = h.sound.ends.count;
        s_range = omega (arith, some);
        t_range = omega (arith, some);
        ends_range = h.sound.ends.each;
      };
      some_vertices = some;
      few_vertices = h.size.1;
      first_terminal = refl;
      second_terminal = refl;
      x_range = h.sound.marks.x_below;
      y_range = h.sound.marks.y_below;
      disjoint = h.sound.marks.apart;
    }

pub vectors_fit : (w : Whole)
    → IsComplete families.Vectors w
    → AreVectorParts w.draft.rows w.draft.target w.draft.vectors w.draft.x w.draft.y
vectors_fit w h = record {
  some_rows = h.size.0;
  few_rows = h.size.1;
  few_vectors = h.sound.vectors.count;
  target_range = h.sound.vectors.goal;
  vectors_range = h.sound.vectors.each;
  x_range = h.sound.marks.x_below;
  y_range = h.sound.marks.y_below;
  disjoint = h.sound.marks.apart;
}

made_ok : {G : Type 0} (make : Whole → G) (read : Result Whole (Fault × ℕ)) (g : G)
    → made make read ≡ Ok g
    → (w : Whole) × (read ≡ Ok w) × (make w ≡ g)
made_ok make (Ok w) g e = (w, refl, ok_is (make w) g e)
made_ok make (Err f) g e = absurd cc

pub span_game_fits : (text : Bytes) (g : SpanEntry)
    → span_game text ≡ Ok g
    → AreSpanParts g.graph g.x g.y
span_game_fits text g e =
    let found = made_ok span_of (whole families.Connectivity text) g e in
    subst (λ (h : SpanEntry). AreSpanParts h.graph h.x h.y) found.2
    (span_fits found.0 (whole_complete families.Connectivity text found.0 found.1))

pub vector_game_fits : (text : Bytes) (g : VectorEntry)
    → vector_game text ≡ Ok g
    → AreVectorParts g.rows g.target g.vectors g.x g.y
vector_game_fits text g e =
    let found = made_ok vectors_of (whole families.Vectors text) g e in
    subst (λ (h : VectorEntry). AreVectorParts h.rows h.target h.vectors h.x h.y) found.2
    (vectors_fit found.0 (whole_complete families.Vectors text found.0 found.1))
