-- Texts whose lines fit into a number of columns, by what they add to a line.
use Rattle.std.proofs.Common.{◌≡◌, ◌∙◌, ℕ, zero, suc, ◌+◌, ◌*◌, ◌<◌, ◌≤◌, Bool, true, false, refl}
use Rattle.std.proofs.Common.{List, [], ◌∷◌, ◌++◌, length, sym, ap, arith, subst, append_assoc}
use Rattle.std.proofs.Common.{inl, inr, nat_le, if◌then◌else◌}
use Rattle.std.specs.Prelude.{◌==◌, ◌&&◌, not, codes}
use Rattle.std.specs.List.{AllByRecursion, flat_map, list_all, range_with_len, slice_split}
use Rattle.std.specs.List.{onto_first}
use Rattle.std.proofs.lemmas.Bool.{and_parts, cases_Bool, eqb-true}
use Rattle.std.proofs.lemmas.Bool.Decides.{nat_tests}
use Rattle.std.proofs.lemmas.List.{append-nil}
use Rattle.std.proofs.lemmas.List.Elements.{All-from_recursion}
use Rattle.std.proofs.lemmas.List.Splits.{slice_split-cons_no, slice_split-cons_yes}
use Rattle.pg_base.specs.Texts.{Bytes}
use Rattle.pg_text.specs.Text.{lines, without_empty_end}
use Rattle.pg_characters.specs.Columns.{FitsIn, begins_code, columns_from, columns_of, ends_code}

-- whether each line keeps within so many columns in a text that goes on from a column, within a
-- colour code or outside
pub keeps : ℕ → ℕ → Bool → Bytes → Bool
keeps most at within [] = nat_le at most
keeps most at true (b ∷ others) = elim (b == 10) [
  | true ↦ nat_le at most && keeps most 0 false others
  | false ↦ keeps most at (not (ends_code b)) others
]
keeps most at false (b ∷ others) = elim (b == 10) [
  | true ↦ nat_le at most && keeps most 0 false others
  | false ↦ elim (begins_code b) [
    | true ↦ keeps most at true others
    | false ↦ keeps most (at + 1) false others
  ]
]

module _ (most at : ℕ) where
  at_end : (within : Bool) → keeps most at within [] ≡ nat_le at most
  unfolding keeps
  at_end true = refl
  at_end false = refl

  at_feed : (within : Bool) (b : ℕ) (bs : Bytes)
      → (b == 10) ≡ true
      → keeps most at within (b ∷ bs) ≡ (nat_le at most && keeps most 0 false bs)
  unfolding keeps
  at_feed true b bs feed = rw (keeps, feed) refl
  at_feed false b bs feed = rw (keeps, feed) refl

  in_code : (b : ℕ) (bs : Bytes)
      → (b == 10) ≡ false
      → keeps most at true (b ∷ bs) ≡ keeps most at (not (ends_code b)) bs
  unfolding keeps
  in_code b bs apart = rw (keeps, apart) refl

  to_code : (b : ℕ) (bs : Bytes)
      → (b == 10) ≡ false
      → begins_code b ≡ true
      → keeps most at false (b ∷ bs) ≡ keeps most at true bs
  unfolding keeps
  to_code b bs apart code = rw (keeps, apart, code) refl

  plainly : (b : ℕ) (bs : Bytes)
      → (b == 10) ≡ false
      → begins_code b ≡ false
      → keeps most at false (b ∷ bs) ≡ keeps most (at + 1) false bs
  unfolding keeps
  plainly b bs apart plain = rw (keeps, apart, plain) refl

low_enough : (at most : ℕ) → at ≤ most → nat_le at most ≡ true
low_enough at most low = grind (arith, nat_tests, low)

is_low : (at most : ℕ) → nat_le at most ≡ true → at ≤ most
is_low at most h = grind (arith, nat_tests, h)

-- the end of a line at a lower column
lower_feed : (most at high : ℕ) (within : Bool) (b : ℕ) (bs : Bytes)
    → at ≤ high
    → (b == 10) ≡ true
    → keeps most high within (b ∷ bs) ≡ true
    → keeps most at within (b ∷ bs) ≡ true
lower_feed most at high within b bs few feed h =
    let parts = and_parts _ _ (sym (at_feed most high within b bs feed) ∙ h) in
    let was = is_low high most parts.0 in
    let now = low_enough at most (omega (arith, few, was)) in
    at_feed most at within b bs feed ∙ rw (now, parts.1) refl

-- a text that goes on from a lower column
lower : (most at high : ℕ) (within : Bool) (t : Bytes)
    → at ≤ high
    → keeps most high within t ≡ true
    → keeps most at within t ≡ true
lower most at high within [] few h =
    let was = is_low high most (sym (at_end most high within) ∙ h) in
    at_end most at within ∙ low_enough at most (omega (arith, few, was))
lower most at high true (b ∷ bs) few h = elim (cases_Bool (b == 10)) [
  | inl feed ↦ lower_feed most at high true b bs few feed h
  | inr apart ↦ in_code most at b bs apart
      ∙ lower most at high (not (ends_code b)) bs few (sym (in_code most high b bs apart) ∙ h)
]
lower most at high false (b ∷ bs) few h = elim (cases_Bool (b == 10)) [
  | inl feed ↦ lower_feed most at high false b bs few feed h
  | inr apart ↦ elim (cases_Bool (begins_code b)) [
    | inl code ↦ to_code most at b bs apart code
        ∙ lower most at high true bs few (sym (to_code most high b bs apart code) ∙ h)
    | inr plain ↦ plainly most at b bs apart plain
        ∙ lower most (at + 1) (high + 1) false bs (omega (arith, few))
        (sym (plainly most high b bs apart plain) ∙ h)
  ]
]

-- ---- the lines of such a text

-- the first part goes on from a column, and each part keeps within so many columns
abbrev FitParts : ℕ → ℕ → Bool → List Bytes → Type 0
FitParts most at within [] = ⊥
FitParts most at within (p ∷ ps) = (at + columns_from within p ≤ most)
    × AllByRecursion (λ line. columns_of line ≤ most) ps

all_fit : (most : ℕ) (ps : List Bytes)
    → FitParts most 0 false ps
    → AllByRecursion (λ line. columns_of line ≤ most) ps
all_fit most [] h = absurd h
all_fit most (p ∷ ps) h = (omega (arith, h.0), h.1)

no_columns : (within : Bool) → columns_from within [] ≡ 0
unfolding columns_from
no_columns true = refl
no_columns false = refl

onto : (most at next : ℕ) (within after : Bool) (b : ℕ) (ps : List Bytes)
    → ((q : Bytes) → at + columns_from within (b ∷ q) ≡ next + columns_from after q)
    → FitParts most next after ps
    → FitParts most at within (onto_first b ps)
onto most at next within after b [] same h = absurd h
onto most at next within after b (q ∷ qs) same h =
    (let e = same q in omega (arith, e, h.0), h.1)

feed_fits : (most at : ℕ) (within : Bool) (b : ℕ) (bs : Bytes)
    → (b == 10) ≡ true
    → at ≤ most
    → FitParts most 0 false (slice_split (λ b. b == 10) bs)
    → FitParts most at within (slice_split (λ b. b == 10) (b ∷ bs))
feed_fits most at within b bs feed low h =
    let none = no_columns within in
    subst (FitParts most at within) (sym (slice_split-cons_yes (λ b. b == 10) b bs feed))
    (omega (arith, none, low), all_fit most _ h)

parts_fit : (most at : ℕ) (within : Bool) (t : Bytes)
    → keeps most at within t ≡ true
    → FitParts most at within (slice_split (λ b. b == 10) t)
unfolding columns_from
parts_fit most at within [] h =
    let none = no_columns within in
    let low = is_low at most (sym (at_end most at within) ∙ h) in
    (omega (arith, none, low), tt)
parts_fit most at true (b ∷ bs) h = elim (cases_Bool (b == 10)) [
  | inl feed ↦
      let parts = and_parts _ _ (sym (at_feed most at true b bs feed) ∙ h) in
      feed_fits most at true b bs feed (is_low at most parts.0)
      (parts_fit most 0 false bs parts.1)
  | inr apart ↦ subst (FitParts most at true) (sym (slice_split-cons_no (λ b. b == 10) b bs apart))
      (onto most at at true (not (ends_code b)) b _ (λ q. refl)
      (parts_fit most at (not (ends_code b)) bs (sym (in_code most at b bs apart) ∙ h)))
]
parts_fit most at false (b ∷ bs) h = elim (cases_Bool (b == 10)) [
  | inl feed ↦
      let parts = and_parts _ _ (sym (at_feed most at false b bs feed) ∙ h) in
      feed_fits most at false b bs feed (is_low at most parts.0)
      (parts_fit most 0 false bs parts.1)
  | inr apart ↦ subst (FitParts most at false) (sym (slice_split-cons_no (λ b. b == 10) b bs apart))
      (elim (cases_Bool (begins_code b)) [
        | inl code ↦ onto most at at false true b _ (λ q. rw code refl)
            (parts_fit most at true bs (sym (to_code most at b bs apart code) ∙ h))
        | inr plain ↦ onto most at (at + 1) false false b _ (λ q. rw plain (omega arith))
            (parts_fit most (at + 1) false bs (sym (plainly most at b bs apart plain) ∙ h))
      ])
]

trimmed : (P : Bytes → Type 0) (ps : List Bytes)
    → AllByRecursion P ps
    → AllByRecursion P (without_empty_end ps)
trimmed P [] h = tt
trimmed P (p ∷ []) h = go (length p == 0) where
  go : (none : Bool) → AllByRecursion P (if none then [] else p ∷ [])
  go true = tt
  go false = h
trimmed P (p ∷ q ∷ qs) h = (h.0, trimmed P (q ∷ qs) h.1)

fits : (most : ℕ) (t : Bytes) → keeps most 0 false t ≡ true → FitsIn most t
unfolding lines
fits most t h = All-from_recursion (λ line. columns_of line ≤ most) (lines t)
    (trimmed (λ line. columns_of line ≤ most) (slice_split (λ b. b == 10) t)
    (all_fit most _ (parts_fit most 0 false t h)))

-- ---- a text within a line

-- a text of at most so many columns
abbrev pub Wide : ℕ → Bytes → Type 0
Wide width s = (most at : ℕ) → (t : Bytes) → keeps most (at + width) false t ≡ true
    → keeps most at false (s ++ t) ≡ true

pub wide_none : Wide 0 []
wide_none = λ most at t h. lower most at (at + 0) false t (omega arith) h

pub wide_less : (few many : ℕ) (s : Bytes) → few ≤ many → Wide few s → Wide many s
wide_less few many s low f = λ most at t h.
    f most at t (lower most (at + few) (at + many) false t (omega (arith, low)) h)

pub wide_and : (v w : ℕ) (s u : Bytes) → Wide v s → Wide w u → Wide (v + w) (s ++ u)
wide_and v w s u f g = λ most at t h.
    ap (keeps most at false) (append_assoc s u t)
    ∙ f most at (u ++ t)
    (g most (at + v) t (lower most (at + v + w) (at + (v + w)) false t (omega arith) h))

-- a byte that takes a column
abbrev pub is_plain : ℕ → Bool
is_plain b = not (b == 10) && not (begins_code b)

is_not : (x : Bool) → not x ≡ true → x ≡ false
is_not true h = sym h
is_not false h = refl

pub wide_plain : (s : Bytes) → list_all is_plain s ≡ true → Wide (length s) s
wide_plain [] h = wide_none
wide_plain (b ∷ bs) h = λ most at t k.
    let parts = and_parts (is_plain b) (list_all is_plain bs) h in
    let signs = and_parts (not (b == 10)) (not (begins_code b)) parts.0 in
    plainly most at b (bs ++ t) (is_not _ signs.0) (is_not _ signs.1)
    ∙ wide_plain bs parts.1 most (at + 1) t
    (lower most (at + 1 + length bs) (at + length (b ∷ bs)) false t (omega arith) k)

-- a colour code
pub wide_code : (s : Bytes)
    → ((most at : ℕ) → (t : Bytes) → keeps most at false (s ++ t) ≡ keeps most at false t)
    → Wide 0 s
wide_code s same = λ most at t h. same most at t ∙ lower most at (at + 0) false t (omega arith) h

pub wide_red : Wide 0 (27 ∷ codes "[31m")
unfolding keeps
wide_red = wide_code (27 ∷ codes "[31m") (λ most at t. refl)

pub wide_blue : Wide 0 (27 ∷ codes "[34m")
unfolding keeps
wide_blue = wide_code (27 ∷ codes "[34m") (λ most at t. refl)

pub wide_normal : Wide 0 (27 ∷ codes "[0m")
unfolding keeps
wide_normal = wide_code (27 ∷ codes "[0m") (λ most at t. refl)

-- texts beside each other, each of at most so many columns
pub wide_each : (width : ℕ) (f : ℕ → Bytes) (first many : ℕ)
    → ((k : ℕ) → first ≤ k → k < first + many → Wide width (f k))
    → Wide (width * many) (flat_map f (range_with_len first many))
wide_each width f first zero h = wide_less 0 (width * zero) [] (omega arith) wide_none
wide_each width f first (suc many) h =
    wide_less (width + width * many) (width * suc many)
    (flat_map f (range_with_len first (suc many))) (omega arith)
    (wide_and width (width * many) (f first) (flat_map f (range_with_len (first + 1) many))
    (h first (omega arith) (omega arith)) (wide_each width f (first + 1) many
    (λ k low high. h k (omega (arith, low)) (omega (arith, high)))))

-- ---- the end of a line

-- a text of so many columns and then the end of the line; whole lines may follow
abbrev pub Ends : ℕ → ℕ → Bytes → Type 0
Ends most width s = (at : ℕ) → at + width ≤ most → (t : Bytes) → keeps most 0 false t ≡ true
    → keeps most at false (s ++ t) ≡ true

pub ends_feed : (most : ℕ) → Ends most 0 (codes "\n")
ends_feed most = λ at few t h.
    let now : nat_le at most ≡ true = low_enough at most (omega (arith, few)) in
    at_feed most at false 10 t refl ∙ rw (now, h) refl

pub ends_and : (most v w : ℕ) (s u : Bytes) → Wide v s → Ends most w u → Ends most (v + w) (s ++ u)
ends_and most v w s u f g = λ at few t h.
    ap (keeps most at false) (append_assoc s u t)
    ∙ f most at (u ++ t) (g (at + v) (omega (arith, few)) t h)

-- ---- whole lines

-- a text of whole lines
abbrev pub Whole : ℕ → Bytes → Type 0
Whole most s = (t : Bytes) → keeps most 0 false t ≡ true → keeps most 0 false (s ++ t) ≡ true

pub whole_none : (most : ℕ) → Whole most []
whole_none most = λ t h. h

pub whole_and : (most : ℕ) (s u : Bytes) → Whole most s → Whole most u → Whole most (s ++ u)
whole_and most s u f g = λ t h. ap (keeps most 0 false) (append_assoc s u t) ∙ f (u ++ t) (g t h)

pub whole_line : (most width : ℕ) (s : Bytes) → width ≤ most → Ends most width s → Whole most s
whole_line most width s few f = λ t h. f 0 (omega (arith, few)) t h

pub whole_each : (most : ℕ) (f : ℕ → Bytes) (first many : ℕ)
    → ((k : ℕ) → first ≤ k → k < first + many → Whole most (f k))
    → Whole most (flat_map f (range_with_len first many))
whole_each most f first zero h = whole_none most
whole_each most f first (suc many) h =
    whole_and most (f first) (flat_map f (range_with_len (first + 1) many))
    (h first (omega arith) (omega arith)) (whole_each most f (first + 1) many
    (λ k low high. h k (omega (arith, low)) (omega (arith, high))))

-- whether each line keeps within so many columns in a text of plain bytes that goes on from a
-- column and ends with the end of a line
unfoldable pub rows_keep : ℕ → ℕ → Bytes → Bool
rows_keep most at [] = at == 0
rows_keep most at (b ∷ others) = elim (b == 10) [
  | true ↦ nat_le at most && rows_keep most 0 others
  | false ↦ not (begins_code b) && rows_keep most (at + 1) others
]

rows_hold : (few most at : ℕ) (s t : Bytes)
    → few ≤ most
    → rows_keep few at s ≡ true
    → keeps most 0 false t ≡ true
    → keeps most at false (s ++ t) ≡ true
unfolding rows_keep
rows_hold few most at [] t low h k =
    ap (λ (column : ℕ). keeps most column false t) (eqb-true at 0 h) ∙ k
rows_hold few most at (b ∷ bs) t low h k = elim (cases_Bool (b == 10)) [
  | inl feed ↦
      let here : rows_keep few at (b ∷ bs) ≡ (nat_le at few && rows_keep few 0 bs) =
      rw (rows_keep, feed) refl in
      let parts = and_parts _ _ (sym here ∙ h) in
      let was = is_low at few parts.0 in
      let now = low_enough at most (omega (arith, low, was)) in
      at_feed most at false b (bs ++ t) feed
      ∙ rw (now, rows_hold few most 0 bs t low parts.1 k) refl
  | inr apart ↦
      let here : rows_keep few at (b ∷ bs)
      ≡ (not (begins_code b) && rows_keep few (at + 1) bs) = rw (rows_keep, apart) refl in
      let parts = and_parts _ _ (sym here ∙ h) in
      plainly most at b (bs ++ t) apart (is_not _ parts.0)
      ∙ rows_hold few most (at + 1) bs t low parts.1 k
]

-- a text that is one of whole lines by what it is
abbrev pub ArePlainRows : Bytes → Type 0
ArePlainRows s = rows_keep 80 0 s ≡ true

pub whole_rows : (most : ℕ) (s : Bytes) → 80 ≤ most → ArePlainRows s → Whole most s
whole_rows most s wide h = λ t k. rows_hold 80 most 0 s t wide h k

-- ---- whole texts

pub whole_fits : (most : ℕ) (s : Bytes) → Whole most s → FitsIn most s
whole_fits most s f = fits most s
    (ap (keeps most 0 false) (sym (append-nil s))
    ∙ f [] (at_end most 0 false ∙ low_enough 0 most (omega arith)))

-- whole lines, and then one that doesn't end
pub wide_fits : (most width : ℕ) (s u : Bytes)
    → Whole most s
    → Wide width u
    → width ≤ most
    → FitsIn most (s ++ u)
wide_fits most width s u f g few = fits most (s ++ u)
    (f u (ap (keeps most 0 false) (sym (append-nil u))
    ∙ g most 0 [] (at_end most (0 + width) false ∙ low_enough (0 + width) most
    (omega (arith, few)))))
