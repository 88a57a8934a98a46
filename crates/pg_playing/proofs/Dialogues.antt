-- Parts of a dialogue, put together.
use Rattle.std.proofs.Common.{◌≡◌, ℕ, ◌<◌, Bool, false, [], ◌∷◌, Result, Ok, Err}
use Rattle.std.proofs.Common.{inl, refl, sym, ◌∙◌, subst}
use Rattle.pg_playing.proofs.Common.{Bytes, ConsoleTold, Course, Grows, Reply, Said}
use Rattle.pg_playing.proofs.Common.{Stop, course_said, course_then}
use Rattle.pg_table.specs.declared.reply.Reply.TheVariants.{Point}
use Rattle.pg_playing.specs.Courses.{Goes}
use Rattle.pg_playing.specs.Dialogue.{Allows, Follows, Listens, Rules, Shows, Stage, Steps, Turns}
use Rattle.pg_playing.specs.Dialogue.{after_shown}
use Rattle.pg_playing.specs.declared.bout.Turn.{Turn}
use Rattle.pg_playing.specs.declared.dialogue.TheConstants.{MAX_HEARD}
use Rattle.pg_playing.proofs.Courses.{goes_more, goes_then}
use Rattle.pg_playing.proofs.Stages.{shown_goes_on}

-- ---- rules that allow no more

-- the same rules do
pub allows_same : {S : Type 0} (R : Rules S) → Allows R R
allows_same R =
    record { same_game = refl; steps = λ s entry t step. step; holds = λ s holds. holds }

pub allows_then : {S : Type 0} (R Q P : Rules S) → Allows R Q → Allows Q P → Allows R P
allows_then R Q P first second = record {
  same_game = second.same_game ∙ first.same_game;
  steps = λ s entry t step. first.steps s entry t (second.steps s entry t step);
  holds = λ s holds. first.holds s (second.holds s holds);
}

-- ---- texts and lines

-- a text was said after others
pub says_then : {S : Type 0} (R Q : Rules S) (a b c : ConsoleTold) (first s : S) (heard : ℕ)
    (said text : Bytes) (next : Stage S)
    → Allows R Q
    → Course (Steps R) a b (Shows first heard) (Shows s heard)
    → Grows b.log c.log (Said said ∷ [])
    → c.left ≡ b.left
    → said ≡ text
    → Q.Prints s heard text next
    → Course (Steps R) a c (Shows first heard) next
says_then R Q a b c first s heard said text next allows so_far grows left same prints =
    course_then (Steps R) a b c (Shows first heard) (Shows s heard) next so_far
    (course_said (Steps R) b c said (Shows s heard) next grows left
    (allows.steps (Shows s heard) (Said said) next
    (subst (λ (t : Bytes). Q.Prints s heard t next) (sym same) prints)))

-- a point that was claimed is one of those numbers that lines name
pub turns_claim : {S M : Type 0} (R : Rules S) (s new : S) (heard v : ℕ) (asked : Reply)
    (r : Result Turn M)
    → asked ≡ Point v
    → Turns (R.Claims s heard v) new heard r
    → Turns (Follows R s heard asked) new heard r
turns_claim {M} R s new heard v asked r is claims =
    subst (λ (k : Reply). Turns (Follows R s heard k) new heard r) (sym is) (go r claims)
  where
    go : (r : Result Turn M)
        → Turns (R.Claims s heard v) new heard r
        → Turns (Follows R s heard (Point v)) new heard r
    go (Ok turn) claims = inl claims
    go (Err _) (next, claims) = (next, inl claims)

-- work by rules that allow no more
pub goes_allowed : {S T : Type 0} (R Q : Rules S) (a b c : ConsoleTold) (first s : Stage S)
    (r : Result T Stop) (to : T → Stage S)
    → Allows R Q
    → Course (Steps R) a b first s
    → Goes (Steps Q) b c s r to
    → Goes (Steps R) a c first r to
goes_allowed R Q a b c first s r to allows so_far goes =
    goes_then (Steps R) a b c first s r to so_far
    (goes_more (Steps Q) (Steps R) allows.steps b c s r to goes)

-- a line after others
pub line_goes : {S T : Type 0} (R Q : Rules S) (a b c : ConsoleTold) (first : Stage S)
    (ended : Bool) (s : S) (heard : ℕ) (r : Result T Stop) (to : T → Stage S)
    → Allows R Q
    → ended ≡ false
    → heard < MAX_HEARD
    → Course (Steps R) a b first (after_shown ended s heard)
    → Goes (Steps Q) b c (Listens s heard) r to
    → Goes (Steps R) a c first r to
line_goes {S} R Q a b c first ended s heard r to allows going room so_far goes =
    goes_allowed R Q a b c first (Listens s heard) r to allows
    (subst (λ (m : Stage S). Course (Steps R) a b first m) (shown_goes_on ended s heard going room)
    so_far) goes
