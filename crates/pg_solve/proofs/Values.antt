-- What a value is by what the sides force.
use Rattle.std.proofs.Common.{◌≡◌, ◌≢◌, IsTrue, refl}
use Rattle.pg_solve.proofs.Common.{false≢true, Win, Score, XWins, Draw, YWins, X, Y, reaches}
use Rattle.pg_base.specs.declared.goal.Goal.TheVariants.{Draw as AtLeastDraw}

pub x-wins : (s : Score) → IsTrue (reaches X Win s) → s ≡ XWins
x-wins XWins h = refl
x-wins Draw h = absurd (false≢true h)
x-wins YWins h = absurd (false≢true h)

pub y-wins : (s : Score) → IsTrue (reaches Y Win s) → s ≡ YWins
y-wins XWins h = absurd (false≢true h)
y-wins Draw h = absurd (false≢true h)
y-wins YWins h = refl

-- Y gets at least a draw
pub x-denied : (s : Score) → IsTrue (reaches Y AtLeastDraw s) → s ≢ XWins
x-denied XWins h e = false≢true h
x-denied Draw h e = cc
x-denied YWins h e = cc

-- both sides get at least a draw
pub both-draw : (s : Score)
    → IsTrue (reaches X AtLeastDraw s)
    → IsTrue (reaches Y AtLeastDraw s)
    → s ≡ Draw
both-draw XWins h k = absurd (false≢true k)
both-draw Draw h k = refl
both-draw YWins h k = absurd (false≢true h)
