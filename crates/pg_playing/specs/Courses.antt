-- What the code does on a console, by rules.
use Rattle.std.specs.Prelude.{Option, Result, Ok, Err}
use Rattle.pg_playing.specs.Prelude.{Bytes, ConsoleTold, Course, Entry, Stop, Read, Write, Memory}
use Rattle.pg_playing.specs.Prelude.{with_left}

-- after entries that lead to some stage a call has failed, or memory ran out; what is left of the
-- input isn't known after a call that has failed
abbrev pub Breaks : {S : Type 0}
    → (S → Entry → S → Type 0)
    → ConsoleTold
    → ConsoleTold
    → S
    → Stop
    → Type 0
Breaks {S} Steps before now s Read =
    (unread : Option Bytes) × (t : S) × Course Steps before (with_left now unread) s t
Breaks {S} Steps before now s Write =
    (unread : Option Bytes) × (t : S) × Course Steps before (with_left now unread) s t
Breaks {S} Steps before now s Memory = (t : S) × Course Steps before now s t

-- work that leads from a stage to the one that belongs to what it returns, or breaks off
abbrev pub Goes : {S T : Type 0}
    → (S → Entry → S → Type 0)
    → ConsoleTold
    → ConsoleTold
    → S
    → Result T Stop
    → (T → S)
    → Type 0
Goes Steps before now s (Ok x) to = Course Steps before now s (to x)
Goes Steps before now s (Err stop) to = Breaks Steps before now s stop

-- work from some stage of those to which a line leads
abbrev pub GoesFrom : {S T : Type 0}
    → (S → Entry → S → Type 0)
    → ConsoleTold
    → ConsoleTold
    → (S → Type 0)
    → Result T Stop
    → (T → S)
    → Type 0
GoesFrom {S} Steps before now Leads result to =
    (next : S) × Leads next × Goes Steps before now next result to
