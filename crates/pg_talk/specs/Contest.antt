-- What two sides contend in: a game by its rules alone, and the words that say its outcome.
use Rattle.pg_talk.specs.Prelude.{Kind, Game, Rules}
use Rattle.pg_game.specs.Value.{rules_of}

-- the rules, and the kind whose words say an outcome
pub record Contest : Type 0 where
  pub rules : Rules
  pub kind : Kind

-- a game's own rules and words
abbrev pub contest_of : Game → Contest
contest_of g = record { rules = rules_of g; kind = g.kind }
