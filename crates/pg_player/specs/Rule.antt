-- The rule by which a player moves.
use Rattle.pg_player.specs.Prelude.{Body, Over, Move, All, Pairs, Potential, Trees, Cuts, Threat}
use Rattle.pg_player.specs.Prelude.{Weaker}
use Rattle.pg_player.specs.declared.rule.Rule.{Rule}
use Rattle.pg_player.specs.declared.rule.Rule.TheVariants as rules

-- the rule of a body
abbrev pub rule_of : Body → Rule
rule_of Over = rules.Over
rule_of (Move point child) = rules.Named
rule_of (All replies) = rules.Replies
rule_of (Pairs pairs) = rules.Pairs
rule_of Potential = rules.Weights
rule_of (Trees with_e first second) = rules.Trees
rule_of (Cuts with_e first second) = rules.Cuts
rule_of (Threat points) = rules.Threats
rule_of (Weaker child) = rules.Weaker
