use Rattle.pg_game.proofs.ThreatSearch.{line-within, within-line, line-short, short-line, first-one}
use Rattle.pg_game.proofs.laws.threat_lines_are_found.Goals as goal

pub returns : goal.returns
returns c = record {
  within = λ depth g p. (line-within g depth p, λ h. within-line g depth p h.0 h.1 h.2);
  short = λ g p. (line-short g p, λ h. short-line g p h.0 h.1 h.2 h.3);
  one = first-one;
}
