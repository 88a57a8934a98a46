use Rattle.test_plain.proofs.plain.+x_wins.Given as goal

abbrev pub decreases-x_wins : goal.decreases-x_wins
decreases-x_wins l = l.free
