use Rattle.go_base.proofs.ints.+write_int.Given as goal

abbrev pub decreases-write_int : goal.decreases-write_int
decreases-write_int l = l.number
