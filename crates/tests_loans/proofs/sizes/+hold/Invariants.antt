use Rattle.tests_loans.proofs.sizes.+hold.Given as given

-- the values that are left
abbrev pub decreases-hold : given.decreases-hold
decreases-hold g l = l.left
