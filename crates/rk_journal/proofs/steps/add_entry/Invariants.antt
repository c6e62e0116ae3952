use Rattle.rk_journal.proofs.steps.add_entry.Given as goal

-- the entry that is appended
abbrev pub ghosts-add_named : goal.ghosts-add_named
ghosts-add_named a = record { entry = a.entry }
