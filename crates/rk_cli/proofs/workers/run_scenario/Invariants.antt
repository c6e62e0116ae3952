use Rattle.rk_cli.proofs.workers.run_scenario.Given as goal

-- the opening that is run
abbrev pub ghosts-run_named : goal.ghosts-run_named
ghosts-run_named g a = record { scenario = a.opening.scenario; opening = a.opening.opening }
