use Rattle.rk_cli.proofs.kernel_tests.seats_go_on_after_they_met.Given as goal

abbrev pub ghosts-step_and_meet : goal.ghosts-step_and_meet
ghosts-step_and_meet g a = record { scenario = a.opening.scenario; opening = a.opening.opening }
