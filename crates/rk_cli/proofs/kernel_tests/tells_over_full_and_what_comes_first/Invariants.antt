use Rattle.rk_cli.proofs.kernel_tests.tells_over_full_and_what_comes_first.Given as goal

abbrev pub ghosts-play : goal.ghosts-play
ghosts-play g a = record { scenario = a.opening.scenario; opening = a.opening.opening }
