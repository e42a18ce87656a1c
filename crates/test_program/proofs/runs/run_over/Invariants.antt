use Rattle.test_program.proofs.runs.run_over.Given as goal

abbrev pub ghosts-status : goal.ghosts-status
ghosts-status g a = record { name = a.blank.name; parts = a.blank.parts }
