use Rattle.test_program.proofs.runs.run_row.Given as goal

abbrev pub ghosts-status : goal.ghosts-status
ghosts-status a = record { name = a.blank.name; parts = a.blank.parts }
