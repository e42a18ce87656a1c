use Rattle.session_requests.proofs.performing.perform.Given as goal

abbrev pub ghosts-perform_over : goal.ghosts-perform_over
ghosts-perform_over g a = record { start = a.cache.now }
