use Rattle.app_semantics.proofs.laws.fitting_holds.Goals as goal

pub returns : goal.returns
returns c = λ n s f. record { sources_held = f.sources_held; values_fit = f.values_fit }
