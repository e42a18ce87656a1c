use Rattle.std.proofs.Common.{List, ℕ, [], length, subst, append-nil}
use Rattle.fx_primitives.specs.Substitution.{AreOccurrences, AreSeparate}
use Rattle.fx_primitives.proofs.substitution.occurrences.Goals as goal

pub returns-clause-value : goal.returns-clause-value
returns-clause-value c =
    let all = c.search.invariant.1 [] c.in_default.ensures.value in
    subst (λ (ps : List ℕ). AreOccurrences c.args.old.now c.args.text.now 0 ps) (append-nil c.search.places.items) all

pub returns-clause-separate : goal.returns-clause-separate
returns-clause-separate c =
    let all = c.search.invariant.2 [] c.search.invariant.0 in
    subst (λ (ps : List ℕ). AreSeparate (length c.args.old.now) (length c.args.text.now) 0 ps) (append-nil c.search.places.items) all
