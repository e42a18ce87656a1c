use Rattle.std.proofs.Common.{◌≡◌, ℕ, ◌+◌, ◌<◌, ◌++◌, ℤ, List, [], ◌∷◌, Option, ap, ap₂, get_or, length, map, refl, sym, take, ◌∙◌}
use Rattle.std.proofs.lemmas.List.{take_more}
use Rattle.fx_types.specs.ValueView.{view}
use Rattle.fx_types.specs.declared.values.Value.{Value}
use Rattle.fx_value.specs.Aggregates.{number_if_one}
use Rattle.row_books.specs.Numbers.{numbers_of}
use Rattle.row_books.proofs.numbers.numbers_in.Goals as goal

one_more : (vs : List Value) (v : Value) → numbers_of (map view vs) ++ number_if_one (view v) ∷ [] ≡ numbers_of (map view (vs ++ v ∷ []))
one_more [] v = refl
one_more (x ∷ vs) v = ap (λ l. number_if_one (view x) ∷ l) (one_more vs v)

next : (vs : List Value) (i : ℕ) (v : Value) → i < length vs → v ≡ get_or vs i v → numbers_of (map view (take i vs)) ++ number_if_one (view v) ∷ [] ≡ numbers_of (map view (take (i + 1) vs))
next vs i v l is = one_more (take i vs) v ∙ ap (λ xs. numbers_of (map view xs)) (ap (λ w. take i vs ++ w ∷ []) is ∙ sym (take_more vs i v l))

pub loop-value-preserved : goal.loop-value-preserved
loop-value-preserved c =
    c.in_ok-push.ensures.items
    ∙ ap₂ (λ (l : List (Option ℤ)) (o : Option ℤ). l ++ o ∷ []) c.loop-value.invariant c.number_in.ensures
    ∙ next c.args.values.now c.loop-value.value-index c.value-item.result c.loop-value-test.true c.value-item.is
