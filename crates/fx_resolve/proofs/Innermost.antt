-- Scopes from the inside out.
use Rattle.std.proofs.Common.{◌≡◌, ℕ, suc, ◌+◌, ◌-◌, ◌<◌, ◌≤◌, List, [], ◌∷◌, ◌++◌, length, map, take, get_or, Option, Some, None, refl, ap, sym, ◌∙◌, add-zero, arith}
use Rattle.std.proofs.lemmas.List.{map_more, length-take-le, length-map}
use Rattle.fx_typing.specs.Meaning as meaning
use Rattle.fx_typing.specs.Meaning.{NameMeaning, in_scope_by, in_scopes, or_else, this_record, whole_by}
use Rattle.fx_types.specs.TypeView.{shape}
use Rattle.fx_resolve.specs.declared.scopes.Scope.{Scope}
use Rattle.fx_resolve.specs.ScopeView.{scope}

-- what the innermost scope with an answer says
abbrev innermost : (ℕ → meaning.Scope → Option NameMeaning) → ℕ → List meaning.Scope → Option NameMeaning
innermost said k [] = None
innermost said k (s ∷ ss) = or_else (innermost said (suc k) ss) (said k s)

or_none : {A : Type 0} (a : Option A) → or_else a None ≡ a
or_none (Some a) = refl
or_none None = refl

or_assoc : {A : Type 0} (a b c : Option A) → or_else (or_else a b) c ≡ or_else a (or_else b c)
or_assoc (Some a) b c = refl
or_assoc None b c = refl

innermost_more : (said : ℕ → meaning.Scope → Option NameMeaning) (k : ℕ) (ss : List meaning.Scope) (s : meaning.Scope) →
    innermost said k (ss ++ s ∷ []) ≡ or_else (said (k + length ss) s) (innermost said k ss)
innermost_more said k [] s = sym (or_none _ ∙ ap (λ j. said j s) (add-zero k))
innermost_more said k (r ∷ ss) s =
    ap (λ o. or_else o (said k r)) (innermost_more said (suc k) ss s)
    ∙ or_assoc (said (suc k + length ss) s) (innermost said (suc k) ss) (said k r)
    ∙ ap (λ j. or_else (said j s) (or_else (innermost said (suc k) ss) (said k r))) (omega arith)

before_one : (p : ℕ) → 0 < p → (p - 1) + 1 ≡ p
before_one p h = omega arith

-- one scope more
innermost_step : (said : ℕ → meaning.Scope → Option NameMeaning) (items : List Scope) (p : ℕ) (s : Scope) → 0 < p → p ≤ length items → s ≡ get_or items (p - 1) s →
    innermost said 0 (map scope (take p items)) ≡ or_else (said (p - 1) (scope s)) (innermost said 0 (map scope (take (p - 1) items)))
innermost_step said items p s pos h e =
    ap (λ k. innermost said 0 (map scope (take k items))) (sym (before_one p pos))
    ∙ ap (innermost said 0) (map_more scope items (p - 1) s (omega arith))
    ∙ ap (λ u. innermost said 0 (map scope (take (p - 1) items) ++ scope u ∷ [])) (sym e)
    ∙ innermost_more said 0 (map scope (take (p - 1) items)) (scope s)
    ∙ ap (λ k. or_else (said k (scope s)) (innermost said 0 (map scope (take (p - 1) items)))) (omega (arith, length-map (take (p - 1) items) scope, length-take-le (p - 1) items (omega arith)))

abbrev by_name : List ℕ → ℕ → meaning.Scope → Option NameMeaning
by_name x k s = in_scope_by s.alias k x s.row_type

in_scopes_is : (x : List ℕ) (k : ℕ) (ss : List meaning.Scope) → in_scopes k x ss ≡ innermost (by_name x) k ss
in_scopes_is x k [] = refl
in_scopes_is x k (s ∷ ss) = ap (λ o. or_else o (by_name x k s)) (in_scopes_is x (suc k) ss)

abbrev whole : ℕ → meaning.Scope → Option NameMeaning
whole k s = whole_by s.alias k s.row_type

this_record_is : (k : ℕ) (ss : List meaning.Scope) → this_record k ss ≡ innermost whole k ss
this_record_is k [] = refl
this_record_is k (s ∷ ss) = ap (λ o. or_else o (whole k s)) (this_record_is (suc k) ss)

pub in_scopes_step : (x : List ℕ) (items : List Scope) (p : ℕ) (s : Scope) → 0 < p → p ≤ length items → s ≡ get_or items (p - 1) s →
    in_scopes 0 x (map scope (take p items)) ≡ or_else (in_scope_by s.alias (p - 1) x (shape s.row_type)) (in_scopes 0 x (map scope (take (p - 1) items)))
in_scopes_step x items p s pos h e =
    in_scopes_is x 0 (map scope (take p items)) ∙ innermost_step (by_name x) items p s pos h e
    ∙ ap (or_else (by_name x (p - 1) (scope s))) (sym (in_scopes_is x 0 (map scope (take (p - 1) items))))

pub this_record_step : (items : List Scope) (p : ℕ) (s : Scope) → 0 < p → p ≤ length items → s ≡ get_or items (p - 1) s →
    this_record 0 (map scope (take p items)) ≡ or_else (whole_by s.alias (p - 1) (shape s.row_type)) (this_record 0 (map scope (take (p - 1) items)))
this_record_step items p s pos h e =
    this_record_is 0 (map scope (take p items)) ∙ innermost_step whole items p s pos h e
    ∙ ap (or_else (whole (p - 1) (scope s))) (sym (this_record_is 0 (map scope (take (p - 1) items))))
