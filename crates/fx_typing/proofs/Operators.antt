-- What operators and joined texts make of well typed operands is well typed.
use Rattle.std.proofs.Common.{◌≡◌, ℕ, List, [], ◌∷◌, Bool, true, false, ◌&&◌, length, Result, Ok, Err, refl, sym, subst, inl}
use Rattle.std.specs.Prelude.{Option, Some, None, option_map}
use Rattle.std.proofs.lemmas.Bool.{and_parts}
use Rattle.fx_types.specs.Types.{Shape, blanks, numbers, texts, dates}
use Rattle.fx_types.specs.Values.{text}
use Rattle.fx_core.specs.declared.functions.Form.{Form}
use Rattle.fx_core.specs.declared.functions.Form.TheVariants as forms
use Rattle.fx_core.specs.declared.functions.Fun.{Fun}
use Rattle.fx_core.specs.declared.functions.Fun.TheVariants as fun
use Rattle.fx_core.specs.declared.rows.Row.{Row}
use Rattle.fx_core.specs.declared.rows.Takes.{Takes}
use Rattle.fx_core.specs.Rows.{row_of, form_row, takes_at}
use Rattle.fx_core.specs.declared.expr.Op.{Op}
use Rattle.fx_core.specs.declared.expr.Op.TheVariants as op
use Rattle.fx_core.specs.Tree as tree
use Rattle.fx_core.specs.Term.{Term, of, nil, const}
use Rattle.fx_core.specs.ColumnLists.{and_then}
use Rattle.fx_typing.specs.Local.{node_made, formed}
use Rattle.fx_typing.specs.Meaning.{Place}
use Rattle.fx_typing.specs.Operators.{Compared, as_numbers, as_texts, as_booleans, as_dates, compared, equal_by, unequal_by, ordered_by, date_sum, difference_of, function_of}
use Rattle.fx_typing.specs.WellTyped.{Context, PartScope, plain, standing_of}
use Rattle.fx_typing.proofs.Rules.{Typed}
use Rattle.fx_typing.specs.Calls.{made_if}
use Rattle.fx_typing.specs.Parts.{JudgedPart, Setting, plainly, as_part, pieces, values}
use Rattle.fx_typing.specs.Typing.{context_of, admit, paired_by, woven_by}
use Rattle.fx_typing.proofs.Frame.{PartsTypedAt}
use Rattle.fx_typing.proofs.Places.{PartsStand, parts_stand, same_standing}
use Rattle.fx_typing.proofs.Functions.{each_place, by_row, function_law, form_law}

-- a part that is a typed tree without a name of its rows
abbrev pub AsTree : Context → JudgedPart → Type 0
AsTree c q = (x : Term × Shape) × (plainly x ≡ q) × Typed c x

pub as_tree : (c : Context) (r : Result (Term × Shape) ℕ) (q : JudgedPart) → as_part r ≡ Ok q → ((x : Term × Shape) → r ≡ Ok x → Typed c x) → AsTree c q
as_tree c (Ok x) q e typed = (x, cc, typed x refl)
as_tree c (Err n) q e typed = absurd cc

pub then_ok : {A B : Type 0} (r : Result A ℕ) (go : A → Result B ℕ) (b : B) → and_then r go ≡ Ok b → (a : A) × (r ≡ Ok a) × (go a ≡ Ok b)
then_ok (Ok a) go b e = (a, refl, e)
then_ok (Err n) go b e = absurd cc

-- rows whose parts all stand where the whole does
abbrev is_plain_place : PartScope → Bool
is_plain_place plain = true
is_plain_place st = false

abbrev is_plain_at : Takes → Bool
is_plain_at k = is_plain_place (standing_of k)

abbrev pub is_plain : Row → Bool
is_plain r = is_plain_at r.first && (is_plain_at r.second && (is_plain_at r.third && is_plain_at r.fourth))

plain_only : (st : PartScope) → is_plain_place st ≡ true → st ≡ plain
plain_only plain e = refl
plain_only st e = absurd cc

pub plain_place : (r : Row) (n i : ℕ) → is_plain r ≡ true → standing_of (takes_at r n i) ≡ plain
plain_place r n i e =
    let a = and_parts (is_plain_at r.first) (is_plain_at r.second && (is_plain_at r.third && is_plain_at r.fourth)) e in
    let b = and_parts (is_plain_at r.second) (is_plain_at r.third && is_plain_at r.fourth) a.1 in
    let c = and_parts (is_plain_at r.third) (is_plain_at r.fourth) b.1 in
    plain_only (standing_of (takes_at r n i)) (each_place (λ k. is_plain_at k ≡ true) r n i a.0 b.0 c.0 c.1 refl)

abbrev pub plainly_placed : List JudgedPart → PartScope
plainly_placed d = plain

pub plain_function : (p : Place) (s : Setting) (f : Fun) (qs : List JudgedPart) (x : Term × Shape) → is_plain (row_of f) ≡ true →
    PartsStand p s plainly_placed [] qs → node_made f (pieces qs) ≡ Ok x → Typed (context_of p s) x
plain_function p s f qs x e t m =
    function_law p s f qs x
    (same_standing p s plainly_placed (by_row (row_of f) (length qs)) [] qs (λ d. sym (plain_place (row_of f) (length qs) (length d) e)) t) m

plain_form : (p : Place) (s : Setting) (f : Form) (qs : List JudgedPart) (x : Term × Shape) → is_plain (form_row f) ≡ true →
    PartsStand p s plainly_placed [] qs → formed f (pieces qs) ≡ Ok x → Typed (context_of p s) x
plain_form p s f qs x e t m =
    form_law p s f qs x
    (same_standing p s plainly_placed (by_row (form_row f) (length qs)) [] qs (λ d. sym (plain_place (form_row f) (length qs) (length d) e)) t) m

-- the functions that types of operands choose have such rows
abbrev IsPlainIf : Option Fun → Type 0
IsPlainIf (Some f) = is_plain (row_of f) ≡ true
IsPlainIf None = Unit {0}

equal_plain : (k : Compared) → is_plain (row_of (equal_by k)) ≡ true
equal_plain as_numbers = refl
equal_plain k = refl

unequal_plain : (k : Compared) → is_plain (row_of (unequal_by k)) ≡ true
unequal_plain as_numbers = refl
unequal_plain k = refl

mapped_plain : (by : Compared → Fun) (k : Option Compared) → ((j : Compared) → is_plain (row_of (by j)) ≡ true) → IsPlainIf (option_map by k)
mapped_plain by (Some j) h = h j
mapped_plain by None h = tt

ordered_plain : (f g : Fun) (k : Option Compared) → is_plain (row_of f) ≡ true → is_plain (row_of g) ≡ true → IsPlainIf (ordered_by f g k)
ordered_plain f g (Some as_numbers) a b = a
ordered_plain f g (Some as_dates) a b = b
ordered_plain f g (Some as_texts) a b = tt
ordered_plain f g (Some as_booleans) a b = tt
ordered_plain f g None a b = tt

sum_plain : (t u : Shape) → IsPlainIf (date_sum t u)
sum_plain dates numbers = refl
sum_plain dates blanks = refl
sum_plain dates u = tt
sum_plain numbers dates = refl
sum_plain blanks dates = refl
sum_plain t dates = tt
sum_plain t u = refl

difference_plain : (t u : Shape) → IsPlainIf (difference_of t u)
difference_plain dates dates = refl
difference_plain blanks dates = refl
difference_plain dates numbers = refl
difference_plain dates blanks = refl
difference_plain dates u = tt
difference_plain t dates = tt
difference_plain t u = refl

operator_plain : (o : Op) (t u : Shape) → IsPlainIf (function_of o t u)
operator_plain op.Add t u = sum_plain t u
operator_plain op.Sub t u = difference_plain t u
operator_plain op.Mul t u = refl
operator_plain op.Div t u = refl
operator_plain op.Pow t u = refl
operator_plain op.Eq t u = mapped_plain equal_by (compared t u) equal_plain
operator_plain op.Ne t u = mapped_plain unequal_by (compared t u) unequal_plain
operator_plain op.Lt t u = ordered_plain fun.LessNumbers fun.LessDates (compared t u) refl refl
operator_plain op.Le t u = ordered_plain fun.LessEqualNumbers fun.LessEqualDates (compared t u) refl refl
operator_plain op.Gt t u = ordered_plain fun.GreaterNumbers fun.GreaterDates (compared t u) refl refl
operator_plain op.Ge t u = ordered_plain fun.GreaterEqualNumbers fun.GreaterEqualDates (compared t u) refl refl
operator_plain op.In t u = refl
operator_plain op.ExactIn t u = refl

made_if_typed : (p : Place) (s : Setting) (o : Option Fun) (qs : List JudgedPart) (x : Term × Shape) → IsPlainIf o →
    PartsStand p s plainly_placed [] qs → made_if o (pieces qs) ≡ Ok x → Typed (context_of p s) x
made_if_typed p s (Some f) qs x e t m = plain_function p s f qs x e t m
made_if_typed p s None qs x e t m = absurd cc

paired_typed : (p : Place) (s : Setting) (o : Op) (xs : List (Term × Shape)) (qs : List JudgedPart) (x : Term × Shape) →
    PartsStand p s plainly_placed [] qs → paired_by o xs (pieces qs) ≡ Ok x → Typed (context_of p s) x
paired_typed p s o (a ∷ b ∷ []) qs x t m = made_if_typed p s (function_of o a.1 b.1) qs x (operator_plain o a.1 b.1) t m
paired_typed p s o [] qs x t m = absurd cc
paired_typed p s o (a ∷ []) qs x t m = absurd cc
paired_typed p s o (a ∷ b ∷ c ∷ xs) qs x t m = absurd cc

woven_pieces : (p : Place) (s : Setting) (qs : List JudgedPart) (x : Term × Shape) → PartsStand p s plainly_placed [] qs → woven_by qs ≡ Ok x → Typed (context_of p s) x
woven_pieces p s [] x t m =
    let y : (of (const (text [])) nil, texts) ≡ x = cc in subst (Typed (context_of p s)) y ([], refl, (refl, inl tt))
woven_pieces p s (q ∷ qs) x t m = plain_function p s fun.Concatenation (q ∷ qs) x refl t m

-- THE laws of the operators: what is admitted of well typed parts is a well typed tree
module _ (p : Place) (s : Setting) (qs : List JudgedPart) (q : JudgedPart) where
  pub neg_typed : admit p s tree.neg qs ≡ Ok q → PartsTypedAt p s tree.neg (length qs) [] qs → AsTree (context_of p s) q
  neg_typed e t =
      as_tree (context_of p s) (node_made fun.Negate (pieces qs)) q e (λ x m. plain_function p s fun.Negate qs x refl (parts_stand p s tree.neg (length qs) [] qs t) m)

  pub opposite_typed : admit p s tree.opposite qs ≡ Ok q → PartsTypedAt p s tree.opposite (length qs) [] qs → AsTree (context_of p s) q
  opposite_typed e t =
      as_tree (context_of p s) (node_made fun.Not (pieces qs)) q e (λ x m. plain_function p s fun.Not qs x refl (parts_stand p s tree.opposite (length qs) [] qs t) m)

  pub percent_typed : admit p s tree.percent qs ≡ Ok q → PartsTypedAt p s tree.percent (length qs) [] qs → AsTree (context_of p s) q
  percent_typed e t =
      as_tree (context_of p s) (node_made fun.Percent (pieces qs)) q e (λ x m. plain_function p s fun.Percent qs x refl (parts_stand p s tree.percent (length qs) [] qs t) m)

  pub pair_typed : (o : Op) → admit p s (tree.pair o) qs ≡ Ok q → PartsTypedAt p s (tree.pair o) (length qs) [] qs → AsTree (context_of p s) q
  pair_typed o e t =
      as_tree (context_of p s) (and_then (values qs) (λ xs. paired_by o xs (pieces qs))) q e (λ x m.
      let a = then_ok (values qs) (λ xs. paired_by o xs (pieces qs)) x m in
      paired_typed p s o a.0 qs x (parts_stand p s (tree.pair o) (length qs) [] qs t) a.2)

  pub joined_typed : admit p s tree.joined qs ≡ Ok q → PartsTypedAt p s tree.joined (length qs) [] qs → AsTree (context_of p s) q
  joined_typed e t =
      as_tree (context_of p s) (node_made fun.Concatenation (pieces qs)) q e (λ x m. plain_function p s fun.Concatenation qs x refl (parts_stand p s tree.joined (length qs) [] qs t) m)

  pub all_typed : admit p s tree.all qs ≡ Ok q → PartsTypedAt p s tree.all (length qs) [] qs → AsTree (context_of p s) q
  all_typed e t =
      as_tree (context_of p s) (formed forms.All (pieces qs)) q e (λ x m. plain_form p s forms.All qs x refl (parts_stand p s tree.all (length qs) [] qs t) m)

  pub any_typed : admit p s tree.any qs ≡ Ok q → PartsTypedAt p s tree.any (length qs) [] qs → AsTree (context_of p s) q
  any_typed e t =
      as_tree (context_of p s) (formed forms.Any (pieces qs)) q e (λ x m. plain_form p s forms.Any qs x refl (parts_stand p s tree.any (length qs) [] qs t) m)

  pub woven_typed : admit p s tree.woven qs ≡ Ok q → PartsTypedAt p s tree.woven (length qs) [] qs → AsTree (context_of p s) q
  woven_typed e t =
      as_tree (context_of p s) (woven_by qs) q e (λ x m. woven_pieces p s qs x (parts_stand p s tree.woven (length qs) [] qs t) m)
