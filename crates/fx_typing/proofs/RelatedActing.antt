-- Acting calls: the relation admits what the definition admits.
use Rattle.std.proofs.Common.{is_some, ◌≡◌, ℕ, suc, List, [], ◌∷◌, Bool, true, false, ◌&&◌, length, nat_eq, ne_eqb, arith, if◌then◌else◌, codes, Option, Some, None, Result, Ok, Err, refl, ap, sym, subst, ◌∙◌}
use Rattle.std.proofs.lemmas.Bool.{and_from, and_parts}
use Rattle.fx_types.specs.TypeView.{shape}
use Rattle.fx_types.specs.Types.{Shape, blanks, numbers, texts, booleans, dates, records, tables, ColumnList}
use Rattle.fx_core.specs.declared.deeds.Deed.{Deed}
use Rattle.fx_core.specs.declared.deeds.Deed.TheVariants as deed
use Rattle.fx_core.specs.declared.deeds.Target.{Target}
use Rattle.fx_core.specs.declared.deeds.Target.TheVariants as rows
use Rattle.fx_core.specs.declared.functions.Acting.{Acting}
use Rattle.fx_core.specs.declared.functions.Acting.TheVariants as acts
use Rattle.fx_core.specs.declared.functions.Fun.TheVariants as fun
use Rattle.fx_core.specs.declared.sources.Source.{Source}
use Rattle.fx_core.specs.declared.sources.Source.TheVariants as source
use Rattle.fx_core.specs.declared.rows.Scalar.TheVariants.{Boolean}
use Rattle.fx_core.specs.declared.rows.Takes.TheVariants as takes
use Rattle.fx_core.specs.Rows.{row_of, takes_at}
use Rattle.fx_core.specs.Controls.{input_type}
use Rattle.fx_core.specs.declared.names.Collection.{Collection}
use Rattle.fx_core.specs.declared.names.ControlName.{ControlName}
use Rattle.fx_core.specs.declared.names.Names.{Names}
use Rattle.fx_core.specs.declared.names.Variable.{Variable}
use Rattle.fx_core.specs.Term.{Term, of, nil, all, read, act}
use Rattle.fx_core.specs.ColumnLists.{and_then, field_in}
use Rattle.fx_typing.specs.Local.{Piece, value, label, by_way, stand, put_first, firsts}
use Rattle.fx_typing.specs.Meaning.{Place, or_else}
use Rattle.fx_typing.specs.WellTyped.{target_source, head_of}
use Rattle.fx_typing.specs.Ways.{Way, same, changed, refused, way, is_open}
use Rattle.fx_typing.specs.Breaks.{could_be_row, could_be_condition, all_could, could_act, all_on_screen, gives_variables, too_large, large_variable, large_collection, large_on_screen, large_given}
use Rattle.fx_typing.specs.Builds.{is_bounded}
use Rattle.fx_typing.specs.Deeds.{as_rows, done_by, nothing_done, joins_to, given_variable, by_first_name, if_known, by_rows, by_columns, set_to, set_of, give_one, give_all, given_sources, given_terms, update_of, rows_collected, rows_given, collect_to, collect_of, clear_by, clear_of, misfit, settable, by_id, row_typed, rows_named_by, leaves_id, row_of_one, change_of, changes_of, patch_to, patch_of, remove_of, filter_of, remove_if, update_to, update_if, navigate_of, notify_of, reset_by, reset_of, acted}
use Rattle.fx_typing.specs.Parts.{JudgedPart, piece, meant, target, assigned, piece_of, pieces, values, lowest, all_or_lowest}
use Rattle.fx_typing.specs.Targets.{AreRows, some_table, no_table, global_variable, screen_variable, collection_named, screen_named, control_named, rows_named}
use Rattle.fx_typing.specs.Acting.{IsAssignable, given_as, GivenAll, no_names, no_values_left, one_given, Collected, none_collected, one_collected, NamedRow, by_number, by_blank, no_row_of_table, by_all, no_row_of_collection, Change, some_columns, no_change, Each, none_each, one_each, ActingCallHasType}
use Rattle.fx_typing.specs.Acting
use Rattle.fx_typing.specs.Functions.{StandFrom, none_stand, one_stands, first_and_others, by_row}
use Rattle.fx_typing.specs.Records
use Rattle.fx_typing.specs.Records.{AreValueParts}
use Rattle.fx_typing.proofs.RelatedFunctions.{becomes_ok, becomes_goes, stands_goes, made_ok, made_goes}
use Rattle.fx_typing.proofs.RelatedSteps.{ok_is, then_goes, put_first_ok, lowest_ok, if_true, if_ok, values_ok, values_are}
use Rattle.fx_typing.proofs.Deeds.{by_rows_ok}
use Rattle.fx_typing.proofs.Filters.{condition_at, Filtering}
use Rattle.fx_typing.proofs.Operators.{then_ok}

-- ---- values that variables are given
given_ok : (t : Shape) (x y : Term × Shape) → given_variable t x ≡ Ok y → IsAssignable t x y
given_ok t (c, u) y e =
    let a = if_ok (joins_to t u) (by_way (way u t) c t) 11 y e in
    let b = becomes_ok (way u t) c t y a.1 in
    subst (IsAssignable t (c, u)) b.2 (given_as a.0 b.1)

given_goes : (t : Shape) (x y : Term × Shape) → IsAssignable t x y → given_variable t x ≡ Ok y
given_goes t x y (given_as {c = c} {d = d} {u = u} j b) = if_true (joins_to t u) (by_way (way u t) c t) (Err 11) j ∙ becomes_goes (way u t) c t d b

one_ok : (n : Names) (s : Option ℕ) (m : List ℕ) (x : Term × Shape) (g : Source × Term) (o : Option (ℕ × Variable)) → screen_variable n s m ≡ o → give_one o x ≡ Ok g →
    (k : ℕ) × (v : Variable) × (y : Term × Shape) × (screen_variable n s m ≡ Some (k, v)) × IsAssignable (shape v.ty) x y × ((source.Context k, y.0) ≡ g)
one_ok n s m x g (Some (k, v)) i e =
    let a = then_ok (given_variable (shape v.ty) x) (λ y. Ok (source.Context k, y.0)) g e in
    (k, v, a.0, i, given_ok (shape v.ty) x a.0 a.1, ok_is (source.Context k, a.0.0) g a.2)
one_ok n s m x g None i e = absurd cc

give_ok : (n : Names) (s : Option ℕ) (ms : List (List ℕ)) (xs : List (Term × Shape)) (gs : List (Source × Term)) → give_all n s ms xs ≡ Ok gs → GivenAll n s ms xs gs
give_ok n s (m ∷ ms) (x ∷ xs) gs e =
    let a = lowest_ok (λ g gs. g ∷ gs) (give_one (screen_variable n s m) x) (give_all n s ms xs) gs e in
    let b = one_ok n s m x a.0 (screen_variable n s m) refl a.1 in
    subst (GivenAll n s (m ∷ ms) (x ∷ xs)) (ap (λ g. g ∷ a.2) b.5 ∙ a.4) (one_given b.3 b.4 (give_ok n s ms xs a.2 a.3))
give_ok n s [] xs gs e = subst (GivenAll n s [] xs) (ok_is [] gs e) no_names
give_ok n s (m ∷ ms) [] gs e = subst (GivenAll n s (m ∷ ms) []) (ok_is [] gs e) no_values_left

both_lowest : {A B C : Type 0} (f : A → B → C) (p : Result A ℕ) (q : Result B ℕ) (a : A) (b : B) → p ≡ Ok a → q ≡ Ok b → lowest f p q ≡ Ok (f a b)
both_lowest f p q a b e g = λ i. lowest f (e i) (g i)

give_goes : (n : Names) (s : Option ℕ) (ms : List (List ℕ)) (xs : List (Term × Shape)) (gs : List (Source × Term)) → GivenAll n s ms xs gs → give_all n s ms xs ≡ Ok gs
give_goes n s ms xs gs no_names = refl
give_goes n s ms xs gs no_values_left = refl
give_goes n s ms xs gs (one_given {m = m} {ms = names} {x = x} {y = y} {xs = others} {k = k} {v = v} {gs = after} i g more) =
    both_lowest (λ h hs. h ∷ hs) (give_one (screen_variable n s m) x) (give_all n s names others) (source.Context k, y.0) after
    (ap (λ o. give_one o x) i ∙ then_goes (given_variable (shape v.ty) x) (λ z. Ok (source.Context k, z.0)) y (source.Context k, y.0) (given_goes (shape v.ty) x y g) refl)
    (give_goes n s names others after more)

-- ---- collected values
collected_ok : (t : Shape) (xs ys : List (Term × Shape)) → rows_given t xs ≡ Ok ys → Collected t xs ys
collected_ok t [] ys e = subst (Collected t []) (ok_is [] ys e) none_collected
collected_ok t (x ∷ xs) ys e =
    let a = then_ok (given_variable t (rows_collected x)) (λ y. put_first y (rows_given t xs)) ys e in
    let b = put_first_ok a.0 (rows_given t xs) ys a.2 in
    subst (Collected t (x ∷ xs)) b.2 (one_collected (given_ok t (rows_collected x) a.0 a.1) (collected_ok t xs b.0 b.1))

collected_goes : (t : Shape) (xs ys : List (Term × Shape)) → Collected t xs ys → rows_given t xs ≡ Ok ys
collected_goes t xs ys none_collected = refl
collected_goes t xs ys (one_collected {x = x} {y = y} {xs = others} {ys = after} g more) =
    then_goes (given_variable t (rows_collected x)) (λ z. put_first z (rows_given t others)) y (y ∷ after) (given_goes t (rows_collected x) y g) (ap (put_first y) (collected_goes t others after more))

-- ---- rows that are named, and changes
id_ok : (cs : ColumnList) (k : ℕ) (c : Term) (ds : ColumnList) (o : Option Shape) (y : Term × Shape) → field_in (codes "ID") ds ≡ o → by_id c ds o ≡ Ok y →
    NamedRow cs (rows.Table k) (c, records ds) y
id_ok cs k c ds (Some numbers) y i e = subst (NamedRow cs (rows.Table k) (c, records ds)) (ok_is (c, records ds) y e) (by_number i)
id_ok cs k c ds (Some blanks) y i e = subst (NamedRow cs (rows.Table k) (c, records ds)) (ok_is (c, records ds) y e) (by_blank i)
id_ok cs k c ds o y i e = absurd cc

named_ok : (cs : ColumnList) (t : Target) (x y : Term × Shape) → row_typed t cs x ≡ Ok y → NamedRow cs t x y
named_ok cs (rows.Table k) (c, records ds) y e = id_ok cs k c ds (field_in (codes "ID") ds) y refl e
named_ok cs (rows.Table k) (c, blanks) y e = subst (NamedRow cs (rows.Table k) (c, blanks)) (ok_is _ y e) no_row_of_table
named_ok cs (rows.Gathered k) (c, records ds) y e =
    let a = if_ok (joins_to (records cs) (records ds)) (by_way (way (records ds) (records cs)) c (records cs)) (misfit cs ds) y e in
    let b = becomes_ok (way (records ds) (records cs)) c (records cs) y a.1 in
    subst (NamedRow cs (rows.Gathered k) (c, records ds)) b.2 (by_all a.0 b.1)
named_ok cs (rows.Gathered k) (c, blanks) y e = subst (NamedRow cs (rows.Gathered k) (c, blanks)) (ok_is _ y e) no_row_of_collection
named_ok cs t x y e = absurd cc

named_goes : (cs : ColumnList) (t : Target) (x y : Term × Shape) → NamedRow cs t x y → row_typed t cs x ≡ Ok y
named_goes cs t x y (by_number {c = c} {ds = ds} i) = ap (by_id c ds) i
named_goes cs t x y (by_blank {c = c} {ds = ds} i) = ap (by_id c ds) i
named_goes cs t x y no_row_of_table = refl
named_goes cs t x y (by_all {c = c} {d = d} {ds = ds} j b) =
    if_true (joins_to (records cs) (records ds)) (by_way (way (records ds) (records cs)) c (records cs)) (Err (misfit cs ds)) j
    ∙ becomes_goes (way (records ds) (records cs)) c (records cs) d b
named_goes cs t x y no_row_of_collection = refl

change_ok : (cs : ColumnList) (t : Target) (x y : Term × Shape) → change_of t cs x ≡ Ok y → Change cs t x y
change_ok cs t (c, records ds) y e =
    let a = if_ok (joins_to (records cs) (records ds) && leaves_id t ds) (Ok (row_of_one c ds)) (misfit (settable t cs) ds) y e in
    let b = and_parts (joins_to (records cs) (records ds)) (leaves_id t ds) a.0 in
    subst (Change cs t (c, records ds)) (ok_is (row_of_one c ds) y a.1) (some_columns b.0 b.1)
change_ok cs t (c, blanks) y e = subst (Change cs t (c, blanks)) (ok_is _ y e) no_change
change_ok cs t x y e = absurd cc

change_goes : (cs : ColumnList) (t : Target) (x y : Term × Shape) → Change cs t x y → change_of t cs x ≡ Ok y
change_goes cs t x y (some_columns {c = c} {ds = ds} i j) =
    if_true (joins_to (records cs) (records ds) && leaves_id t ds) (Ok (row_of_one c ds)) (Err (misfit (settable t cs) ds))
    (and_from (joins_to (records cs) (records ds)) (leaves_id t ds) i j)
change_goes cs t x y no_change = refl

module _ {A B : Type 0} (f : A → Result B ℕ) (R : A → B → Type 0) where
  each_ok : ((x : A) (y : B) → f x ≡ Ok y → R x y) → (xs : List A) (ys : List B) → all_or_lowest f xs ≡ Ok ys → Each R xs ys
  each_ok one [] ys e = subst (Each R []) (ok_is [] ys e) none_each
  each_ok one (x ∷ xs) ys e =
      let a = lowest_ok (λ y ys. y ∷ ys) (f x) (all_or_lowest f xs) ys e in
      subst (Each R (x ∷ xs)) a.4 (one_each (one x a.0 a.1) (each_ok one xs a.2 a.3))

  each_goes : ((x : A) (y : B) → R x y → f x ≡ Ok y) → (xs : List A) (ys : List B) → Each R xs ys → all_or_lowest f xs ≡ Ok ys
  each_goes one xs ys none_each = refl
  each_goes one xs ys (one_each {x = x} {y = y} {xs = others} {ys = after} r more) =
      both_lowest (λ z zs. z ∷ zs) (f x) (all_or_lowest f others) y after (one x y r) (each_goes one others after more)

-- ---- what acting calls name
by_name_ok : (qs : List JudgedPart) (go : List ℕ → List JudgedPart → Result (Term × Shape) ℕ) (y : Term × Shape) → by_first_name qs go ≡ Ok y →
    (x : List ℕ) × (more : List JudgedPart) × (target None x ∷ more ≡ qs) × (go x more ≡ Ok y)
by_name_ok (target None x ∷ qs) go y e = (x, qs, refl, e)
by_name_ok qs go y e = absurd cc

known_ok : {A : Type 0} (o : Option A) (go : A → Result (Term × Shape) ℕ) (y : Term × Shape) → if_known o go ≡ Ok y → (a : A) × (o ≡ Some a) × (go a ≡ Ok y)
known_ok (Some a) go y e = (a, refl, e)
known_ok None go y e = absurd cc

known_goes : {A : Type 0} (o : Option A) (go : A → Result (Term × Shape) ℕ) (a : A) (y : Term × Shape) → o ≡ Some a → go a ≡ Ok y → if_known o go ≡ Ok y
known_goes o go a y e f = ap (λ z. if_known z go) e ∙ f

pub by_rows_goes : (o : Option (Target × Shape)) (go : Target × ColumnList → Result (Term × Shape) ℕ) (t : Target) (cs : ColumnList) (blank : Bool) (y : Term × Shape) →
    AreRows o t cs blank → go (t, cs) ≡ Ok y → by_rows o go ≡ Ok (as_rows blank y)
by_rows_goes o go t cs blank y (some_table e) f = ap (λ z. by_rows z go) e ∙ f
by_rows_goes o go t cs blank y (no_table e) f = ap (λ z. by_rows z go) e ∙ ap (λ r. and_then r (λ z. Ok (as_rows true z))) f

pub by_columns_goes : (o : Option (Target × Shape)) (go : ColumnList → Result (Term × Shape) ℕ) (t : Target) (cs : ColumnList) (blank : Bool) (y : Term × Shape) →
    AreRows o t cs blank → go cs ≡ Ok y → by_columns o go ≡ Ok y
by_columns_goes o go t cs blank y (some_table e) f = ap (λ z. by_columns z go) e ∙ f
by_columns_goes o go t cs blank y (no_table e) f = ap (λ z. by_columns z go) e ∙ f

-- what is given a value is of a type that keeps to the limits
bounded_small : (t : Shape) → too_large t ≡ None → is_bounded t ≡ true
bounded_small t e = by_test (is_bounded t) e
  where
    by_test : (b : Bool) → (if b then None else Some t) ≡ None → b ≡ true
    by_test true f = refl
    by_test false f = absurd cc

small_bounded : (t : Shape) → is_bounded t ≡ true → too_large t ≡ None
small_bounded t e = ap (λ b. if b then None else Some t) e

small_variable : (o : Option (ℕ × Variable)) (v : ℕ × Variable) → o ≡ Some v → large_variable o ≡ None → is_bounded (shape v.1.ty) ≡ true
small_variable o v e f = bounded_small (shape v.1.ty) (ap large_variable (sym e) ∙ f)

small_collection : (o : Option (ℕ × Collection)) (c : ℕ × Collection) → o ≡ Some c → large_collection o ≡ None → is_bounded (shape c.1.ty) ≡ true
small_collection o c e f = bounded_small (shape c.1.ty) (ap large_collection (sym e) ∙ f)

else_none : {A : Type 0} (a b : Option A) → or_else a b ≡ None → (a ≡ None) × (b ≡ None)
else_none None b e = (refl, e)
else_none (Some a) b e = absurd cc

within_limits : (o : Option (ℕ × Variable)) → is_some o ≡ true → large_variable o ≡ None → Acting.IsWithinLimits o
within_limits (Some v) e f = bounded_small (shape v.1.ty) f
within_limits None e f = absurd cc

limits_within : (o : Option (ℕ × Variable)) → Acting.IsWithinLimits o → (is_some o ≡ true) × (large_variable o ≡ None)
limits_within (Some v) h = (refl, small_bounded (shape v.1.ty) h)
limits_within None h = absurd h

on_screen : (n : Names) (s : Option ℕ) (ms : List (List ℕ)) → all_on_screen n s ms ≡ true → large_on_screen n s ms ≡ None → Acting.AreOnScreen n s ms
on_screen n s [] e f = tt
on_screen n s (m ∷ ms) e f =
    let a = and_parts (is_some (screen_variable n s m)) (all_on_screen n s ms) e in
    let b = else_none (large_variable (screen_variable n s m)) (large_on_screen n s ms) f in
    (within_limits (screen_variable n s m) a.0 b.0, on_screen n s ms a.1 b.1)

from_screen : (n : Names) (s : Option ℕ) (ms : List (List ℕ)) → Acting.AreOnScreen n s ms → (all_on_screen n s ms ≡ true) × (large_on_screen n s ms ≡ None)
from_screen n s [] h = (refl, refl)
from_screen n s (m ∷ ms) h =
    let a = limits_within (screen_variable n s m) h.0 in
    let b = from_screen n s ms h.1 in
    (and_from (is_some (screen_variable n s m)) (all_on_screen n s ms) a.0 b.0, ap (λ o. or_else o (large_on_screen n s ms)) a.1 ∙ b.1)

-- ---- one by one
module _ (p : Place) where
  set_ok : (x : List ℕ) (qs : List JudgedPart) (y : Term × Shape) → large_variable (global_variable p.names x) ≡ None → set_of p.names x qs ≡ Ok y → ActingCallHasType p acts.Set (target None x ∷ qs) y
  set_ok x qs y small e =
      let a = then_ok (values qs) (λ xs. if_known (global_variable p.names x) (λ v. set_to v xs)) y e in
      let b = known_ok (global_variable p.names x) (λ v. set_to v a.0) y a.2 in
      by_values b.0.0 b.0.1 a.0 (values_ok qs a.0 a.1) b.1 b.2
    where
      by_values : (k : ℕ) (g : Variable) (xs : List (Term × Shape)) → AreValueParts qs xs → global_variable p.names x ≡ Some (k, g) → set_to (k, g) xs ≡ Ok y →
          ActingCallHasType p acts.Set (target None x ∷ qs) y
      by_values k g (v ∷ []) vs i f =
          let c = then_ok (given_variable (shape g.ty) v) (λ z. Ok (done_by (deed.Set k) (z.0 ∷ []))) y f in
          subst (ActingCallHasType p acts.Set (target None x ∷ qs)) (ok_is (done_by (deed.Set k) (c.0.0 ∷ [])) y c.2) (Acting.set vs i (small_variable (global_variable p.names x) (k, g) i small) (given_ok (shape g.ty) v c.0 c.1))
      by_values k g xs vs i f = absurd cc

  update_ok : (s : Option ℕ) (qs : List JudgedPart) (y : Term × Shape) → gives_variables p.names p.screen acts.UpdateContext qs ≡ true → large_given p.names p.screen acts.UpdateContext qs ≡ None → p.screen ≡ s → update_of p.names s qs ≡ Ok y → ActingCallHasType p acts.UpdateContext qs y
  update_ok (Some s) (assigned ms xs ∷ []) y all small i e =
      let a = then_ok (give_all p.names (Some s) ms xs) (λ gs. Ok (done_by (deed.UpdateContext (given_sources gs)) (given_terms gs))) y e in
      subst (ActingCallHasType p acts.UpdateContext (assigned ms xs ∷ [])) (ok_is (done_by (deed.UpdateContext (given_sources a.0)) (given_terms a.0)) y a.2)
      (Acting.update_context i (on_screen p.names p.screen ms all small) (subst (λ o. GivenAll p.names o ms xs a.0) (sym i) (give_ok p.names (Some s) ms xs a.0 a.1)))
  update_ok s qs y all small i e = absurd cc

  collect_values : (d : ℕ → Deed) (x : List ℕ) (qs : List JudgedPart) (y : Term × Shape) → collect_of d p.names x qs ≡ Ok y →
      (v : Term × Shape) × (vs : List (Term × Shape)) × (ys : List (Term × Shape)) × (k : ℕ) × (c : Collection) × AreValueParts qs (v ∷ vs)
      × (collection_named p.names x ≡ Some (k, c)) × Collected (shape c.ty) (v ∷ vs) ys × (done_by (d k) (firsts ys) ≡ y)
  collect_values d x qs y e =
      let a = then_ok (values qs) (λ xs. if_known (collection_named p.names x) (λ (c : ℕ × Collection). collect_to d c xs)) y e in
      let b = known_ok (collection_named p.names x) (λ (c : ℕ × Collection). collect_to d c a.0) y a.2 in
      by_values b.0.0 b.0.1 a.0 (values_ok qs a.0 a.1) b.1 b.2
    where
      by_values : (k : ℕ) (c : Collection) (xs : List (Term × Shape)) → AreValueParts qs xs → collection_named p.names x ≡ Some (k, c) → collect_to d (k, c) xs ≡ Ok y →
          (v : Term × Shape) × (vs : List (Term × Shape)) × (ys : List (Term × Shape)) × (k : ℕ) × (c : Collection) × AreValueParts qs (v ∷ vs)
          × (collection_named p.names x ≡ Some (k, c)) × Collected (shape c.ty) (v ∷ vs) ys × (done_by (d k) (firsts ys) ≡ y)
      by_values k c (v ∷ vs) h i f =
          let g = then_ok (rows_given (shape c.ty) (v ∷ vs)) (λ ys. Ok (done_by (d k) (firsts ys))) y f in
          (v, vs, g.0, k, c, h, i, collected_ok (shape c.ty) (v ∷ vs) g.0 g.1, ok_is (done_by (d k) (firsts g.0)) y g.2)
      by_values k c [] h i f = absurd cc

  clear_ok : (x : List ℕ) (qs : List JudgedPart) (y : Term × Shape) → clear_of p.names x qs ≡ Ok y → ActingCallHasType p acts.Clear (target None x ∷ qs) y
  clear_ok x qs y e =
      let b = known_ok (collection_named p.names x) (λ (c : ℕ × Collection). clear_by c.0 (shape c.1.ty)) y e in
      by_type b.0.0 b.0.1 (shape b.0.1.ty) b.1 refl b.2
    where
      by_type : (k : ℕ) (c : Collection) (t : Shape) → collection_named p.names x ≡ Some (k, c) → shape c.ty ≡ t → clear_by k t ≡ Ok y → ActingCallHasType p acts.Clear (target None x ∷ qs) y
      by_type k c (tables cs) i j f = subst (ActingCallHasType p acts.Clear (target None x ∷ qs)) (ok_is (done_by (deed.Clear k) []) y f) (Acting.clear i j)
      by_type k c blanks i j f = subst (ActingCallHasType p acts.Clear (target None x ∷ qs)) (ok_is nothing_done y f) (Acting.clear_nothing i j)
      by_type k c t i j f = absurd cc

  patch_ok : (x : List ℕ) (qs : List JudgedPart) (y : Term × Shape) → patch_of p.names x qs ≡ Ok y → ActingCallHasType p acts.Patch (target None x ∷ qs) y
  patch_ok x qs y e =
      let a = then_ok (values qs) (λ xs. by_rows (rows_named p.names x) (λ r. patch_to r xs)) y e in
      let b = by_rows_ok (rows_named p.names x) (λ r. patch_to r a.0) y a.2 in
      subst (ActingCallHasType p acts.Patch (target None x ∷ qs)) b.6 (by_values b.0 b.1 b.2 b.3 a.0 (values_ok qs a.0 a.1) b.4 b.5)
    where
      by_values : (t : Target) (cs : ColumnList) (blank : Bool) (z : Term × Shape) (xs : List (Term × Shape)) → AreValueParts qs xs → AreRows (rows_named p.names x) t cs blank →
          patch_to (t, cs) xs ≡ Ok z → ActingCallHasType p acts.Patch (target None x ∷ qs) (as_rows blank z)
      by_values t cs blank z (base ∷ vs) h i f =
          let c = lowest_ok (λ b ys. (of (act (deed.Patch t)) (all (b.0 ∷ firsts ys)), records cs)) (row_typed t cs base) (changes_of t cs vs) z f in
          subst (λ w. ActingCallHasType p acts.Patch (target None x ∷ qs) (as_rows blank w)) c.4
          (Acting.patch h i (named_ok cs t base c.0 c.1) (each_ok (change_of t cs) (Change cs t) (change_ok cs t) vs c.2 c.3))
      by_values t cs blank z [] h i f = absurd cc

  remove_ok : (x : List ℕ) (qs : List JudgedPart) (y : Term × Shape) → remove_of p.names x qs ≡ Ok y → ActingCallHasType p acts.Remove (target None x ∷ qs) y
  remove_ok x qs y e =
      let a = then_ok (values qs) (λ xs. by_rows (rows_named p.names x)
      (λ r. and_then (rows_named_by r.0 r.1 xs) (λ ys. Ok (done_by (deed.Remove r.0) (firsts ys))))) y e in
      let b = by_rows_ok (rows_named p.names x) (λ r. and_then (rows_named_by r.0 r.1 a.0) (λ ys. Ok (done_by (deed.Remove r.0) (firsts ys)))) y a.2 in
      let c = then_ok (rows_named_by b.0 b.1 a.0) (λ ys. Ok (done_by (deed.Remove b.0) (firsts ys))) b.3 b.5 in
      subst (ActingCallHasType p acts.Remove (target None x ∷ qs)) (ap (as_rows b.2) (ok_is (done_by (deed.Remove b.0) (firsts c.0)) b.3 c.2) ∙ b.6)
      (Acting.remove (values_ok qs a.0 a.1) b.4 (each_ok (row_typed b.0 b.1) (NamedRow b.1 b.0) (named_ok b.1 b.0) a.0 c.0 c.1))

  filtered_ok : (t : Target) (cs : ColumnList) (a : Option (List ℕ)) (qs : List JudgedPart) (f : Term × Shape) → filter_of (t, cs) a qs ≡ Ok f → Acting.Filtered t cs a qs f
  filtered_ok t cs a qs f e = made_ok (row_of fun.Filter) (head_of fun.Filter) (value a (of (read (target_source t)) nil) (tables cs) ∷ pieces qs) f e

  filtered_goes : (t : Target) (cs : ColumnList) (a : Option (List ℕ)) (qs : List JudgedPart) (f : Term × Shape) → Acting.Filtered t cs a qs f → filter_of (t, cs) a qs ≡ Ok f
  filtered_goes t cs a qs f e = made_goes (row_of fun.Filter) (head_of fun.Filter) (value a (of (read (target_source t)) nil) (tables cs) ∷ pieces qs) f e

  remove_if_ok : (qs : List JudgedPart) (y : Term × Shape) → remove_if p.names qs ≡ Ok y → ActingCallHasType p acts.RemoveIf qs y
  remove_if_ok (target a x ∷ qs) y e =
      let b = by_rows_ok (rows_named p.names x) (λ r. and_then (filter_of r a qs) (λ f. Ok (done_by (deed.RemoveIf r.0) (f.0 ∷ [])))) y e in
      let c = then_ok (filter_of (b.0, b.1) a qs) (λ f. Ok (done_by (deed.RemoveIf b.0) (f.0 ∷ []))) b.3 b.5 in
      subst (ActingCallHasType p acts.RemoveIf (target a x ∷ qs)) (ap (as_rows b.2) (ok_is (done_by (deed.RemoveIf b.0) (c.0.0 ∷ [])) b.3 c.2) ∙ b.6)
      (Acting.remove_if b.4 (filtered_ok b.0 b.1 a qs c.0 c.1))
  remove_if_ok qs y e = absurd cc

  update_if_ok : (qs : List JudgedPart) (y : Term × Shape) → update_if p.names qs ≡ Ok y → ActingCallHasType p acts.UpdateIf qs y
  update_if_ok (target a x ∷ q ∷ qs) y e =
      let v = then_ok (values qs) (λ xs. by_rows (rows_named p.names x) (λ r. update_to r a q xs)) y e in
      let b = by_rows_ok (rows_named p.names x) (λ r. update_to r a q v.0) y v.2 in
      subst (ActingCallHasType p acts.UpdateIf (target a x ∷ q ∷ qs)) b.6 (by_values b.0 b.1 b.2 b.3 v.0 (values_ok qs v.0 v.1) b.4 b.5)
    where
      by_values : (t : Target) (cs : ColumnList) (blank : Bool) (s : Term × Shape) (xs : List (Term × Shape)) → AreValueParts qs xs → AreRows (rows_named p.names x) t cs blank →
          update_to (t, cs) a q xs ≡ Ok s → ActingCallHasType p acts.UpdateIf (target a x ∷ q ∷ qs) (as_rows blank s)
      by_values t cs blank s (w ∷ []) h i f =
          let c = then_ok (filter_of (t, cs) a (q ∷ [])) (λ g. and_then (change_of t cs w) (λ z. Ok (done_by (deed.UpdateIf t) (g.0 ∷ z.0 ∷ [])))) s f in
          let d = then_ok (change_of t cs w) (λ z. Ok (done_by (deed.UpdateIf t) (c.0.0 ∷ z.0 ∷ []))) s c.2 in
          subst (λ r. ActingCallHasType p acts.UpdateIf (target a x ∷ q ∷ qs) (as_rows blank r)) (ok_is (done_by (deed.UpdateIf t) (c.0.0 ∷ d.0.0 ∷ [])) s d.2)
          (Acting.update_if h i (filtered_ok t cs a (q ∷ []) c.0 c.1) (change_ok cs t w d.0 d.1))
      by_values t cs blank s xs h i f = absurd cc
  update_if_ok qs y e = absurd cc

  navigate_ok : (x : List ℕ) (qs : List JudgedPart) (y : Term × Shape) → navigate_of p.names x qs ≡ Ok y → ActingCallHasType p acts.Navigate (target None x ∷ qs) y
  navigate_ok x qs y e =
      let b = known_ok (screen_named p.names x) (λ (s : ℕ × List ℕ). Ok (done_by (deed.Navigate s.0) [])) y e in
      subst (ActingCallHasType p acts.Navigate (target None x ∷ qs)) (ok_is (done_by (deed.Navigate b.0.0) []) y b.2) (Acting.navigate {name = b.0.1} b.1)

  notify_ok : (qs : List JudgedPart) (y : Term × Shape) → and_then (values qs) notify_of ≡ Ok y → ActingCallHasType p acts.Notify qs y
  notify_ok qs y e = let a = then_ok (values qs) notify_of y e in by_values a.0 (values_ok qs a.0 a.1) a.2
    where
      by_values : (xs : List (Term × Shape)) → AreValueParts qs xs → notify_of xs ≡ Ok y → ActingCallHasType p acts.Notify qs y
      by_values ((c, u) ∷ []) h f =
          let a = then_ok (by_way (way u texts) c texts) (λ z. Ok (done_by deed.Notify (z.0 ∷ []))) y f in
          let b = becomes_ok (way u texts) c texts a.0 a.1 in
          subst (ActingCallHasType p acts.Notify qs) (ap (λ z. done_by deed.Notify (z.0 ∷ [])) b.2 ∙ ok_is (done_by deed.Notify (a.0.0 ∷ [])) y a.2) (Acting.notify h b.1)
      by_values xs h f = absurd cc

  reset_ok : (x : List ℕ) (qs : List JudgedPart) (y : Term × Shape) → reset_of p.names x qs ≡ Ok y → ActingCallHasType p acts.Reset (target None x ∷ qs) y
  reset_ok x qs y e =
      let b = known_ok (control_named p.names x) (λ (c : ℕ × ControlName). reset_by c.0 (input_type c.1.kind)) y e in
      by_type b.0.0 b.0.1 (input_type b.0.1.kind) b.1 refl b.2
    where
      by_type : (k : ℕ) (c : ControlName) (o : Option Shape) → control_named p.names x ≡ Some (k, c) → input_type c.kind ≡ o → reset_by k o ≡ Ok y → ActingCallHasType p acts.Reset (target None x ∷ qs) y
      by_type k c (Some t) i j f = subst (ActingCallHasType p acts.Reset (target None x ∷ qs)) (ok_is (done_by (deed.Reset k) []) y f) (Acting.reset i j)
      by_type k c None i j f = subst (ActingCallHasType p acts.Reset (target None x ∷ qs)) (ok_is nothing_done y f) (Acting.reset_nothing i j)

  -- a call by the name of what changes
  named_call : (a : Acting) (qs : List JudgedPart) (go : List ℕ → List JudgedPart → Result (Term × Shape) ℕ) (y : Term × Shape) → large_given p.names p.screen a qs ≡ None →
      ((x : List ℕ) (more : List JudgedPart) → large_given p.names p.screen a (target None x ∷ more) ≡ None → go x more ≡ Ok y → ActingCallHasType p a (target None x ∷ more) y) → by_first_name qs go ≡ Ok y → ActingCallHasType p a qs y
  named_call a qs go y small one e =
      let b = by_name_ok qs go y e in
      subst (λ z. ActingCallHasType p a z y) b.2 (one b.0 b.1 (subst (λ z. large_given p.names p.screen a z ≡ None) (sym b.2) small) b.3)

  pub acts_ok : (a : Acting) (qs : List JudgedPart) (y : Term × Shape) → gives_variables p.names p.screen a qs ≡ true → large_given p.names p.screen a qs ≡ None → acted p.names p.screen a qs ≡ Ok y → ActingCallHasType p a qs y
  acts_ok acts.Set qs y gives small e = named_call acts.Set qs (set_of p.names) y small (λ x more less f. set_ok x more y less f) e
  acts_ok acts.UpdateContext qs y gives small e = update_ok p.screen qs y gives small refl e
  acts_ok acts.Collect qs y gives small e = named_call acts.Collect qs (collect_of deed.Collect p.names) y small (λ x more less f. let b = collect_values deed.Collect x more y f in subst (ActingCallHasType p acts.Collect (target None x ∷ more)) b.8 (Acting.collect b.5 b.6 (small_collection (collection_named p.names x) (b.3, b.4) b.6 less) b.7)) e
  acts_ok acts.Clear qs y gives small e = named_call acts.Clear qs (clear_of p.names) y small (λ x more less f. clear_ok x more y f) e
  acts_ok acts.ClearCollect qs y gives small e = named_call acts.ClearCollect qs (collect_of deed.ClearCollect p.names) y small (λ x more less f. let b = collect_values deed.ClearCollect x more y f in subst (ActingCallHasType p acts.ClearCollect (target None x ∷ more)) b.8 (Acting.clear_collect b.5 b.6 (small_collection (collection_named p.names x) (b.3, b.4) b.6 less) b.7)) e
  acts_ok acts.Patch qs y gives small e = named_call acts.Patch qs (patch_of p.names) y small (λ x more less f. patch_ok x more y f) e
  acts_ok acts.Remove qs y gives small e = named_call acts.Remove qs (remove_of p.names) y small (λ x more less f. remove_ok x more y f) e
  acts_ok acts.RemoveIf qs y gives small e = remove_if_ok qs y e
  acts_ok acts.UpdateIf qs y gives small e = update_if_ok qs y e
  acts_ok acts.Navigate qs y gives small e = named_call acts.Navigate qs (navigate_of p.names) y small (λ x more less f. navigate_ok x more y f) e
  acts_ok acts.Notify qs y gives small e = notify_ok qs y e
  acts_ok acts.Reset qs y gives small e = named_call acts.Reset qs (reset_of p.names) y small (λ x more less f. reset_ok x more y f) e

  -- ---- and back
  collect_goes : (d : ℕ → Deed) (x : List ℕ) (qs : List JudgedPart) (v : Term × Shape) (vs ys : List (Term × Shape)) (k : ℕ) (c : Collection) → AreValueParts qs (v ∷ vs) →
      collection_named p.names x ≡ Some (k, c) → Collected (shape c.ty) (v ∷ vs) ys → collect_of d p.names x qs ≡ Ok (done_by (d k) (firsts ys))
  collect_goes d x qs v vs ys k c h i g =
      then_goes (values qs) (λ xs. if_known (collection_named p.names x) (λ (c : ℕ × Collection). collect_to d c xs)) (v ∷ vs) (done_by (d k) (firsts ys)) (values_are qs (v ∷ vs) h)
      (known_goes (collection_named p.names x) (λ (c : ℕ × Collection). collect_to d c (v ∷ vs)) (k, c) (done_by (d k) (firsts ys)) i
      (then_goes (rows_given (shape c.ty) (v ∷ vs)) (λ zs. Ok (done_by (d k) (firsts zs))) ys (done_by (d k) (firsts ys)) (collected_goes (shape c.ty) (v ∷ vs) ys g) refl))

  pub acts_go : (a : Acting) (qs : List JudgedPart) (y : Term × Shape) → ActingCallHasType p a qs y → acted p.names p.screen a qs ≡ Ok y
  acts_go a qs z (Acting.set {x = x} {qs = more} {v = v} {y = y} {k = k} {g = g} h i b w) =
      then_goes (values more) (λ xs. if_known (global_variable p.names x) (λ u. set_to u xs)) (v ∷ []) (done_by (deed.Set k) (y.0 ∷ [])) (values_are more (v ∷ []) h)
      (known_goes (global_variable p.names x) (λ u. set_to u (v ∷ [])) (k, g) (done_by (deed.Set k) (y.0 ∷ [])) i
      (then_goes (given_variable (shape g.ty) v) (λ u. Ok (done_by (deed.Set k) (u.0 ∷ []))) y (done_by (deed.Set k) (y.0 ∷ [])) (given_goes (shape g.ty) v y w) refl))
  acts_go a qs z (Acting.update_context {s = s} {ms = ms} {xs = xs} {gs = gs} i all g) =
      ap (λ o. update_of p.names o (assigned ms xs ∷ [])) i
      ∙ then_goes (give_all p.names (Some s) ms xs) (λ hs. Ok (done_by (deed.UpdateContext (given_sources hs)) (given_terms hs))) gs _
      (subst (λ o. give_all p.names o ms xs ≡ Ok gs) i (give_goes p.names p.screen ms xs gs g)) refl
  acts_go a qs z (Acting.collect {x = x} {qs = more} {v = v} {vs = vs} {ys = ys} {k = k} {c = c} h i b g) = collect_goes deed.Collect x more v vs ys k c h i g
  acts_go a qs z (Acting.clear {x = x} {k = k} {c = c} i j) =
      known_goes (collection_named p.names x) (λ (c : ℕ × Collection). clear_by c.0 (shape c.1.ty)) (k, c) (done_by (deed.Clear k) []) i (ap (clear_by k) j)
  acts_go a qs z (Acting.clear_nothing {x = x} {k = k} {c = c} i j) =
      known_goes (collection_named p.names x) (λ (c : ℕ × Collection). clear_by c.0 (shape c.1.ty)) (k, c) nothing_done i (ap (clear_by k) j)
  acts_go a qs z (Acting.clear_collect {x = x} {qs = more} {v = v} {vs = vs} {ys = ys} {k = k} {c = c} h i b g) = collect_goes deed.ClearCollect x more v vs ys k c h i g
  acts_go a qs z (Acting.patch {x = x} {qs = more} {t = t} {cs = cs} {blank = blank} {base = base} {b = b} {vs = vs} {ys = ys} h i r e) =
      then_goes (values more) (λ xs. by_rows (rows_named p.names x) (λ r. patch_to r xs)) (base ∷ vs) _ (values_are more (base ∷ vs) h)
      (by_rows_goes (rows_named p.names x) (λ r. patch_to r (base ∷ vs)) t cs blank _ i
      (both_lowest (λ b ys. (of (act (deed.Patch t)) (all (b.0 ∷ firsts ys)), records cs)) (row_typed t cs base) (changes_of t cs vs) b ys
      (named_goes cs t base b r) (each_goes (change_of t cs) (Change cs t) (change_goes cs t) vs ys e)))
  acts_go a qs z (Acting.remove {x = x} {qs = more} {t = t} {cs = cs} {blank = blank} {vs = vs} {ys = ys} h i e) =
      then_goes (values more) (λ xs. by_rows (rows_named p.names x) (λ r. and_then (rows_named_by r.0 r.1 xs) (λ ys. Ok (done_by (deed.Remove r.0) (firsts ys))))) vs _ (values_are more vs h)
      (by_rows_goes (rows_named p.names x) (λ r. and_then (rows_named_by r.0 r.1 vs) (λ ys. Ok (done_by (deed.Remove r.0) (firsts ys)))) t cs blank _ i
      (then_goes (rows_named_by t cs vs) (λ ys. Ok (done_by (deed.Remove t) (firsts ys))) ys _ (each_goes (row_typed t cs) (NamedRow cs t) (named_goes cs t) vs ys e) refl))
  acts_go a qs z (Acting.remove_if {a = b} {x = x} {qs = more} {t = t} {cs = cs} {blank = blank} {f = f} i e) =
      by_rows_goes (rows_named p.names x) (λ r. and_then (filter_of r b more) (λ f. Ok (done_by (deed.RemoveIf r.0) (f.0 ∷ [])))) t cs blank _ i
      (then_goes (filter_of (t, cs) b more) (λ f. Ok (done_by (deed.RemoveIf t) (f.0 ∷ []))) f _ (filtered_goes t cs b more f e) refl)
  acts_go a qs z (Acting.update_if {a = b} {x = x} {q = q} {qs = more} {t = t} {cs = cs} {blank = blank} {f = f} {v = v} {y = y} h i e c) =
      then_goes (values more) (λ xs. by_rows (rows_named p.names x) (λ r. update_to r b q xs)) (v ∷ []) _ (values_are more (v ∷ []) h)
      (by_rows_goes (rows_named p.names x) (λ r. update_to r b q (v ∷ [])) t cs blank _ i
      (then_goes (filter_of (t, cs) b (q ∷ [])) (λ g. and_then (change_of t cs v) (λ u. Ok (done_by (deed.UpdateIf t) (g.0 ∷ u.0 ∷ [])))) f _ (filtered_goes t cs b (q ∷ []) f e)
      (then_goes (change_of t cs v) (λ u. Ok (done_by (deed.UpdateIf t) (f.0 ∷ u.0 ∷ []))) y _ (change_goes cs t v y c) refl)))
  acts_go a qs z (Acting.navigate {x = x} {name = name} {k = k} i) =
      known_goes (screen_named p.names x) (λ (s : ℕ × List ℕ). Ok (done_by (deed.Navigate s.0) [])) (k, name) _ i refl
  acts_go a qs z (Acting.notify {qs = more} {c = c} {d = d} {u = u} h b) =
      then_goes (values more) notify_of ((c, u) ∷ []) _ (values_are more ((c, u) ∷ []) h)
      (then_goes (by_way (way u texts) c texts) (λ v. Ok (done_by deed.Notify (v.0 ∷ []))) (d, texts) _ (becomes_goes (way u texts) c texts d b) refl)
  acts_go a qs z (Acting.reset {x = x} {k = k} {c = c} i j) =
      known_goes (control_named p.names x) (λ (c : ℕ × ControlName). reset_by c.0 (input_type c.1.kind)) (k, c) _ i (ap (reset_by k) j)
  acts_go a qs z (Acting.reset_nothing {x = x} {k = k} {c = c} i j) =
      known_goes (control_named p.names x) (λ (c : ℕ × ControlName). reset_by c.0 (input_type c.1.kind)) (k, c) _ i (ap (reset_by k) j)

-- ---- what is one of its parts could be
abbrev is_row : Shape → Bool
is_row (records cs) = true
is_row blanks = true
is_row t = false

row_could : (a : Option (List ℕ)) (c : Term) (t : Shape) → could_be_row (piece (value a c t)) ≡ is_row t
row_could a c (records cs) = refl
row_could a c blanks = refl
row_could a c numbers = refl
row_could a c texts = refl
row_could a c booleans = refl
row_could a c dates = refl
row_could a c (tables cs) = refl

abbrev all_rows : List (Term × Shape) → Bool
all_rows [] = true
all_rows (x ∷ xs) = is_row x.1 && all_rows xs

rows_could : (qs : List JudgedPart) (xs : List (Term × Shape)) → AreValueParts qs xs → all_rows xs ≡ true → all_could could_be_row qs ≡ true
rows_could qs xs Records.no_values e = refl
rows_could qs xs (Records.one_value {a = a} {c = c} {t = t} {qs = more} {xs = others} v) e =
    let b = and_parts (is_row t) (all_rows others) e in
    and_from (could_be_row (piece (value a c t))) (all_could could_be_row more) (row_could a c t ∙ b.0) (rows_could more others v b.1)

named_is_row : (cs : ColumnList) (t : Target) (x y : Term × Shape) → NamedRow cs t x y → is_row x.1 ≡ true
named_is_row cs t x y (by_number i) = refl
named_is_row cs t x y (by_blank i) = refl
named_is_row cs t x y no_row_of_table = refl
named_is_row cs t x y (by_all j b) = refl
named_is_row cs t x y no_row_of_collection = refl

change_is_row : (cs : ColumnList) (t : Target) (x y : Term × Shape) → Change cs t x y → is_row x.1 ≡ true
change_is_row cs t x y (some_columns i j) = refl
change_is_row cs t x y no_change = refl

each_is_row : (R : Term × Shape → Term × Shape → Type 0) → ((x y : Term × Shape) → R x y → is_row x.1 ≡ true) → (xs ys : List (Term × Shape)) → Each R xs ys →
    all_rows xs ≡ true
each_is_row R one xs ys none_each = refl
each_is_row R one xs ys (one_each {x = x} {y = y} {xs = others} {ys = after} r more) = and_from (is_row x.1) (all_rows others) (one x y r) (each_is_row R one others after more)

way_is_open : (w : Way) (c : Term) (t : Shape) (x : Term × Shape) → by_way w c t ≡ Ok x → is_open w ≡ true
way_is_open same c t x e = refl
way_is_open changed c t x e = refl
way_is_open refused c t x e = absurd cc

condition_could : (first common : Shape) (q : JudgedPart) (x : Term × Shape) → stand (takes.Formula Boolean) first common (piece_of q) ≡ Ok x → could_be_condition q ≡ true
condition_could first common (piece (value a c t)) x e = way_is_open (way t booleans) c booleans x e
condition_could first common (piece (label l)) x e = absurd cc
condition_could first common (meant m) x e = absurd cc
condition_could first common (target a l) x e = absurd cc
condition_could first common (assigned ns xs) x e = absurd cc

pub never_first : (i : ℕ) → nat_eq (suc i) 0 ≡ false
never_first i = ne_eqb (suc i) 0 (λ e. omega (arith, e))

conditions_could : (n i : ℕ) (first common : Shape) (qs : List JudgedPart) (ps : List Piece) (xs : List (Term × Shape)) → pieces qs ≡ ps →
    StandFrom Filtering n first common (suc i) ps xs → all_could could_be_condition qs ≡ true
conditions_could n i first common [] ps xs e f = refl
conditions_could n i first common (q ∷ qs) ps xs e none_stand = absurd cc
conditions_could n i first common (q ∷ qs) ps xs e (one_stands {p = p} {ps = more} {x = x} {xs = others} s f) =
    let same_piece : piece_of q ≡ p = cc in
    let same_rest : pieces qs ≡ more = cc in
    let stood : stand (takes.Formula Boolean) first common (piece_of q) ≡ Ok x =
    ap (λ k. stand k first common (piece_of q)) (sym (condition_at n i)) ∙ ap (stand (takes_at Filtering n (suc i)) first common) same_piece ∙ stands_goes first common (takes_at Filtering n (suc i)) p x s in
    and_from (could_be_condition q) (all_could could_be_condition qs) (condition_could first common q x stood)
    (conditions_could n (suc i) first common qs more others same_rest f)

filter_could : (t : Target) (cs : ColumnList) (a : Option (List ℕ)) (qs : List JudgedPart) (f : Term × Shape) → Acting.Filtered t cs a qs f → all_could could_be_condition qs ≡ true
filter_could t cs a qs f (by_row {common = u} count join (first_and_others {x = x} {xs = xs} s others) answers) =
    conditions_could (suc (length (pieces qs))) 0 x.1 u qs (pieces qs) xs refl others

pub acts_could : (p : Place) (a : Acting) (qs : List JudgedPart) (y : Term × Shape) → ActingCallHasType p a qs y → could_act a qs ≡ true
acts_could p a qs z (Acting.patch {qs = more} {t = t} {cs = cs} {base = base} {b = b} {vs = vs} {ys = ys} h i r e) =
    rows_could more (base ∷ vs) h (and_from (is_row base.1) (all_rows vs) (named_is_row cs t base b r) (each_is_row (Change cs t) (change_is_row cs t) vs ys e))
acts_could p a qs z (Acting.remove {qs = more} {t = t} {cs = cs} {vs = vs} {ys = ys} h i e) =
    rows_could more vs h (each_is_row (NamedRow cs t) (named_is_row cs t) vs ys e)
acts_could p a qs z (Acting.remove_if {a = b} {qs = more} {t = t} {cs = cs} {f = f} i e) = filter_could t cs b more f e
acts_could p a qs z (Acting.update_if {a = b} {q = q} {qs = more} {t = t} {cs = cs} {f = f} {v = v} {y = y} h i e c) =
    and_from (could_be_condition q) (all_could could_be_row more) ((and_parts (could_be_condition q) true (filter_could t cs b (q ∷ []) f e)).0)
    (rows_could more (v ∷ []) h (and_from (is_row v.1) true (change_is_row cs t v y c) refl))
acts_could p a qs z (Acting.set h i b w) = refl
acts_could p a qs z (Acting.update_context i all g) = refl
acts_could p a qs z (Acting.collect h i b g) = refl
acts_could p a qs z (Acting.clear i j) = refl
acts_could p a qs z (Acting.clear_nothing i j) = refl
acts_could p a qs z (Acting.clear_collect h i b g) = refl
acts_could p a qs z (Acting.navigate i) = refl
acts_could p a qs z (Acting.notify h b) = refl
acts_could p a qs z (Acting.reset i j) = refl
acts_could p a qs z (Acting.reset_nothing i j) = refl

pub acts_give : (p : Place) (a : Acting) (qs : List JudgedPart) (y : Term × Shape) → ActingCallHasType p a qs y → gives_variables p.names p.screen a qs ≡ true
acts_give p a qs z (Acting.update_context {ms = ms} i all g) = (from_screen p.names p.screen ms all).0
acts_give p a qs z (Acting.patch h i r e) = refl
acts_give p a qs z (Acting.remove h i e) = refl
acts_give p a qs z (Acting.remove_if i e) = refl
acts_give p a qs z (Acting.update_if h i e c) = refl
acts_give p a qs z (Acting.set h i b w) = refl
acts_give p a qs z (Acting.collect h i b g) = refl
acts_give p a qs z (Acting.clear i j) = refl
acts_give p a qs z (Acting.clear_nothing i j) = refl
acts_give p a qs z (Acting.clear_collect h i b g) = refl
acts_give p a qs z (Acting.navigate i) = refl
acts_give p a qs z (Acting.notify h b) = refl
acts_give p a qs z (Acting.reset i j) = refl
acts_give p a qs z (Acting.reset_nothing i j) = refl

pub acts_small : (p : Place) (a : Acting) (qs : List JudgedPart) (y : Term × Shape) → ActingCallHasType p a qs y → large_given p.names p.screen a qs ≡ None
acts_small p a qs z (Acting.update_context {ms = ms} i all g) = (from_screen p.names p.screen ms all).1
acts_small p a qs z (Acting.set {g = g} h i b w) = ap large_variable i ∙ small_bounded (shape g.ty) b
acts_small p a qs z (Acting.collect {c = c} h i b g) = ap large_collection i ∙ small_bounded (shape c.ty) b
acts_small p a qs z (Acting.clear_collect {c = c} h i b g) = ap large_collection i ∙ small_bounded (shape c.ty) b
acts_small p a qs z (Acting.patch h i r e) = refl
acts_small p a qs z (Acting.remove h i e) = refl
acts_small p a qs z (Acting.remove_if i e) = refl
acts_small p a qs z (Acting.update_if h i e c) = refl
acts_small p a qs z (Acting.clear i j) = refl
acts_small p a qs z (Acting.clear_nothing i j) = refl
acts_small p a qs z (Acting.navigate i) = refl
acts_small p a qs z (Acting.notify h b) = refl
acts_small p a qs z (Acting.reset i j) = refl
acts_small p a qs z (Acting.reset_nothing i j) = refl
