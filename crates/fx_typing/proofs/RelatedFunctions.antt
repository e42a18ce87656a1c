-- The one rule of the table of functions: the relation admits what the definition admits.
use Rattle.std.proofs.Common.{◌≡◌, ℕ, suc, List, [], ◌∷◌, Bool, true, false, ◌&&◌, is_some, length, Option, Some, None, Result, Ok, Err, refl, ap, sym, subst, ◌∙◌, if◌then◌else◌}
use Rattle.fx_types.specs.Types.{Shape, blanks, numbers, texts, booleans, dates, records, tables, ColumnList, no_columns}
use Rattle.fx_core.specs.declared.rows.Answer.{Answer}
use Rattle.fx_core.specs.declared.rows.Answer.TheVariants as answer
use Rattle.fx_core.specs.declared.rows.Row.{Row}
use Rattle.fx_core.specs.declared.rows.Takes.{Takes}
use Rattle.fx_core.specs.declared.rows.Takes.TheVariants as takes
use Rattle.fx_core.specs.Rows.{shape_of, takes_at, takes_count}
use Rattle.fx_core.specs.Term.{Term, of, all, Top}
use Rattle.fx_core.specs.SourceTypes.{put_column}
use Rattle.std.proofs.lemmas.Bool.{and_parts, and_from}
use Rattle.fx_typing.specs.Columns.{tells_error, label_of, by_label, names_there, added, dropped, columns_shown, columns_renamed, last_label, may_be_key, is_key, are_keys, with_group, grouped_by, grouped, first_shared, out_of, ungrouped}
use Rattle.fx_core.specs.ColumnLists.{and_then, field_in, columns_without, without_all, columns_only, if_there, if_free, with_new, with_renamed, value_column, row_columns, joined_columns, before_last}
use Rattle.fx_typing.specs.Local.{Piece, value, label, coerced, by_way, exact_way, branch_way, part_or_rule, without_kind, stand, put_first, stand_rest, stand_all, branches, join_all, all_scalar, some_text, some_acts, or_blank, common_or, common_of, firsts, answer_by, made_as, made_by}
use Rattle.fx_typing.specs.WellTyped.{row_type, as_table, answered_type}
use Rattle.fx_typing.specs.Ways.{Way, same, changed, refused, way, is_scalar, is_comparable}
use Rattle.fx_typing.specs.Functions
use Rattle.fx_typing.specs.Functions.{Becomes, as_it_is, by_coercion, IsNoTableType, StandsAs, StandFrom, none_stand, one_stands, AllPartsStand, no_parts, first_and_others, Common, their_join, as_texts, as_blanks, Adds, nothing_added, no_formula, one_added, Renames, nothing_renamed, no_new_name, one_renamed, AreColumns, none_named, one_named, Groups, the_group, one_key, AnswerType, Made, by_row}
use Rattle.fx_typing.proofs.RelatedSteps.{ok_is, some_is, then_goes, put_first_ok, if_true, if_ok}
use Rattle.fx_typing.proofs.Operators.{then_ok}

pub becomes_ok : (w : Way) (c : Term) (t : Shape) (x : Term × Shape) → by_way w c t ≡ Ok x → (d : Term) × Becomes w c t d × ((d, t) ≡ x)
becomes_ok same c t x e = (c, as_it_is, ok_is (c, t) x e)
becomes_ok changed c t x e = (coerced c t, by_coercion, ok_is (coerced c t, t) x e)
becomes_ok refused c t x e = absurd cc

pub becomes_goes : (w : Way) (c : Term) (t : Shape) (d : Term) → Becomes w c t d → by_way w c t ≡ Ok (d, t)
becomes_goes w c t d as_it_is = refl
becomes_goes w c t d by_coercion = refl

pub when_ok : (b : Bool) (e : ℕ) (k : Term) (t : Shape) (x : Term × Shape) → part_or_rule b e k t ≡ Ok x → (b ≡ true) × ((k, t) ≡ x)
when_ok true e k t x h = (refl, ok_is (k, t) x h)
when_ok false e k t x h = absurd cc

when_goes : (b : Bool) (e : ℕ) (k : Term) (t : Shape) → b ≡ true → part_or_rule b e k t ≡ Ok (k, t)
when_goes b e k t h = ap (λ z. part_or_rule z e k t) h

-- a part at its place
module _ (first common : Shape) where
  stands_ok : (k : Takes) (p : Piece) (x : Term × Shape) → stand k first common p ≡ Ok x → StandsAs first common k p x
  stands_ok (takes.Scalar s) (value a c t) x e =
      let b = becomes_ok (way t (shape_of s)) c (shape_of s) x e in subst (StandsAs first common (takes.Scalar s) (value a c t)) b.2 (Functions.scalar b.1)
  stands_ok (takes.Formula s) (value a c t) x e =
      let b = becomes_ok (way t (shape_of s)) c (shape_of s) x e in subst (StandsAs first common (takes.Formula s) (value a c t)) b.2 (Functions.formula b.1)
  stands_ok (takes.Exact s) (value a c t) x e =
      let b = becomes_ok (exact_way t (shape_of s)) c (shape_of s) x e in subst (StandsAs first common (takes.Exact s) (value a c t)) b.2 (Functions.exact b.1)
  stands_ok takes.Choice (value a c t) x e =
      let b = becomes_ok (branch_way t common) c common x e in subst (StandsAs first common takes.Choice (value a c t)) b.2 (Functions.choice b.1)
  stands_ok takes.Branch (value a c t) x e =
      let b = becomes_ok (branch_way t common) c common x e in subst (StandsAs first common takes.Branch (value a c t)) b.2 (Functions.branch b.1)
  stands_ok takes.Fallback (value a c t) x e =
      let b = becomes_ok (branch_way t common) c common x e in subst (StandsAs first common takes.Fallback (value a c t)) b.2 (Functions.fallback b.1)
  stands_ok takes.Any (value a c t) x e = subst (StandsAs first common takes.Any (value a c t)) (ok_is (c, t) x e) Functions.any
  stands_ok takes.AnyFormula (value a c t) x e = subst (StandsAs first common takes.AnyFormula (value a c t)) (ok_is (c, t) x e) Functions.any_formula
  stands_ok takes.ErrorRecord (value a c (records cs)) x e =
      let w = when_ok (tells_error cs) (without_kind _) c (records cs) x e in
      subst (StandsAs first common takes.ErrorRecord (value a c (records cs))) w.1 (Functions.error_record w.0)
  stands_ok takes.Table (value a c (tables cs)) x e = subst (StandsAs first common takes.Table (value a c (tables cs))) (ok_is (c, tables cs) x e) Functions.table
  stands_ok takes.Table (value a c blanks) x e =
      subst (StandsAs first common takes.Table (value a c blanks)) (ok_is (coerced c (tables no_columns), tables no_columns) x e) Functions.blank_table
  stands_ok takes.ScalarFormula (value a c t) x e =
      let w = when_ok (is_scalar t) 6 c t x e in subst (StandsAs first common takes.ScalarFormula (value a c t)) w.1 (Functions.scalar_formula w.0)
  stands_ok takes.Compared (value a c t) x e =
      let w = when_ok (is_scalar t) 6 c t x e in subst (StandsAs first common takes.Compared (value a c t)) w.1 (Functions.compared w.0)
  stands_ok takes.Match (value a c t) x e =
      let w = when_ok (is_comparable first t) 6 c t x e in subst (StandsAs first common takes.Match (value a c t)) w.1 (Functions.matched w.0)
  stands_ok takes.RowFormula (value a c blanks) x e = subst (StandsAs first common takes.RowFormula (value a c blanks)) (ok_is (c, blanks) x e) (Functions.row_formula tt)
  stands_ok takes.RowFormula (value a c numbers) x e = subst (StandsAs first common takes.RowFormula (value a c numbers)) (ok_is (c, numbers) x e) (Functions.row_formula tt)
  stands_ok takes.RowFormula (value a c texts) x e = subst (StandsAs first common takes.RowFormula (value a c texts)) (ok_is (c, texts) x e) (Functions.row_formula tt)
  stands_ok takes.RowFormula (value a c booleans) x e = subst (StandsAs first common takes.RowFormula (value a c booleans)) (ok_is (c, booleans) x e) (Functions.row_formula tt)
  stands_ok takes.RowFormula (value a c dates) x e = subst (StandsAs first common takes.RowFormula (value a c dates)) (ok_is (c, dates) x e) (Functions.row_formula tt)
  stands_ok takes.RowFormula (value a c (records cs)) x e = subst (StandsAs first common takes.RowFormula (value a c (records cs))) (ok_is (c, records cs) x e) (Functions.row_formula tt)
  stands_ok takes.Column (label l) x e = subst (StandsAs first common takes.Column (label l)) (ok_is _ x e) Functions.column
  stands_ok takes.NewColumn (label l) x e = subst (StandsAs first common takes.NewColumn (label l)) (ok_is _ x e) Functions.new_column
  stands_ok k p x e = absurd cc

  -- a formula of a row that is no table stands as it is
  no_table_stands : (a : Option (List ℕ)) (c : Term) (t : Shape) → IsNoTableType t → stand takes.RowFormula first common (value a c t) ≡ Ok (c, t)
  no_table_stands a c (tables cs) i = absurd i
  no_table_stands a c blanks i = refl
  no_table_stands a c numbers i = refl
  no_table_stands a c texts i = refl
  no_table_stands a c booleans i = refl
  no_table_stands a c dates i = refl
  no_table_stands a c (records cs) i = refl

  pub stands_goes : (k : Takes) (p : Piece) (x : Term × Shape) → StandsAs first common k p x → stand k first common p ≡ Ok x
  stands_goes k p x (Functions.scalar {s = s} {c = c} {d = d} {t = t} b) = becomes_goes (way t (shape_of s)) c (shape_of s) d b
  stands_goes k p x (Functions.formula {s = s} {c = c} {d = d} {t = t} b) = becomes_goes (way t (shape_of s)) c (shape_of s) d b
  stands_goes k p x (Functions.exact {s = s} {c = c} {d = d} {t = t} b) = becomes_goes (exact_way t (shape_of s)) c (shape_of s) d b
  stands_goes k p x Functions.any = refl
  stands_goes k p x Functions.any_formula = refl
  stands_goes k p x (Functions.error_record {c = c} {cs = cs} b) = when_goes (tells_error cs) _ c (records cs) b
  stands_goes k p x Functions.table = refl
  stands_goes k p x Functions.blank_table = refl
  stands_goes k p x (Functions.scalar_formula {c = c} {t = t} b) = when_goes (is_scalar t) 6 c t b
  stands_goes k p x (Functions.row_formula {a = a} {c = c} {t = t} b) = no_table_stands a c t b
  stands_goes k p x (Functions.choice {c = c} {d = d} {t = t} b) = becomes_goes (branch_way t common) c common d b
  stands_goes k p x (Functions.branch {c = c} {d = d} {t = t} b) = becomes_goes (branch_way t common) c common d b
  stands_goes k p x (Functions.fallback {c = c} {d = d} {t = t} b) = becomes_goes (branch_way t common) c common d b
  stands_goes k p x (Functions.compared {c = c} {t = t} b) = when_goes (is_scalar t) 6 c t b
  stands_goes k p x (Functions.matched {c = c} {t = t} b) = when_goes (is_comparable first t) 6 c t b
  stands_goes k p x Functions.column = refl
  stands_goes k p x Functions.new_column = refl

-- all parts
from_ok : (r : Row) (n : ℕ) (first common : Shape) (i : ℕ) (ps : List Piece) (xs : List (Term × Shape)) → stand_rest r n i first common ps ≡ Ok xs →
    StandFrom r n first common i ps xs
from_ok r n first common i [] xs e = subst (StandFrom r n first common i []) (ok_is [] xs e) none_stand
from_ok r n first common i (p ∷ ps) xs e =
    let a = then_ok (stand (takes_at r n i) first common p) (λ x. put_first x (stand_rest r n (suc i) first common ps)) xs e in
    let b = put_first_ok a.0 (stand_rest r n (suc i) first common ps) xs a.2 in
    subst (StandFrom r n first common i (p ∷ ps)) b.2
    (one_stands (stands_ok first common (takes_at r n i) p a.0 a.1) (from_ok r n first common (suc i) ps b.0 b.1))

from_goes : (r : Row) (n : ℕ) (first common : Shape) (i : ℕ) (ps : List Piece) (xs : List (Term × Shape)) → StandFrom r n first common i ps xs →
    stand_rest r n i first common ps ≡ Ok xs
from_goes r n first common i ps xs none_stand = refl
from_goes r n first common i ps xs (one_stands {p = p} {ps = more} {x = x} {xs = others} s f) =
    then_goes (stand (takes_at r n i) first common p) (λ z. put_first z (stand_rest r n (suc i) first common more)) x (x ∷ others)
    (stands_goes first common (takes_at r n i) p x s) (ap (put_first x) (from_goes r n first common (suc i) more others f))

all_ok : (r : Row) (common : Shape) (ps : List Piece) (xs : List (Term × Shape)) → stand_all r common ps ≡ Ok xs → AllPartsStand r common ps xs
all_ok r common [] xs e = subst (AllPartsStand r common []) (ok_is [] xs e) no_parts
all_ok r common (p ∷ ps) xs e =
    let n = suc (length ps) in
    let a = then_ok (stand (takes_at r (suc (length ps)) 0) blanks common p) (λ (x : Term × Shape). put_first x (stand_rest r (suc (length ps)) 1 x.1 common ps)) xs e in
    let b = put_first_ok a.0 (stand_rest r (suc (length ps)) 1 a.0.1 common ps) xs a.2 in
    subst (AllPartsStand r common (p ∷ ps)) b.2
    (first_and_others (stands_ok blanks common (takes_at r (suc (length ps)) 0) p a.0 a.1) (from_ok r (suc (length ps)) a.0.1 common 1 ps b.0 b.1))

all_goes : (r : Row) (common : Shape) (ps : List Piece) (xs : List (Term × Shape)) → AllPartsStand r common ps xs → stand_all r common ps ≡ Ok xs
all_goes r common ps xs no_parts = refl
all_goes r common ps xs (first_and_others {p = p} {ps = more} {x = x} {xs = others} s f) =
    then_goes (stand (takes_at r (suc (length more)) 0) blanks common p) (λ (z : Term × Shape). put_first z (stand_rest r (suc (length more)) 1 z.1 common more)) x (x ∷ others)
    (stands_goes blanks common (takes_at r (suc (length more)) 0) p x s) (ap (put_first x) (from_goes r (suc (length more)) x.1 common 1 more others f))

-- the common type
common_ok : (xs : List (Term × Shape)) (t : Shape) → common_of xs ≡ Some t → Common xs t
common_ok xs t e = by_join (join_all (Some blanks) xs) refl e
  where
    by_acting : (b : Bool) → some_acts xs ≡ b → join_all (Some blanks) xs ≡ None → (all_scalar xs && some_text xs) ≡ false → or_blank b ≡ Some t → Common xs t
    by_acting true k i j f = subst (Common xs) (some_is blanks t f) (as_blanks i j k)
    by_acting false k i j f = absurd cc

    by_text : (b : Bool) → (all_scalar xs && some_text xs) ≡ b → join_all (Some blanks) xs ≡ None →
        (if b then Some texts else or_blank (some_acts xs)) ≡ Some t → Common xs t
    by_text true j i f = subst (Common xs) (some_is texts t f) (as_texts i j)
    by_text false j i f = by_acting (some_acts xs) refl i j f

    by_join : (o : Option Shape) → join_all (Some blanks) xs ≡ o → common_or xs o ≡ Some t → Common xs t
    by_join (Some u) i f = their_join (i ∙ f)
    by_join None i f = by_text (all_scalar xs && some_text xs) refl i f

common_goes : (xs : List (Term × Shape)) (t : Shape) → Common xs t → common_of xs ≡ Some t
common_goes xs t (their_join e) = ap (common_or xs) e
common_goes xs t (as_texts e f) = ap (common_or xs) e ∙ ap (λ b. if b then Some texts else or_blank (some_acts xs)) f
common_goes xs t (as_blanks e f g) =
    ap (common_or xs) e ∙ ap (λ b. if b then Some texts else or_blank (some_acts xs)) f ∙ ap or_blank g

-- the answer
as_table_ok : (r : Result ColumnList ℕ) (t : Shape) → as_table r ≡ Ok t → (cs : ColumnList) × (r ≡ Ok cs) × (tables cs ≡ t)
as_table_ok (Ok cs) t e = (cs, refl, ok_is (tables cs) t e)
as_table_ok (Err n) t e = absurd cc

by_label_ok : {A : Type 0} (o : Option (List ℕ)) (go : List ℕ → Result A ℕ) (a : A) → by_label o go ≡ Ok a → (x : List ℕ) × (o ≡ Some x) × (go x ≡ Ok a)
by_label_ok (Some x) go a e = (x, refl, e)
by_label_ok None go a e = absurd cc

by_label_goes : {A : Type 0} (o : Option (List ℕ)) (go : List ℕ → Result A ℕ) (x : List ℕ) (a : A) → o ≡ Some x → go x ≡ Ok a → by_label o go ≡ Ok a
by_label_goes o go x a e f = ap (λ z. by_label z go) e ∙ f

pub free_ok : (o : Option Shape) (cs ds : ColumnList) → if_free o cs ≡ Ok ds → (o ≡ None) × (cs ≡ ds)
free_ok None cs ds e = (refl, ok_is cs ds e)
free_ok (Some t) cs ds e = absurd cc

pub there_ok : (o : Option Shape) (u : Shape) → if_there o ≡ Ok u → o ≡ Some u
there_ok (Some t) u e = ap (λ v. Some v) (ok_is t u e)
there_ok None u e = absurd cc

adds_ok : (xs : List (Term × Shape)) (cs ds : ColumnList) → added xs cs ≡ Ok ds → Adds xs cs ds
adds_ok [] cs ds e = subst (Adds [] cs) (ok_is cs ds e) nothing_added
adds_ok (x ∷ []) cs ds e = subst (Adds (x ∷ []) cs) (ok_is cs ds e) no_formula
adds_ok (x ∷ f ∷ xs) cs ds e =
    let a = by_label_ok (label_of x.0) (λ n. and_then (with_new n f.1 cs) (λ es. added xs es)) ds e in
    let b = then_ok (with_new a.0 f.1 cs) (λ es. added xs es) ds a.2 in
    let c = free_ok (field_in a.0 cs) (put_column a.0 f.1 cs) b.0 b.1 in
    one_added a.1 c.0 (adds_ok xs (put_column a.0 f.1 cs) ds (ap (added xs) c.1 ∙ b.2))

pub adds_go : (xs : List (Term × Shape)) (cs ds : ColumnList) → Adds xs cs ds → added xs cs ≡ Ok ds
adds_go xs cs ds nothing_added = refl
adds_go xs cs ds no_formula = refl
adds_go xs cs ds (one_added {x = x} {f = f} {n = n} {xs = others} i j more) =
    by_label_goes (label_of x.0) (λ n. and_then (with_new n f.1 cs) (λ es. added others es)) n ds i
    (then_goes (with_new n f.1 cs) (λ es. added others es) (put_column n f.1 cs) ds (ap (λ o. if_free o (put_column n f.1 cs)) j)
    (adds_go others (put_column n f.1 cs) ds more))

renames_ok : (xs : List (Term × Shape)) (cs ds : ColumnList) → columns_renamed xs cs ≡ Ok ds → Renames xs cs ds
renames_ok [] cs ds e = subst (Renames [] cs) (ok_is cs ds e) nothing_renamed
renames_ok (x ∷ []) cs ds e = subst (Renames (x ∷ []) cs) (ok_is cs ds e) no_new_name
renames_ok (x ∷ y ∷ xs) cs ds e =
    let a = by_label_ok (label_of x.0) (λ n. by_label (label_of y.0) (λ m. and_then (with_renamed n m cs) (λ es. columns_renamed xs es))) ds e in
    let b = by_label_ok (label_of y.0) (λ m. and_then (with_renamed a.0 m cs) (λ es. columns_renamed xs es)) ds a.2 in
    let c = then_ok (with_renamed a.0 b.0 cs) (λ es. columns_renamed xs es) ds b.2 in
    let d = then_ok (if_there (field_in a.0 cs)) (λ t. if_free (field_in b.0 cs) (put_column b.0 t (columns_without a.0 cs))) c.0 c.1 in
    let f = free_ok (field_in b.0 cs) (put_column b.0 d.0 (columns_without a.0 cs)) c.0 d.2 in
    one_renamed a.1 b.1 (there_ok (field_in a.0 cs) d.0 d.1) f.0 (renames_ok xs (put_column b.0 d.0 (columns_without a.0 cs)) ds (ap (columns_renamed xs) f.1 ∙ c.2))

pub renames_go : (xs : List (Term × Shape)) (cs ds : ColumnList) → Renames xs cs ds → columns_renamed xs cs ≡ Ok ds
renames_go xs cs ds nothing_renamed = refl
renames_go xs cs ds no_new_name = refl
renames_go xs cs ds (one_renamed {x = x} {y = y} {n = n} {m = m} {t = t} {xs = others} i j k l more) =
    by_label_goes (label_of x.0) (λ n. by_label (label_of y.0) (λ m. and_then (with_renamed n m cs) (λ es. columns_renamed others es))) n ds i
    (by_label_goes (label_of y.0) (λ m. and_then (with_renamed n m cs) (λ es. columns_renamed others es)) m ds j
    (then_goes (with_renamed n m cs) (λ es. columns_renamed others es) (put_column m t (columns_without n cs)) ds
    (then_goes (if_there (field_in n cs)) (λ u. if_free (field_in m cs) (put_column m u (columns_without n cs))) t (put_column m t (columns_without n cs)) (ap if_there k)
    (ap (λ o. if_free o (put_column m t (columns_without n cs))) l))
    (renames_go others (put_column m t (columns_without n cs)) ds more)))

columns_ok : (cs : ColumnList) (xs : List (Term × Shape)) (ns : List (List ℕ)) → names_there xs cs ≡ Ok ns → AreColumns cs xs ns
columns_ok cs [] ns e = subst (AreColumns cs []) (ok_is [] ns e) none_named
columns_ok cs (x ∷ xs) ns e =
    let a = by_label_ok (label_of x.0) (λ n. and_then (if_there (field_in n cs)) (λ t. and_then (names_there xs cs) (λ ms. Ok (n ∷ ms)))) ns e in
    let b = then_ok (if_there (field_in a.0 cs)) (λ t. and_then (names_there xs cs) (λ ms. Ok (a.0 ∷ ms))) ns a.2 in
    let c = then_ok (names_there xs cs) (λ ms. Ok (a.0 ∷ ms)) ns b.2 in
    subst (AreColumns cs (x ∷ xs)) (ok_is (a.0 ∷ c.0) ns c.2) (one_named a.1 (there_ok (field_in a.0 cs) b.0 b.1) (columns_ok cs xs c.0 c.1))

columns_go : (cs : ColumnList) (xs : List (Term × Shape)) (ns : List (List ℕ)) → AreColumns cs xs ns → names_there xs cs ≡ Ok ns
columns_go cs xs ns none_named = refl
columns_go cs xs ns (one_named {x = x} {n = n} {t = t} {xs = others} {ns = after} i j more) =
    by_label_goes (label_of x.0) (λ n. and_then (if_there (field_in n cs)) (λ t. and_then (names_there others cs) (λ ms. Ok (n ∷ ms)))) n (n ∷ after) i
    (then_goes (if_there (field_in n cs)) (λ t. and_then (names_there others cs) (λ ms. Ok (n ∷ ms))) t (n ∷ after) (ap if_there j)
    (then_goes (names_there others cs) (λ ms. Ok (n ∷ ms)) after (n ∷ after) (columns_go cs others after more) refl))

-- keys, and behind them the new name
keys_ok : (cs : ColumnList) (g : List ℕ) (xs : List (Term × Shape)) (ns : List (List ℕ)) → last_label xs ≡ Some g → field_in g cs ≡ None →
    are_keys (before_last xs) cs ≡ true → names_there (before_last xs) cs ≡ Ok ns → Groups cs xs ns g
keys_ok cs g [] ns l f k e = absurd cc
keys_ok cs g (x ∷ []) ns l f k e = subst (λ ms. Groups cs (x ∷ []) ms g) (ok_is [] ns e) (the_group l f)
keys_ok cs g (x ∷ y ∷ xs) ns l f k e =
    let b = and_parts (is_key (label_of x.0) cs) (are_keys (before_last (y ∷ xs)) cs) k in
    let a = by_label_ok (label_of x.0) (λ n. and_then (if_there (field_in n cs)) (λ t. and_then (names_there (before_last (y ∷ xs)) cs) (λ ms. Ok (n ∷ ms)))) ns e in
    let c = then_ok (if_there (field_in a.0 cs)) (λ t. and_then (names_there (before_last (y ∷ xs)) cs) (λ ms. Ok (a.0 ∷ ms))) ns a.2 in
    let d = then_ok (names_there (before_last (y ∷ xs)) cs) (λ ms. Ok (a.0 ∷ ms)) ns c.2 in
    let there = there_ok (field_in a.0 cs) c.0 c.1 in
    let scalar : is_scalar c.0 ≡ true = sym (ap may_be_key there) ∙ sym (ap (λ o. is_key o cs) a.1) ∙ b.0 in
    subst (λ ms. Groups cs (x ∷ y ∷ xs) ms g) (ok_is (a.0 ∷ d.0) ns d.2) (one_key a.1 there scalar (keys_ok cs g (y ∷ xs) d.0 l f b.1 d.1))

groups_ok : (xs : List (Term × Shape)) (cs ds : ColumnList) → grouped xs cs ≡ Ok ds →
    (ns : List (List ℕ)) × (g : List ℕ) × Groups cs xs ns g × (with_group g ns cs ≡ ds)
groups_ok xs cs ds e =
    let a = by_label_ok (last_label xs) (λ g. and_then (if_free (field_in g cs) cs) (λ es. grouped_by g (before_last xs) es)) ds e in
    let b = then_ok (if_free (field_in a.0 cs) cs) (λ es. grouped_by a.0 (before_last xs) es) ds a.2 in
    let f = free_ok (field_in a.0 cs) cs b.0 b.1 in
    let whole : grouped_by a.0 (before_last xs) cs ≡ Ok ds = subst (λ es. grouped_by a.0 (before_last xs) es ≡ Ok ds) (sym f.1) b.2 in
    let k = if_ok (are_keys (before_last xs) cs) (and_then (names_there (before_last xs) cs) (λ ns. Ok (with_group a.0 ns cs))) 6 ds whole in
    let n = then_ok (names_there (before_last xs) cs) (λ ns. Ok (with_group a.0 ns cs)) ds k.1 in
    (n.0, a.0, keys_ok cs a.0 xs n.0 a.1 f.0 k.0 n.1, ok_is (with_group a.0 n.0 cs) ds n.2)

pub groups_go : (cs : ColumnList) (xs : List (Term × Shape)) (ns : List (List ℕ)) (g : List ℕ) → Groups cs xs ns g →
    (last_label xs ≡ Some g) × (field_in g cs ≡ None) × (are_keys (before_last xs) cs ≡ true) × (names_there (before_last xs) cs ≡ Ok ns)
groups_go cs xs ns g (the_group l f) = (l, f, refl, refl)
groups_go cs xs ns g (one_key {x = x} {y = y} {n = n} {t = t} {xs = others} {ns = after} i j s more) =
    let r = groups_go cs (y ∷ others) after g more in (
      r.0,
      r.1,
      and_from (is_key (label_of x.0) cs) (are_keys (before_last (y ∷ others)) cs) (ap (λ o. is_key o cs) i ∙ ap may_be_key j ∙ s) r.2,
      by_label_goes (label_of x.0) (λ m. and_then (if_there (field_in m cs)) (λ t. and_then (names_there (before_last (y ∷ others)) cs) (λ ms. Ok (m ∷ ms)))) n (n ∷ after) i
          (then_goes (if_there (field_in n cs)) (λ t. and_then (names_there (before_last (y ∷ others)) cs) (λ ms. Ok (n ∷ ms))) t (n ∷ after) (ap if_there j)
          (then_goes (names_there (before_last (y ∷ others)) cs) (λ ms. Ok (n ∷ ms)) after (n ∷ after) r.3 refl)),
    )

grouped_goes : (cs : ColumnList) (xs : List (Term × Shape)) (ns : List (List ℕ)) (g : List ℕ) → Groups cs xs ns g → grouped xs cs ≡ Ok (with_group g ns cs)
grouped_goes cs xs ns g h =
    let r = groups_go cs xs ns g h in
    by_label_goes (last_label xs) (λ m. and_then (if_free (field_in m cs) cs) (λ es. grouped_by m (before_last xs) es)) g (with_group g ns cs) r.0
    (then_goes (if_free (field_in g cs) cs) (λ es. grouped_by g (before_last xs) es) cs (with_group g ns cs) (ap (λ o. if_free o cs) r.1)
    (if_true (are_keys (before_last xs) cs) (and_then (names_there (before_last xs) cs) (λ ms. Ok (with_group g ms cs))) (Err 6) r.2
    ∙ ap (λ q. and_then q (λ ms. Ok (with_group g ms cs))) r.3))

-- the columns of groups beside the others
module _ (common : Shape) (c : Term) (x : Term × Shape) (cs : ColumnList) (g : List ℕ) (label : label_of x.0 ≡ Some g) where
  shared_ok : (es ds : ColumnList) (o : Option (List ℕ)) → field_in g cs ≡ Some (tables es) → first_shared es (columns_without g cs) ≡ o →
      if◌then◌else◌ {A = Result ColumnList ℕ} (is_some o) (Err 5) (Ok (joined_columns es (columns_without g cs))) ≡ Ok ds → AnswerType common answer.Ungrouped ((c, tables cs) ∷ x ∷ []) (tables ds)
  shared_ok es ds (Some n) i j f = absurd cc
  shared_ok es ds None i j f =
      subst (λ z. AnswerType common answer.Ungrouped ((c, tables cs) ∷ x ∷ []) (tables z)) (ok_is (joined_columns es (columns_without g cs)) ds f) (Functions.out_of_groups label i j)

  out_ok : (t : Shape) (ds : ColumnList) → field_in g cs ≡ Some t → out_of t (columns_without g cs) ≡ Ok ds → AnswerType common answer.Ungrouped ((c, tables cs) ∷ x ∷ []) (tables ds)
  out_ok (tables es) ds i f = shared_ok es ds (first_shared es (columns_without g cs)) i refl f
  out_ok t ds i f = absurd cc

ungrouped_ok : (common : Shape) (c : Term) (xs : List (Term × Shape)) (cs ds : ColumnList) → ungrouped xs cs ≡ Ok ds → AnswerType common answer.Ungrouped ((c, tables cs) ∷ xs) (tables ds)
ungrouped_ok common c (x ∷ []) cs ds e =
    let a = by_label_ok (label_of x.0) (λ g. and_then (if_there (field_in g cs)) (λ t. out_of t (columns_without g cs))) ds e in
    let b = then_ok (if_there (field_in a.0 cs)) (λ t. out_of t (columns_without a.0 cs)) ds a.2 in
    out_ok common c x cs a.0 a.1 b.0 ds (there_ok (field_in a.0 cs) b.0 b.1) b.2
ungrouped_ok common c xs cs ds e = absurd cc

ungrouped_goes : (x : Term × Shape) (cs ds : ColumnList) (g : List ℕ) → label_of x.0 ≡ Some g → field_in g cs ≡ Some (tables ds) → first_shared ds (columns_without g cs) ≡ None →
    ungrouped (x ∷ []) cs ≡ Ok (joined_columns ds (columns_without g cs))
ungrouped_goes x cs ds g i j k =
    by_label_goes (label_of x.0) (λ m. and_then (if_there (field_in m cs)) (λ t. out_of t (columns_without m cs))) g (joined_columns ds (columns_without g cs)) i
    (then_goes (if_there (field_in g cs)) (λ t. out_of t (columns_without g cs)) (tables ds) (joined_columns ds (columns_without g cs)) (ap if_there j)
    (ap (λ o. if is_some o then Err 5 else Ok (joined_columns ds (columns_without g cs))) k))

answer_ok : (common : Shape) (a : Answer) (xs : List (Term × Shape)) (t : Shape) → answered_type a common xs ≡ Ok t → AnswerType common a xs t
answer_ok common (answer.Scalar s) xs t e = subst (AnswerType common (answer.Scalar s) xs) (ok_is (shape_of s) t e) Functions.this
answer_ok common answer.Same (x ∷ xs) t e = subst (AnswerType common answer.Same (x ∷ xs)) (ok_is x.1 t e) Functions.the_first
answer_ok common answer.Row (x ∷ xs) t e = subst (AnswerType common answer.Row (x ∷ xs)) (ok_is (row_type x.1) t e) Functions.a_row
answer_ok common answer.Found (x ∷ y ∷ z ∷ xs) t e = subst (AnswerType common answer.Found (x ∷ y ∷ z ∷ xs)) (ok_is z.1 t e) Functions.of_a_found_row
answer_ok common answer.Found (x ∷ y ∷ []) t e = subst (AnswerType common answer.Found (x ∷ y ∷ [])) (ok_is (row_type x.1) t e) Functions.a_row_where
answer_ok common answer.Found (x ∷ []) t e = subst (AnswerType common answer.Found (x ∷ [])) (ok_is (row_type x.1) t e) Functions.a_found_row
answer_ok common answer.Common xs t e = subst (AnswerType common answer.Common xs) (ok_is common t e) Functions.a_branch
answer_ok common answer.Added ((c, tables cs) ∷ xs) t e =
    let a = as_table_ok (added xs cs) t e in subst (AnswerType common answer.Added ((c, tables cs) ∷ xs)) a.2 (Functions.with_columns (adds_ok xs cs a.0 a.1))
answer_ok common answer.Dropped ((c, tables cs) ∷ xs) t e =
    let a = as_table_ok (dropped xs cs) t e in
    let b = then_ok (names_there xs cs) (λ ns. Ok (without_all ns cs)) a.0 a.1 in
    subst (AnswerType common answer.Dropped ((c, tables cs) ∷ xs)) (ap tables (ok_is (without_all b.0 cs) a.0 b.2) ∙ a.2) (Functions.without_columns (columns_ok cs xs b.0 b.1))
answer_ok common answer.Shown ((c, tables cs) ∷ xs) t e =
    let a = as_table_ok (columns_shown xs cs) t e in
    let b = then_ok (names_there xs cs) (λ ns. Ok (columns_only ns cs)) a.0 a.1 in
    subst (AnswerType common answer.Shown ((c, tables cs) ∷ xs)) (ap tables (ok_is (columns_only b.0 cs) a.0 b.2) ∙ a.2) (Functions.columns_alone (columns_ok cs xs b.0 b.1))
answer_ok common answer.Renamed ((c, tables cs) ∷ xs) t e =
    let a = as_table_ok (columns_renamed xs cs) t e in subst (AnswerType common answer.Renamed ((c, tables cs) ∷ xs)) a.2 (Functions.columns_anew (renames_ok xs cs a.0 a.1))
answer_ok common answer.Grouped ((c, tables cs) ∷ xs) t e =
    let a = as_table_ok (grouped xs cs) t e in
    let b = groups_ok xs cs a.0 a.1 in
    subst (AnswerType common answer.Grouped ((c, tables cs) ∷ xs)) (ap tables b.3 ∙ a.2) (Functions.in_groups b.2)
answer_ok common answer.Ungrouped ((c, tables cs) ∷ xs) t e =
    let a = as_table_ok (ungrouped xs cs) t e in
    subst (AnswerType common answer.Ungrouped ((c, tables cs) ∷ xs)) a.2 (ungrouped_ok common c xs cs a.0 a.1)
answer_ok common answer.Values (x ∷ y ∷ xs) t e = subst (AnswerType common answer.Values (x ∷ y ∷ xs)) (ok_is (tables (value_column y.1)) t e) Functions.values_of
answer_ok common answer.Each (x ∷ y ∷ xs) t e = subst (AnswerType common answer.Each (x ∷ y ∷ xs)) (ok_is (tables (row_columns y.1)) t e) Functions.rows_of_each
answer_ok common a xs t e = absurd cc

answer_goes : (common : Shape) (a : Answer) (xs : List (Term × Shape)) (t : Shape) → AnswerType common a xs t → answered_type a common xs ≡ Ok t
answer_goes common a xs t Functions.this = refl
answer_goes common a xs t Functions.the_first = refl
answer_goes common a xs t Functions.a_row = refl
answer_goes common a xs t Functions.a_found_row = refl
answer_goes common a xs t Functions.a_row_where = refl
answer_goes common a xs t Functions.of_a_found_row = refl
answer_goes common a xs t Functions.a_branch = refl
answer_goes common a xs t (Functions.with_columns {cs = cs} {ds = ds} {xs = more} e) = ap as_table (adds_go more cs ds e)
answer_goes common a xs t (Functions.without_columns {cs = cs} {xs = more} {ns = ns} e) = ap as_table (ap (λ r. and_then r (λ ms. Ok (without_all ms cs))) (columns_go cs more ns e))
answer_goes common a xs t (Functions.columns_alone {cs = cs} {xs = more} {ns = ns} e) = ap as_table (ap (λ r. and_then r (λ ms. Ok (columns_only ms cs))) (columns_go cs more ns e))
answer_goes common a xs t (Functions.columns_anew {cs = cs} {ds = ds} {xs = more} e) = ap as_table (renames_go more cs ds e)
answer_goes common a xs t (Functions.in_groups {cs = cs} {xs = more} {ns = ns} {g = g} e) = ap as_table (grouped_goes cs more ns g e)
answer_goes common a xs t (Functions.out_of_groups {x = x} {cs = cs} {ds = ds} {g = g} i j k) = ap as_table (ungrouped_goes x cs ds g i j k)
answer_goes common a xs t Functions.values_of = refl
answer_goes common a xs t Functions.rows_of_each = refl

-- THE rule
module _ (r : Row) (h : Top) (ps : List Piece) where
  abbrev after_common : Option Shape → Result (Term × Shape) ℕ
  after_common o = made_as r h ps o

  made_common : (o : Option Shape) (y : Term × Shape) → common_of (branches r (length ps) 0 ps) ≡ o → takes_count r (length ps) ≡ true →
      made_as r h ps o ≡ Ok y → Made r h ps y
  made_common (Some common) y i count e =
      let a = then_ok (stand_all r common ps) (answer_by r h common) y e in
      let b = then_ok (answered_type r.answer common a.0) (λ t. Ok (of h (all (firsts a.0)), t)) y a.2 in
      subst (Made r h ps) (ok_is (of h (all (firsts a.0)), b.0) y b.2)
      (by_row count (common_ok (branches r (length ps) 0 ps) common i) (all_ok r common ps a.0 a.1) (answer_ok common r.answer a.0 b.0 b.1))
  made_common None y i count e = absurd cc

  pub made_ok : (y : Term × Shape) → made_by r h ps ≡ Ok y → Made r h ps y
  made_ok y e =
      let a = if_ok (takes_count r (length ps)) (made_as r h ps (common_of (branches r (length ps) 0 ps))) 7 y e in
      made_common (common_of (branches r (length ps) 0 ps)) y refl a.0 a.1

  pub made_goes : (y : Term × Shape) → Made r h ps y → made_by r h ps ≡ Ok y
  made_goes y (by_row {common = common} {t = t} {xs = xs} count c s a) =
      if_true (takes_count r (length ps)) (made_as r h ps (common_of (branches r (length ps) 0 ps))) (Err 7) count
      ∙ ap (made_as r h ps) (common_goes (branches r (length ps) 0 ps) common c)
      ∙ then_goes (stand_all r common ps) (answer_by r h common) xs (of h (all (firsts xs)), t) (all_goes r common ps xs s)
      (then_goes (answered_type r.answer common xs) (λ u. Ok (of h (all (firsts xs)), u)) t (of h (all (firsts xs)), t) (answer_goes common r.answer xs t a) refl)
