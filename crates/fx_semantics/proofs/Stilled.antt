-- A node whose parts do nothing has the type that it has.
use Rattle.std.proofs.Common.{◌≡◌, ℕ, suc, List, [], ◌∷◌, ◌++◌, length, false, Option, Some, None, Result, Ok, Err, inl, refl, subst, ap, ◌∙◌}
use Rattle.std.specs.Prelude.{◌&&◌, if◌then◌else◌}
use Rattle.fx_types.specs.Types.{Shape, blanks, records, tables, ColumnList}
use Rattle.fx_types.specs.Values.{blank, text}
use Rattle.fx_semantics.specs.Sound.{AreLawfulTrees, AreLawfulTypes, IsLawfulTree, IsLawfulType}
use Rattle.fx_core.specs.declared.rows.Answer.{Answer}
use Rattle.fx_core.specs.declared.rows.Answer.TheVariants as answer
use Rattle.fx_core.specs.Rows.{form_row, row_of}
use Rattle.fx_core.specs.Rules as rules
use Rattle.fx_core.specs.Term.{Term, Terms, of, nil, cons, Top}
use Rattle.fx_core.specs.Term as top
use Rattle.fx_typing.specs.Acts.{is_acting}
use Rattle.fx_typing.specs.Columns.{added, are_keys, by_label, grouped, grouped_by, is_key, label_of, last_label, names_there, columns_renamed, ungrouped, with_group}
use Rattle.fx_core.specs.ColumnLists.{and_then, before_last, field_in, if_free, if_there, columns_only, with_new, with_renamed, without_all}
use Rattle.fx_typing.specs.WellTyped.{Context, IsRuled, IsTyped, AreTyped, answered_type, as_table, context_for, typed_pairs, parts_count, standing_at}

-- a tree that has every type and does nothing; a name of a column stays
abbrev pub still : Term → Term
still (of (top.const v) nil) = of (top.const v) nil
still t = of (top.const blank) nil

abbrev pub stills : Terms → Terms
stills nil = nil
stills (cons t ts) = cons (still t) (stills ts)

still_lawful : (t : Term) → IsLawfulTree (still t)
still_lawful (of (top.const v) nil) = (tt, tt)
still_lawful t = (tt, tt)

pub stills_lawful : (ts : Terms) → AreLawfulTrees (stills ts)
stills_lawful nil = tt
stills_lawful (cons t ts) = (still_lawful t, stills_lawful ts)

still_typed : (c : Context) (t : Term) (u : Shape) → IsTyped c t u → IsLawfulType u → IsTyped c (still t) u
still_typed c (of (top.const v) nil) u w l = w
still_typed c t u w l = ([], refl, (refl, inl l))

first_lawful : (us : List Shape) (u : Shape) (vs : List Shape) → us ≡ u ∷ vs → AreLawfulTypes us → IsLawfulType u × AreLawfulTypes vs
first_lawful us u vs e l = subst AreLawfulTypes e l

pub stills_typed : (c : Context) (h : Top) (n : ℕ) (done : List Shape) (ts : Terms) (us : List Shape) → AreTyped c h n done ts us → AreLawfulTypes us → AreTyped c h n done (stills ts) us
stills_typed c h n done nil us w l = w
stills_typed c h n done (cons t ts) us w l =
    let k = first_lawful us w.0 w.1 w.2 l in (
      w.0,
      w.1,
      w.2,
      still_typed (context_for (standing_at h n (length done)) c done) t w.0 w.3 k.0,
      stills_typed c h n (done ++ w.0 ∷ []) ts w.1 w.4 k.1,
    )

pub same_count : (ts : Terms) → parts_count ts ≡ parts_count (stills ts)
same_count nil = refl
same_count (cons t ts) = ap suc (same_count ts)

-- ---- names of columns
same_label : (t : Term) → label_of (still t) ≡ label_of t
same_label (of (top.const (text x)) (cons t ts)) = refl
same_label (of (top.const v) nil) = refl
same_label t = refl

label_same : {A : Type 0} (o : Option (List ℕ)) (f g : List ℕ → Result A ℕ) → ((n : List ℕ) → f n ≡ g n) → by_label o f ≡ by_label o g
label_same (Some x) f g k = k x
label_same None f g k = refl

named_same : {A : Type 0} (t : Term) (f g : List ℕ → Result A ℕ) → ((n : List ℕ) → f n ≡ g n) → by_label (label_of (still t)) f ≡ by_label (label_of t) g
named_same t f g k = ap (λ o. by_label o f) (same_label t) ∙ label_same (label_of t) f g k

then_same : {A B : Type 0} (r : Result A ℕ) (f g : A → Result B ℕ) → ((a : A) → f a ≡ g a) → and_then r f ≡ and_then r g
then_same (Ok a) f g k = k a
then_same (Err e) f g k = refl

-- parts with their types
abbrev stilled : List (Term × Shape) → List (Term × Shape)
stilled [] = []
stilled (x ∷ xs) = (still x.0, x.1) ∷ stilled xs

same_pairs : (ts : Terms) (us : List Shape) → typed_pairs (stills ts) us ≡ stilled (typed_pairs ts us)
same_pairs nil us = refl
same_pairs (cons t ts) [] = refl
same_pairs (cons t ts) (u ∷ us) = ap (λ xs. (still t, u) ∷ xs) (same_pairs ts us)

same_added : (xs : List (Term × Shape)) (cs : ColumnList) → added (stilled xs) cs ≡ added xs cs
same_added [] cs = refl
same_added (x ∷ []) cs = refl
same_added (x ∷ f ∷ xs) cs = named_same x.0 _ _ (λ n. then_same (with_new n f.1 cs) _ _ (λ ds. same_added xs ds))

same_names : (xs : List (Term × Shape)) (cs : ColumnList) → names_there (stilled xs) cs ≡ names_there xs cs
same_names [] cs = refl
same_names (x ∷ xs) cs = named_same x.0 _ _ (λ n. then_same (if_there (field_in n cs)) _ _ (λ t. ap (λ r. and_then r (λ ns. Ok (n ∷ ns))) (same_names xs cs)))

same_renamed : (xs : List (Term × Shape)) (cs : ColumnList) → columns_renamed (stilled xs) cs ≡ columns_renamed xs cs
same_renamed [] cs = refl
same_renamed (x ∷ []) cs = refl
same_renamed (x ∷ y ∷ xs) cs = named_same x.0 _ _ (λ n. named_same y.0 _ _ (λ m. then_same (with_renamed n m cs) _ _ (λ ds. same_renamed xs ds)))

same_last : (xs : List (Term × Shape)) → last_label (stilled xs) ≡ last_label xs
same_last [] = refl
same_last (x ∷ []) = same_label x.0
same_last (x ∷ y ∷ xs) = same_last (y ∷ xs)

same_before : (xs : List (Term × Shape)) → before_last (stilled xs) ≡ stilled (before_last xs)
same_before [] = refl
same_before (x ∷ []) = refl
same_before (x ∷ y ∷ xs) = ap (λ ys. (still x.0, x.1) ∷ ys) (same_before (y ∷ xs))

same_keys : (xs : List (Term × Shape)) (cs : ColumnList) → are_keys (stilled xs) cs ≡ are_keys xs cs
same_keys [] cs = refl
same_keys (x ∷ xs) cs = λ i. is_key (same_label x.0 i) cs && same_keys xs cs i

same_grouped_by : (g : List ℕ) (xs : List (Term × Shape)) (cs : ColumnList) → grouped_by g (stilled xs) cs ≡ grouped_by g xs cs
same_grouped_by g xs cs = λ i. if same_keys xs cs i then and_then (same_names xs cs i) (λ ns. Ok (with_group g ns cs)) else Err rules.wrong_type

same_grouped : (xs : List (Term × Shape)) (cs : ColumnList) → grouped (stilled xs) cs ≡ grouped xs cs
same_grouped xs cs =
    ap (λ o. by_label o (λ g. and_then (if_free (field_in g cs) cs) (λ ds. grouped_by g (before_last (stilled xs)) ds))) (same_last xs)
    ∙ label_same (last_label xs) _ _ (λ g. then_same (if_free (field_in g cs) cs) _ _ (λ ds. ap (λ ys. grouped_by g ys ds) (same_before xs) ∙ same_grouped_by g (before_last xs) ds))

same_ungrouped : (xs : List (Term × Shape)) (cs : ColumnList) → ungrouped (stilled xs) cs ≡ ungrouped xs cs
same_ungrouped [] cs = refl
same_ungrouped (x ∷ []) cs = named_same x.0 _ _ (λ g. refl)
same_ungrouped (x ∷ y ∷ xs) cs = refl

same_answer : (a : Answer) (common : Shape) (xs : List (Term × Shape)) → answered_type a common (stilled xs) ≡ answered_type a common xs
same_answer (answer.Scalar s) common xs = refl
same_answer answer.Common common xs = refl
same_answer answer.Added common ((x, tables cs) ∷ xs) = ap as_table (same_added xs cs)
same_answer answer.Dropped common ((x, tables cs) ∷ xs) = ap (λ r. as_table (and_then r (λ ns. Ok (without_all ns cs)))) (same_names xs cs)
same_answer answer.Shown common ((x, tables cs) ∷ xs) = ap (λ r. as_table (and_then r (λ ns. Ok (columns_only ns cs)))) (same_names xs cs)
same_answer answer.Renamed common ((x, tables cs) ∷ xs) = ap as_table (same_renamed xs cs)
same_answer answer.Grouped common ((x, tables cs) ∷ xs) = ap as_table (same_grouped xs cs)
same_answer answer.Ungrouped common ((x, tables cs) ∷ xs) = ap as_table (same_ungrouped xs cs)
same_answer answer.Found common (x ∷ y ∷ z ∷ xs) = refl
same_answer answer.Values common (x ∷ y ∷ xs) = refl
same_answer answer.Each common (x ∷ y ∷ xs) = refl
same_answer a common [] = refl
same_answer a common (x ∷ xs) = refl

still_answer : (a : Answer) (common : Shape) (ts : Terms) (us : List Shape) → answered_type a common (typed_pairs (stills ts) us) ≡ answered_type a common (typed_pairs ts us)
still_answer a common ts us = ap (answered_type a common) (same_pairs ts us) ∙ same_answer a common (typed_pairs ts us)

-- ---- nodes
pub still_ruled : (c : Context) (h : Top) (ts : Terms) (us : List Shape) (t : Shape) → is_acting h ≡ false → IsRuled c h ts us t → IsRuled c h (stills ts) us t
still_ruled c (top.call f) ts us t q r = (r.0, (r.1.0, r.1.1, r.1.2, still_answer (row_of f).answer r.1.1 ts us ∙ r.1.3))
still_ruled c (top.over f) ts us t q r = (r.0, (r.1.0, r.1.1, r.1.2, still_answer (row_of f).answer r.1.1 ts us ∙ r.1.3))
still_ruled c (top.form f) ts us t q r = (r.0, r.1, r.2, still_answer (form_row f).answer r.1 ts us ∙ r.3)
still_ruled c (top.dot x) ts (u ∷ []) t q r = r
still_ruled c top.within ts (records ds ∷ u ∷ []) t q r = r
still_ruled c (top.list (tables ds)) ts us t q r = r
still_ruled c (top.coerce blanks) ts (u ∷ []) t q r = r
still_ruled c (top.coerce s) ts (u ∷ []) t q r = r
still_ruled c top.chain ts us t q r = absurd cc
still_ruled c (top.act d) ts us t q r = absurd cc
still_ruled c h ts us t q r = r
