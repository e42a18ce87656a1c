-- The law that values of well typed trees fit: node by node, and by recursion on the tree.
use Rattle.std.proofs.Common.{◌≡◌, ℕ, zero, suc, ◌⊎◌, inl, inr, List, [], ◌∷◌, ◌++◌, length, true, Option, Some, None, refl, sym, subst, arith}
use Rattle.std.specs.Prelude.{codes, slice_get}
use Rattle.fx_types.specs.declared.faults.Fault.{Fault}
use Rattle.fx_types.specs.declared.faults.Kind.{Kind}
use Rattle.fx_types.specs.Types.{Shape, blanks, numbers, texts, booleans, dates, records, tables, ColumnList, no_columns, column}
use Rattle.fx_types.specs.Values.{Data, blank, text, rec, no_fields, field}
use Rattle.fx_core.specs.Rows.{form_row, row_of, takes_at}
use Rattle.fx_core.specs.declared.functions.Form.{Form}
use Rattle.fx_core.specs.declared.functions.Form.TheVariants as form
use Rattle.fx_core.specs.declared.functions.Fun.{Fun}
use Rattle.fx_core.specs.declared.functions.Fun.TheVariants as fun
use Rattle.fx_tables.specs.RowCalls.{CanBeRowType}
use Rattle.fx_tables.specs.Unions.{union_of}
use Rattle.fx_core.specs.Term.{Term, Terms, of, nil, cons, Top}
use Rattle.fx_core.specs.Term as top
use Rattle.fx_typing.specs.Columns.{fault_type}
use Rattle.fx_core.specs.ColumnLists.{row_columns}
use Rattle.fx_typing.specs.Ways.{way, changed}
use Rattle.fx_typing.specs.WellTyped.{Context, Stands, AreAllOfShape, IsByRow, IsRuled, IsTyped, AreTyped, columns_by, context_for, first_type, head_of, parts_count, standing_at}
use Rattle.fx_value.proofs.Unions.{Rises}
use Rattle.fx_value.specs.Coercion.{IsCoerced}
use Rattle.fx_value.specs.Fits.{fits_in}
use Rattle.fx_semantics.specs.Around.{Meaning, inside}
use Rattle.fx_types.specs.Faults.{kind_name}
use Rattle.fx_scalar.specs.Errors.{fault_record}
use Rattle.fx_semantics.specs.Errors.{IsCaught}
use Rattle.fx_semantics.specs.Forms.{IsFormed}
use Rattle.fx_semantics.specs.Fresh.{IsNode, IsWithin, OfOne, field_of, fields_by, meaning, meanings}
use Rattle.fx_semantics.specs.Sound.{AreFit, AreLawfulTypes, AreLawfulTypings, IsItemFit, IsLawfulType, IsLawfulTyping, ValuesFit}
use Rattle.fx_semantics.specs.Sources.{FitsIn, Gives}
use Rattle.fx_semantics.proofs.Branches.{error_types, if_fits, recovered_fits, switch_fits}
use Rattle.fx_semantics.proofs.Calls.{call_fits, call_quiet}
use Rattle.fx_semantics.proofs.Columns.{rises_of}
use Rattle.fx_semantics.proofs.Coerced.{all_of_one, coerced_fits, list_fits, to_blank_fits}
use Rattle.fx_semantics.proofs.Fields.{all_fit, dot_fits, record_fits}
use Rattle.fx_semantics.proofs.Forms.{all_fits, all_quiet, any_fits, error_or, form_quiet, given_fits}
use Rattle.fx_semantics.proofs.Over.{OverFits, along, over_table}
use Rattle.fx_semantics.proofs.Parts.{Giving, stands, Suits, Holds, AllHold, AllPlain, all_plain, inside_suits, values_fit}

-- a row of a scope, and the item
row_at : (rows : List Data) (ts : List Shape) (k : ℕ) (t : Shape) (v : Data) → AreFit rows ts → slice_get ts k ≡ Some t → slice_get rows k ≡ Some v → fits_in v t ≡ true
row_at [] [] k t v f e q = cc
row_at [] (u ∷ ts) k t v f e q = absurd f
row_at (d ∷ rows) [] k t v f e q = absurd f
row_at (d ∷ rows) (u ∷ ts) zero t v f e q =
    let same : u ≡ t = cc in
    let own : d ≡ v = cc in
    let P : Shape → Type 0 = λ z. fits_in v z ≡ true in
    let Q : Data → Type 0 = λ z. fits_in z u ≡ true in
    subst P same (subst Q own f.0)
row_at (d ∷ rows) (u ∷ ts) (suc k) t v f e q = row_at rows ts k t v f.1 e q

item_at : (o : Option Data) (p : Option Shape) (t : Shape) (v : Data) → IsItemFit o p → p ≡ Some t → o ≡ Some v → fits_in v t ≡ true
item_at (Some d) (Some u) t v f e q =
    let same : u ≡ t = cc in
    let own : d ≡ v = cc in
    let P : Shape → Type 0 = λ z. fits_in v z ≡ true in
    let Q : Data → Type 0 = λ z. fits_in z u ≡ true in
    subst P same (subst Q own f)
item_at None (Some u) t v f e q = absurd f
item_at o None t v f e q = cc

-- the error that was caught
told_fits : (k : Kind) (cs : List ℕ) → fits_in (fault_record k cs) fault_type ≡ true
told_fits k cs =
    all_fit (codes "Kind") (text (kind_name k)) texts (field (codes "Message") (text cs) no_fields) (column (codes "Message") texts no_columns) refl
    (all_fit (codes "Message") (text cs) texts no_fields no_columns refl refl)

caught_fits : (o : Option Fault) (v : Data) → IsCaught o v → fits_in v fault_type ≡ true
caught_fits (Some e) v h = given_fits v (fault_record e.kind e.message) fault_type (told_fits e.kind e.message) h
caught_fits None v h = absurd h

-- the one part of a node
one_part : (g : Giving) (c : Context) (rows : List Data) (item : Option Data) (caught : Option Fault) → Suits g c rows item →
    (Ps : List Meaning) (us : List Shape) → AllPlain g c Ps us → (R : Data → Type 0) → OfOne Ps (stands g rows item caught) R →
    (u : Shape) × (d : Data) × (us ≡ u ∷ []) × (fits_in d u ≡ true) × R d
one_part g c rows item caught s (P ∷ []) (u ∷ []) k R h = (u, h.0, refl, k.0 rows item caught h.0 s h.1, h.2)
one_part g c rows item caught s [] us k R h = absurd h
one_part g c rows item caught s (P ∷ Q ∷ Ps) us k R h = absurd h
one_part g c rows item caught s (P ∷ []) [] k R h = absurd k
one_part g c rows item caught s (P ∷ []) (u ∷ w ∷ us) k R h = absurd k.1

coerce_ruled : (c : Context) (to : Shape) (ts : Terms) (u t : Shape) → IsRuled c (top.coerce to) ts (u ∷ []) t → (t ≡ to) × ((to ≡ blanks) ⊎ (way u to ≡ changed))
coerce_ruled c blanks ts u t r = (r, inl refl)
coerce_ruled c numbers ts u t r = (r.1, inr r.0)
coerce_ruled c texts ts u t r = (r.1, inr r.0)
coerce_ruled c booleans ts u t r = (r.1, inr r.0)
coerce_ruled c dates ts u t r = (r.1, inr r.0)
coerce_ruled c (records cs) ts u t r = (r.1, inr r.0)
coerce_ruled c (tables cs) ts u t r = (r.1, inr r.0)

list_ruled : (c : Context) (q : Shape) (ts : Terms) (us : List Shape) (t : Shape) → IsRuled c (top.list q) ts us t → CanBeRowType q × AreAllOfShape q us × (t ≡ tables (row_columns q))
list_ruled c (tables cs) ts us t r = absurd r
list_ruled c blanks ts us t r = (tt, r.0, r.1)
list_ruled c numbers ts us t r = (tt, r.0, r.1)
list_ruled c texts ts us t r = (tt, r.0, r.1)
list_ruled c booleans ts us t r = (tt, r.0, r.1)
list_ruled c dates ts us t r = (tt, r.0, r.1)
list_ruled c (records cs) ts us t r = (tt, r.0, r.1)

-- a call over a table has a table first
first_table : (f : Fun) → head_of f ≡ top.over f → (m : ℕ) (common u : Shape) → Stands (takes_at (row_of f) m 0) u common u → (cs : ColumnList) × (u ≡ tables cs)
first_table fun.Filter e m common u h = h
first_table fun.LookUp e m common u h = h
first_table (fun.Sort o) e m common u h = h
first_table fun.First e m common u h = h
first_table fun.Last e m common u h = h
first_table fun.FirstN e m common u h = h
first_table fun.LastN e m common u h = h
first_table fun.CountRows e m common u h = h
first_table fun.CountIf e m common u h = h
first_table fun.IsEmpty e m common u h = h
first_table fun.SumRows e m common u h = h
first_table fun.MinRows e m common u h = h
first_table fun.MaxRows e m common u h = h
first_table fun.AverageRows e m common u h = h
first_table fun.AddColumns e m common u h = h
first_table fun.DropColumns e m common u h = h
first_table fun.ShowColumns e m common u h = h
first_table fun.RenameColumns e m common u h = h
first_table fun.GroupBy e m common u h = h
first_table fun.Ungroup e m common u h = h
first_table fun.Distinct e m common u h = h
first_table fun.ForAll e m common u h = h
first_table fun.Concat e m common u h = h
first_table f e m common u h = absurd cc

-- a value of another type that is the node's
of_type : (v : Data) (u t : Shape) → t ≡ u → fits_in v u ≡ true → fits_in v t ≡ true
of_type v u t e f = let P : Shape → Type 0 = λ z. fits_in v z ≡ true in subst P (sym e) f

list_lawful : (q : Shape) → CanBeRowType q → IsLawfulType (tables (row_columns q)) → IsLawfulType q
list_lawful (records cs) n l = l
list_lawful (tables cs) n l = absurd n
list_lawful q n l = tt

pub lawful_here : (c : Context) (t : Term) (s : Shape) (w : IsTyped c t s) → IsLawfulTyping c t s w → IsLawfulType s
lawful_here c (of h ts) s w l = l.0

pub parts_lawful : (c : Context) (h : Top) (n : ℕ) (done : List Shape) (ts : Terms) (us : List Shape) (w : AreTyped c h n done ts us) → AreLawfulTypings c h n done ts us w → AreLawfulTypes us
parts_lawful c h n done nil us w l = subst AreLawfulTypes (sym w) tt
parts_lawful c h n done (cons k ks) us w l =
    subst AreLawfulTypes (sym w.2) (
      lawful_here (context_for (standing_at h n (length done)) c done) k w.0 w.3 l.0,
      parts_lawful c h n (done ++ w.0 ∷ []) ks w.1 w.4 l.1,
    )

-- ---- the heads with rules of their own
over_fits : (g : Giving) (c : Context) (rows : List Data) (item : Option Data) (caught : Option Fault) → Suits g c rows item →
    (f : Fun) (n : ℕ) (ts : Terms) (us : List Shape) (t : Shape) → AreLawfulTypes us → AllHold g c (top.over f) n [] (meanings ts) us → IsRuled c (top.over f) ts us t →
    (v : Data) → IsNode (top.over f) (meanings ts) (stands g rows item caught) v → fits_in v t ≡ true
over_fits g c rows item caught s f n nil us t l k r v h = absurd h
over_fits g c rows item caught s f n (cons t0 ts) [] t l k r v h = absurd k
over_fits g c rows item caught s f n (cons t0 ts) (u ∷ us) t l k r v h =
    let x = first_table f r.0 (suc (length us)) r.1.1 u r.1.2.0 in
    let P : Shape → Type 0 = λ z. OverFits g c rows item caught f z in
    let law = subst P (sym x.1) (over_table g c rows item caught s x.0 (subst IsLawfulType x.1 l.0) f) in
    law n (suc (length us)) t0 ts us r.1.1 t k r.1.2.1 r.1.3 v h

form_fits : (g : Giving) (c : Context) (rows : List Data) (item : Option Data) (caught : Option Fault) → Suits g c rows item →
    (f : Form) (ts : Terms) (us : List Shape) (t : Shape) → AllPlain g c (meanings ts) us → IsByRow (form_row f) ts us t →
    (v : Data) → IsFormed f (meanings ts) (stands g rows item caught) v → fits_in v t ≡ true
form_fits g c rows item caught s form.All ts us t k r v h = along booleans t v r.3 (all_fits (meanings ts) (stands g rows item caught) v h)
form_fits g c rows item caught s form.Any ts us t k r v h = along booleans t v r.3 (any_fits (meanings ts) (stands g rows item caught) v h)
form_fits g c rows item caught s form.If ts us t k r v h =
    along r.1 t v r.3 (if_fits g c rows item caught s (length us) (first_type us) r.1 (meanings ts) us 0 k refl (omega arith) r.2 v h)
form_fits g c rows item caught s form.Switch ts us t k r v h =
    along r.1 t v r.3 (switch_fits g c rows item caught s (length us) (first_type us) r.1 (meanings ts) us k refl r.2 v h)
form_fits g c rows item caught s form.IfError ts us t k r v h =
    along r.1 t v r.3 (recovered_fits g c rows item caught s r.1 blank (meanings ts) us refl k (error_types (first_type us) r.1 (length us) 0 us r.2) v h)

within_fits : (g : Giving) (c : Context) (rows : List Data) (item : Option Data) (caught : Option Fault) → Suits g c rows item →
    (n : ℕ) (ts : Terms) (us : List Shape) (t : Shape) → AllHold g c top.within n [] (meanings ts) us → IsRuled c top.within ts us t →
    (v : Data) → IsWithin (meanings ts) (stands g rows item caught) v → fits_in v t ≡ true
within_fits g c rows item caught s n nil us t k r v h = absurd h
within_fits g c rows item caught s n (cons t0 nil) us t k r v h = absurd h
within_fits g c rows item caught s n (cons t0 (cons t1 (cons t2 ts))) us t k r v h = absurd h
within_fits g c rows item caught s n (cons t0 (cons t1 nil)) (records ds ∷ u ∷ []) t k r v h =
    of_type v u t r (
    error_or h.0 (meaning t1 (inside (stands g rows item caught) h.0) v) v u
    (k.1.0 (rows ++ h.0 ∷ []) item caught v (inside_suits g c rows item h.0 (records ds) s (k.0 rows item caught h.0 s h.1))) h.2
    )
within_fits g c rows item caught s n (cons t0 (cons t1 nil)) us t k r v h = absurd r

coerce_fits : (g : Giving) (c : Context) (rows : List Data) (item : Option Data) (caught : Option Fault) → Suits g c rows item →
    (to : Shape) (ts : Terms) (us : List Shape) (t : Shape) → IsLawfulType t → AllPlain g c (meanings ts) us → IsRuled c (top.coerce to) ts us t →
    (v : Data) → IsNode (top.coerce to) (meanings ts) (stands g rows item caught) v → fits_in v t ≡ true
coerce_fits g c rows item caught s to ts us t l k r v h =
    let x = one_part g c rows item caught s (meanings ts) us k (λ d. IsCoerced d to v) h in
    let R : List Shape → Type 0 = λ z. IsRuled c (top.coerce to) ts z t in
    let q = coerce_ruled c to ts x.0 t (subst R x.2 r) in
    of_type v to t q.0 (elim q.1 [
      | inl b ↦ (let C : Shape → Type 0 = λ z. IsCoerced x.1 z v in of_type v blanks to b (to_blank_fits x.1 v (subst C b x.4)))
      | inr w ↦ coerced_fits x.1 x.0 to v (subst IsLawfulType q.0 l) w x.3 x.4
    ])

-- ---- each node
node_fits : (g : Giving) (c : Context) (h : Top) (ts : Terms) (us : List Shape) (t : Shape) → IsLawfulType t → AreLawfulTypes us →
    AllHold g c h (parts_count ts) [] (meanings ts) us → IsRuled c h ts us t → Holds g c (IsNode h (meanings ts)) t
node_fits g c (top.const d) ts us t l ls k r = λ rows item caught v s p. given_fits v d t r.0 p
node_fits g c (top.read x) ts us t l ls k r = λ rows item caught v s p. s.of_sources x t v r p
node_fits g c (top.row i) ts us t l ls k r = λ rows item caught v s p. row_at rows c.rows i t v s.of_scopes r p
node_fits g c top.item ts us t l ls k r = λ rows item caught v s p. item_at item c.item t v s.of_item r p
node_fits g c top.caught ts us t l ls k r = λ rows item caught v s p. of_type v fault_type t r.1 (caught_fits caught v p)
node_fits g c (top.dot n) ts us t l ls k r = λ rows item caught v s p.
    let plain = all_plain g c (top.dot n) (parts_count ts) (λ i. refl) [] (meanings ts) us k in
    let x = one_part g c rows item caught s (meanings ts) us plain (λ d. v ≡ field_of n d) p in
    let R : List Shape → Type 0 = λ z. IsRuled c (top.dot n) ts z t in
    given_fits v (field_of n x.1) t (dot_fits n x.0 t x.1 (subst R x.2 r) x.3) x.4
node_fits g c (top.call f) ts us t l ls k r = λ rows item caught v s p.
    call_fits g c rows item caught s f r.0 ts (meanings ts) us r.1.1 t
    (all_quiet g c (top.call f) (parts_count ts) (λ i. call_quiet f r.0 (parts_count ts) i) [] (meanings ts) us k) r.1.2 r.1.3 v p
node_fits g c (top.over f) ts us t l ls k r = λ rows item caught v s p. over_fits g c rows item caught s f (parts_count ts) ts us t ls k r v p
node_fits g c (top.user f) ts us t l ls k r = λ rows item caught v s p. absurd p
node_fits g c (top.form f) ts us t l ls k r = λ rows item caught v s p.
    form_fits g c rows item caught s f ts us t
    (all_quiet g c (top.form f) (parts_count ts) (λ i. form_quiet f (parts_count ts) i) [] (meanings ts) us k) r v p
node_fits g c top.within ts us t l ls k r = λ rows item caught v s p. within_fits g c rows item caught s (parts_count ts) ts us t k r v p
node_fits g c (top.rec ns) ts us t l ls k r = λ rows item caught v s p.
    let plain = all_plain g c (top.rec ns) (parts_count ts) (λ i. refl) [] (meanings ts) us k in
    let f = values_fit g c (meanings ts) us plain rows item caught s p.0 p.1 in
    of_type v (records (columns_by ns us)) t r.2 (given_fits v (rec (fields_by ns p.0)) (records (columns_by ns us)) (record_fits ns us p.0 r.0 f) p.2)
node_fits g c (top.list q) ts us t l ls k r = λ rows item caught v s p.
    let plain = all_plain g c (top.list q) (parts_count ts) (λ i. refl) [] (meanings ts) us k in
    let f = values_fit g c (meanings ts) us plain rows item caught s p.0 p.1 in
    let x = list_ruled c q ts us t r in
    of_type v (tables (row_columns q)) t x.2
    (given_fits v (union_of (tables (row_columns q)) p.0) (tables (row_columns q)) (list_fits q (list_lawful q x.0 (subst IsLawfulType x.2 l)) x.0 p.0 (all_of_one q p.0 us x.1 f)) p.2)
node_fits g c (top.coerce to) ts us t l ls k r = λ rows item caught v s p.
    coerce_fits g c rows item caught s to ts us t l (all_plain g c (top.coerce to) (parts_count ts) (λ i. refl) [] (meanings ts) us k) r v p
node_fits g c top.chain ts us t l ls k r = λ rows item caught v s p. absurd p
node_fits g c (top.act d) ts us t l ls k r = λ rows item caught v s p. absurd p

-- ---- whole trees
mutual
  pub sound : (g : Giving) (c : Context) (t : Term) (s : Shape) (w : IsTyped c t s) → IsLawfulTyping c t s w → Holds g c (meaning t) s
  sound g c (of h ts) s w l =
      node_fits g c h ts w.0 s l.0 (parts_lawful c h (parts_count ts) [] ts w.0 w.1 l.1) (sound_all g c h (parts_count ts) [] ts w.0 w.1 l.1) w.2

  pub sound_all : (g : Giving) (c : Context) (h : Top) (n : ℕ) (done : List Shape) (ts : Terms) (us : List Shape) (w : AreTyped c h n done ts us) →
      AreLawfulTypings c h n done ts us w → AllHold g c h n done (meanings ts) us
  sound_all g c h n done nil us w l = let P : List Shape → Type 0 = λ z. AllHold g c h n done [] z in subst P (sym w) tt
  sound_all g c h n done (cons k ks) us w l =
      let P : List Shape → Type 0 = λ z. AllHold g c h n done (meaning k ∷ meanings ks) z in
      subst P (sym w.2) (
        sound g (context_for (standing_at h n (length done)) c done) k w.0 w.3 l.0,
        sound_all g c h n (done ++ w.0 ∷ []) ks w.1 w.4 l.1,
      )

-- sources that give by their types give what fits them
pub given_by_type : (o : Option Shape) (t : Shape) (v : Data) → o ≡ Some t → FitsIn o v → fits_in v t ≡ true
given_by_type o t v e h = let P : Option Shape → Type 0 = λ z. FitsIn z v in subst P e h

pub all_sound : ValuesFit
all_sound c told rows item caught t s w v f i l p =
    sound (Gives c.sources told) c t s w l rows item caught v
    (record { of_sources = λ x u y e h. given_by_type (c.sources x) u y e h.0; of_scopes = f; of_item = i }) p
