-- What names mean is well typed.
use Rattle.std.proofs.Common.{◌≡◌, ℕ, zero, suc, ◌++◌, List, [], ◌∷◌, Bool, true, false, ◌&&◌, nat_eq, ne_eqb, eq-eqb, eqb-true, pos, length, map, option_map, option_and_then, slice_get, codes, bytes_eq, encode_utf8_all, Option, Some, None, Ok, refl, ap, sym, subst, ◌∙◌, append_assoc, inl, inr, ◌⊎◌, if◌then◌else◌}
use Rattle.std.proofs.lemmas.Bool.{and_parts}
use Rattle.fx_types.specs.TypeView.{shape}
use Rattle.fx_types.specs.Types.{Shape, blanks, numbers, texts, booleans, dates, records, tables, no_columns}
use Rattle.fx_types.specs.Values.{Data, blank, text, boolean, number}
use Rattle.fx_value.specs.Fits.{fits_in}
use Rattle.fx_core.specs.declared.literals.Enumeration.{Enumeration}
use Rattle.fx_core.specs.declared.sources.Source.{Source}
use Rattle.fx_core.specs.declared.sources.Source.TheVariants as source
use Rattle.fx_core.specs.Literals.{enumeration_of, has_member}
use Rattle.fx_types.specs.declared.controls.Control.{Control}
use Rattle.fx_types.specs.declared.controls.Control.TheVariants as control
use Rattle.fx_core.specs.declared.names.ControlName.{ControlName}
use Rattle.fx_core.specs.declared.names.Property.{Property}
use Rattle.fx_core.specs.declared.names.FormulaName.{FormulaName}
use Rattle.fx_core.specs.declared.names.Variable.{Variable}
use Rattle.fx_core.specs.declared.names.Collection.{Collection}
use Rattle.fx_core.specs.declared.names.Names.{Names}
use Rattle.fx_core.specs.declared.schema.TableShape.{TableShape}
use Rattle.fx_core.specs.Controls.{own_type, property_type, is_items, input_type}
use Rattle.fx_core.specs.Lawful.{DiffersFromAll, AreDistinct, IsLawful}
use Rattle.fx_core.specs.SourceTypes.{columns_of, item_columns, item_type, property_of, property_cell, formula_cell, if_global, if_context, chosen_shape, sources}
use Rattle.fx_core.specs.Term.{Term, of, nil, cons, const, read, row, item, caught}
use Rattle.fx_core.specs.Term as term
use Rattle.fx_typing.specs.Columns.{field_shape, fault_type}
use Rattle.fx_core.specs.ColumnLists.{field_in}
use Rattle.fx_typing.specs.LawfulTypes.{IsLawfulType}
use Rattle.fx_typing.specs.Meaning.{Place, Scope, NameMeaning, valued, controlled, screened, enumerated, or_else, field_at, in_scope_by, in_scopes, whole_by, this_record, this_item, first_error, reserved, first_match, is_on, is_global, in_context, in_globals, behind_scopes, meaning_of, named, own_default, default_of, default_type, is_input, is_chosen, written_or, property_read, input_read, control_read, member_of, known_field, field_read, dotted}
use Rattle.fx_typing.specs.WellTyped.{Context, IsTyped}
use Rattle.fx_typing.proofs.Rules.{Typed}
use Rattle.fx_typing.proofs.Same.{bytes_same}
use Rattle.fx_typing.specs.Parts.{Setting}
use Rattle.fx_typing.specs.Typing.{context_of, item_context}
use Rattle.fx_typing.proofs.Steps.{option_map_some}
use Rattle.fx_typing.proofs.Functions.{length_grows}
use Rattle.fx_typing.proofs.RelatedSteps.{if_false, if_true}

-- what a name means, in these surroundings: a tree of its type, or a control by its number
abbrev pub Fitting : Names → Context → NameMeaning → Type 0
Fitting n c (valued k t) = IsTyped c k t
Fitting n c (controlled k x) = slice_get n.controls k ≡ Some x
Fitting n c m = Unit {0}

pub or_cases : {A : Type 0} (a b : Option A) (x : A) → or_else a b ≡ Some x → (a ≡ Some x) ⊎ (b ≡ Some x)
or_cases (Some a) b x e = inl e
or_cases None b x e = inr e

get_there : {A : Type 0} (pre : List A) (x : A) (xs : List A) → slice_get (pre ++ x ∷ xs) (length pre) ≡ Some x
get_there [] x xs = refl
get_there (y ∷ pre) x xs = get_there pre x xs

-- what is found stands at its place, and passes the test
abbrev Found : {A : Type 0} → (A → Bool) → List A → ℕ × A → Type 0
Found keeps es z = (slice_get es z.0 ≡ Some z.1) × (keeps z.1 ≡ true)

found_by : {A : Type 0} (keeps : A → Bool) (pre : List A) (b : A) (es : List A) (z : ℕ × A) (t : Bool) → keeps b ≡ t →
    (if t then Some (length pre, b) else first_match keeps (suc (length pre)) es) ≡ Some z →
    (first_match keeps (suc (length pre)) es ≡ Some z → Found keeps (pre ++ b ∷ es) z) → Found keeps (pre ++ b ∷ es) z
found_by keeps pre b es z true i e go = let y : (length pre, b) ≡ z = cc in subst (Found keeps (pre ++ b ∷ es)) y (get_there pre b es, i)
found_by keeps pre b es z false i e go = go e

found_behind : {A : Type 0} (keeps : A → Bool) (pre es : List A) (z : ℕ × A) → first_match keeps (length pre) es ≡ Some z → Found keeps (pre ++ es) z
found_behind keeps pre [] z e = absurd cc
found_behind keeps pre (b ∷ es) z e =
    found_by keeps pre b es z (keeps b) refl e (
    λ i. subst (λ l. Found keeps l z) (append_assoc pre (b ∷ []) es)
    (found_behind keeps (pre ++ b ∷ []) es z (subst (λ j. first_match keeps j es ≡ Some z) (sym (length_grows pre b)) i))
    )

pub found : {A : Type 0} (keeps : A → Bool) (es : List A) (z : ℕ × A) → first_match keeps 0 es ≡ Some z → Found keeps es z
found keeps es z e = found_behind keeps [] es z e

-- sources
pub global_type : (o : Option ℕ) (t : Shape) → is_global o ≡ true → if_global o t ≡ Some t
global_type None t e = refl
global_type (Some s) t e = absurd cc

pub context_type : (a o : Option ℕ) (t : Shape) → is_on a o ≡ true → if_context o t ≡ Some t
context_type (Some s) (Some r) t e = refl
context_type (Some s) None t e = absurd cc
context_type None o t e = absurd cc

pub read_typed : (c : Context) (s : Source) (t : Shape) → c.sources s ≡ Some t → IsTyped c (of (read s) nil) t
read_typed c s t e = ([], refl, e)

pub global_read : (n : Names) (x : List ℕ) (v : ℕ × Variable) → first_match (λ (v : Variable). is_global v.screen && bytes_eq v.name x) 0 n.variables ≡ Some v →
    sources n (source.Global v.0) ≡ Some (shape v.1.ty)
global_read n x v e =
    let f = found (λ (v : Variable). is_global v.screen && bytes_eq v.name x) n.variables v e in
    ap (option_and_then (λ (v : Variable). if_global v.screen (shape v.ty))) f.0
    ∙ global_type v.1.screen (shape v.1.ty) (and_parts (is_global v.1.screen) (bytes_eq v.1.name x) f.1).0

pub context_read : (n : Names) (a : Option ℕ) (x : List ℕ) (v : ℕ × Variable) →
    first_match (λ (v : Variable). is_on a v.screen && bytes_eq v.name x) 0 n.variables ≡ Some v →
    sources n (source.Context v.0) ≡ Some (shape v.1.ty)
context_read n a x v e =
    let f = found (λ (v : Variable). is_on a v.screen && bytes_eq v.name x) n.variables v e in
    ap (option_and_then (λ (v : Variable). if_context v.screen (shape v.ty))) f.0
    ∙ context_type a v.1.screen (shape v.1.ty) (and_parts (is_on a v.1.screen) (bytes_eq v.1.name x) f.1).0

pub gathered_read : (n : Names) (x : List ℕ) (v : ℕ × Collection) → first_match (λ (c : Collection). bytes_eq c.name x) 0 n.collections ≡ Some v →
    sources n (source.Gathered v.0) ≡ Some (shape v.1.ty)
gathered_read n x v e = ap (option_map (λ (c : Collection). shape c.ty)) (found (λ (c : Collection). bytes_eq c.name x) n.collections v e).0

pub table_read : (n : Names) (x : List ℕ) (v : ℕ × TableShape) → first_match (λ (t : TableShape). bytes_eq t.name x) 0 n.schema.tables ≡ Some v →
    sources n (source.Table v.0) ≡ Some (tables (columns_of v.1))
table_read n x v e = ap (option_map (λ (t : TableShape). tables (columns_of t))) (found (λ (t : TableShape). bytes_eq t.name x) n.schema.tables v e).0

-- cells: no two have one number
differs : {A : Type 0} (x : A) (ys : List A) (k : ℕ) (y : A) → DiffersFromAll x ys → slice_get ys k ≡ Some y → x ≡ y → ⊥
differs x [] k y d e i = absurd cc
differs x (z ∷ ys) zero y d e i = let j : z ≡ y = cc in d.0 (i ∙ sym j)
differs x (z ∷ ys) (suc k) y d e i = differs x ys k y d.1 e i

get_mapped : {A B : Type 0} (f : A → B) (xs : List A) (ys : List B) (k : ℕ) (x : A) → slice_get xs k ≡ Some x → slice_get (map f xs ++ ys) k ≡ Some (f x)
get_mapped f [] ys k x e = absurd cc
get_mapped f (z ∷ xs) ys zero x e = let j : z ≡ x = cc in ap (λ w. Some (f w)) j
get_mapped f (z ∷ xs) ys (suc k) x e = get_mapped f xs ys k x e

get_behind : {A : Type 0} (xs ys : List A) (k : ℕ) (y : A) → slice_get ys k ≡ Some y → (j : ℕ) × (slice_get (xs ++ ys) j ≡ Some y)
get_behind [] ys k y e = (k, e)
get_behind (x ∷ xs) ys k y e = let b = get_behind xs ys k y e in (suc b.0, b.1)

formula_there : (n : Names) (fs : List FormulaName) (ps : List ℕ) (k : ℕ) (f : FormulaName) → AreDistinct (map (λ (f : FormulaName). f.cell) fs ++ ps) →
    slice_get fs k ≡ Some f → formula_cell n f.cell fs ≡ Some (shape f.ty)
formula_there n [] ps k f d e = absurd cc
formula_there n (g ∷ fs) ps zero f d e =
    let j : g ≡ f = cc in
    subst (λ (h : FormulaName). formula_cell n h.cell (g ∷ fs) ≡ Some (shape h.ty)) j
    (if_true (nat_eq g.cell g.cell) (Some (shape g.ty)) (formula_cell n g.cell fs) (eq-eqb g.cell g.cell refl))
formula_there n (g ∷ fs) ps (suc k) f d e =
    if_false (nat_eq g.cell f.cell) (Some (shape g.ty)) (formula_cell n f.cell fs)
    (ne_eqb g.cell f.cell (differs g.cell (map (λ (f : FormulaName). f.cell) fs ++ ps) k f.cell d.0 (get_mapped (λ (f : FormulaName). f.cell) fs ps k f e)))
    ∙ formula_there n fs ps k f d.1 e

past_formulas : (n : Names) (fs : List FormulaName) (ps : List ℕ) (k c : ℕ) → AreDistinct (map (λ (f : FormulaName). f.cell) fs ++ ps) → slice_get ps k ≡ Some c →
    (formula_cell n c fs ≡ property_cell n.controls c n.properties) × AreDistinct ps
past_formulas n [] ps k c d e = (refl, d)
past_formulas n (g ∷ fs) ps k c d e =
    let b = get_behind (map (λ (f : FormulaName). f.cell) fs) ps k c e in
    let r = past_formulas n fs ps k c d.1 e in (
      if_false (nat_eq g.cell c) (Some (shape g.ty)) (formula_cell n c fs)
          (ne_eqb g.cell c (differs g.cell (map (λ (f : FormulaName). f.cell) fs ++ ps) b.0 c d.0 b.1)) ∙ r.0,
      r.1,
    )

property_there : (cs : List ControlName) (ps : List Property) (k : ℕ) (p : Property) → AreDistinct (map (λ (p : Property). p.cell) ps) → slice_get ps k ≡ Some p →
    property_cell cs p.cell ps ≡ option_and_then (property_of p.name) (slice_get cs p.control)
property_there cs [] k p d e = absurd cc
property_there cs (q ∷ ps) zero p d e =
    let j : q ≡ p = cc in
    subst (λ (r : Property). property_cell cs r.cell (q ∷ ps) ≡ option_and_then (property_of r.name) (slice_get cs r.control)) j
    (if_true (nat_eq q.cell q.cell) (option_and_then (property_of q.name) (slice_get cs q.control)) (property_cell cs q.cell ps) (eq-eqb q.cell q.cell refl))
property_there cs (q ∷ ps) (suc k) p d e =
    if_false (nat_eq q.cell p.cell) (option_and_then (property_of q.name) (slice_get cs q.control)) (property_cell cs p.cell ps)
    (ne_eqb q.cell p.cell (differs q.cell (map (λ (p : Property). p.cell) ps) k p.cell d.0 (get_plain ps k p e)))
    ∙ property_there cs ps k p d.1 e
  where
    get_plain : (ps : List Property) (k : ℕ) (p : Property) → slice_get ps k ≡ Some p → slice_get (map (λ (p : Property). p.cell) ps) k ≡ Some p.cell
    get_plain [] k p e = absurd cc
    get_plain (q ∷ ps) zero p e = let j : q ≡ p = cc in ap (λ (r : Property). Some r.cell) j
    get_plain (q ∷ ps) (suc k) p e = get_plain ps k p e

pub formula_read : (n : Names) (x : List ℕ) (f : ℕ × FormulaName) → IsLawful n → first_match (λ (f : FormulaName). bytes_eq f.name x) 0 n.formulas ≡ Some f →
    sources n (source.Cell f.1.cell) ≡ Some (shape f.1.ty)
formula_read n x f law e =
    formula_there n n.formulas (map (λ (p : Property). p.cell) n.properties) f.0 f.1 law.cells (found (λ (f : FormulaName). bytes_eq f.name x) n.formulas f e).0

-- a written property is a cell of its type
pub property_source : (n : Names) (k : ℕ) (c : ControlName) (x : List ℕ) (t : Shape) (p : ℕ × Property) → IsLawful n → slice_get n.controls k ≡ Some c → property_of x c ≡ Some t →
    first_match (λ (p : Property). nat_eq p.control k && bytes_eq p.name x) 0 n.properties ≡ Some p → sources n (source.Cell p.1.cell) ≡ Some t
property_source n k c x t p law here typed e =
    let f = found (λ (p : Property). nat_eq p.control k && bytes_eq p.name x) n.properties p e in
    let b = and_parts (nat_eq p.1.control k) (bytes_eq p.1.name x) f.1 in
    let ns : List ℕ = map (λ (p : Property). p.cell) n.properties in
    let past = past_formulas n n.formulas ns p.0 p.1.cell law.cells
    (subst (λ l. slice_get l p.0 ≡ Some p.1.cell) (back ns) (get_mapped (λ (p : Property). p.cell) n.properties [] p.0 p.1 f.0)) in
    past.0 ∙ property_there n.controls n.properties p.0 p.1 past.1 f.0
    ∙ ap (λ y. option_and_then (property_of y) (slice_get n.controls p.1.control)) (bytes_same p.1.name x b.1)
    ∙ ap (λ i. option_and_then (property_of x) (slice_get n.controls i)) (eqb-true p.1.control k b.0)
    ∙ ap (option_and_then (property_of x)) here ∙ typed
  where
    back : {A : Type 0} (xs : List A) → xs ++ [] ≡ xs
    back [] = refl
    back (x ∷ xs) = ap (λ ys. x ∷ ys) (back xs)

-- the scopes
valued_along : (n : Names) (c : Context) (k : Term) (t : Shape) (m : NameMeaning) → valued k t ≡ m → IsTyped c k t → Fitting n c m
valued_along n c k t m e h = subst (Fitting n c) e h

row_typed : (c : Context) (k : ℕ) (t : Shape) → slice_get c.rows k ≡ Some t → IsTyped c (of (row k) nil) t
row_typed c k t e = ([], refl, e)

in_scope_typed : (n : Names) (c : Context) (k : ℕ) (x : List ℕ) (a : Option (List ℕ)) (t : Shape) (m : NameMeaning) → slice_get c.rows k ≡ Some t →
    in_scope_by a k x t ≡ Some m → Fitting n c m
in_scope_typed n c k x (Some a) t m here e = by_test (bytes_eq a x) e
  where
    by_test : (b : Bool) → (if b then Some (valued (of (row k) nil) t) else None) ≡ Some m → Fitting n c m
    by_test true i = let j : valued (of (row k) nil) t ≡ m = cc in valued_along n c _ t m j (row_typed c k t here)
    by_test false i = absurd cc
in_scope_typed n c k x None t m here e = by_field (field_shape x t) refl e
  where
    by_field : (o : Option Shape) → field_shape x t ≡ o → field_at k x o ≡ Some m → Fitting n c m
    by_field (Some u) i j =
        let l : valued (of (term.dot x) (cons (of (row k) nil) nil)) u ≡ m = cc in
        valued_along n c _ u m l (t ∷ [], (t, [], refl, row_typed c k t here, refl), i)
    by_field None i j = absurd cc

whole_typed : (n : Names) (c : Context) (k : ℕ) (a : Option (List ℕ)) (t : Shape) (m : NameMeaning) → slice_get c.rows k ≡ Some t →
    whole_by a k t ≡ Some m → Fitting n c m
whole_typed n c k (Some a) t m here e = absurd cc
whole_typed n c k None t m here e = let j : valued (of (row k) nil) t ≡ m = cc in valued_along n c _ t m j (row_typed c k t here)

abbrev row_types : List Scope → List Shape
row_types ss = map (λ (r : Scope). r.row_type) ss

moved : (c : Context) (pre : List Shape) (t : Shape) (ts : List Shape) → c.rows ≡ pre ++ t ∷ ts → c.rows ≡ (pre ++ t ∷ []) ++ ts
moved c pre t ts e = e ∙ sym (append_assoc pre (t ∷ []) ts)

in_scopes_typed : (n : Names) (c : Context) (pre : List Shape) (x : List ℕ) (ss : List Scope) (m : NameMeaning) → c.rows ≡ pre ++ row_types ss →
    in_scopes (length pre) x ss ≡ Some m → Fitting n c m
in_scopes_typed n c pre x [] m r e = absurd cc
in_scopes_typed n c pre x (s ∷ ss) m r e =
    elim (or_cases (in_scopes (suc (length pre)) x ss) (in_scope_by s.alias (length pre) x s.row_type) m e) [
      | inl a ↦ in_scopes_typed n c (pre ++ s.row_type ∷ []) x ss m (moved c pre s.row_type (row_types ss) r)
          (subst (λ i. in_scopes i x ss ≡ Some m) (sym (length_grows pre s.row_type)) a)
      | inr b ↦ in_scope_typed n c (length pre) x s.alias s.row_type m
          (ap (λ l. slice_get l (length pre)) r ∙ get_there pre s.row_type (row_types ss)) b
    ]

this_record_typed : (n : Names) (c : Context) (pre : List Shape) (ss : List Scope) (m : NameMeaning) → c.rows ≡ pre ++ row_types ss →
    this_record (length pre) ss ≡ Some m → Fitting n c m
this_record_typed n c pre [] m r e = absurd cc
this_record_typed n c pre (s ∷ ss) m r e =
    elim (or_cases (this_record (suc (length pre)) ss) (whole_by s.alias (length pre) s.row_type) m e) [
      | inl a ↦ this_record_typed n c (pre ++ s.row_type ∷ []) ss m (moved c pre s.row_type (row_types ss) r)
          (subst (λ i. this_record i ss ≡ Some m) (sym (length_grows pre s.row_type)) a)
      | inr b ↦ whole_typed n c (length pre) s.alias s.row_type m
          (ap (λ l. slice_get l (length pre)) r ∙ get_there pre s.row_type (row_types ss)) b
    ]

-- the reserved names
this_item_typed : (p : Place) (s : Setting) (g : Option ℕ) (m : NameMeaning) → p.gallery ≡ g → this_item p.names g ≡ Some m → Fitting p.names (context_of p s) m
this_item_typed p s (Some g) m i e =
    let a = option_map_some (λ (c : ControlName). valued (of item nil) (item_type c)) (slice_get p.names.controls g) m e in
    valued_along p.names (context_of p s) (of item nil) (item_type a.0) m a.2 ([], refl, ap (item_context p.names) i ∙ ap (option_map item_type) a.1)
this_item_typed p s None m i e = absurd cc

first_error_typed : (p : Place) (s : Setting) (b : Bool) (m : NameMeaning) → s.catches ≡ b → first_error b ≡ Some m → Fitting p.names (context_of p s) m
first_error_typed p s true m i e =
    let j : valued (of caught nil) fault_type ≡ m = cc in
    valued_along p.names (context_of p s) (of caught nil) fault_type m j ([], refl, (i, refl))
first_error_typed p s false m i e = absurd cc

-- a reserved name's meaning, if it is a reserved name
reserved_typed : (p : Place) (s : Setting) (x : List ℕ) (o : Option NameMeaning) (m : NameMeaning) → reserved p s.scopes s.catches x ≡ Some o → o ≡ Some m →
    Fitting p.names (context_of p s) m
reserved_typed p s x o m e i = by_record (bytes_eq x (codes "ThisRecord")) e
  where
    by_name : (e : Option Enumeration) → option_map (λ e. Some (enumerated e)) e ≡ Some o → Fitting p.names (context_of p s) m
    by_name (Some k) j = let l : Some (enumerated k) ≡ Some m = cc in let y : enumerated k ≡ m = cc in subst (Fitting p.names (context_of p s)) y tt
    by_name None j = absurd cc

    by_error : (b : Bool) → (if b then Some (first_error s.catches) else option_map (λ e. Some (enumerated e)) (enumeration_of (encode_utf8_all x))) ≡ Some o → Fitting p.names (context_of p s) m
    by_error true j = let l : first_error s.catches ≡ o = cc in first_error_typed p s s.catches m refl (l ∙ i)
    by_error false j = by_name (enumeration_of (encode_utf8_all x)) j

    by_item : (b : Bool) → (if b then Some (this_item p.names p.gallery) else (if bytes_eq x (codes "FirstError") then Some (first_error s.catches)
        else option_map (λ e. Some (enumerated e)) (enumeration_of (encode_utf8_all x)))) ≡ Some o → Fitting p.names (context_of p s) m
    by_item true j = let l : this_item p.names p.gallery ≡ o = cc in this_item_typed p s p.gallery m refl (l ∙ i)
    by_item false j = by_error (bytes_eq x (codes "FirstError")) j

    by_record : (b : Bool) → (if b then Some (this_record 0 s.scopes) else (if bytes_eq x (codes "ThisItem") then Some (this_item p.names p.gallery)
        else (if bytes_eq x (codes "FirstError") then Some (first_error s.catches)
        else option_map (λ e. Some (enumerated e)) (enumeration_of (encode_utf8_all x))))) ≡ Some o → Fitting p.names (context_of p s) m
    by_record true j = let l : this_record 0 s.scopes ≡ o = cc in this_record_typed p.names (context_of p s) [] s.scopes m refl (l ∙ i)
    by_record false j = by_item (bytes_eq x (codes "ThisItem")) j

-- the variables of the screen, and the global names
in_context_typed : (p : Place) (s : Setting) (x : List ℕ) (m : NameMeaning) → in_context p x ≡ Some m → Fitting p.names (context_of p s) m
in_context_typed p s x m e =
    let a = option_map_some (λ (v : ℕ × Variable). valued (of (read (source.Context v.0)) nil) (shape v.1.ty))
    (first_match (λ (v : Variable). is_on p.screen v.screen && bytes_eq v.name x) 0 p.names.variables) m e in
    valued_along p.names (context_of p s) _ (shape a.0.1.ty) m a.2
    (read_typed (context_of p s) (source.Context a.0.0) (shape a.0.1.ty) (context_read p.names p.screen x a.0 a.1))

pub in_globals_typed : (p : Place) (s : Setting) (x : List ℕ) (m : NameMeaning) → IsLawful p.names → in_globals p.names x ≡ Some m → Fitting p.names (context_of p s) m
in_globals_typed p s x m law e =
    elim (or_cases _ _ m e) [
      | inl i ↦ (let a = option_map_some (λ (v : ℕ × Variable). valued (of (read (source.Global v.0)) nil) (shape v.1.ty)) _ m i in
          valued_along p.names (context_of p s) _ (shape a.0.1.ty) m a.2 (read_typed (context_of p s) (source.Global a.0.0) (shape a.0.1.ty) (global_read p.names x a.0 a.1)))
      | inr e ↦ elim (or_cases _ _ m e) [
        | inl i ↦ (let a = option_map_some (λ (v : ℕ × Collection). valued (of (read (source.Gathered v.0)) nil) (shape v.1.ty)) _ m i in
            valued_along p.names (context_of p s) _ (shape a.0.1.ty) m a.2 (read_typed (context_of p s) (source.Gathered a.0.0) (shape a.0.1.ty) (gathered_read p.names x a.0 a.1)))
        | inr e ↦ elim (or_cases _ _ m e) [
          | inl i ↦ (let a = option_map_some (λ (f : ℕ × FormulaName). valued (of (read (source.Cell f.1.cell)) nil) (shape f.1.ty)) _ m i in
              valued_along p.names (context_of p s) _ (shape a.0.1.ty) m a.2 (read_typed (context_of p s) (source.Cell a.0.1.cell) (shape a.0.1.ty) (formula_read p.names x a.0 law a.1)))
          | inr e ↦ elim (or_cases _ _ m e) [
            | inl i ↦ (let a = option_map_some (λ (t : ℕ × TableShape). valued (of (read (source.Table t.0)) nil) (tables (columns_of t.1))) _ m i in
                valued_along p.names (context_of p s) _ (tables (columns_of a.0.1)) m a.2
                (read_typed (context_of p s) (source.Table a.0.0) (tables (columns_of a.0.1)) (table_read p.names x a.0 a.1)))
            | inr e ↦ elim (or_cases _ _ m e) [
              | inl i ↦ (let a = option_map_some (λ (c : ℕ × ControlName). controlled c.0 c.1) _ m i in
                  subst (Fitting p.names (context_of p s)) a.2 (found (λ (c : ControlName). bytes_eq c.name x) p.names.controls a.0 a.1).0)
              | inr i ↦ (let a = option_map_some (λ (s : ℕ × List ℕ). screened) _ m i in subst (Fitting p.names (context_of p s)) a.2 tt)
            ]
          ]
        ]
      ]
    ]

-- what a name means
pub meaning_typed : (p : Place) (s : Setting) (x : List ℕ) (m : NameMeaning) → IsLawful p.names → meaning_of p s.scopes s.catches x ≡ Some m →
    Fitting p.names (context_of p s) m
meaning_typed p s x m law e =
    elim (or_cases (in_scopes 0 x s.scopes) (behind_scopes p x (reserved p s.scopes s.catches x)) m e) [
      | inl a ↦ in_scopes_typed p.names (context_of p s) [] x s.scopes m refl a
      | inr b ↦ behind (reserved p s.scopes s.catches x) refl b
    ]
  where
    behind : (o : Option (Option NameMeaning)) → reserved p s.scopes s.catches x ≡ o → behind_scopes p x o ≡ Some m → Fitting p.names (context_of p s) m
    behind (Some o) i j = reserved_typed p s x o m i j
    behind None i j =
        elim (or_cases (in_context p x) (in_globals p.names x) m j) [
          | inl a ↦ in_context_typed p s x m a
          | inr b ↦ in_globals_typed p s x m law b
        ]

pub named_typed : (n : Names) (c : Context) (o : Option NameMeaning) (y : Term × Shape) → ((m : NameMeaning) → o ≡ Some m → Fitting n c m) → named o ≡ Ok y → Typed c y
named_typed n c (Some (valued k t)) y h e = let z : (k, t) ≡ y = cc in subst (Typed c) z (h (valued k t) refl)
named_typed n c (Some (controlled k x)) y h e = absurd cc
named_typed n c (Some screened) y h e = absurd cc
named_typed n c (Some (enumerated x)) y h e = absurd cc
named_typed n c None y h e = absurd cc

-- a property that isn't written has its default, which fits a lawful type
abbrev Suits : Data → Shape → Type 0
Suits d t = (fits_in d t ≡ true) × IsLawfulType t

abbrev Defaulted : Option Shape → Data → Type 0
Defaulted o d = (t : Shape) → o ≡ Some t → Suits d t

one_default : (b : Bool) (u : Shape) (d : Data) → Suits d u → Defaulted (if b then Some u else None) d
one_default true u d h t e = let k : u ≡ t = cc in subst (Suits d) k h
one_default false u d h t e = absurd cc

slider_default : (b : Bool) → fits_in (if b then number (pos 1000000) else number (pos 0)) numbers ≡ true
slider_default true = refl
slider_default false = refl

checkbox_default : (a b : Bool) → Defaulted (if a then Some texts else (if b then Some booleans else None)) (if a then text [] else boolean false)
checkbox_default true b t e = let k : texts ≡ t = cc in subst (Suits (text [])) k (refl, tt)
checkbox_default false b t e = one_default b booleans (boolean false) (refl, tt) t e

own_suits : (c : Control) (n : List ℕ) → Defaulted (own_type c n) (own_default c n)
own_suits control.Label n t e = one_default (bytes_eq n (codes "Text")) texts (text []) (refl, tt) t e
own_suits control.Button n t e = one_default (bytes_eq n (codes "Text")) texts (text []) (refl, tt) t e
own_suits control.TextInput n t e = one_default (bytes_eq n (codes "Default")) texts blank (refl, tt) t e
own_suits control.Slider n t e = one_default _ numbers _ (slider_default (bytes_eq n (codes "Max")), tt) t e
own_suits control.Checkbox n t e = checkbox_default (bytes_eq n (codes "Text")) (bytes_eq n (codes "Default")) t e
own_suits control.DatePicker n t e = one_default (bytes_eq n (codes "DefaultDate")) dates blank (refl, tt) t e
own_suits control.Gallery n t e = absurd cc

visible_or : (b : Bool) (o : Option Shape) (d : Data) → Defaulted o d → Defaulted (if b then Some booleans else o) (if b then boolean true else d)
visible_or true o d h t e = let k : booleans ≡ t = cc in subst (Suits (boolean true)) k (refl, tt)
visible_or false o d h t e = h t e

plain_suits : (c : Control) (n : List ℕ) → Defaulted (property_type c n) (default_of c n)
plain_suits c n = visible_or (bytes_eq n (codes "Visible")) (own_type c n) (own_default c n) (own_suits c n)

items_fit : (c : Control) (n : List ℕ) → is_items c n ≡ true → fits_in (default_of c n) (tables no_columns) ≡ true
items_fit control.Gallery n e = subst (λ m. fits_in (default_of control.Gallery m) (tables no_columns) ≡ true) (sym (bytes_same n (codes "Items") e)) refl
items_fit control.Label n e = absurd cc
items_fit control.Button n e = absurd cc
items_fit control.TextInput n e = absurd cc
items_fit control.Slider n e = absurd cc
items_fit control.Checkbox n e = absurd cc
items_fit control.DatePicker n e = absurd cc

default_suits : (c : Control) (n : List ℕ) (i t : Shape) → (if is_items c n then Some i else property_type c n) ≡ Some t → Suits (default_of c n) (default_type c n t)
default_suits c n i t e = by_test (is_items c n) refl e
  where
    by_test : (b : Bool) → is_items c n ≡ b → (if b then Some i else property_type c n) ≡ Some t → Suits (default_of c n) (if b then tables no_columns else t)
    by_test true j k = (items_fit c n j, tt)
    by_test false j k = plain_suits c n t k

-- what stands behind a dot
along : (c : Context) (y x : Term × Shape) → y ≡ x → Typed c y → Typed c x
along c y x e h = subst (Typed c) e h

known_typed : (c : Context) (k : Term) (x : List ℕ) (u : Shape) (o : Option Shape) (y : Term × Shape) → IsTyped c k u → field_shape x u ≡ o → known_field k x o ≡ Ok y → Typed c y
known_typed c k x u (Some t) y h i e = let z : (of (term.dot x) (cons k nil), t) ≡ y = cc in along c _ y z (u ∷ [], (u, [], refl, h, refl), i)
known_typed c k x u None y h i e = absurd cc

field_typed : (c : Context) (k : Term) (x : List ℕ) (u : Shape) (y : Term × Shape) → IsTyped c k u → field_read k x u ≡ Ok y → Typed c y
field_typed c k x (records cs) y h e = known_typed c k x (records cs) (field_in x cs) y h refl e
field_typed c k x blanks y h e = absurd cc
field_typed c k x numbers y h e = absurd cc
field_typed c k x texts y h e = absurd cc
field_typed c k x booleans y h e = absurd cc
field_typed c k x dates y h e = absurd cc
field_typed c k x (tables cs) y h e = absurd cc

chosen_type : (c : Control) (x : List ℕ) (t : Shape) → is_chosen c x ≡ true → chosen_shape c t ≡ Some t
chosen_type control.Gallery x t e = refl
chosen_type control.Label x t e = absurd cc
chosen_type control.Button x t e = absurd cc
chosen_type control.TextInput x t e = absurd cc
chosen_type control.Slider x t e = absurd cc
chosen_type control.Checkbox x t e = absurd cc
chosen_type control.DatePicker x t e = absurd cc

control_typed : (p : Place) (s : Setting) (k : ℕ) (c : ControlName) (g : Option ℕ) (x : List ℕ) (y : Term × Shape) → IsLawful p.names → slice_get p.names.controls k ≡ Some c →
    control_read p.names k c g x ≡ Ok y → Typed (context_of p s) y
control_typed p s k c (Some g) x y law here e = absurd cc
control_typed p s k c None x y law here e = by_chosen (is_chosen c.kind (encode_utf8_all x)) refl e
  where
    by_written : (t : Shape) (o : Option (ℕ × Property)) → first_match (λ (q : Property). nat_eq q.control k && bytes_eq q.name x) 0 p.names.properties ≡ o → property_of x c ≡ Some t →
        Typed (context_of p s) (written_or c.kind x t o)
    by_written t (Some q) i j = read_typed (context_of p s) (source.Cell q.1.cell) t (property_source p.names k c x t q law here j i)
    by_written t None i j =
        let d = default_suits c.kind (encode_utf8_all x) (tables (item_columns (shape c.items))) t j in
        ([], refl, (d.0, inl d.1))

    by_property : (o : Option Shape) → property_of x c ≡ o → property_read p.names k c x o ≡ Ok y → Typed (context_of p s) y
    by_property (Some t) i j =
        let z : written_or c.kind x t (first_match (λ (q : Property). nat_eq q.control k && bytes_eq q.name x) 0 p.names.properties) ≡ y = cc in
        along (context_of p s) _ y z (by_written t _ refl i)
    by_property None i j = absurd cc

    by_given : (o : Option Shape) → input_type c.kind ≡ o → input_read k o ≡ Ok y → Typed (context_of p s) y
    by_given (Some t) i j =
        let z : (of (read (source.Input k)) nil, t) ≡ y = cc in
        along (context_of p s) _ y z (read_typed (context_of p s) (source.Input k) t (ap (option_and_then (λ (c : ControlName). input_type c.kind)) here ∙ i))
    by_given None i j = absurd cc

    by_input : (b : Bool) → (if b then input_read k (input_type c.kind) else property_read p.names k c x (property_of x c)) ≡ Ok y → Typed (context_of p s) y
    by_input true j = by_given (input_type c.kind) refl j
    by_input false j = by_property (property_of x c) refl j

    by_chosen : (b : Bool) → is_chosen c.kind (encode_utf8_all x) ≡ b → (if b then Ok (of (read (source.Chosen k)) nil, item_type c)
        else (if is_input c.kind (encode_utf8_all x) then input_read k (input_type c.kind) else property_read p.names k c x (property_of x c))) ≡ Ok y → Typed (context_of p s) y
    by_chosen true i j =
        let z : (of (read (source.Chosen k)) nil, item_type c) ≡ y = cc in
        along (context_of p s) _ y z (read_typed (context_of p s) (source.Chosen k) (item_type c)
        (ap (option_and_then (λ (c : ControlName). chosen_shape c.kind (item_type c))) here ∙ chosen_type c.kind (encode_utf8_all x) (item_type c) i))
    by_chosen false i j = by_input (is_input c.kind (encode_utf8_all x)) j

member_typed : (c : Context) (b : Bool) (x : List ℕ) (y : Term × Shape) → member_of b x ≡ Ok y → Typed c y
member_typed c true x y e = let z : (of (const (text x)) nil, texts) ≡ y = cc in along c _ y z ([], refl, (refl, inl tt))
member_typed c false x y e = absurd cc

pub dotted_typed : (p : Place) (s : Setting) (x : List ℕ) (m : NameMeaning) (y : Term × Shape) → IsLawful p.names → Fitting p.names (context_of p s) m →
    dotted p.names x (Some m) ≡ Ok y → Typed (context_of p s) y
dotted_typed p s x (valued k t) y law h e = field_typed (context_of p s) k x t y h e
dotted_typed p s x (controlled k c) y law h e = control_typed p s k c c.gallery x y law h e
dotted_typed p s x (enumerated m) y law h e = member_typed (context_of p s) (has_member m (encode_utf8_all x)) x y e
dotted_typed p s x screened y law h e = absurd cc
