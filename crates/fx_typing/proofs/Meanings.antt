-- What a name means: the relation has the meaning of the definition.
use Rattle.std.proofs.Common.{◌≡◌, ℕ, suc, List, [], ◌∷◌, Bool, true, false, codes, bytes_eq, encode_utf8_all, option_map, Option, Some, None, refl, ap, subst, ◌∙◌, inl, inr, ◌⊎◌, if◌then◌else◌}
use Rattle.fx_types.specs.TypeView.{shape}
use Rattle.fx_types.specs.Types.{Shape, tables}
use Rattle.fx_core.specs.declared.literals.Enumeration.{Enumeration}
use Rattle.fx_core.specs.declared.sources.Source.TheVariants as source
use Rattle.fx_core.specs.Literals.{enumeration_of}
use Rattle.fx_core.specs.declared.names.Collection.{Collection}
use Rattle.fx_core.specs.declared.names.ControlName.{ControlName}
use Rattle.fx_core.specs.declared.names.FormulaName.{FormulaName}
use Rattle.fx_core.specs.declared.names.Names.{Names}
use Rattle.fx_core.specs.declared.names.Variable.{Variable}
use Rattle.fx_core.specs.declared.schema.TableShape.{TableShape}
use Rattle.fx_core.specs.SourceTypes.{columns_of}
use Rattle.fx_core.specs.Term.{of, nil, read, row}
use Rattle.fx_typing.specs.Columns.{field_shape}
use Rattle.fx_typing.specs.Meaning.{Place, Scope, NameMeaning, valued, controlled, screened, enumerated, or_else, field_at, in_scope_by, in_scopes, this_record, this_item, first_error, reserved, in_globals, behind_scopes, meaning_of}
use Rattle.fx_typing.specs.Targets.{global_variable, screen_variable, collection_named, table_named, screen_named, control_named}
use Rattle.fx_typing.specs.Meanings as Names
use Rattle.fx_typing.specs.Meanings.{placed_formula_named, InScopes, IsGlobal, IsReserved, NameMeans}
use Rattle.fx_typing.proofs.RelatedSteps.{some_is, if_true, if_false}

-- the first of two, or the second where there is no first
else_some : {A : Type 0} (a b : Option A) (m : A) → or_else a b ≡ Some m → (a ≡ Some m) ⊎ ((a ≡ None) × (b ≡ Some m))
else_some (Some a) b m e = inl e
else_some None b m e = inr (refl, e)

first_else : {A : Type 0} (a b : Option A) (m : A) → a ≡ Some m → or_else a b ≡ Some m
first_else a b m e = ap (λ z. or_else z b) e

second_else : {A : Type 0} (a b : Option A) (m : A) → a ≡ None → b ≡ Some m → or_else a b ≡ Some m
second_else a b m e f = ap (λ z. or_else z b) e ∙ f

map_some : {A B : Type 0} (f : A → B) (o : Option A) (b : B) → option_map f o ≡ Some b → (a : A) × (o ≡ Some a) × (f a ≡ b)
map_some f (Some a) b e = (a, refl, some_is (f a) b e)
map_some f None b e = absurd cc

map_none : {A B : Type 0} (f : A → B) (o : Option A) → option_map f o ≡ None → o ≡ None
map_none f None e = refl
map_none f (Some a) e = absurd cc

none_map : {A B : Type 0} (f : A → B) (o : Option A) → o ≡ None → option_map f o ≡ None
none_map f o e = ap (option_map f) e

-- ---- the scopes
module _ (x : List ℕ) where
  field_ok : (k : ℕ) (r : Scope) (ss : List Scope) (m : NameMeaning) (o : Option Shape) → in_scopes (suc k) x ss ≡ None → r.alias ≡ None → field_shape x r.row_type ≡ o →
      field_at k x o ≡ Some m → InScopes x k (r ∷ ss) m
  field_ok k r ss m (Some t) i j f e = subst (InScopes x k (r ∷ ss)) (some_is _ m e) (Names.by_field i j f)
  field_ok k r ss m None i j f e = absurd cc

  alias_ok : (k : ℕ) (r : Scope) (ss : List Scope) (m : NameMeaning) (a : List ℕ) (b : Bool) → in_scopes (suc k) x ss ≡ None → r.alias ≡ Some a → bytes_eq a x ≡ b →
      (if b then Some (valued (of (row k) nil) r.row_type) else None) ≡ Some m → InScopes x k (r ∷ ss) m
  alias_ok k r ss m a true i j f e = subst (InScopes x k (r ∷ ss)) (some_is _ m e) (Names.by_alias i j f)
  alias_ok k r ss m a false i j f e = absurd cc

  scope_ok : (k : ℕ) (r : Scope) (ss : List Scope) (m : NameMeaning) (o : Option (List ℕ)) → in_scopes (suc k) x ss ≡ None → r.alias ≡ o →
      in_scope_by o k x r.row_type ≡ Some m → InScopes x k (r ∷ ss) m
  scope_ok k r ss m (Some a) i j e = alias_ok k r ss m a (bytes_eq a x) i j refl e
  scope_ok k r ss m None i j e = field_ok k r ss m (field_shape x r.row_type) i j refl e

  scopes_ok : (k : ℕ) (ss : List Scope) (m : NameMeaning) → in_scopes k x ss ≡ Some m → InScopes x k ss m
  scopes_ok k [] m e = absurd cc
  scopes_ok k (r ∷ ss) m e =
      elim (else_some (in_scopes (suc k) x ss) (in_scope_by r.alias k x r.row_type) m e) [
        | inl a ↦ Names.further_in (scopes_ok (suc k) ss m a)
        | inr b ↦ scope_ok k r ss m r.alias b.0 refl b.1
      ]

  scopes_go : (k : ℕ) (ss : List Scope) (m : NameMeaning) → InScopes x k ss m → in_scopes k x ss ≡ Some m
  scopes_go k ss m (Names.further_in {r = r} {ss = more} i) = first_else (in_scopes (suc k) x more) (in_scope_by r.alias k x r.row_type) m (scopes_go (suc k) more m i)
  scopes_go k ss m (Names.by_alias {r = r} {ss = more} {a = a} i j f) =
      second_else (in_scopes (suc k) x more) (in_scope_by r.alias k x r.row_type) m i
      (ap (λ o. in_scope_by o k x r.row_type) j ∙ ap (λ b. if b then Some (valued (of (row k) nil) r.row_type) else None) f)
  scopes_go k ss m (Names.by_field {r = r} {ss = more} {t = t} i j f) =
      second_else (in_scopes (suc k) x more) (in_scope_by r.alias k x r.row_type) m i (ap (λ o. in_scope_by o k x r.row_type) j ∙ ap (field_at k x) f)

-- ---- global names
abbrev of_variable : ℕ × Variable → NameMeaning
of_variable v = valued (of (read (source.Global v.0)) nil) (shape v.1.ty)

abbrev of_collection : ℕ × Collection → NameMeaning
of_collection c = valued (of (read (source.Gathered c.0)) nil) (shape c.1.ty)

abbrev of_formula : ℕ × FormulaName → NameMeaning
of_formula f = valued (of (read (source.Cell f.1.cell)) nil) (shape f.1.ty)

abbrev of_table : ℕ × TableShape → NameMeaning
of_table t = valued (of (read (source.Table t.0)) nil) (tables (columns_of t.1))

abbrev of_control : ℕ × ControlName → NameMeaning
of_control c = controlled c.0 c.1

abbrev of_screen : ℕ × List ℕ → NameMeaning
of_screen s = screened

module _ (n : Names) (x : List ℕ) where
  abbrev from_screens : Option NameMeaning
  from_screens = option_map of_screen (screen_named n x)

  abbrev from_controls : Option NameMeaning
  from_controls = or_else (option_map of_control (control_named n x)) from_screens

  abbrev from_tables : Option NameMeaning
  from_tables = or_else (option_map of_table (table_named n x)) from_controls

  abbrev from_formulas : Option NameMeaning
  from_formulas = or_else (option_map of_formula (placed_formula_named n x)) from_tables

  abbrev from_collections : Option NameMeaning
  from_collections = or_else (option_map of_collection (collection_named n x)) from_formulas

  screen_ok : (m : NameMeaning) → global_variable n x ≡ None → collection_named n x ≡ None → placed_formula_named n x ≡ None → table_named n x ≡ None → control_named n x ≡ None →
      from_screens ≡ Some m → IsGlobal n x m
  screen_ok m v c f t k e = let a = map_some of_screen (screen_named n x) m e in subst (IsGlobal n x) a.2 (Names.a_screen {k = a.0.0} {s = a.0.1} v c f t k a.1)

  control_ok : (m : NameMeaning) → global_variable n x ≡ None → collection_named n x ≡ None → placed_formula_named n x ≡ None → table_named n x ≡ None →
      from_controls ≡ Some m → IsGlobal n x m
  control_ok m v c f t e =
      elim (else_some (option_map of_control (control_named n x)) from_screens m e) [
        | inl a ↦ (let b = map_some of_control (control_named n x) m a in subst (IsGlobal n x) b.2 (Names.a_control {k = b.0.0} {c = b.0.1} v c f t b.1))
        | inr b ↦ screen_ok m v c f t (map_none of_control (control_named n x) b.0) b.1
      ]

  table_ok : (m : NameMeaning) → global_variable n x ≡ None → collection_named n x ≡ None → placed_formula_named n x ≡ None → from_tables ≡ Some m → IsGlobal n x m
  table_ok m v c f e =
      elim (else_some (option_map of_table (table_named n x)) from_controls m e) [
        | inl a ↦ (let b = map_some of_table (table_named n x) m a in subst (IsGlobal n x) b.2 (Names.a_table {k = b.0.0} {t = b.0.1} v c f b.1))
        | inr b ↦ control_ok m v c f (map_none of_table (table_named n x) b.0) b.1
      ]

  formula_ok : (m : NameMeaning) → global_variable n x ≡ None → collection_named n x ≡ None → from_formulas ≡ Some m → IsGlobal n x m
  formula_ok m v c e =
      elim (else_some (option_map of_formula (placed_formula_named n x)) from_tables m e) [
        | inl a ↦ (let b = map_some of_formula (placed_formula_named n x) m a in subst (IsGlobal n x) b.2 (Names.a_formula {k = b.0.0} {f = b.0.1} v c b.1))
        | inr b ↦ table_ok m v c (map_none of_formula (placed_formula_named n x) b.0) b.1
      ]

  collection_ok : (m : NameMeaning) → global_variable n x ≡ None → from_collections ≡ Some m → IsGlobal n x m
  collection_ok m v e =
      elim (else_some (option_map of_collection (collection_named n x)) from_formulas m e) [
        | inl a ↦ (let b = map_some of_collection (collection_named n x) m a in subst (IsGlobal n x) b.2 (Names.a_collection {k = b.0.0} {c = b.0.1} v b.1))
        | inr b ↦ formula_ok m v (map_none of_collection (collection_named n x) b.0) b.1
      ]

  pub globals_ok : (m : NameMeaning) → in_globals n x ≡ Some m → IsGlobal n x m
  globals_ok m e =
      elim (else_some (option_map of_variable (global_variable n x)) from_collections m e) [
        | inl a ↦ (let b = map_some of_variable (global_variable n x) m a in subst (IsGlobal n x) b.2 (Names.a_variable {k = b.0.0} {v = b.0.1} b.1))
        | inr b ↦ collection_ok m (map_none of_variable (global_variable n x) b.0) b.1
      ]

  past_variables : (m : NameMeaning) → global_variable n x ≡ None → from_collections ≡ Some m → in_globals n x ≡ Some m
  past_variables m v e = second_else (option_map of_variable (global_variable n x)) from_collections m (none_map of_variable (global_variable n x) v) e

  past_collections : (m : NameMeaning) → global_variable n x ≡ None → collection_named n x ≡ None → from_formulas ≡ Some m → in_globals n x ≡ Some m
  past_collections m v c e =
      past_variables m v (second_else (option_map of_collection (collection_named n x)) from_formulas m (none_map of_collection (collection_named n x) c) e)

  past_formulas : (m : NameMeaning) → global_variable n x ≡ None → collection_named n x ≡ None → placed_formula_named n x ≡ None → from_tables ≡ Some m → in_globals n x ≡ Some m
  past_formulas m v c f e =
      past_collections m v c (second_else (option_map of_formula (placed_formula_named n x)) from_tables m (none_map of_formula (placed_formula_named n x) f) e)

  past_tables : (m : NameMeaning) → global_variable n x ≡ None → collection_named n x ≡ None → placed_formula_named n x ≡ None → table_named n x ≡ None →
      from_controls ≡ Some m → in_globals n x ≡ Some m
  past_tables m v c f t e =
      past_formulas m v c f (second_else (option_map of_table (table_named n x)) from_controls m (none_map of_table (table_named n x) t) e)

  pub globals_go : (m : NameMeaning) → IsGlobal n x m → in_globals n x ≡ Some m
  globals_go m (Names.a_variable i) = first_else (option_map of_variable (global_variable n x)) from_collections m (ap (option_map of_variable) i)
  globals_go m (Names.a_collection v i) =
      past_variables m v (first_else (option_map of_collection (collection_named n x)) from_formulas m (ap (option_map of_collection) i))
  globals_go m (Names.a_formula v c i) =
      past_collections m v c (first_else (option_map of_formula (placed_formula_named n x)) from_tables m (ap (option_map of_formula) i))
  globals_go m (Names.a_table v c f i) =
      past_formulas m v c f (first_else (option_map of_table (table_named n x)) from_controls m (ap (option_map of_table) i))
  globals_go m (Names.a_control v c f t i) =
      past_tables m v c f t (first_else (option_map of_control (control_named n x)) from_screens m (ap (option_map of_control) i))
  globals_go m (Names.a_screen v c f t k i) =
      past_tables m v c f t (second_else (option_map of_control (control_named n x)) from_screens m (none_map of_control (control_named n x) k) (ap (option_map of_screen) i))

-- ---- names that no app declares, and all names
module _ (p : Place) (scopes : List Scope) (catches : Bool) (x : List ℕ) where
  error_ok : (b : Bool) (m : NameMeaning) → bytes_eq x (codes "ThisRecord") ≡ false → bytes_eq x (codes "ThisItem") ≡ false → bytes_eq x (codes "FirstError") ≡ true →
      catches ≡ b → first_error b ≡ Some m → IsReserved p scopes catches x m
  error_ok true m i j k l e = subst (IsReserved p scopes catches x) (some_is _ m e) (Names.the_error i j k l)
  error_ok false m i j k l e = absurd cc

  enumeration_ok : (o : Option Enumeration) (m : NameMeaning) → bytes_eq x (codes "ThisRecord") ≡ false → bytes_eq x (codes "ThisItem") ≡ false →
      bytes_eq x (codes "FirstError") ≡ false → enumeration_of (encode_utf8_all x) ≡ o → option_map (λ e. Some (enumerated e)) o ≡ Some (Some m) → IsReserved p scopes catches x m
  enumeration_ok (Some v) m i j k l e =
      let same : enumerated v ≡ m = some_is (enumerated v) m (some_is (Some (enumerated v)) (Some m) e) in
      subst (IsReserved p scopes catches x) same (Names.an_enumeration i j k l)
  enumeration_ok None m i j k l e = absurd cc

  reserved_ok : (m : NameMeaning) → reserved p scopes catches x ≡ Some (Some m) → IsReserved p scopes catches x m
  reserved_ok m e = by_record (bytes_eq x (codes "ThisRecord")) refl e
    where
      by_error : (b : Bool) → bytes_eq x (codes "ThisRecord") ≡ false → bytes_eq x (codes "ThisItem") ≡ false → bytes_eq x (codes "FirstError") ≡ b →
          (if b then Some (first_error catches) else option_map (λ e. Some (enumerated e)) (enumeration_of (encode_utf8_all x))) ≡ Some (Some m) → IsReserved p scopes catches x m
      by_error true i j k f = error_ok catches m i j k refl (some_is (first_error catches) (Some m) f)
      by_error false i j k f = enumeration_ok (enumeration_of (encode_utf8_all x)) m i j k refl f

      by_item : (b : Bool) → bytes_eq x (codes "ThisRecord") ≡ false → bytes_eq x (codes "ThisItem") ≡ b →
          (if b then Some (this_item p.names p.gallery) else (if bytes_eq x (codes "FirstError") then Some (first_error catches)
          else option_map (λ e. Some (enumerated e)) (enumeration_of (encode_utf8_all x)))) ≡ Some (Some m) → IsReserved p scopes catches x m
      by_item true i j f = Names.the_item i j (some_is (this_item p.names p.gallery) (Some m) f)
      by_item false i j f = by_error (bytes_eq x (codes "FirstError")) i j refl f

      by_record : (b : Bool) → bytes_eq x (codes "ThisRecord") ≡ b →
          (if b then Some (this_record 0 scopes) else (if bytes_eq x (codes "ThisItem") then Some (this_item p.names p.gallery)
          else (if bytes_eq x (codes "FirstError") then Some (first_error catches)
          else option_map (λ e. Some (enumerated e)) (enumeration_of (encode_utf8_all x))))) ≡ Some (Some m) → IsReserved p scopes catches x m
      by_record true i f = Names.the_record i (some_is (this_record 0 scopes) (Some m) f)
      by_record false i f = by_item (bytes_eq x (codes "ThisItem")) i refl f

  reserved_goes : (m : NameMeaning) → IsReserved p scopes catches x m → reserved p scopes catches x ≡ Some (Some m)
  reserved_goes m (Names.the_record i e) = if_true (bytes_eq x (codes "ThisRecord")) _ _ i ∙ ap (λ o. Some o) e
  reserved_goes m (Names.the_item i j e) = if_false (bytes_eq x (codes "ThisRecord")) _ _ i ∙ if_true (bytes_eq x (codes "ThisItem")) _ _ j ∙ ap (λ o. Some o) e
  reserved_goes m (Names.the_error i j k l) =
      if_false (bytes_eq x (codes "ThisRecord")) _ _ i ∙ if_false (bytes_eq x (codes "ThisItem")) _ _ j ∙ if_true (bytes_eq x (codes "FirstError")) _ _ k
      ∙ ap (λ b. Some (first_error b)) l
  reserved_goes m (Names.an_enumeration i j k l) =
      if_false (bytes_eq x (codes "ThisRecord")) _ _ i ∙ if_false (bytes_eq x (codes "ThisItem")) _ _ j ∙ if_false (bytes_eq x (codes "FirstError")) _ _ k
      ∙ ap (option_map (λ e. Some (enumerated e))) l

  abbrev of_context : ℕ × Variable → NameMeaning
  of_context v = valued (of (read (source.Context v.0)) nil) (shape v.1.ty)

  behind_ok : (o : Option (Option NameMeaning)) (m : NameMeaning) → in_scopes 0 x scopes ≡ None → reserved p scopes catches x ≡ o → behind_scopes p x o ≡ Some m →
      NameMeans p scopes catches x m
  behind_ok (Some o) m i r e = Names.of_the_language i (reserved_ok m (r ∙ ap (λ z. Some z) e))
  behind_ok None m i r e =
      elim (else_some (option_map of_context (screen_variable p.names p.screen x)) (in_globals p.names x) m e) [
        | inl a ↦ (let b = map_some of_context (screen_variable p.names p.screen x) m a in
            subst (NameMeans p scopes catches x) b.2 (Names.of_the_screen {k = b.0.0} {v = b.0.1} i r b.1))
        | inr b ↦ Names.of_the_app i r (map_none of_context (screen_variable p.names p.screen x) b.0) (globals_ok p.names x m b.1)
      ]

  pub means_ok : (m : NameMeaning) → meaning_of p scopes catches x ≡ Some m → NameMeans p scopes catches x m
  means_ok m e =
      elim (else_some (in_scopes 0 x scopes) (behind_scopes p x (reserved p scopes catches x)) m e) [
        | inl a ↦ Names.of_a_scope (scopes_ok x 0 scopes m a)
        | inr b ↦ behind_ok (reserved p scopes catches x) m b.0 refl b.1
      ]

  past_scopes : (o : Option (Option NameMeaning)) (m : NameMeaning) → in_scopes 0 x scopes ≡ None → reserved p scopes catches x ≡ o → behind_scopes p x o ≡ Some m →
      meaning_of p scopes catches x ≡ Some m
  past_scopes o m i r e = second_else (in_scopes 0 x scopes) (behind_scopes p x (reserved p scopes catches x)) m i (ap (behind_scopes p x) r ∙ e)

  pub means_go : (m : NameMeaning) → NameMeans p scopes catches x m → meaning_of p scopes catches x ≡ Some m
  means_go m (Names.of_a_scope i) = first_else (in_scopes 0 x scopes) (behind_scopes p x (reserved p scopes catches x)) m (scopes_go x 0 scopes m i)
  means_go m (Names.of_the_language i r) = past_scopes (Some (Some m)) m i (reserved_goes m r) refl
  means_go m (Names.of_the_screen i r e) =
      past_scopes None m i r (first_else (option_map of_context (screen_variable p.names p.screen x)) (in_globals p.names x) m (ap (option_map of_context) e))
  means_go m (Names.of_the_app i r e g) =
      past_scopes None m i r (second_else (option_map of_context (screen_variable p.names p.screen x)) (in_globals p.names x) m
      (none_map of_context (screen_variable p.names p.screen x) e) (globals_go p.names x m g))
