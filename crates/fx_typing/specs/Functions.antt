-- One rule for all functions, operators and forms of the table: the parts that stand at the places
-- of a row, and what it answers of them.
use Rattle.std.specs.Prelude.{◌≡◌, ℕ, suc, List, [], ◌∷◌, true, false, ◌&&◌, length, Option, Some}
use Rattle.std.specs.Prelude.{None}
use Rattle.fx_types.specs.Types.{Shape, blanks, texts, records, tables, ColumnList, no_columns}
use Rattle.fx_types.specs.Values.{text}
use Rattle.fx_core.specs.declared.functions.Form.{Form}
use Rattle.fx_core.specs.declared.functions.Fun.{Fun}
use Rattle.fx_core.specs.declared.rows.Answer.{Answer}
use Rattle.fx_core.specs.declared.rows.Answer.TheVariants as answer
use Rattle.fx_core.specs.declared.rows.Row.{Row}
use Rattle.fx_core.specs.declared.rows.Scalar.{Scalar}
use Rattle.fx_core.specs.declared.rows.Takes.{Takes}
use Rattle.fx_core.specs.declared.rows.Takes.TheVariants as takes
use Rattle.fx_core.specs.Rows.{shape_of, row_of, form_row, takes_at, takes_count}
use Rattle.fx_core.specs.SourceTypes.{put_column}
use Rattle.fx_core.specs.Term.{Term, of, nil, all, Top, const, form}
use Rattle.fx_typing.specs.Columns.{tells_error, label_of, with_group, first_shared}
use Rattle.fx_core.specs.ColumnLists.{value_column, row_columns, field_in, columns_without}
use Rattle.fx_core.specs.ColumnLists.{columns_only, without_all, joined_columns}
use Rattle.fx_typing.specs.Local.{Piece, value, label, coerced, exact_way, branch_way, branches}
use Rattle.fx_typing.specs.Local.{join_all, all_scalar, some_text, some_acts, firsts}
use Rattle.fx_typing.specs.WellTyped.{head_of, row_type}
use Rattle.fx_typing.specs.Ways.{Way, same, changed, way, is_scalar, is_comparable}

-- by this way a value comes to this type as this tree
pub data Becomes : Way → Term → Shape → Term → Type 0 where
  as_it_is : {c : Term} {t : Shape} → Becomes same c t c
  by_coercion : {c : Term} {t : Shape} → Becomes changed c t (coerced c t)

-- a type that isn't a table's
abbrev pub IsNoTableType : Shape → Type 0
IsNoTableType (tables cs) = ⊥
IsNoTableType t = Unit {0}

-- what a part is at a place, where the first part and the branches have these types
pub data StandsAs (first common : Shape) : Takes → Piece → Term × Shape → Type 0 where
  scalar : {s : Scalar} {a : Option (List ℕ)} {c d : Term} {t : Shape} →
      Becomes (way t (shape_of s)) c (shape_of s) d
      → StandsAs first common (takes.Scalar s) (value a c t) (d, shape_of s)
  formula : {s : Scalar} {a : Option (List ℕ)} {c d : Term} {t : Shape} →
      Becomes (way t (shape_of s)) c (shape_of s) d
      → StandsAs first common (takes.Formula s) (value a c t) (d, shape_of s)
  exact : {s : Scalar} {a : Option (List ℕ)} {c d : Term} {t : Shape} →
      Becomes (exact_way t (shape_of s)) c (shape_of s) d
      → StandsAs first common (takes.Exact s) (value a c t) (d, shape_of s)
  any : {a : Option (List ℕ)} {c : Term} {t : Shape}
      → StandsAs first common takes.Any (value a c t) (c, t)
  any_formula : {a : Option (List ℕ)} {c : Term} {t : Shape}
      → StandsAs first common takes.AnyFormula (value a c t) (c, t)
  error_record : {a : Option (List ℕ)} {c : Term} {cs : ColumnList} →
      tells_error cs ≡ true → StandsAs first common takes.ErrorRecord (value a c (records cs))
      (c, records cs)
  table : {a : Option (List ℕ)} {c : Term} {cs : ColumnList}
      → StandsAs first common takes.Table (value a c (tables cs)) (c, tables cs)
  blank_table : {a : Option (List ℕ)} {c : Term} →
      StandsAs first common takes.Table (value a c blanks)
      (coerced c (tables no_columns), tables no_columns)
  scalar_formula : {a : Option (List ℕ)} {c : Term} {t : Shape} →
      is_scalar t ≡ true → StandsAs first common takes.ScalarFormula (value a c t) (c, t)
  row_formula : {a : Option (List ℕ)} {c : Term} {t : Shape} → IsNoTableType t
      → StandsAs first common takes.RowFormula (value a c t) (c, t)
  choice : {a : Option (List ℕ)} {c d : Term} {t : Shape} →
      Becomes (branch_way t common) c common d
      → StandsAs first common takes.Choice (value a c t) (d, common)
  branch : {a : Option (List ℕ)} {c d : Term} {t : Shape} →
      Becomes (branch_way t common) c common d
      → StandsAs first common takes.Branch (value a c t) (d, common)
  fallback : {a : Option (List ℕ)} {c d : Term} {t : Shape} →
      Becomes (branch_way t common) c common d
      → StandsAs first common takes.Fallback (value a c t) (d, common)
  compared : {a : Option (List ℕ)} {c : Term} {t : Shape} → is_scalar t ≡ true
      → StandsAs first common takes.Compared (value a c t) (c, t)
  matched : {a : Option (List ℕ)} {c : Term} {t : Shape} →
      is_comparable first t ≡ true → StandsAs first common takes.Match (value a c t) (c, t)
  column : {x : List ℕ} → StandsAs first common takes.Column (label x)
      (of (const (text x)) nil, texts)
  new_column : {x : List ℕ} → StandsAs first common takes.NewColumn (label x)
      (of (const (text x)) nil, texts)

-- parts from a place on, of so many
pub data StandFrom (r : Row) (n : ℕ) (first common : Shape) : ℕ → List Piece → List (Term × Shape)
    → Type 0 where
  none_stand : {i : ℕ} → StandFrom r n first common i [] []
  one_stands : {i : ℕ} {p : Piece} {ps : List Piece} {x : Term × Shape} {xs : List (Term × Shape)} →
      StandsAs first common (takes_at r n i) p x → StandFrom r n first common (suc i) ps xs
      → StandFrom r n first common i (p ∷ ps) (x ∷ xs)

-- all parts: the first one's type, as it stands, is known to the others
pub data AllPartsStand (r : Row) (common : Shape) : List Piece → List (Term × Shape) → Type 0 where
  no_parts : AllPartsStand r common [] []
  first_and_others : {p : Piece} {ps : List Piece} {x : Term × Shape} {xs : List (Term × Shape)} →
      StandsAs blanks common (takes_at r (suc (length ps)) 0) p x
      → StandFrom r (suc (length ps)) x.1 common 1 ps xs →
      AllPartsStand r common (p ∷ ps) (x ∷ xs)

-- the common type of branches: their join; else Text where all are scalars and one is Text; else
-- Blank where one acts
pub data Common (xs : List (Term × Shape)) : Shape → Type 0 where
  their_join : {t : Shape} → join_all (Some blanks) xs ≡ Some t → Common xs t
  as_texts : join_all (Some blanks) xs ≡ None → (all_scalar xs && some_text xs) ≡ true
      → Common xs texts
  as_blanks : join_all (Some blanks) xs ≡ None → (all_scalar xs && some_text xs) ≡ false
      → some_acts xs ≡ true → Common xs blanks

-- new columns in turn: each of a name that no column has then, and of its formula's type
pub data Adds : List (Term × Shape) → ColumnList → ColumnList → Type 0 where
  nothing_added : {cs : ColumnList} → Adds [] cs cs
  no_formula : {x : Term × Shape} {cs : ColumnList} → Adds (x ∷ []) cs cs
  one_added : {x f : Term × Shape} {n : List ℕ} {xs : List (Term × Shape)} {cs ds : ColumnList} →
      label_of x.0 ≡ Some n → field_in n cs ≡ None → Adds xs (put_column n f.1 cs) ds
      → Adds (x ∷ f ∷ xs) cs ds

-- columns under new names in turn: each is there then, and its new name is no column's
pub data Renames : List (Term × Shape) → ColumnList → ColumnList → Type 0 where
  nothing_renamed : {cs : ColumnList} → Renames [] cs cs
  no_new_name : {x : Term × Shape} {cs : ColumnList} → Renames (x ∷ []) cs cs
  one_renamed : {x y : Term × Shape} {n m : List ℕ} {t : Shape} {xs : List (Term × Shape)}
      {cs ds : ColumnList} →
      label_of x.0 ≡ Some n → label_of y.0 ≡ Some m → field_in n cs ≡ Some t → field_in m cs ≡ None
      →
      Renames xs (put_column m t (columns_without n cs)) ds → Renames (x ∷ y ∷ xs) cs ds

-- names that are all those of columns
pub data AreColumns (cs : ColumnList) : List (Term × Shape) → List (List ℕ) → Type 0 where
  none_named : AreColumns cs [] []
  one_named : {x : Term × Shape} {n : List ℕ} {t : Shape} {xs : List (Term × Shape)}
      {ns : List (List ℕ)} →
      label_of x.0 ≡ Some n → field_in n cs ≡ Some t → AreColumns cs xs ns
      → AreColumns cs (x ∷ xs) (n ∷ ns)

-- names of columns without parts, and behind them a new one
pub data Groups (cs : ColumnList) : List (Term × Shape) → List (List ℕ) → List ℕ → Type 0 where
  the_group : {x : Term × Shape} {g : List ℕ} → label_of x.0 ≡ Some g → field_in g cs ≡ None
      → Groups cs (x ∷ []) [] g
  one_key : {x y : Term × Shape} {n g : List ℕ} {t : Shape} {xs : List (Term × Shape)}
      {ns : List (List ℕ)} →
      label_of x.0 ≡ Some n → field_in n cs ≡ Some t → is_scalar t ≡ true → Groups cs (y ∷ xs) ns g
      → Groups cs (x ∷ y ∷ xs) (n ∷ ns) g

-- the type that a call answers, from its parts as they stand and the common type of its branches
pub data AnswerType (common : Shape) : Answer → List (Term × Shape) → Shape → Type 0 where
  this : {s : Scalar} {xs : List (Term × Shape)}
      → AnswerType common (answer.Scalar s) xs (shape_of s)
  the_first : {x : Term × Shape} {xs : List (Term × Shape)}
      → AnswerType common answer.Same (x ∷ xs) x.1
  a_row : {x : Term × Shape} {xs : List (Term × Shape)}
      → AnswerType common answer.Row (x ∷ xs) (row_type x.1)
  a_found_row : {x : Term × Shape} → AnswerType common answer.Found (x ∷ []) (row_type x.1)
  a_row_where : {x y : Term × Shape} → AnswerType common answer.Found (x ∷ y ∷ []) (row_type x.1)
  of_a_found_row : {x y z : Term × Shape} {xs : List (Term × Shape)}
      → AnswerType common answer.Found (x ∷ y ∷ z ∷ xs) z.1
  a_branch : {xs : List (Term × Shape)} → AnswerType common answer.Common xs common
  with_columns : {c : Term} {cs ds : ColumnList} {xs : List (Term × Shape)} →
      Adds xs cs ds → AnswerType common answer.Added ((c, tables cs) ∷ xs) (tables ds)
  without_columns : {c : Term} {cs : ColumnList} {xs : List (Term × Shape)} {ns : List (List ℕ)} →
      AreColumns cs xs ns → AnswerType common answer.Dropped ((c, tables cs) ∷ xs)
      (tables (without_all ns cs))
  columns_alone : {c : Term} {cs : ColumnList} {xs : List (Term × Shape)} {ns : List (List ℕ)} →
      AreColumns cs xs ns → AnswerType common answer.Shown ((c, tables cs) ∷ xs)
      (tables (columns_only ns cs))
  columns_anew : {c : Term} {cs ds : ColumnList} {xs : List (Term × Shape)} →
      Renames xs cs ds → AnswerType common answer.Renamed ((c, tables cs) ∷ xs) (tables ds)
  in_groups : {c : Term} {cs : ColumnList} {xs : List (Term × Shape)} {ns : List (List ℕ)}
      {g : List ℕ} →
      Groups cs xs ns g → AnswerType common answer.Grouped ((c, tables cs) ∷ xs)
      (tables (with_group g ns cs))
  out_of_groups : {c : Term} {x : Term × Shape} {cs ds : ColumnList} {g : List ℕ}
      → label_of x.0 ≡ Some g → field_in g cs ≡ Some (tables ds) →
      first_shared ds (columns_without g cs) ≡ None
      → AnswerType common answer.Ungrouped ((c, tables cs) ∷ x ∷ [])
      (tables (joined_columns ds (columns_without g cs)))
  values_of : {x y : Term × Shape} {xs : List (Term × Shape)}
      → AnswerType common answer.Values (x ∷ y ∷ xs) (tables (value_column y.1))
  rows_of_each : {x y : Term × Shape} {xs : List (Term × Shape)}
      → AnswerType common answer.Each (x ∷ y ∷ xs) (tables (row_columns y.1))

-- THE rule of a row: as many parts as it takes, each as it stands at its place, and what it answers
-- of them
pub data Made (r : Row) (h : Top) (ps : List Piece) : Term × Shape → Type 0 where
  by_row : {common t : Shape} {xs : List (Term × Shape)} →
      takes_count r (length ps) ≡ true → Common (branches r (length ps) 0 ps) common
      → AllPartsStand r common ps xs →
      AnswerType common r.answer xs t → Made r h ps (of h (all (firsts xs)), t)

-- a function or operator, and a form, of these parts
abbrev pub Calls : Fun → List Piece → Term × Shape → Type 0
Calls f ps y = Made (row_of f) (head_of f) ps y

abbrev pub Forms : Form → List Piece → Term × Shape → Type 0
Forms f ps y = Made (form_row f) (form f) ps y
