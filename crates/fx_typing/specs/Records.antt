-- Values, records, lists, and what stands behind a dot.
use Rattle.std.specs.Prelude.{◌≡◌, ℕ, List, [], ◌∷◌, true, false, ◌&&◌, nat_eq, bytes_eq}
use Rattle.std.specs.Prelude.{encode_utf8_all, Option, Some, None}
use Rattle.fx_types.specs.Types.{Shape, blanks, texts, records, ColumnList, no_columns}
use Rattle.fx_types.specs.Values.{text}
use Rattle.fx_core.specs.declared.literals.Enumeration.{Enumeration}
use Rattle.fx_core.specs.declared.sources.Source.TheVariants as source
use Rattle.fx_core.specs.Literals.{has_member}
use Rattle.fx_core.specs.declared.names.ControlName.{ControlName}
use Rattle.fx_core.specs.declared.names.Names.{Names}
use Rattle.fx_core.specs.declared.names.Property.{Property}
use Rattle.fx_core.specs.Controls.{input_type}
use Rattle.fx_core.specs.SourceTypes.{item_type, property_of}
use Rattle.fx_core.specs.Term.{Term, of, nil, cons, const, read, dot}
use Rattle.fx_core.specs.ColumnLists.{field_in}
use Rattle.fx_typing.specs.Local.{value, coerced, join_all}
use Rattle.fx_typing.specs.Meaning.{NameMeaning, valued, controlled, enumerated, first_match}
use Rattle.fx_typing.specs.Meaning.{is_chosen, is_input, default_of, default_type}
use Rattle.fx_typing.specs.Ways.{way}
use Rattle.fx_typing.specs.Builds.{list_by}
use Rattle.fx_typing.specs.Parts.{JudgedPart, piece, meant, plainly}
use Rattle.fx_typing.specs.Functions.{Becomes, IsNoTableType}

-- parts that are all values
pub data AreValueParts : List JudgedPart → List (Term × Shape) → Type 0 where
  no_values : AreValueParts [] []
  one_value : {a : Option (List ℕ)} {c : Term} {t : Shape} {qs : List JudgedPart}
      {xs : List (Term × Shape)} →
      AreValueParts qs xs → AreValueParts (piece (value a c t) ∷ qs) ((c, t) ∷ xs)

-- a name left of a dot: its value, or what it names that is no value
abbrev pub left_part : NameMeaning → JudgedPart
left_part (valued c t) = plainly (c, t)
left_part m = meant m

-- what stands left of a dot
abbrev pub left_meaning : JudgedPart → Option NameMeaning
left_meaning (piece (value a c t)) = Some (valued c t)
left_meaning (meant m) = Some m
left_meaning q = None

-- the written property of a control with this number
abbrev pub written_property : Names → ℕ → List ℕ → Option (ℕ × Property)
written_property n k x = first_match (λ (p : Property). nat_eq p.control k && bytes_eq p.name x) 0
    n.properties

-- what a name behind a dot is: a field of a record; the chosen item of a gallery, what the user
-- gave a control, a written property, or one's default, of a control that stands in no gallery; a
-- member
pub data Behind (n : Names) (x : List ℕ) : NameMeaning → Term × Shape → Type 0 where
  field : {c : Term} {t : Shape} {cs : ColumnList} → field_in x cs ≡ Some t
      → Behind n x (valued c (records cs)) (of (dot x) (cons c nil), t)
  chosen : {k : ℕ} {c : ControlName} → c.gallery ≡ None
      → is_chosen c.kind (encode_utf8_all x) ≡ true →
      Behind n x (controlled k c) (of (read (source.Chosen k)) nil, item_type c)
  input : {k : ℕ} {c : ControlName} {t : Shape} → c.gallery ≡ None
      → is_chosen c.kind (encode_utf8_all x) ≡ false →
      is_input c.kind (encode_utf8_all x) ≡ true → input_type c.kind ≡ Some t
      → Behind n x (controlled k c) (of (read (source.Input k)) nil, t)
  property : {k i : ℕ} {c : ControlName} {t : Shape} {r : Property} → c.gallery ≡ None
      → is_chosen c.kind (encode_utf8_all x) ≡ false →
      is_input c.kind (encode_utf8_all x) ≡ false → property_of x c ≡ Some t
      → written_property n k x ≡ Some (i, r) →
      Behind n x (controlled k c) (of (read (source.Cell r.cell)) nil, t)
  unwritten : {k : ℕ} {c : ControlName} {t : Shape} → c.gallery ≡ None
      → is_chosen c.kind (encode_utf8_all x) ≡ false →
      is_input c.kind (encode_utf8_all x) ≡ false → property_of x c ≡ Some t
      → written_property n k x ≡ None →
      Behind n x (controlled k c) (
        of (const (default_of c.kind (encode_utf8_all x))) nil,
        default_type c.kind (encode_utf8_all x) t,
      )
  member : {e : Enumeration} → has_member e (encode_utf8_all x) ≡ true
      → Behind n x (enumerated e) (of (const (text x)) nil, texts)

-- rows that all come to one type
pub data RowsBecome (t : Shape) : List (Term × Shape) → List (Term × Shape) → Type 0 where
  no_rows : RowsBecome t [] []
  one_row : {c d : Term} {u : Shape} {xs ys : List (Term × Shape)} →
      Becomes (way u t) c t d → RowsBecome t xs ys → RowsBecome t ((c, u) ∷ xs) ((d, t) ∷ ys)

-- rows of the join of their types, which is no table, as a table
pub data Rows (joined : Option Shape) (xs : List (Term × Shape)) : Term × Shape → Type 0 where
  of_rows : {t : Shape} {ys : List (Term × Shape)} → joined ≡ Some t → IsNoTableType t
      → RowsBecome t xs ys → Rows joined xs (list_by t ys)

-- the join of the types of `[..]`, where values of type Blank alone are of a scalar; without rows
-- there are no columns
abbrev pub list_join : List (Term × Shape) → Option Shape
list_join [] = Some (records no_columns)
list_join (x ∷ xs) = join_all (Some blanks) (x ∷ xs)

-- a record, where one of type Blank is one without fields
pub data IsRecord : Term × Shape → Term → Type 0 where
  a_record : {c : Term} {cs : ColumnList} → IsRecord (c, records cs) c
  a_blank_record : {c : Term} → IsRecord (c, blanks) (coerced c (records no_columns))
