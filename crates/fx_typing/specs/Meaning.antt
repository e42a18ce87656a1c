-- What the names of a formula mean.
use Rattle.std.specs.Prelude.{ℕ, suc, pos, List, [], ◌∷◌, Bool, true, false, ◌&&◌, nat_eq, Option}
use Rattle.std.specs.Prelude.{Some, None, option_map, Result, Ok, Err, bytes_eq, codes}
use Rattle.std.specs.Prelude.{encode_utf8_all, if◌then◌else◌, slice_get}
use Rattle.fx_types.specs.TypeView.{shape}
use Rattle.fx_types.specs.Types.{Shape, texts, records, tables, no_columns}
use Rattle.fx_types.specs.Values.{Data, blank, number, text, boolean, tab, no_rows}
use Rattle.fx_core.specs.declared.literals.Enumeration.{Enumeration}
use Rattle.fx_core.specs.declared.sources.Source.TheVariants as source
use Rattle.fx_core.specs.Literals.{enumeration_of, has_member}
use Rattle.fx_types.specs.declared.controls.Control.{Control}
use Rattle.fx_types.specs.declared.controls.Control.TheVariants as control
use Rattle.fx_core.specs.declared.names.ControlName.{ControlName}
use Rattle.fx_core.specs.declared.names.Property.{Property}
use Rattle.fx_core.specs.declared.names.FormulaName.{FormulaName}
use Rattle.fx_core.specs.declared.names.Variable.{Variable}
use Rattle.fx_core.specs.declared.names.Collection.{Collection}
use Rattle.fx_core.specs.declared.names.Names.{Names}
use Rattle.fx_core.specs.declared.schema.TableShape.{TableShape}
use Rattle.fx_core.specs.Controls.{is_items, input_type}
use Rattle.fx_core.specs.SourceTypes.{columns_of, item_type, property_of}
use Rattle.fx_core.specs.Term.{Term, of, nil, cons, const, read, row, item, caught, dot}
use Rattle.fx_core.specs.Rules as rules
use Rattle.fx_typing.specs.Columns.{field_shape, fault_type}
use Rattle.fx_core.specs.ColumnLists.{field_in}

-- a scope of rows or of a record: its type, its alias if it has one, and whether it is a table
-- call's, whose depth is limited
pub record Scope : Type 0 where
  pub row_type : Shape
  pub alias : Option (List ℕ)
  pub counted : Bool

-- where a formula stands: its app's names, its screen, the gallery whose item it sees, and whether
-- the types of variables and collections are settled: until then no value is of a wrong type for
-- one
pub record Place : Type 0 where
  pub names : Names
  pub screen : Option ℕ
  pub gallery : Option ℕ
  pub settled : Bool

-- what a name means: a tree with its type, a control with its number, a screen, or an enumeration
pub data NameMeaning : Type 0 where
  valued : Term → Shape → NameMeaning
  controlled : ℕ → ControlName → NameMeaning
  screened : NameMeaning
  enumerated : Enumeration → NameMeaning

abbrev pub or_else : {A : Type 0} → Option A → Option A → Option A
or_else (Some a) b = Some a
or_else None b = b

-- in a scope: with an alias the alias alone, which is the whole row; else a field
abbrev pub field_at : ℕ → List ℕ → Option Shape → Option NameMeaning
field_at k x (Some t) = Some (valued (of (dot x) (cons (of (row k) nil) nil)) t)
field_at k x None = None

abbrev pub in_scope_by : Option (List ℕ) → ℕ → List ℕ → Shape → Option NameMeaning
in_scope_by (Some a) k x t = if bytes_eq a x then Some (valued (of (row k) nil) t) else None
in_scope_by None k x t = field_at k x (field_shape x t)

-- the scopes from the inside out
abbrev pub in_scopes : ℕ → List ℕ → List Scope → Option NameMeaning
in_scopes k x [] = None
in_scopes k x (s ∷ ss) = or_else (in_scopes (suc k) x ss) (in_scope_by s.alias k x s.row_type)

-- ThisRecord: the innermost scope without an alias
abbrev pub whole_by : Option (List ℕ) → ℕ → Shape → Option NameMeaning
whole_by (Some a) k t = None
whole_by None k t = Some (valued (of (row k) nil) t)

abbrev pub this_record : ℕ → List Scope → Option NameMeaning
this_record k [] = None
this_record k (s ∷ ss) = or_else (this_record (suc k) ss) (whole_by s.alias k s.row_type)

-- ThisItem: the item of the gallery that the formula sees
abbrev pub this_item : Names → Option ℕ → Option NameMeaning
this_item n (Some g) = option_map (λ (c : ControlName). valued (of item nil) (item_type c))
    (slice_get n.controls g)
this_item n None = None

-- FirstError: where an error is caught around
abbrev pub first_error : Bool → Option NameMeaning
first_error true = Some (valued (of caught nil) fault_type)
first_error false = None

-- the names that no app declares: each has this meaning or none
abbrev pub reserved : Place → List Scope → Bool → List ℕ → Option (Option NameMeaning)
reserved p scopes catches x =
    if bytes_eq x (codes "ThisRecord") then Some (this_record 0 scopes)
    else (if bytes_eq x (codes "ThisItem") then Some (this_item p.names p.gallery)
    else (if bytes_eq x (codes "FirstError") then Some (first_error catches)
    else option_map (λ e. Some (enumerated e)) (enumeration_of (encode_utf8_all x))))

-- the first thing that a test keeps, with its place
abbrev pub first_match : {A : Type 0} → (A → Bool) → ℕ → List A → Option (ℕ × A)
first_match keeps i [] = None
first_match keeps i (a ∷ more) = if keeps a then Some (i, a) else first_match keeps (suc i) more

abbrev pub is_on : Option ℕ → Option ℕ → Bool
is_on (Some s) (Some r) = nat_eq s r
is_on a b = false

abbrev pub is_global : Option ℕ → Bool
is_global None = true
is_global (Some s) = false

-- the context variables of the formula's screen
abbrev pub in_context : Place → List ℕ → Option NameMeaning
in_context p x =
    option_map (λ (v : ℕ × Variable). valued (of (read (source.Context v.0)) nil) (shape v.1.ty))
    (first_match (λ (v : Variable). is_on p.screen v.screen && bytes_eq v.name x) 0
    p.names.variables)

-- the global names, which are distinct
abbrev pub in_globals : Names → List ℕ → Option NameMeaning
in_globals n x =
    or_else (option_map (λ (v : ℕ × Variable). valued (of (read (source.Global v.0)) nil)
    (shape v.1.ty))
    (first_match (λ (v : Variable). is_global v.screen && bytes_eq v.name x) 0 n.variables))
    (or_else (option_map (λ (c : ℕ × Collection). valued (of (read (source.Gathered c.0)) nil)
    (shape c.1.ty))
    (first_match (λ (c : Collection). bytes_eq c.name x) 0 n.collections))
    (or_else (option_map (λ (f : ℕ × FormulaName). valued (of (read (source.Cell f.1.cell)) nil)
    (shape f.1.ty))
    (first_match (λ (f : FormulaName). bytes_eq f.name x) 0 n.formulas))
    (or_else (option_map (λ (t : ℕ × TableShape). valued (of (read (source.Table t.0)) nil)
    (tables (columns_of t.1)))
    (first_match (λ (t : TableShape). bytes_eq t.name x) 0 n.schema.tables))
    (or_else (option_map (λ (c : ℕ × ControlName). controlled c.0 c.1)
    (first_match (λ (c : ControlName). bytes_eq c.name x) 0 n.controls))
    (option_map (λ (s : ℕ × List ℕ). screened)
    (first_match (λ (s : List ℕ). bytes_eq s x) 0 n.screens))))))

abbrev pub behind_scopes : Place → List ℕ → Option (Option NameMeaning) → Option NameMeaning
behind_scopes p x (Some m) = m
behind_scopes p x None = or_else (in_context p x) (in_globals p.names x)

-- what a name means: in the scopes, as a reserved name, among the screen's context variables, among
-- the global names
abbrev pub meaning_of : Place → List Scope → Bool → List ℕ → Option NameMeaning
meaning_of p scopes catches x = or_else (in_scopes 0 x scopes)
    (behind_scopes p x (reserved p scopes catches x))

-- a name as a formula of its own: rule 4 where it means nothing or an enumeration, and rule 6 where
-- it is a control or a screen
abbrev pub named : Option NameMeaning → Result (Term × Shape) ℕ
named (Some (valued c t)) = Ok (c, t)
named (Some (controlled k c)) = Err rules.wrong_type
named (Some screened) = Err rules.wrong_type
named m = Err rules.unknown_name

-- what a property is where it isn't written
abbrev pub own_default : Control → List ℕ → Data
own_default control.Label n = text []
own_default control.Button n = text []
own_default control.TextInput n = blank
own_default control.Slider n = if bytes_eq n (codes "Max") then number (pos 1000000) else number
    (pos 0)
own_default control.Checkbox n = if bytes_eq n (codes "Text") then text [] else boolean false
own_default control.DatePicker n = blank
own_default control.Gallery n = tab no_rows

abbrev pub default_of : Control → List ℕ → Data
default_of c n = if bytes_eq n (codes "Visible") then boolean true else own_default c n

-- the properties that tell what the user gave
abbrev pub is_input : Control → List ℕ → Bool
is_input control.TextInput n = bytes_eq n (codes "Text")
is_input control.Slider n = bytes_eq n (codes "Value")
is_input control.Checkbox n = bytes_eq n (codes "Value")
is_input control.DatePicker n = bytes_eq n (codes "SelectedDate")
is_input c n = false

abbrev pub is_chosen : Control → List ℕ → Bool
is_chosen control.Gallery n = bytes_eq n (codes "Selected")
is_chosen c n = false

-- the type of a property that isn't written: rows that aren't are a table without columns
abbrev pub default_type : Control → List ℕ → Shape → Shape
default_type c n t = if is_items c n then tables no_columns else t

-- a written property is its cell, and another one its default
abbrev pub written_or : Control → List ℕ → Shape → Option (ℕ × Property) → Term × Shape
written_or c x t (Some p) = (of (read (source.Cell p.1.cell)) nil, t)
written_or c x t None = (
  of (const (default_of c (encode_utf8_all x))) nil,
  default_type c
      (encode_utf8_all x) t,
)

abbrev pub property_read : Names → ℕ → ControlName → List ℕ → Option Shape → Result (Term × Shape) ℕ
property_read n k c x (Some t) =
    Ok (written_or c.kind x t (first_match (λ (p : Property). nat_eq p.control k
    && bytes_eq p.name x) 0 n.properties))
property_read n k c x None = Err rules.unknown_column

abbrev pub input_read : ℕ → Option Shape → Result (Term × Shape) ℕ
input_read k (Some t) = Ok (of (read (source.Input k)) nil, t)
input_read k None = Err rules.unknown_column

-- a property of a control of a gallery's template isn't named: its value differs from item to item
abbrev pub control_read : Names → ℕ → ControlName → Option ℕ → List ℕ → Result (Term × Shape) ℕ
control_read n k c (Some g) x = Err rules.wrong_type
control_read n k c None x =
    if is_chosen c.kind (encode_utf8_all x) then Ok (of (read (source.Chosen k)) nil, item_type c)
    else (if is_input c.kind (encode_utf8_all x) then input_read k (input_type c.kind)
    else property_read n k c x (property_of x c))

-- a member of an enumeration is the text of its name
abbrev pub member_of : Bool → List ℕ → Result (Term × Shape) ℕ
member_of true x = Ok (of (const (text x)) nil, texts)
member_of false x = Err rules.unknown_column

-- a field of a record; other types have none
abbrev pub known_field : Term → List ℕ → Option Shape → Result (Term × Shape) ℕ
known_field c x (Some t) = Ok (of (dot x) (cons c nil), t)
known_field c x None = Err rules.unknown_column

abbrev pub field_read : Term → List ℕ → Shape → Result (Term × Shape) ℕ
field_read c x (records cs) = known_field c x (field_in x cs)
field_read c x t = Err rules.wrong_type

-- what stands behind a dot, by what stands before it
abbrev pub dotted : Names → List ℕ → Option NameMeaning → Result (Term × Shape) ℕ
dotted n x (Some (valued c t)) = field_read c x t
dotted n x (Some (controlled k c)) = control_read n k c c.gallery x
dotted n x (Some (enumerated e)) = member_of (has_member e (encode_utf8_all x)) x
dotted n x (Some screened) = Err rules.wrong_type
dotted n x None = Err rules.unknown_name
