-- Names, dots and functions make nothing that acts of parts in which nothing acts.
use Rattle.std.proofs.Common.{◌≡◌, ℕ, zero, suc, List, [], ◌∷◌, Bool, true, false, not, ◌&&◌, nat_lt, nat_eq, length, take, codes, bytes_eq, encode_utf8_all, option_map, slice_get, Option, Some, None, Result, Ok, Err, refl, if◌then◌else◌}
use Rattle.std.proofs.lemmas.Bool.{or_from}
use Rattle.fx_types.specs.Types.{Shape, blanks, records, tables, no_columns}
use Rattle.fx_core.specs.declared.functions.Form.{Form}
use Rattle.fx_core.specs.declared.functions.Fun.{Fun}
use Rattle.fx_core.specs.declared.rows.Row.{Row}
use Rattle.fx_core.specs.declared.rows.Takes.{Takes}
use Rattle.fx_core.specs.declared.rows.Takes.TheVariants as takes
use Rattle.fx_core.specs.Literals.{enumeration_of, has_member}
use Rattle.fx_core.specs.Rows.{shape_of, row_of, form_row, takes_at, takes_count}
use Rattle.fx_core.specs.Controls.{input_type}
use Rattle.fx_core.specs.declared.names.ControlName.{ControlName}
use Rattle.fx_core.specs.declared.names.Property.{Property}
use Rattle.fx_core.specs.declared.names.FormulaName.{FormulaName}
use Rattle.fx_core.specs.declared.names.Variable.{Variable}
use Rattle.fx_core.specs.declared.names.Collection.{Collection}
use Rattle.fx_core.specs.declared.names.Names.{Names}
use Rattle.fx_core.specs.declared.schema.TableShape.{TableShape}
use Rattle.fx_core.specs.SourceTypes.{property_of}
use Rattle.fx_core.specs.Term.{Term, of, nil, cons, all, Top, read, row, item}
use Rattle.fx_core.specs.Term as term
use Rattle.fx_typing.specs.Acts.{is_acting, acts, any_acts}
use Rattle.fx_typing.specs.Columns.{field_shape, tells_error}
use Rattle.fx_core.specs.ColumnLists.{and_then, field_in}
use Rattle.fx_typing.specs.Local.{Piece, value, label, by_way, exact_way, branch_way, part_or_rule, without_kind, stand, put_first, stand_rest, stand_all, branches, common_of, firsts, answer_by, made_as, made_by, node_made, formed}
use Rattle.fx_typing.specs.Meaning.{Place, Scope, NameMeaning, valued, controlled, screened, enumerated, or_else, field_at, in_scope_by, in_scopes, whole_by, this_record, this_item, first_error, reserved, first_match, is_on, is_global, in_context, in_globals, behind_scopes, meaning_of, named, is_input, is_chosen, written_or, property_read, input_read, control_read, member_of, known_field, field_read, dotted}
use Rattle.fx_typing.specs.Ways.{Way, same, changed, refused, way, is_scalar, is_comparable}
use Rattle.fx_typing.specs.WellTyped.{answered_type, head_by, head_of}
use Rattle.fx_typing.specs.Calls.{made_if}
use Rattle.fx_typing.specs.Parts.{Grant, nothing, acting, an_alias, a_column, a_target, aliased_target, a_meaning, on_screen, JudgedPart, piece, meant, target, assigned, as_part, pieces, put_value, values, unless_rule}
use Rattle.fx_typing.specs.Typing.{left_of_dot, name_by, global_by, dot_by, alias_by}

-- trees in which nothing acts
abbrev pub AllQuiet : List (Term × Shape) → Type 0
AllQuiet [] = Unit {0}
AllQuiet (x ∷ xs) = (acts x.0 ≡ false) × AllQuiet xs

abbrev pub PieceQuiet : Piece → Type 0
PieceQuiet (value a c t) = acts c ≡ false
PieceQuiet (label x) = Unit {0}

abbrev pub MeaningQuiet : NameMeaning → Type 0
MeaningQuiet (valued c t) = acts c ≡ false
MeaningQuiet m = Unit {0}

abbrev pub PartQuiet : JudgedPart → Type 0
PartQuiet (piece k) = PieceQuiet k
PartQuiet (meant m) = MeaningQuiet m
PartQuiet (assigned ns xs) = AllQuiet xs
PartQuiet (target a x) = Unit {0}

abbrev pub EachQuiet : List JudgedPart → Type 0
EachQuiet [] = Unit {0}
EachQuiet (q ∷ qs) = PartQuiet q × EachQuiet qs

abbrev pub PiecesQuiet : List Piece → Type 0
PiecesQuiet [] = Unit {0}
PiecesQuiet (k ∷ ks) = PieceQuiet k × PiecesQuiet ks

-- what is made, if something is
abbrev pub Made : {A : Type 0} → (A → Type 0) → Result A ℕ → Type 0
Made P (Ok a) = P a
Made P (Err e) = Unit {0}

abbrev pub TreeQuiet : Term × Shape → Type 0
TreeQuiet x = acts x.0 ≡ false

abbrev pub IfMeant : Option NameMeaning → Type 0
IfMeant (Some m) = MeaningQuiet m
IfMeant None = Unit {0}

pub then_quiet : {A B : Type 0} (P : A → Type 0) (Q : B → Type 0) (r : Result A ℕ) (go : A → Result B ℕ) → Made P r → ((a : A) → P a → Made Q (go a)) → Made Q (and_then r go)
then_quiet P Q (Ok a) go h k = k a h
then_quiet P Q (Err e) go h k = tt

pub unless_quiet : {A : Type 0} (P : A → Type 0) (b : Bool) (k : ℕ) (r : Result A ℕ) → Made P r → Made P (unless_rule b k r)
unless_quiet P true k (Ok x) h = tt
unless_quiet P false k (Ok x) h = h
unless_quiet P b k (Err e) h = by_test (b && nat_lt k e)
  where
    by_test : (t : Bool) → Made P (if t then Err k else Err e)
    by_test true = tt
    by_test false = tt

-- where a place lets nothing act, what would act is refused
pub unless_refuses : {A : Type 0} (P : A → Type 0) (g : Bool) (k : ℕ) (r : Result A ℕ) → g ≡ false → Made P (unless_rule (not g) k r)
unless_refuses P true k r e = absurd cc
unless_refuses P false k (Ok x) e = tt
unless_refuses P false k (Err n) e = by_test (nat_lt k n)
  where
    by_test : (t : Bool) → Made P (if t then Err k else Err n)
    by_test true = tt
    by_test false = tt

pub if_quiet : {A : Type 0} (P : A → Type 0) (b : Bool) (r q : Result A ℕ) → Made P r → Made P q → Made P (if b then r else q)
if_quiet P true r q h k = h
if_quiet P false r q h k = k

pub as_part_quiet : (r : Result (Term × Shape) ℕ) → Made TreeQuiet r → Made PartQuiet (as_part r)
as_part_quiet (Ok x) h = h
as_part_quiet (Err e) h = tt

any_quiet : (xs : List (Term × Shape)) → AllQuiet xs → any_acts (all (firsts xs)) ≡ false
any_quiet [] h = refl
any_quiet (x ∷ xs) h = or_from (acts x.0) (any_acts (all (firsts xs))) h.0 (any_quiet xs h.1)

pub tree_quiet : (h : Top) (xs : List (Term × Shape)) → is_acting h ≡ false → AllQuiet xs → acts (of h (all (firsts xs))) ≡ false
tree_quiet h xs e k = or_from (is_acting h) (any_acts (all (firsts xs))) e (any_quiet xs k)

pub one_quiet : (h : Top) (c : Term) → is_acting h ≡ false → acts c ≡ false → acts (of h (cons c nil)) ≡ false
one_quiet h c e k = tree_quiet h ((c, blanks) ∷ []) e (k, tt)

-- the one rule
pub by_way_quiet : (w : Way) (c : Term) (t : Shape) → acts c ≡ false → Made TreeQuiet (by_way w c t)
by_way_quiet same c t h = h
by_way_quiet changed c t h = one_quiet (term.coerce t) c refl h
by_way_quiet refused c t h = tt

when_quiet : (b : Bool) (e : ℕ) (c : Term) (t : Shape) → acts c ≡ false → Made TreeQuiet (part_or_rule b e c t)
when_quiet true e c t h = h
when_quiet false e c t h = tt

stand_quiet : (k : Takes) (first common : Shape) (p : Piece) → PieceQuiet p → Made TreeQuiet (stand k first common p)
stand_quiet (takes.Scalar s) first common (value a c t) h = by_way_quiet (way t (shape_of s)) c (shape_of s) h
stand_quiet (takes.Formula s) first common (value a c t) h = by_way_quiet (way t (shape_of s)) c (shape_of s) h
stand_quiet (takes.Exact s) first common (value a c t) h = by_way_quiet (exact_way t (shape_of s)) c (shape_of s) h
stand_quiet takes.Any first common (value a c t) h = h
stand_quiet takes.AnyFormula first common (value a c t) h = h
stand_quiet takes.ErrorRecord first common (value a c (records cs)) h = when_quiet (tells_error cs) (without_kind (field_in (codes "Kind") cs)) c (records cs) h
stand_quiet takes.Table first common (value a c (tables cs)) h = h
stand_quiet takes.Table first common (value a c blanks) h = one_quiet (term.coerce (tables no_columns)) c refl h
stand_quiet takes.ScalarFormula first common (value a c t) h = when_quiet (is_scalar t) 6 c t h
stand_quiet takes.RowFormula first common (value a c (tables cs)) h = tt
stand_quiet takes.RowFormula first common (value a c t) h = h
stand_quiet takes.Choice first common (value a c t) h = by_way_quiet (branch_way t common) c common h
stand_quiet takes.Branch first common (value a c t) h = by_way_quiet (branch_way t common) c common h
stand_quiet takes.Fallback first common (value a c t) h = by_way_quiet (branch_way t common) c common h
stand_quiet takes.Compared first common (value a c t) h = when_quiet (is_scalar t) 6 c t h
stand_quiet takes.Match first common (value a c t) h = when_quiet (is_comparable first t) 6 c t h
stand_quiet takes.Column first common (label x) h = refl
stand_quiet takes.NewColumn first common (label x) h = refl
stand_quiet k first common p h = tt

pub put_quiet : (x : Term × Shape) (r : Result (List (Term × Shape)) ℕ) → TreeQuiet x → Made AllQuiet r → Made AllQuiet (put_first x r)
put_quiet x (Ok xs) h k = (h, k)
put_quiet x (Err e) h k = tt

rest_quiet : (r : Row) (n i : ℕ) (first common : Shape) (ps : List Piece) → PiecesQuiet ps → Made AllQuiet (stand_rest r n i first common ps)
rest_quiet r n i first common [] h = tt
rest_quiet r n i first common (p ∷ ps) h =
    then_quiet TreeQuiet AllQuiet (stand (takes_at r n i) first common p) _ (stand_quiet (takes_at r n i) first common p h.0)
    (λ x k. put_quiet x (stand_rest r n (suc i) first common ps) k (rest_quiet r n (suc i) first common ps h.1))

all_quiet : (r : Row) (common : Shape) (ps : List Piece) → PiecesQuiet ps → Made AllQuiet (stand_all r common ps)
all_quiet r common [] h = tt
all_quiet r common (p ∷ ps) h =
    then_quiet TreeQuiet AllQuiet (stand (takes_at r (suc (length ps)) 0) blanks common p) _ (stand_quiet (takes_at r (suc (length ps)) 0) blanks common p h.0)
    (λ x k. put_quiet x (stand_rest r (suc (length ps)) 1 x.1 common ps) k (rest_quiet r (suc (length ps)) 1 x.1 common ps h.1))

answer_quiet : (r : Row) (h : Top) (common : Shape) (xs : List (Term × Shape)) → is_acting h ≡ false → AllQuiet xs → Made TreeQuiet (answer_by r h common xs)
answer_quiet r h common xs e k = then_quiet (λ t. Unit {0}) TreeQuiet (answered_type r.answer common xs) _ (any_answer (answered_type r.answer common xs)) (λ t u. tree_quiet h xs e k)
  where
    any_answer : (o : Result Shape ℕ) → Made (λ t. Unit {0}) o
    any_answer (Ok t) = tt
    any_answer (Err n) = tt

made_as_quiet : (r : Row) (h : Top) (ps : List Piece) (o : Option Shape) → is_acting h ≡ false → PiecesQuiet ps → Made TreeQuiet (made_as r h ps o)
made_as_quiet r h ps (Some common) e k = then_quiet AllQuiet TreeQuiet (stand_all r common ps) _ (all_quiet r common ps k) (λ xs m. answer_quiet r h common xs e m)
made_as_quiet r h ps None e k = tt

made_by_quiet : (r : Row) (h : Top) (ps : List Piece) → is_acting h ≡ false → PiecesQuiet ps → Made TreeQuiet (made_by r h ps)
made_by_quiet r h ps e k =
    if_quiet TreeQuiet (takes_count r (length ps)) _ _ (made_as_quiet r h ps (common_of (branches r (length ps) 0 ps)) e k) tt

head_quiet : (k : Takes) (f : Fun) → is_acting (head_by k f) ≡ false
head_quiet takes.Table f = refl
head_quiet k f = refl

pub made_quiet : (f : Fun) (ps : List Piece) → PiecesQuiet ps → Made TreeQuiet (node_made f ps)
made_quiet f ps h = made_by_quiet (row_of f) (head_of f) ps (head_quiet (row_of f).first f) h

pub formed_quiet : (f : Form) (ps : List Piece) → PiecesQuiet ps → Made TreeQuiet (formed f ps)
formed_quiet f ps h = made_by_quiet (form_row f) (term.form f) ps refl h

pub made_if_quiet : (o : Option Fun) (ps : List Piece) → PiecesQuiet ps → Made TreeQuiet (made_if o ps)
made_if_quiet (Some f) ps h = made_quiet f ps h
made_if_quiet None ps h = tt

-- parts
pub pieces_quiet : (qs : List JudgedPart) → EachQuiet qs → PiecesQuiet (pieces qs)
pieces_quiet [] h = tt
pieces_quiet (piece k ∷ qs) h = (h.0, pieces_quiet qs h.1)
pieces_quiet (meant m ∷ qs) h = (tt, pieces_quiet qs h.1)
pieces_quiet (target a x ∷ qs) h = (tt, pieces_quiet qs h.1)
pieces_quiet (assigned ns xs ∷ qs) h = (tt, pieces_quiet qs h.1)

put_value_quiet : (x : Term × Shape) (r : Result (List (Term × Shape)) ℕ) → TreeQuiet x → Made AllQuiet r → Made AllQuiet (put_value x r)
put_value_quiet x (Ok xs) h k = (h, k)
put_value_quiet x (Err e) h k = tt

pub values_quiet : (qs : List JudgedPart) → EachQuiet qs → Made AllQuiet (values qs)
values_quiet [] h = tt
values_quiet (piece (value a c t) ∷ qs) h = put_value_quiet (c, t) (values qs) h.0 (values_quiet qs h.1)
values_quiet (piece (label x) ∷ qs) h = tt
values_quiet (meant m ∷ qs) h = tt
values_quiet (target a x ∷ qs) h = tt
values_quiet (assigned ns xs ∷ qs) h = tt

pub take_quiet : (n : ℕ) (ps : List Piece) → PiecesQuiet ps → PiecesQuiet (take n ps)
take_quiet zero ps h = tt
take_quiet (suc n) [] h = tt
take_quiet (suc n) (p ∷ ps) h = (h.0, take_quiet n ps h.1)

-- names
else_quiet : (a b : Option NameMeaning) → IfMeant a → IfMeant b → IfMeant (or_else a b)
else_quiet (Some m) b h k = h
else_quiet None b h k = k

map_quiet : {A : Type 0} (f : A → NameMeaning) (o : Option A) → ((a : A) → MeaningQuiet (f a)) → IfMeant (option_map f o)
map_quiet f (Some a) h = h a
map_quiet f None h = tt

field_at_quiet : (k : ℕ) (x : List ℕ) (o : Option Shape) → IfMeant (field_at k x o)
field_at_quiet k x (Some t) = refl
field_at_quiet k x None = tt

in_scope_quiet : (a : Option (List ℕ)) (k : ℕ) (x : List ℕ) (t : Shape) → IfMeant (in_scope_by a k x t)
in_scope_quiet (Some a) k x t = by_test (bytes_eq a x)
  where
    by_test : (b : Bool) → IfMeant (if b then Some (valued (of (row k) nil) t) else None)
    by_test true = refl
    by_test false = tt
in_scope_quiet None k x t = field_at_quiet k x (field_shape x t)

in_scopes_quiet : (k : ℕ) (x : List ℕ) (ss : List Scope) → IfMeant (in_scopes k x ss)
in_scopes_quiet k x [] = tt
in_scopes_quiet k x (s ∷ ss) = else_quiet (in_scopes (suc k) x ss) _ (in_scopes_quiet (suc k) x ss) (in_scope_quiet s.alias k x s.row_type)

whole_quiet : (a : Option (List ℕ)) (k : ℕ) (t : Shape) → IfMeant (whole_by a k t)
whole_quiet (Some a) k t = tt
whole_quiet None k t = refl

this_record_quiet : (k : ℕ) (ss : List Scope) → IfMeant (this_record k ss)
this_record_quiet k [] = tt
this_record_quiet k (s ∷ ss) = else_quiet (this_record (suc k) ss) _ (this_record_quiet (suc k) ss) (whole_quiet s.alias k s.row_type)

this_item_quiet : (n : Names) (g : Option ℕ) → IfMeant (this_item n g)
this_item_quiet n (Some g) = map_quiet _ (slice_get n.controls g) (λ c. refl)
this_item_quiet n None = tt

first_error_quiet : (b : Bool) → IfMeant (first_error b)
first_error_quiet true = refl
first_error_quiet false = tt

in_context_quiet : (p : Place) (x : List ℕ) → IfMeant (in_context p x)
in_context_quiet p x = map_quiet _ (first_match (λ (v : Variable). is_on p.screen v.screen && bytes_eq v.name x) 0 p.names.variables) (λ v. refl)

pub in_globals_quiet : (n : Names) (x : List ℕ) → IfMeant (in_globals n x)
in_globals_quiet n x =
    else_quiet _ _ (map_quiet _ (first_match (λ (v : Variable). is_global v.screen && bytes_eq v.name x) 0 n.variables) (λ v. refl))
    (else_quiet _ _ (map_quiet _ (first_match (λ (c : Collection). bytes_eq c.name x) 0 n.collections) (λ v. refl))
    (else_quiet _ _ (map_quiet _ (first_match (λ (f : FormulaName). bytes_eq f.name x) 0 n.formulas) (λ v. refl))
    (else_quiet _ _ (map_quiet _ (first_match (λ (t : TableShape). bytes_eq t.name x) 0 n.schema.tables) (λ v. refl))
    (else_quiet _ _ (map_quiet _ (first_match (λ (c : ControlName). bytes_eq c.name x) 0 n.controls) (λ v. tt))
    (map_quiet _ (first_match (λ (s : List ℕ). bytes_eq s x) 0 n.screens) (λ v. tt))))))

abbrev IfReserved : Option (Option NameMeaning) → Type 0
IfReserved (Some o) = IfMeant o
IfReserved None = Unit {0}

if_reserved : (b : Bool) (o : Option NameMeaning) (r : Option (Option NameMeaning)) → IfMeant o → IfReserved r → IfReserved (if b then Some o else r)
if_reserved true o r h k = h
if_reserved false o r h k = k

reserved_quiet : (p : Place) (ss : List Scope) (b : Bool) (x : List ℕ) → IfReserved (reserved p ss b x)
reserved_quiet p ss b x =
    if_reserved (bytes_eq x (codes "ThisRecord")) (this_record 0 ss) _ (this_record_quiet 0 ss)
    (if_reserved (bytes_eq x (codes "ThisItem")) (this_item p.names p.gallery) _ (this_item_quiet p.names p.gallery)
    (if_reserved (bytes_eq x (codes "FirstError")) (first_error b) _ (first_error_quiet b) (by_name (enumeration_of (encode_utf8_all x)))))
  where
    by_name : (o : Option _) → IfReserved (option_map (λ e. Some (enumerated e)) o)
    by_name (Some e) = tt
    by_name None = tt

pub meaning_quiet : (p : Place) (ss : List Scope) (b : Bool) (x : List ℕ) → IfMeant (meaning_of p ss b x)
meaning_quiet p ss b x = else_quiet (in_scopes 0 x ss) _ (in_scopes_quiet 0 x ss) (behind (reserved p ss b x) (reserved_quiet p ss b x))
  where
    behind : (o : Option (Option NameMeaning)) → IfReserved o → IfMeant (behind_scopes p x o)
    behind (Some o) h = h
    behind None h = else_quiet (in_context p x) (in_globals p.names x) (in_context_quiet p x) (in_globals_quiet p.names x)

left_quiet : (o : Option NameMeaning) → IfMeant o → Made PartQuiet (left_of_dot o)
left_quiet (Some (valued c t)) h = h
left_quiet (Some (controlled k c)) h = tt
left_quiet (Some screened) h = tt
left_quiet (Some (enumerated e)) h = tt
left_quiet None h = tt

named_quiet : (o : Option NameMeaning) → IfMeant o → Made PartQuiet (as_part (named o))
named_quiet (Some (valued c t)) h = h
named_quiet (Some (controlled k c)) h = tt
named_quiet (Some screened) h = tt
named_quiet (Some (enumerated e)) h = tt
named_quiet None h = tt

pub name_by_quiet : (g : Grant) (x : List ℕ) (o : Option NameMeaning) → IfMeant o → Made PartQuiet (name_by g x o)
name_by_quiet a_column x o h = tt
name_by_quiet a_target x o h = tt
name_by_quiet aliased_target x o h = tt
name_by_quiet (a_meaning b) x o h = left_quiet o h
name_by_quiet nothing x o h = named_quiet o h
name_by_quiet acting x o h = named_quiet o h
name_by_quiet an_alias x o h = named_quiet o h
name_by_quiet (on_screen b) x o h = named_quiet o h

pub global_by_quiet : (g : Grant) (x : List ℕ) (o : Option NameMeaning) → IfMeant o → Made PartQuiet (global_by g x o)
global_by_quiet a_column x o h = named_quiet o h
global_by_quiet a_target x o h = tt
global_by_quiet aliased_target x o h = tt
global_by_quiet (a_meaning b) x o h = left_quiet o h
global_by_quiet nothing x o h = named_quiet o h
global_by_quiet acting x o h = named_quiet o h
global_by_quiet an_alias x o h = named_quiet o h
global_by_quiet (on_screen b) x o h = named_quiet o h

-- dots
known_quiet : (c : Term) (x : List ℕ) (o : Option Shape) → acts c ≡ false → Made TreeQuiet (known_field c x o)
known_quiet c x (Some t) h = one_quiet (term.dot x) c refl h
known_quiet c x None h = tt

field_quiet : (c : Term) (x : List ℕ) (t : Shape) → acts c ≡ false → Made TreeQuiet (field_read c x t)
field_quiet c x (records cs) h = known_quiet c x (field_in x cs) h
field_quiet c x t h = tt

input_quiet : (k : ℕ) (o : Option Shape) → Made TreeQuiet (input_read k o)
input_quiet k (Some t) = refl
input_quiet k None = tt

property_quiet : (n : Names) (k : ℕ) (c : ControlName) (x : List ℕ) (o : Option Shape) → Made TreeQuiet (property_read n k c x o)
property_quiet n k c x (Some t) = by_written (first_match (λ (q : Property). nat_eq q.control k && bytes_eq q.name x) 0 n.properties)
  where
    by_written : (o : Option (ℕ × Property)) → acts (written_or c.kind x t o).0 ≡ false
    by_written (Some q) = refl
    by_written None = refl
property_quiet n k c x None = tt

control_quiet : (n : Names) (k : ℕ) (c : ControlName) (g : Option ℕ) (x : List ℕ) → Made TreeQuiet (control_read n k c g x)
control_quiet n k c (Some g) x = tt
control_quiet n k c None x =
    if_quiet TreeQuiet (is_chosen c.kind (encode_utf8_all x)) _ _ refl
    (if_quiet TreeQuiet (is_input c.kind (encode_utf8_all x)) _ _ (input_quiet k (input_type c.kind)) (property_quiet n k c x (property_of x c)))

member_quiet : (b : Bool) (x : List ℕ) → Made TreeQuiet (member_of b x)
member_quiet true x = refl
member_quiet false x = tt

dotted_quiet : (n : Names) (x : List ℕ) (m : NameMeaning) → MeaningQuiet m → Made TreeQuiet (dotted n x (Some m))
dotted_quiet n x (valued c t) h = field_quiet c x t h
dotted_quiet n x (controlled k c) h = control_quiet n k c c.gallery x
dotted_quiet n x (enumerated e) h = member_quiet (has_member e (encode_utf8_all x)) x
dotted_quiet n x screened h = tt

pub dot_by_quiet : (p : Place) (x : List ℕ) (qs : List JudgedPart) → EachQuiet qs → Made TreeQuiet (dot_by p x qs)
dot_by_quiet p x (piece (value a c t) ∷ []) h = dotted_quiet p.names x (valued c t) h.0
dot_by_quiet p x (meant m ∷ []) h = dotted_quiet p.names x m h.0
dot_by_quiet p x qs h = tt

pub alias_by_quiet : (g : Grant) (x : List ℕ) (qs : List JudgedPart) → EachQuiet qs → Made PartQuiet (alias_by g x qs)
alias_by_quiet an_alias x (piece (value a c t) ∷ []) h = h.0
alias_by_quiet aliased_target x (piece (value a c t) ∷ []) h = h.0
alias_by_quiet aliased_target x (target None y ∷ []) h = tt
alias_by_quiet g x qs h = tt
