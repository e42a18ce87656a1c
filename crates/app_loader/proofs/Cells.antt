-- The formulas of names in an accepted app.
use Rattle.std.proofs.Common.{inl, inr, ◌≡◌, ℕ, zero, suc, ◌+◌, ◌++◌, List, [], ◌∷◌, Bool, true, false, map, Option, Some, None, Ok, nat_eq, bytes_eq, codes, encode_utf8_all, refl, ap, sym, subst, ◌∙◌, slice_get, if◌then◌else◌, arith, rules}
use Rattle.std.specs.Prelude.{◌&&◌, ◌||◌}
use Rattle.std.specs.List.{AllZip}
use Rattle.std.proofs.lemmas.Bool.{and_parts, eq-eqb, eqb-true, or_cases}
use Rattle.fx_types.specs.TypeView.{shape}
use Rattle.fx_types.specs.Types.{Shape, blanks, numbers, texts, booleans, dates, records, tables, no_columns}
use Rattle.fx_types.specs.declared.controls.Control.{Control}
use Rattle.fx_types.specs.declared.controls.Control.TheVariants as control
use Rattle.fx_core.specs.Controls.{is_behaviour, is_items, own_type, property_type}
use Rattle.fx_core.specs.SourceTypes.{item_columns, property_of}
use Rattle.fx_core.specs.Term.{Term, of, nil, cons, coerce}
use Rattle.fx_core.specs.declared.names.ControlName.{ControlName}
use Rattle.fx_core.specs.declared.names.FormulaName.{FormulaName}
use Rattle.fx_core.specs.declared.names.Names.{Names}
use Rattle.fx_core.specs.declared.names.Property.{Property}
use Rattle.fx_typing.specs.Rounds as rounds
use Rattle.fx_typing.specs.Rounds.{AllSame, SameControl, SameFormula, type_or_blank}
use Rattle.fx_typing.specs.Laws.{IsWanted}
use Rattle.fx_typing.specs.Local.{value, label}
use Rattle.fx_typing.specs.Meaning.{Place, first_match}
use Rattle.fx_typing.specs.Parts.{JudgedPart, piece, meant, target, assigned}
use Rattle.fx_typing.specs.Typing.{at_node, judge, judge_whole, onward, outermost_setting, position, to_wanted, whole_argument}
use Rattle.fx_typing.proofs.Frame.{at_node_ok, onward_ok}
use Rattle.fx_core.specs.Tree.{Tree}
use Rattle.fx_types.specs.declared.types.Ty.{Ty}
use Rattle.fx_types.specs.declared.types.Ty.TheVariants as ty
use Rattle.app_loader.specs.Accepted.{HaveOneTemplate}
use Rattle.std.specs.Str.{IsAscii}
use Rattle.std.proofs.lemmas.Str.{IsUtf8-from_ascii, chars-IsAscii, chars_from_encodes}
use Rattle.app_cells.specs.declared.cell.Cell.{Cell}
use Rattle.app_cells.specs.declared.cell.Spot.{Spot}
use Rattle.app_cells.specs.declared.cell.Spot.TheVariants as spot
use Rattle.app_cells.specs.Spots.{item_in, wanted_by}
use Rattle.app_names.specs.AppNames.{as_formula, as_property, formulas_from, properties_from}

-- ---- places in lists
pub zip_left : {A B : Type 0} (R : A → B → Type 0) (xs : List A) (ys : List B) (k : ℕ) (y : B) → AllZip R xs ys → slice_get ys k ≡ Some y → (x : A) × (slice_get xs k ≡ Some x) × R x y
zip_left R [] [] k y h e = absurd cc
zip_left R [] (z ∷ ys) k y h e = absurd h
zip_left R (x ∷ xs) [] k y h e = absurd h
zip_left R (x ∷ xs) (z ∷ ys) zero y h e = let same : z ≡ y = cc in (x, refl, subst (R x) same h.0)
zip_left R (x ∷ xs) (z ∷ ys) (suc k) y h e = zip_left R xs ys k y h.1 e

pub zip_right : {A B : Type 0} (R : A → B → Type 0) (xs : List A) (ys : List B) (k : ℕ) (x : A) → AllZip R xs ys → slice_get xs k ≡ Some x → (y : B) × (slice_get ys k ≡ Some y) × R x y
zip_right R [] [] k x h e = absurd cc
zip_right R [] (z ∷ ys) k x h e = absurd h
zip_right R (w ∷ xs) [] k x h e = absurd h
zip_right R (w ∷ xs) (z ∷ ys) zero x h e = let same : w ≡ x = cc in (z, refl, subst (λ v. R v z) same h.0)
zip_right R (w ∷ xs) (z ∷ ys) (suc k) x h e = zip_right R xs ys k x h.1 e

-- an element of lists that are one
pub map_at : {A B : Type 0} (f g : A → B) (xs : List A) (k : ℕ) (x : A) → map f xs ≡ map g xs → slice_get xs k ≡ Some x → f x ≡ g x
map_at f g [] k x e h = absurd cc
map_at f g (y ∷ xs) zero x e h = let same : y ≡ x = cc in let first : f y ≡ g y = cc in subst (λ z. f z ≡ g z) same first
map_at f g (y ∷ xs) (suc k) x e h = let rest : map f xs ≡ map g xs = cc in map_at f g xs k x rest h

-- ---- named formulas and properties are those of cells
pub record IsCellAt (cells : List Cell) (s : Spot) (first told : ℕ) : Type 0 where
  pub cell : Cell
  pub place : ℕ
  pub number : told ≡ first + place
  pub there : slice_get cells place ≡ Some cell
  pub spot : cell.spot ≡ s

one_later : (cells : List Cell) (c : Cell) (s : Spot) (k number : ℕ) → IsCellAt cells s (suc k) number → IsCellAt (c ∷ cells) s k number
one_later cells c s k number h = record { cell = h.cell; place = suc h.place; number = omega (arith, h.number); there = h.there; spot = h.spot }

pub formula_at : (cells : List Cell) (k i : ℕ) (f : FormulaName) → slice_get (formulas_from k cells) i ≡ Some f → IsCellAt cells (spot.Formula f.name) k f.cell
formula_at [] k i f e = absurd cc
formula_at (c ∷ cells) k i f e = by c.spot refl i e (λ j r. one_later cells c (spot.Formula f.name) k f.cell (formula_at cells (suc k) j f r))
  where
    by : (s : Spot) → c.spot ≡ s → (i : ℕ) → slice_get (as_formula k s ++ formulas_from (suc k) cells) i ≡ Some f →
        ((j : ℕ) → slice_get (formulas_from (suc k) cells) j ≡ Some f → IsCellAt (c ∷ cells) (spot.Formula f.name) k f.cell) → IsCellAt (c ∷ cells) (spot.Formula f.name) k f.cell
    by (spot.Formula x) q zero e go =
        let same : ◌≡◌ {A = FormulaName} (record { name = x; cell = k; ty = ty.Blank }) f = cc in
        let name : x ≡ f.name = ap (λ (z : FormulaName). z.name) same in
        let number : k ≡ f.cell = ap (λ (z : FormulaName). z.cell) same in
        record { cell = c; place = 0; number = omega (arith, number); there = refl; spot = q ∙ ap spot.Formula name }
    by (spot.Formula x) q (suc i) e go = go i e
    by spot.OnStart q i e go = go i e
    by (spot.OnVisible s) q i e go = go i e
    by (spot.Property n p) q i e go = go i e

pub property_at : (cells : List Cell) (k i : ℕ) (p : Property) → slice_get (properties_from k cells) i ≡ Some p → IsCellAt cells (spot.Property p.control p.name) k p.cell
property_at [] k i p e = absurd cc
property_at (c ∷ cells) k i p e = by c.spot refl i e (λ j r. one_later cells c (spot.Property p.control p.name) k p.cell (property_at cells (suc k) j p r))
  where
    by : (s : Spot) → c.spot ≡ s → (i : ℕ) → slice_get (as_property k s ++ properties_from (suc k) cells) i ≡ Some p →
        ((j : ℕ) → slice_get (properties_from (suc k) cells) j ≡ Some p → IsCellAt (c ∷ cells) (spot.Property p.control p.name) k p.cell) → IsCellAt (c ∷ cells) (spot.Property p.control p.name) k p.cell
    by (spot.Property n x) q zero e go =
        let same : ◌≡◌ {A = Property} (record { control = n; name = x; cell = k }) p = cc in
        let who : n ≡ p.control = ap (λ (z : Property). z.control) same in
        let name : x ≡ p.name = ap (λ (z : Property). z.name) same in
        let number : k ≡ p.cell = ap (λ (z : Property). z.cell) same in
        record { cell = c; place = 0; number = omega (arith, number); there = refl; spot = q ∙ (λ i. spot.Property (who i) (name i)) }
    by (spot.Property n x) q (suc i) e go = go i e
    by spot.OnStart q i e go = go i e
    by (spot.OnVisible s) q i e go = go i e
    by (spot.Formula x) q i e go = go i e

-- ---- the item that the formula of a pure property sees
if_not : (b : Bool) (k : ℕ) → b ≡ false → (if b then Some k else None) ≡ None
if_not true k e = absurd cc
if_not false k e = refl

item_is : (k : ℕ) (p name : List ℕ) (kind : Control) (screen : ℕ) (g : Option ℕ) (items : Ty) → is_behaviour kind (encode_utf8_all p) ≡ false →
    item_in k p (Some (record { name = name; kind = kind; screen = screen; gallery = g; items = items })) ≡ g
item_is k p name kind screen (Some g) items e = refl
item_is k p name control.Gallery screen None items e = if_not (is_behaviour control.Gallery (encode_utf8_all p)) k e
item_is k p name control.Label screen None items e = refl
item_is k p name control.Button screen None items e = refl
item_is k p name control.TextInput screen None items e = refl
item_is k p name control.Slider screen None items e = refl
item_is k p name control.Checkbox screen None items e = refl
item_is k p name control.DatePicker screen None items e = refl

pub pure_item : (k : ℕ) (p : List ℕ) (c : ControlName) → is_behaviour c.kind (encode_utf8_all p) ≡ false → item_in k p (Some c) ≡ c.gallery
pure_item k p c e = item_is k p c.name c.kind c.screen c.gallery c.items e

pub map_get : {A B : Type 0} (f : A → B) (xs : List A) (k : ℕ) (x : A) → slice_get xs k ≡ Some x → slice_get (map f xs) k ≡ Some (f x)
map_get f [] k x e = absurd cc
map_get f (y ∷ xs) zero x e = let same : y ≡ x = cc in ap (λ z. Some (f z)) same
map_get f (y ∷ xs) (suc k) x e = map_get f xs k x e

-- ---- the first property that a test keeps
keeps_one : (test : Property → Bool) (k : ℕ) (ps : List Property) (i : ℕ) (p : Property) → slice_get ps i ≡ Some p → test p ≡ true →
    (q : Property) × (j : ℕ) × (first_match test k ps ≡ Some (k + j, q)) × (slice_get ps j ≡ Some q) × (test q ≡ true)
keeps_one test k [] i p e t = absurd cc
keeps_one test k (r ∷ ps) i p e t = by (test r) refl i e (λ l g. keeps_one test (suc k) ps l p g t)
  where
    by : (b : Bool) → test r ≡ b → (i : ℕ) → slice_get (r ∷ ps) i ≡ Some p →
        ((l : ℕ) → slice_get ps l ≡ Some p → (q : Property) × (j : ℕ) × (first_match test (suc k) ps ≡ Some (suc k + j, q)) × (slice_get ps j ≡ Some q) × (test q ≡ true)) →
        (q : Property) × (j : ℕ) × ((if b then Some (k, r) else first_match test (suc k) ps) ≡ Some (k + j, q)) × (slice_get (r ∷ ps) j ≡ Some q) × (test q ≡ true)
    by true s i e go = let here : k ≡ k + 0 = omega arith in (r, 0, (λ z. Some (here z, r)), refl, s)
    by false s zero e go = let same : r ≡ p = cc in let past : true ≡ false = sym t ∙ sym (ap test same) ∙ s in absurd cc
    by false s (suc i) e go = let w = go i e in let next : suc k + w.1 ≡ k + suc w.1 = omega arith in (w.0, suc w.1, w.2 ∙ (λ z. Some (next z, w.0)), w.3, w.4)

bytes_same : (xs ys : List ℕ) → bytes_eq xs ys ≡ true → xs ≡ ys
bytes_same [] [] e = refl
bytes_same [] (y ∷ ys) e = absurd cc
bytes_same (x ∷ xs) [] e = absurd cc
bytes_same (x ∷ xs) (y ∷ ys) e =
    let both = and_parts (nat_eq x y) (bytes_eq xs ys) e in
    let first : x ≡ y = eqb-true x y both.0 in
    let rest : xs ≡ ys = bytes_same xs ys both.1 in
    cc

-- a property's name is told by its bytes
pub items_ascii : IsAscii (codes "Items")
items_ascii = search rules

items_named : (p : List ℕ) → bytes_eq (encode_utf8_all p) (codes "Items") ≡ true → p ≡ codes "Items"
items_named p e =
    chars_from_encodes p (codes "Items") (IsUtf8-from_ascii (codes "Items") items_ascii) (bytes_same (encode_utf8_all p) (codes "Items") e)
    ∙ chars-IsAscii (codes "Items") items_ascii

pub is_gallery_items : (k : Control) (p : List ℕ) → is_items k (encode_utf8_all p) ≡ true → p ≡ codes "Items"
is_gallery_items control.Gallery p e = items_named p e
is_gallery_items control.Label p e = absurd cc
is_gallery_items control.Button p e = absurd cc
is_gallery_items control.TextInput p e = absurd cc
is_gallery_items control.Slider p e = absurd cc
is_gallery_items control.Checkbox p e = absurd cc
is_gallery_items control.DatePicker p e = absurd cc

number_self : (n : ℕ) → nat_eq n n ≡ true
number_self n = eq-eqb n n refl

bytes_self : (xs : List ℕ) → bytes_eq xs xs ≡ true
bytes_self [] = refl
bytes_self (x ∷ xs) = (λ i. number_self x i && bytes_eq xs xs) ∙ bytes_self xs

-- the test of the items of a control
abbrev items_test : ℕ → Property → Bool
items_test k p = nat_eq p.control k && bytes_eq p.name (codes "Items")

passes : (p : Property) → p.name ≡ codes "Items" → items_test p.control p ≡ true
passes p e = (λ i. number_self p.control i && bytes_eq (e i) (codes "Items")) ∙ bytes_self (codes "Items")

-- the first cell that stands at the items of a control is its one
pub items_found : (cells : List Cell) (seen : List rounds.Cell) (ps : List Property) (i : ℕ) (p : Property) (at : ℕ) (c : Cell) → HaveOneTemplate cells → ps ≡ properties_from 0 cells →
    slice_get ps i ≡ Some p → p.name ≡ codes "Items" → p.cell ≡ at → slice_get cells at ≡ Some c → c.spot ≡ spot.Property p.control p.name →
    rounds.items_formula seen (first_match (items_test p.control) 0 ps) ≡ slice_get seen at
items_found cells seen ps i p at c u s e n m there its =
    let w = keeps_one (items_test p.control) 0 ps i p e (passes p n) in
    let q = w.0 in
    let t = and_parts (nat_eq q.control p.control) (bytes_eq q.name (codes "Items")) w.4 in
    let who : q.control ≡ p.control = eqb-true q.control p.control t.0 in
    let name : q.name ≡ codes "Items" = bytes_same q.name (codes "Items") t.1 in
    let d = property_at cells 0 w.1 q (subst (λ xs. slice_get xs w.1 ≡ Some q) s w.3) in
    let one : d.place ≡ at = u d.place at d.cell c p.control d.there there (d.spot ∙ (λ z. spot.Property (who z) (name z))) (its ∙ ap (spot.Property p.control) n) in
    let told = d.number in
    let number : q.cell ≡ d.place = omega (arith, told) in
    ap (rounds.items_formula seen) w.2 ∙ ap (slice_get seen) (number ∙ one)

-- ---- the type of a pure property
abbrev IfScalar : Option Shape → Type 0
IfScalar (Some (records cs)) = ⊥
IfScalar (Some (tables cs)) = ⊥
IfScalar o = Unit {0}

if_scalar : (b : Bool) (t : Shape) (o : Option Shape) → IfScalar (Some t) → IfScalar o → IfScalar (if b then Some t else o)
if_scalar true t o l h = l
if_scalar false t o l h = h

own_scalar : (k : Control) (n : List ℕ) → IfScalar (own_type k n)
own_scalar control.Label n = if_scalar (bytes_eq n (codes "Text")) texts None tt tt
own_scalar control.Button n = if_scalar (bytes_eq n (codes "Text")) texts None tt tt
own_scalar control.TextInput n = if_scalar (bytes_eq n (codes "Default")) texts None tt tt
own_scalar control.Slider n = if_scalar (bytes_eq n (codes "Min") || bytes_eq n (codes "Max") || bytes_eq n (codes "Default")) numbers None tt tt
own_scalar control.Checkbox n = if_scalar (bytes_eq n (codes "Text")) texts _ tt (if_scalar (bytes_eq n (codes "Default")) booleans None tt tt)
own_scalar control.DatePicker n = if_scalar (bytes_eq n (codes "DefaultDate")) dates None tt tt
own_scalar control.Gallery n = tt

wanted_scalar : (o : Option Shape) (t u : Shape) → IfScalar o → o ≡ Some u → IsWanted o t → t ≡ u
wanted_scalar None t u s e w = absurd cc
wanted_scalar (Some (records cs)) t u s e w = absurd s
wanted_scalar (Some (tables cs)) t u s e w = absurd s
wanted_scalar (Some blanks) t u s e w = let same : blanks ≡ u = cc in w ∙ same
wanted_scalar (Some numbers) t u s e w = let same : numbers ≡ u = cc in w ∙ same
wanted_scalar (Some texts) t u s e w = let same : texts ≡ u = cc in w ∙ same
wanted_scalar (Some booleans) t u s e w = let same : booleans ≡ u = cc in w ∙ same
wanted_scalar (Some dates) t u s e w = let same : dates ≡ u = cc in w ∙ same

-- what is admitted as a table is a table of the columns of its own type
table_own : (c : Term) (t : Shape) (x : Term × Shape) → to_wanted (Some (tables no_columns)) (c, t) ≡ Ok x → x.1 ≡ tables (item_columns t)
table_own c (tables cs) x e = let same : ◌≡◌ {A = Term × Shape} (c, tables cs) x = cc in ap (λ (z : Term × Shape). z.1) (sym same)
table_own c blanks x e = let same : ◌≡◌ {A = Term × Shape} (of (coerce (tables no_columns)) (cons c nil), tables no_columns) x = cc in ap (λ (z : Term × Shape). z.1) (sym same)
table_own c numbers x e = absurd cc
table_own c texts x e = absurd cc
table_own c booleans x e = absurd cc
table_own c dates x e = absurd cc
table_own c (records cs) x e = absurd cc

part_own : (e : Tree) (q : JudgedPart) (x : Term × Shape) → whole_argument (Some (tables no_columns)) q ≡ Ok x → x.1 ≡ tables (item_columns (type_or_blank (at_node (position e) (whole_argument None q))))
part_own e (piece (value a c t)) x h = table_own c t x h
part_own e (piece (label y)) x h = absurd cc
part_own e (meant y) x h = absurd cc
part_own e (assigned ns xs) x h = absurd cc
part_own e (target a y) x h = absurd cc

pub items_own : (p : Place) (b : Bool) (e : Tree) (x : Term × Shape) → judge_whole p b (Some (tables no_columns)) e ≡ Ok x → x.1 ≡ tables (item_columns (type_or_blank (judge_whole p b None e)))
items_own p b e x h =
    let a = onward_ok (judge p (outermost_setting b) e) (λ q. at_node (position e) (whole_argument (Some (tables no_columns)) q)) x h in
    part_own e a.0 x (at_node_ok (position e) (whole_argument (Some (tables no_columns)) a.0) x a.2)
    ∙ ap (λ r. tables (item_columns (type_or_blank (onward r (λ q. at_node (position e) (whole_argument None q)))))) (sym a.1)

-- what acts is no pure property
abbrev pure_type : Control → List ℕ → Shape → Option Shape
pure_type k n t = if is_items k n then Some t else property_type k n

impure : (k : Control) (n name : List ℕ) (t : Shape) → bytes_eq n name ≡ true → pure_type k name t ≡ None → pure_type k n t ≡ None
impure k n name t e h = subst (λ z. pure_type k z t ≡ None) (sym (bytes_same n name e)) h

acts_impure : (k : Control) (n : List ℕ) (t : Shape) → is_behaviour k n ≡ true → pure_type k n t ≡ None
acts_impure control.Label n t e = impure control.Label n (codes "OnSelect") t e refl
acts_impure control.Button n t e = impure control.Button n (codes "OnSelect") t e refl
acts_impure control.Gallery n t e = impure control.Gallery n (codes "OnSelect") t e refl
acts_impure control.TextInput n t e = impure control.TextInput n (codes "OnChange") t e refl
acts_impure control.Slider n t e = impure control.Slider n (codes "OnChange") t e refl
acts_impure control.DatePicker n t e = impure control.DatePicker n (codes "OnChange") t e refl
acts_impure control.Checkbox n t e = elim (or_cases (bytes_eq n (codes "OnCheck")) (bytes_eq n (codes "OnUncheck")) e) [
  | inl h ↦ impure control.Checkbox n (codes "OnCheck") t h refl
  | inr h ↦ impure control.Checkbox n (codes "OnUncheck") t h refl
]

pub property_calm : (c : ControlName) (p : List ℕ) (t : Shape) → property_of p c ≡ Some t → is_behaviour c.kind (encode_utf8_all p) ≡ false
property_calm c p t e = by (is_behaviour c.kind (encode_utf8_all p)) refl
  where
    by : (b : Bool) → is_behaviour c.kind (encode_utf8_all p) ≡ b → b ≡ false
    by false k = refl
    by true k = let none : Some t ≡ None = sym e ∙ acts_impure c.kind (encode_utf8_all p) (tables (item_columns (shape c.items))) k in absurd cc

-- THE type of a pure property's formula is the one that names give it
pub property_ok : (c : ControlName) (p : List ℕ) (t u : Shape) → property_of p c ≡ Some t → IsWanted (wanted_by c.kind (encode_utf8_all p)) u →
    (is_items c.kind (encode_utf8_all p) ≡ true → u ≡ tables (item_columns (shape c.items))) → u ≡ t
property_ok c p t u e w own = by (is_items c.kind (encode_utf8_all p)) own w e
  where
    by : (b : Bool) → (b ≡ true → u ≡ tables (item_columns (shape c.items))) → IsWanted (if b then Some (tables no_columns) else property_type c.kind (encode_utf8_all p)) u →
        (if b then Some (tables (item_columns (shape c.items))) else property_type c.kind (encode_utf8_all p)) ≡ Some t → u ≡ t
    by true own w e = let same : tables (item_columns (shape c.items)) ≡ t = cc in own refl ∙ same
    by false own w e =
        wanted_scalar (property_type c.kind (encode_utf8_all p)) u t
        (if_scalar (bytes_eq (encode_utf8_all p) (codes "Visible")) booleans _ tt (own_scalar c.kind (encode_utf8_all p))) e w

-- ---- controls keep their kinds and galleries through rounds
pub control_before : (cs ds : List ControlName) (k : ℕ) (d : ControlName) → AllSame SameControl cs ds → slice_get ds k ≡ Some d → (c : ControlName) × (slice_get cs k ≡ Some c) × SameControl c d
control_before [] [] k d s e = absurd cc
control_before [] (x ∷ ds) k d s e = absurd s
control_before (c ∷ cs) [] k d s e = absurd s
control_before (c ∷ cs) (x ∷ ds) zero d s e = let same : x ≡ d = cc in (c, refl, subst (SameControl c) same s.0)
control_before (c ∷ cs) (x ∷ ds) (suc k) d s e = control_before cs ds k d s.1 e

pub formula_before : (fs gs : List FormulaName) (k : ℕ) (g : FormulaName) → AllSame SameFormula fs gs → slice_get gs k ≡ Some g → (f : FormulaName) × (slice_get fs k ≡ Some f) × SameFormula f g
formula_before [] [] k g s e = absurd cc
formula_before [] (x ∷ gs) k g s e = absurd s
formula_before (f ∷ fs) [] k g s e = absurd s
formula_before (f ∷ fs) (x ∷ gs) zero g s e = let same : x ≡ g = cc in (f, refl, subst (SameFormula f) same s.0)
formula_before (f ∷ fs) (x ∷ gs) (suc k) g s e = formula_before fs gs k g s.1 e

-- the type of the items of a control at a place
pub items_at : (n : Names) (cs : List rounds.Cell) (k : ℕ) (ws : List ControlName) (i : ℕ) (c : ControlName) → rounds.items_types n cs k ws ≡ map (λ (w : ControlName). shape w.items) ws → slice_get ws i ≡ Some c →
    rounds.items_type n cs (k + i) ≡ shape c.items
items_at n cs k [] i c e h = absurd cc
items_at n cs k (w ∷ ws) zero c e h =
    let same : w ≡ c = cc in
    let first : rounds.items_type n cs k ≡ shape w.items = cc in
    let here : k + 0 ≡ k = omega arith in
    ap (rounds.items_type n cs) here ∙ first ∙ ap (λ (z : ControlName). shape z.items) same
items_at n cs k (w ∷ ws) (suc i) c e h =
    let rest : rounds.items_types n cs (suc k) ws ≡ map (λ (z : ControlName). shape z.items) ws = cc in
    let here : k + suc i ≡ suc k + i = omega arith in
    ap (rounds.items_type n cs) here ∙ items_at n cs (suc k) ws i c rest h
