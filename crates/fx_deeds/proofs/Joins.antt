-- Types that others take.
use Rattle.std.proofs.Common.{◌≡◌, ℕ, List, [], ◌∷◌, Bool, true, false, Option, Some, None, bytes_eq, refl, ap, sym, subst, ◌∙◌, option_map, option_and_then, if◌then◌else◌}
use Rattle.std.specs.Prelude.{◌&&◌, unwrap_or}
use Rattle.std.specs.Ordering.{nat_cmp, is_eq}
use Rattle.std.specs.Cmp.Lexicographic.{slice_cmp}
use Rattle.std.specs.declared.cmp.Ordering.{Ordering}
use Rattle.std.specs.declared.cmp.Ordering.TheVariants.{Less, Equal, Greater}
use Rattle.std.proofs.lemmas.Map.Text.{is_eq-slice_cmp}
use Rattle.fx_types.proofs.Utf8Order.{and_second, and_first}
use Rattle.fx_types.specs.Lookup.{item_named}
use Rattle.fx_types.specs.Rising.{IsBelow}
use Rattle.fx_types.specs.Types.{Shape, blanks, numbers, texts, booleans, dates, records, tables, ColumnList, no_columns, column}
use Rattle.fx_types.specs.Values.{Data, blank, field_list}
use Rattle.fx_value.specs.Columns.{Row}
use Rattle.fx_typing.specs.LawfulTypes.{AreLawfulColumns, IsLawfulType, IsBelowColumns}
use Rattle.fx_value.proofs.Unions.{Rises, Under, alike, below, under_further, union_both, union_first, union_of_none, union_second}
use Rattle.fx_value.proofs.Widenings.{below_apart, own_name, same_name, type_in, under_apart}
use Rattle.fx_value.specs.Coercion.{CanWiden, Widens, joined, same}
use Rattle.fx_value.specs.Fits.{fields_fit, fits_in}
use Rattle.fx_value.specs.Join.{join_of, union}
use Rattle.fx_deeds.specs.Fitting.{AreOfSome, CanChange, IsOfSome}
use Rattle.fx_deeds.specs.RowValues.{changed_value}

-- ---- lawful columns rise

under : (n : List ℕ) (cs : ColumnList) → IsBelowColumns n cs → Under n cs
under n no_columns h = tt
under n (column m t cs) h = (h.0, under n cs h.1)

pub rises : (cs : ColumnList) → AreLawfulColumns cs → Rises cs
rises no_columns h = tt
rises (column n t cs) h = (under n cs h.0, rises cs h.2)

equal_names : (n m : List ℕ) → slice_cmp nat_cmp n m ≡ Equal → n ≡ m
equal_names n m h = same_name n m (sym (ap is_eq (sym h) ∙ is_eq-slice_cmp n m))

-- ---- a join either way

-- with one column more in front
union_turned : (n : List ℕ) (t : Shape) (cs : ColumnList) → AreLawfulColumns (column n t cs) → ((ds : ColumnList) → AreLawfulColumns ds → union cs ds ≡ union ds cs) →
    ((u : Shape) → IsLawfulType u → join_of t u ≡ join_of u t) → (ds : ColumnList) → AreLawfulColumns ds → union (column n t cs) ds ≡ union ds (column n t cs)
union_turned n t cs l f g no_columns k = sym (union_of_none (column n t cs) (rises (column n t cs) l))
union_turned n t cs l f g (column m u ds) k = by (slice_cmp nat_cmp n m) refl (union_turned n t cs l f g ds k.2)
  where
    by : (o : Ordering) → slice_cmp nat_cmp n m ≡ o → union (column n t cs) ds ≡ union ds (column n t cs) → union (column n t cs) (column m u ds) ≡ union (column m u ds) (column n t cs)
    by Less e again =
        let first : Under n (column m u ds) = (e, under_further n m ds e (under m ds k.0)) in
        union_first n t cs (column m u ds) first ∙ ap (option_map (column n t)) (f (column m u ds) k) ∙ sym (union_second n t (column m u ds) cs first (under n cs l.0))
    by Greater e again =
        let lower : IsBelow m n = below m n e in
        let first : Under m (column n t cs) = (lower, under_further m n cs lower (under n cs l.0)) in
        union_second m u (column n t cs) ds first (under m ds k.0) ∙ ap (option_map (column m u)) again ∙ sym (union_first m u ds (column n t cs) first)
    by Equal e again =
        let same_one : n ≡ m = equal_names n m e in
        union_both n m t u cs ds e (under m ds k.0)
        ∙ (λ i. option_and_then (λ s. option_map (column (same_one i) s) (f ds k.2 i)) (g u k.1 i))
        ∙ sym (union_both m n u t ds cs (alike n m e) (under n cs l.0))

mutual
  pub join_turned : (t : Shape) → IsLawfulType t → (u : Shape) → IsLawfulType u → join_of t u ≡ join_of u t
  join_turned (records cs) l (records ds) k = ap (option_map records) (columns_turned cs l ds k)
  join_turned (tables cs) l (tables ds) k = ap (option_map tables) (columns_turned cs l ds k)
  join_turned blanks l blanks k = refl
  join_turned numbers l blanks k = refl
  join_turned texts l blanks k = refl
  join_turned booleans l blanks k = refl
  join_turned dates l blanks k = refl
  join_turned t l u k = refl

  columns_turned : (cs : ColumnList) → AreLawfulColumns cs → (ds : ColumnList) → AreLawfulColumns ds → union cs ds ≡ union ds cs
  columns_turned no_columns l ds k = union_of_none ds (rises ds k)
  columns_turned (column n t cs) l ds k = union_turned n t cs l (columns_turned cs l.2) (join_turned t l.1) ds k

-- ---- some of the columns

-- each of the second columns is one of the first, whose type takes its own
abbrev Takes : ColumnList → ColumnList → Type 0
Takes cs ds = (n : List ℕ) (t u : Shape) → type_in n cs ≡ Some t → type_in n ds ≡ Some u → join_of t u ≡ Some t

first_is : (n m : List ℕ) (t u : Shape) (cs ds : ColumnList) → Some (column n t cs) ≡ Some (column m u ds) → (n ≡ m) × (t ≡ u) × (cs ≡ ds)
first_is n m t u cs ds e = (cc, cc, cc)

mapped : (n m : List ℕ) (t u : Shape) (cs : ColumnList) (o : Option ColumnList) → option_map (column n t) o ≡ Some (column m u cs) → (n ≡ m) × (t ≡ u) × (o ≡ Some cs)
mapped n m t u cs None e = absurd cc
mapped n m t u cs (Some ds) e = let k = first_is n m t u ds cs e in (k.0, k.1, ap Some k.2)

both_mapped : (n : List ℕ) (t : Shape) (cs : ColumnList) (o : Option ColumnList) (j : Option Shape) → option_and_then (λ s. option_map (column n s) o) j ≡ Some (column n t cs) → (j ≡ Some t) × (o ≡ Some cs)
both_mapped n t cs o None e = absurd cc
both_mapped n t cs o (Some s) e = let k = mapped n n s t cs o e in (ap Some k.1, k.2)

below_itself : (n m : List ℕ) → IsBelow n m → n ≡ m → ⊥
below_itself n m h e = let wrong : true ≡ false = sym (subst (λ z. bytes_eq n z ≡ true) e (own_name n)) ∙ below_apart n m h in absurd cc

takes_none : (cs : ColumnList) → Takes cs no_columns
takes_none cs n t u e f = absurd cc

-- under a name that is no column's
none_under : (m : List ℕ) (cs : ColumnList) → Under m cs → (n : List ℕ) (t : Shape) → bytes_eq m n ≡ true → type_in n cs ≡ Some t → ⊥
none_under m cs h n t e f = let wrong : true ≡ false = sym e ∙ under_apart m cs h n t f in absurd cc

less_takes : (n : List ℕ) (t : Shape) (cs ds : ColumnList) → Under n ds → Takes cs ds → (x : List ℕ) (a b : Shape) (c : Bool) → bytes_eq n x ≡ c → (if c then Some t else type_in x cs) ≡ Some a → type_in x ds ≡ Some b → join_of a b ≡ Some a
less_takes n t cs ds l w x a b true q f g = absurd (none_under n ds l x b q g)
less_takes n t cs ds l w x a b false q f g = w x a b f g

equal_takes : (n m : List ℕ) (t u : Shape) (cs ds : ColumnList) → n ≡ m → join_of t u ≡ Some t → Takes cs ds → (x : List ℕ) (a b : Shape) (c : Bool) → bytes_eq n x ≡ c → (d : Bool) → bytes_eq m x ≡ d →
    (if c then Some t else type_in x cs) ≡ Some a → (if d then Some u else type_in x ds) ≡ Some b → join_of a b ≡ Some a
equal_takes n m t u cs ds s j w x a b true q true r f g =
    let one : t ≡ a = cc in
    let two : u ≡ b = cc in
    subst (λ z. join_of z b ≡ Some z) one (subst (λ z. join_of t z ≡ Some t) two j)
equal_takes n m t u cs ds s j w x a b false q false r f g = w x a b f g
equal_takes n m t u cs ds s j w x a b true q false r f g = let wrong : true ≡ false = sym q ∙ ap (λ z. bytes_eq z x) s ∙ r in absurd cc
equal_takes n m t u cs ds s j w x a b false q true r f g = let wrong : false ≡ true = sym q ∙ ap (λ z. bytes_eq z x) s ∙ r in absurd cc

pub takes_parts : (cs ds : ColumnList) → Rises cs → Rises ds → union cs ds ≡ Some cs → Takes cs ds
takes_parts cs no_columns h k e = takes_none cs
takes_parts no_columns (column m u ds) h k e = λ n t v f g. absurd cc
takes_parts (column n t cs) (column m u ds) h k e = by (slice_cmp nat_cmp n m) refl (λ q. takes_parts cs (column m u ds) h.1 k q) (λ q. takes_parts cs ds h.1 k.1 q)
  where
    by : (o : Ordering) → slice_cmp nat_cmp n m ≡ o → (union cs (column m u ds) ≡ Some cs → Takes cs (column m u ds)) → (union cs ds ≡ Some cs → Takes cs ds) → Takes (column n t cs) (column m u ds)
    by Less p less both_less =
        let first : Under n (column m u ds) = (p, under_further n m ds p k.0) in
        let rest = mapped n n t t cs (union cs (column m u ds)) (sym (union_first n t cs (column m u ds) first) ∙ e) in
        λ x a b f g. less_takes n t cs (column m u ds) first (less rest.2) x a b (bytes_eq n x) refl f g
    by Greater p less both_less =
        let lower : IsBelow m n = below m n p in
        let first : Under m (column n t cs) = (lower, under_further m n cs lower h.0) in
        let wrong = mapped m n u t cs (union (column n t cs) ds) (sym (union_second m u (column n t cs) ds first k.0) ∙ e) in
        absurd (below_itself m n lower wrong.0)
    by Equal p less both_less =
        let both = both_mapped n t cs (union cs ds) (join_of t u) (sym (union_both n m t u cs ds p k.0) ∙ e) in
        λ x a b f g. equal_takes n m t u cs ds (equal_names n m p) both.0 (both_less both.1) x a b (bytes_eq n x) refl (bytes_eq m x) refl f g

-- ---- values after changes

-- what is found under a name fits the type of the column
abbrev FitsIn : Option Data → Option Shape → Type 0
FitsIn None t = Unit {0}
FitsIn (Some d) None = ⊥
FitsIn (Some d) (Some t) = fits_in d t ≡ true

found_fits : (n : List ℕ) (r : Row) (cs : ColumnList) → fields_fit (field_list r) cs ≡ true → FitsIn (item_named n r) (type_in n cs)
found_fits n [] cs h = tt
found_fits n (f ∷ r) no_columns h = absurd cc
found_fits n (f ∷ r) (column m t cs) h =
    let rest = fields_fit (field_list r) cs in
    let more = and_second (bytes_eq f.0 m) (fits_in f.1 t && rest) h in
    let e : f.0 ≡ m = same_name f.0 m (and_first (bytes_eq f.0 m) (fits_in f.1 t && rest) h) in
    subst (λ z. FitsIn (if bytes_eq f.0 n then Some f.1 else item_named n r) (if bytes_eq z n then Some t else type_in n cs)) e
    (by (bytes_eq f.0 n) (and_first (fits_in f.1 t) rest more) (found_fits n r cs (and_second (fits_in f.1 t) rest more)))
  where
    by : (b : Bool) → fits_in f.1 t ≡ true → FitsIn (item_named n r) (type_in n cs) → FitsIn (if b then Some f.1 else item_named n r) (if b then Some t else type_in n cs)
    by true k i = k
    by false k i = i

lawful_in : (n : List ℕ) (cs : ColumnList) → AreLawfulColumns cs → (t : Shape) → type_in n cs ≡ Some t → IsLawfulType t
lawful_in n no_columns l t e = absurd cc
lawful_in n (column m u cs) l t e = by (bytes_eq m n) (λ q. lawful_in n cs l.2 t q) e
  where
    by : (b : Bool) → (type_in n cs ≡ Some t → IsLawfulType t) → (if b then Some u else type_in n cs) ≡ Some t → IsLawfulType t
    by true f q = let one : u ≡ t = cc in subst IsLawfulType one l.1
    by false f q = f q

widens_to : (t u : Shape) → IsLawfulType t → IsLawfulType u → join_of t u ≡ Some t → Widens u t
widens_to t u l k e = joined u t t same (sym (join_turned t l u k) ∙ e)

pub field_can : (cs : ColumnList) → AreLawfulColumns cs → (q : Row) → IsOfSome cs q → (n : List ℕ) (t : Shape) → type_in n cs ≡ Some t → (d : Data) → item_named n q ≡ Some d → CanWiden d t
field_can cs l q h n t e d f = by (type_in n h.columns) refl (subst (λ o. FitsIn o (type_in n h.columns)) f (found_fits n q h.columns h.fits))
  where
    by : (o : Option Shape) → type_in n h.columns ≡ o → FitsIn (Some d) o → CanWiden d t
    by None p k = absurd k
    by (Some u) p k = record {
      from = u;
      fitting = k;
      widens = widens_to t u (lawful_in n cs l t e) (lawful_in n h.columns h.lawful u p) (takes_parts cs h.columns (rises cs l) (rises h.columns h.lawful) h.takes n t u e p);
    }

changed_can : (cs : ColumnList) → AreLawfulColumns cs → (n : List ℕ) (t : Shape) → type_in n cs ≡ Some t → (changes : List Row) → AreOfSome cs changes → (d : Data) → CanWiden d t → CanWiden (changed_value n changes d) t
changed_can cs l n t e [] h d k = k
changed_can cs l n t e (q ∷ qs) h d k = changed_can cs l n t e qs h.1 (unwrap_or (item_named n q) d) (by (item_named n q) refl)
  where
    by : (o : Option Data) → item_named n q ≡ o → CanWiden (unwrap_or o d) t
    by None f = k
    by (Some v) f = field_can cs l q h.0 n t e v f

own_can : (cs : ColumnList) (r : Row) → fields_fit (field_list r) cs ≡ true → (n : List ℕ) (t : Shape) → type_in n cs ≡ Some t → CanWiden (unwrap_or (item_named n r) blank) t
own_can cs r h n t e = by (item_named n r) (subst (FitsIn (item_named n r)) e (found_fits n r cs h))
  where
    by : (o : Option Data) → FitsIn o (Some t) → CanWiden (unwrap_or o blank) t
    by None k = record { from = t; fitting = refl; widens = same }
    by (Some d) k = record { from = t; fitting = k; widens = same }

-- a row of these columns can be changed
pub can_change : (cs : ColumnList) → AreLawfulColumns cs → (changes : List Row) → AreOfSome cs changes → (r : Row) → fields_fit (field_list r) cs ≡ true → CanChange cs changes r
can_change cs l changes h r f = go cs (λ n t e. e) (rises cs l)
  where
    go : (part : ColumnList) → ((n : List ℕ) (t : Shape) → type_in n part ≡ Some t → type_in n cs ≡ Some t) → Rises part → CanChange part changes r
    go no_columns inc k = tt
    go (column n t ds) inc k =
        let here : type_in n cs ≡ Some t = inc n t (rw (own_name n) refl) in
        (changed_can cs l n t here changes h (unwrap_or (item_named n r) blank) (own_can cs r f n t here), go ds (λ m u e. inc m u (rw (under_apart n ds k.0 m u e) e)) k.1)
