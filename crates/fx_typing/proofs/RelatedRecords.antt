-- What stands behind a dot, and rows: the relation admits what the definition admits.
use Rattle.std.proofs.Common.{◌≡◌, ℕ, List, [], ◌∷◌, Bool, true, false, Option, Some, None, Ok, encode_utf8_all, refl, ap, subst, ◌∙◌, if◌then◌else◌}
use Rattle.fx_types.specs.Types.{Shape, blanks, numbers, texts, booleans, dates, records, tables, ColumnList, no_columns}
use Rattle.fx_types.specs.Values.{text}
use Rattle.fx_core.specs.declared.literals.Enumeration.{Enumeration}
use Rattle.fx_core.specs.declared.sources.Source.TheVariants as source
use Rattle.fx_core.specs.Literals.{has_member}
use Rattle.fx_core.specs.declared.names.ControlName.{ControlName}
use Rattle.fx_core.specs.declared.names.Names.{Names}
use Rattle.fx_core.specs.declared.names.Property.{Property}
use Rattle.fx_core.specs.Controls.{input_type}
use Rattle.fx_core.specs.SourceTypes.{item_type, property_of}
use Rattle.fx_core.specs.Term.{Term, of, nil, cons, const, read, dot, within}
use Rattle.fx_core.specs.ColumnLists.{field_in, and_then}
use Rattle.fx_typing.specs.Local.{value, coerced, by_way, put_first}
use Rattle.fx_typing.specs.Meaning.{Place, NameMeaning, valued, controlled, enumerated, is_chosen, is_input, written_or, property_read, input_read, control_read, member_of, known_field, dotted}
use Rattle.fx_typing.specs.Ways.{way}
use Rattle.fx_typing.specs.Builds.{rows_to, list_by, list_as, as_record, with_of}
use Rattle.fx_typing.specs.Parts.{JudgedPart, piece, meant}
use Rattle.fx_typing.specs.Typing.{dot_by}
use Rattle.fx_typing.specs.Functions.{IsNoTableType}
use Rattle.fx_typing.specs.Records.{left_meaning, written_property, Behind, field, chosen, input, property, unwritten, member, RowsBecome, no_rows, one_row, Rows, of_rows, IsRecord, a_record, a_blank_record}
use Rattle.fx_typing.proofs.RelatedFunctions.{becomes_ok, becomes_goes}
use Rattle.fx_typing.proofs.RelatedSteps.{ok_is, then_goes, put_first_ok, if_true, if_false}
use Rattle.fx_typing.proofs.Operators.{then_ok}

-- ---- behind a dot
module _ (n : Names) (x : List ℕ) where
  known_ok : (c : Term) (cs : ColumnList) (o : Option Shape) (y : Term × Shape) → field_in x cs ≡ o → known_field c x o ≡ Ok y → Behind n x (valued c (records cs)) y
  known_ok c cs (Some t) y i e = subst (Behind n x (valued c (records cs))) (ok_is (of (dot x) (cons c nil), t) y e) (field i)
  known_ok c cs None y i e = absurd cc

  member_ok : (e : Enumeration) (b : Bool) (y : Term × Shape) → has_member e (encode_utf8_all x) ≡ b → member_of b x ≡ Ok y → Behind n x (enumerated e) y
  member_ok e true y i h = subst (Behind n x (enumerated e)) (ok_is (of (const (text x)) nil, texts) y h) (member i)
  member_ok e false y i h = absurd cc

  module _ (k : ℕ) (c : ControlName) (free : c.gallery ≡ None) where
    input_ok : (o : Option Shape) (y : Term × Shape) → is_chosen c.kind (encode_utf8_all x) ≡ false → is_input c.kind (encode_utf8_all x) ≡ true →
        input_type c.kind ≡ o → input_read k o ≡ Ok y → Behind n x (controlled k c) y
    input_ok (Some t) y i j l e = subst (Behind n x (controlled k c)) (ok_is (of (read (source.Input k)) nil, t) y e) (input free i j l)
    input_ok None y i j l e = absurd cc

    written_ok : (o : Option (ℕ × Property)) (t : Shape) (y : Term × Shape) → is_chosen c.kind (encode_utf8_all x) ≡ false → is_input c.kind (encode_utf8_all x) ≡ false →
        property_of x c ≡ Some t → written_property n k x ≡ o → written_or c.kind x t o ≡ y → Behind n x (controlled k c) y
    written_ok (Some (i, r)) t y a b l w e = subst (Behind n x (controlled k c)) e (property free a b l w)
    written_ok None t y a b l w e = subst (Behind n x (controlled k c)) e (unwritten free a b l w)

    property_ok : (o : Option Shape) (y : Term × Shape) → is_chosen c.kind (encode_utf8_all x) ≡ false → is_input c.kind (encode_utf8_all x) ≡ false →
        property_of x c ≡ o → property_read n k c x o ≡ Ok y → Behind n x (controlled k c) y
    property_ok (Some t) y a b l e = written_ok (written_property n k x) t y a b l refl (ok_is (written_or c.kind x t (written_property n k x)) y e)
    property_ok None y a b l e = absurd cc

    by_input : (b : Bool) (y : Term × Shape) → is_chosen c.kind (encode_utf8_all x) ≡ false → is_input c.kind (encode_utf8_all x) ≡ b →
        (if b then input_read k (input_type c.kind) else property_read n k c x (property_of x c)) ≡ Ok y → Behind n x (controlled k c) y
    by_input true y a i e = input_ok (input_type c.kind) y a i refl e
    by_input false y a i e = property_ok (property_of x c) y a i refl e

    by_chosen : (b : Bool) (y : Term × Shape) → is_chosen c.kind (encode_utf8_all x) ≡ b →
        (if b then Ok (of (read (source.Chosen k)) nil, item_type c)
        else (if is_input c.kind (encode_utf8_all x) then input_read k (input_type c.kind)
        else property_read n k c x (property_of x c))) ≡ Ok y → Behind n x (controlled k c) y
    by_chosen true y i e = subst (Behind n x (controlled k c)) (ok_is (of (read (source.Chosen k)) nil, item_type c) y e) (chosen free i)
    by_chosen false y i e = by_input (is_input c.kind (encode_utf8_all x)) y i refl e

  control_ok : (k : ℕ) (c : ControlName) (g : Option ℕ) (y : Term × Shape) → c.gallery ≡ g → control_read n k c g x ≡ Ok y → Behind n x (controlled k c) y
  control_ok k c (Some g) y i e = absurd cc
  control_ok k c None y i e = by_chosen k c i (is_chosen c.kind (encode_utf8_all x)) y refl e

  pub behind_ok : (m : NameMeaning) (y : Term × Shape) → dotted n x (Some m) ≡ Ok y → Behind n x m y
  behind_ok (valued c (records cs)) y e = known_ok c cs (field_in x cs) y refl e
  behind_ok (controlled k c) y e = control_ok k c c.gallery y refl e
  behind_ok (enumerated v) y e = member_ok v (has_member v (encode_utf8_all x)) y refl e
  behind_ok m y e = absurd cc

  pub dot_ok : (p : Place) → p.names ≡ n → (qs : List JudgedPart) (y : Term × Shape) → dot_by p x qs ≡ Ok y →
      (q : JudgedPart) × (qs ≡ q ∷ []) × (m : NameMeaning) × (left_meaning q ≡ Some m) × (dotted p.names x (Some m) ≡ Ok y)
  dot_ok p k (piece (value a c t) ∷ []) y e = (piece (value a c t), refl, valued c t, refl, e)
  dot_ok p k (meant m ∷ []) y e = (meant m, refl, m, refl, e)
  dot_ok p k qs y e = absurd cc

  free_reads : (k : ℕ) (c : ControlName) (y : Term × Shape) → c.gallery ≡ None → control_read n k c None x ≡ Ok y → control_read n k c c.gallery x ≡ Ok y
  free_reads k c y i e = ap (λ g. control_read n k c g x) i ∙ e

  pub behind_goes : (m : NameMeaning) (y : Term × Shape) → Behind n x m y → dotted n x (Some m) ≡ Ok y
  behind_goes m y (field {c = c} e) = ap (known_field c x) e
  behind_goes m y (chosen {k = k} {c = c} free i) = free_reads k c y free (if_true (is_chosen c.kind (encode_utf8_all x)) _ _ i)
  behind_goes m y (input {k = k} {c = c} free i j l) =
      free_reads k c y free (if_false (is_chosen c.kind (encode_utf8_all x)) _ _ i ∙ if_true (is_input c.kind (encode_utf8_all x)) _ _ j ∙ ap (input_read k) l)
  behind_goes m y (property {k = k} {c = c} {t = t} free i j l w) =
      free_reads k c y free (if_false (is_chosen c.kind (encode_utf8_all x)) _ _ i ∙ if_false (is_input c.kind (encode_utf8_all x)) _ _ j
      ∙ ap (property_read n k c x) l ∙ ap (λ o. Ok (written_or c.kind x t o)) w)
  behind_goes m y (unwritten {k = k} {c = c} {t = t} free i j l w) =
      free_reads k c y free (if_false (is_chosen c.kind (encode_utf8_all x)) _ _ i ∙ if_false (is_input c.kind (encode_utf8_all x)) _ _ j
      ∙ ap (property_read n k c x) l ∙ ap (λ o. Ok (written_or c.kind x t o)) w)
  behind_goes m y (member e) = ap (λ b. member_of b x) e

-- ---- rows
rows_ok : (t : Shape) (xs ys : List (Term × Shape)) → rows_to t xs ≡ Ok ys → RowsBecome t xs ys
rows_ok t [] ys e = subst (RowsBecome t []) (ok_is [] ys e) no_rows
rows_ok t ((c, u) ∷ xs) ys e =
    let a = then_ok (by_way (way u t) c t) (λ y. put_first y (rows_to t xs)) ys e in
    let b = becomes_ok (way u t) c t a.0 a.1 in
    let k = put_first_ok a.0 (rows_to t xs) ys a.2 in
    subst (RowsBecome t ((c, u) ∷ xs)) (ap (λ z. z ∷ k.0) b.2 ∙ k.2) (one_row b.1 (rows_ok t xs k.0 k.1))

rows_go : (t : Shape) (xs ys : List (Term × Shape)) → RowsBecome t xs ys → rows_to t xs ≡ Ok ys
rows_go t xs ys no_rows = refl
rows_go t xs ys (one_row {c = c} {d = d} {u = u} {xs = others} {ys = after} b r) =
    then_goes (by_way (way u t) c t) (λ y. put_first y (rows_to t others)) (d, t) ((d, t) ∷ after)
    (becomes_goes (way u t) c t d b) (ap (put_first (d, t)) (rows_go t others after r))

rows_of_type : (t : Shape) (xs : List (Term × Shape)) (y : Term × Shape) (o : Option Shape) → o ≡ Some t → IsNoTableType t →
    and_then (rows_to t xs) (λ ys. Ok (list_by t ys)) ≡ Ok y → Rows o xs y
rows_of_type t xs y o i j e =
    let a = then_ok (rows_to t xs) (λ ys. Ok (list_by t ys)) y e in
    subst (Rows o xs) (ok_is (list_by t a.0) y a.2) (of_rows i j (rows_ok t xs a.0 a.1))

pub list_ok : (o : Option Shape) (xs : List (Term × Shape)) (y : Term × Shape) → list_as o xs ≡ Ok y → Rows o xs y
list_ok None xs y e = absurd cc
list_ok (Some (tables cs)) xs y e = absurd cc
list_ok (Some blanks) xs y e = rows_of_type blanks xs y (Some blanks) refl tt e
list_ok (Some numbers) xs y e = rows_of_type numbers xs y (Some numbers) refl tt e
list_ok (Some texts) xs y e = rows_of_type texts xs y (Some texts) refl tt e
list_ok (Some booleans) xs y e = rows_of_type booleans xs y (Some booleans) refl tt e
list_ok (Some dates) xs y e = rows_of_type dates xs y (Some dates) refl tt e
list_ok (Some (records cs)) xs y e = rows_of_type (records cs) xs y (Some (records cs)) refl tt e

no_table_list : (t : Shape) (xs ys : List (Term × Shape)) → IsNoTableType t → rows_to t xs ≡ Ok ys → list_as (Some t) xs ≡ Ok (list_by t ys)
no_table_list (tables cs) xs ys i e = absurd i
no_table_list blanks xs ys i e = ap (λ r. and_then r (λ zs. Ok (list_by blanks zs))) e
no_table_list numbers xs ys i e = ap (λ r. and_then r (λ zs. Ok (list_by numbers zs))) e
no_table_list texts xs ys i e = ap (λ r. and_then r (λ zs. Ok (list_by texts zs))) e
no_table_list booleans xs ys i e = ap (λ r. and_then r (λ zs. Ok (list_by booleans zs))) e
no_table_list dates xs ys i e = ap (λ r. and_then r (λ zs. Ok (list_by dates zs))) e
no_table_list (records cs) xs ys i e = ap (λ r. and_then r (λ zs. Ok (list_by (records cs) zs))) e

pub list_goes : (o : Option Shape) (xs : List (Term × Shape)) (y : Term × Shape) → Rows o xs y → list_as o xs ≡ Ok y
list_goes o xs y (of_rows {t = t} {ys = ys} i j r) = ap (λ z. list_as z xs) i ∙ no_table_list t xs ys j (rows_go t xs ys r)

-- ---- a record for a scope
record_ok : (r : Term × Shape) (k : Term) → as_record r ≡ Ok k → IsRecord r k
record_ok (c, records cs) k e = subst (IsRecord (c, records cs)) (ok_is c k e) a_record
record_ok (c, blanks) k e = subst (IsRecord (c, blanks)) (ok_is (coerced c (records no_columns)) k e) a_blank_record
record_ok r k e = absurd cc

record_goes : (r : Term × Shape) (k : Term) → IsRecord r k → as_record r ≡ Ok k
record_goes r k a_record = refl
record_goes r k a_blank_record = refl

pub with_ok : (xs : List (Term × Shape)) (y : Term × Shape) → with_of xs ≡ Ok y →
    (r : Term × Shape) × (f : Term × Shape) × (k : Term) × (xs ≡ r ∷ f ∷ []) × IsRecord r k × ((of within (cons k (cons f.0 nil)), f.1) ≡ y)
with_ok (r ∷ f ∷ []) y e =
    let a = then_ok (as_record r) (λ c. Ok (of within (cons c (cons f.0 nil)), f.1)) y e in
    (r, f, a.0, refl, record_ok r a.0 a.1, ok_is (of within (cons a.0 (cons f.0 nil)), f.1) y a.2)
with_ok xs y e = absurd cc

pub with_goes : (r f : Term × Shape) (k : Term) → IsRecord r k → with_of (r ∷ f ∷ []) ≡ Ok (of within (cons k (cons f.0 nil)), f.1)
with_goes r f k i = ap (λ z. and_then z (λ c. Ok (of within (cons c (cons f.0 nil)), f.1))) (record_goes r k i)
