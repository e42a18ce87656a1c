-- Records that are written one after another.
use Rattle.std.proofs.Common.{◌≡◌, ◌≢◌, ◌∙◌, ℕ, List, [], ◌∷◌, ◌++◌, map, Option, Some, None, sym, ap, subst, append_assoc, true}
use Rattle.std.specs.Prelude.{Result, Ok, Err, OnOk}
use Rattle.std.specs.Result.{is_ok}
use Rattle.std.specs.Io.KnownBytes.{Appends}
use Rattle.std.proofs.lemmas.List.{append-nil, map-append}
use Rattle.std.proofs.lemmas.Grind.{flat_map-append}
use Rattle.csv.specs.Writing.{default_writer, row_text}
use Rattle.csv.specs.declared.writer.Writer.{Writer}
use Rattle.csv.specs.declared.writer.QuoteStyle.TheVariants as style
use Rattle.csv.specs.declared.writer.WriterBuilder.{WriterBuilder}
use Rattle.row_queries.specs.declared.rows.Row.{Row}
use Rattle.row_files.specs.Pages.{row_fields}
use Rattle.row_files.specs.Records.{Fields, HasText, WritesOn, records_text}

pub appended : (o : Option (List ℕ)) (xs bs : List ℕ) → Appends (Some xs) o bs → o ≡ Some (xs ++ bs)
appended None xs bs h = absurd h
appended (Some ys) xs bs h = ap Some h

pub on_success : {T E : Type 0} (r : Result T E) (P : Type 0) → is_ok r ≡ true → OnOk r P → P
on_success (Ok x) P e h = h
on_success (Err x) P e h = absurd cc

-- the default style looks at no numbers
pub plain : (w : WriterBuilder) → w ≡ default_writer → w.style ≢ style.NonNumeric
plain w e = λ n. let k : default_writer.style ≡ style.NonNumeric = ap (λ (x : WriterBuilder). x.style) (sym e) ∙ n in cc

module _ {W : Type 0} (contents : W → Option (List ℕ)) where
  pub writes_none : (w : Writer W) → WritesOn contents w w []
  writes_none w bytes h = subst (HasText contents w) (sym (append-nil bytes)) h

  pub writes_more : (a b d : Writer W) (xs ys : List Fields) → WritesOn contents a b xs → WritesOn contents b d ys → WritesOn contents a d (xs ++ ys)
  writes_more a b d xs ys f g bytes h =
      subst (HasText contents d)
      (append_assoc bytes (records_text xs) (records_text ys) ∙ ap (λ l. bytes ++ l) (sym (flat_map-append (row_text default_writer) xs ys)))
      (g (bytes ++ records_text xs) (f bytes h))

  -- one row more
  pub writes_row : (a b d : Writer W) (rows : List Row) (r : Row) (fields : Fields) → WritesOn contents a b (map row_fields rows) → WritesOn contents b d (fields ∷ []) → fields ≡ row_fields r
      → WritesOn contents a d (map row_fields (rows ++ r ∷ []))
  writes_row a b d rows r fields f g e =
      subst (WritesOn contents a d) (ap (λ x. map row_fields rows ++ x ∷ []) e ∙ sym (map-append row_fields rows (r ∷ []))) (writes_more a b d (map row_fields rows) (fields ∷ []) f g)
