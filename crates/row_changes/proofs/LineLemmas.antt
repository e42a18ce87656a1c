-- Lines that a transaction has made, handed out one after another.
use Rattle.std.proofs.Common.{◌≡◌, ◌∙◌, ℕ, suc, ◌+◌, ◌<◌, Bool, List, [], ◌∷◌, ◌++◌, filter, get_or, length, take, Option, ap, append-nil, append_assoc, arith, subst, sym}
use Rattle.std.specs.Prelude.{Vec}
use Rattle.std.specs.declared.alloc.Global.{Global}
use Rattle.std.proofs.lemmas.List.{length-take-le, take_more}
use Rattle.std.proofs.lemmas.List.Concat.{flat_map-append}
use Rattle.std.proofs.lemmas.List.Elements.{filter-append}
use Rattle.sql_meanings.specs.Lines.{LinesOf}
use Rattle.row_changes.specs.Overlay.{bytes_in, line_under, lines_from, lines_of_changes, made_lines}
use Rattle.row_changes.specs.declared.table.Change.{Change}
use Rattle.row_changes.specs.declared.table.TableChanges.{TableChanges}
use Rattle.row_changes.proofs.OverlayLemmas.{lines_from-append}

module _ (p : ℕ × List ℕ → Bool) (start before now : LinesOf) where
  joined : (these more all : LinesOf) → all ≡ these ++ more → before ≡ start ++ filter p these → now ≡ before ++ filter p more → now ≡ start ++ filter p all
  joined these more all e b n =
      n ∙ ap (λ l. l ++ filter p more) b ∙ append_assoc start (filter p these) (filter p more) ∙ ap (λ l. start ++ l) (sym (ap (λ l. filter p l) e ∙ filter-append p these more))

  pub one_change : (es : List (ℕ × Change)) (e : ℕ × Change) → before ≡ start ++ filter p (lines_of_changes es) → now ≡ before ++ filter p (line_under e.0 (bytes_in e.1.now)) → now ≡ start ++ filter p (lines_of_changes (es ++ e ∷ []))
  one_change es e b n =
      joined (lines_of_changes es) (line_under e.0 (bytes_in e.1.now)) (lines_of_changes (es ++ e ∷ []))
      (flat_map-append (λ (f : ℕ × Change). line_under f.0 (bytes_in f.1.now)) es (e ∷ []) ∙ ap (λ l. lines_of_changes es ++ l) (append-nil (line_under e.0 (bytes_in e.1.now)))) b n

  pub one_added : (first id : ℕ) (bodies : List (Option (Vec ℕ Global))) (body : Option (Vec ℕ Global)) → id ≡ suc first + length bodies → before ≡ start ++ filter p (lines_from (suc first) bodies)
      → now ≡ before ++ filter p (line_under id (bytes_in body)) → now ≡ start ++ filter p (lines_from (suc first) (bodies ++ body ∷ []))
  one_added first id bodies body e b n =
      joined (lines_from (suc first) bodies) (line_under id (bytes_in body)) (lines_from (suc first) (bodies ++ body ∷ []))
      (lines_from-append (suc first) bodies (body ∷ []) ∙ ap (λ l. lines_from (suc first) bodies ++ l) (append-nil (line_under (suc first + length bodies) (bytes_in body)))
      ∙ ap (λ k. lines_from (suc first) bodies ++ line_under k (bytes_in body)) (sym e)) b n

-- both parts of what was made
pub both_parts : (p : ℕ × List ℕ → Bool) (t : TableChanges) (some all : LinesOf) → some ≡ [] ++ filter p (lines_of_changes t.changed.entries) → all ≡ some ++ filter p (lines_from (suc t.first) t.added.items) → all ≡ filter p (made_lines t)
both_parts p t some all s a =
    a ∙ ap (λ l. l ++ filter p (lines_from (suc t.first) t.added.items)) s ∙ sym (filter-append p (lines_of_changes t.changed.entries) (lines_from (suc t.first) t.added.items))

-- one body more of those that were put, in a loop over them
pub added_step : (p : ℕ × List ℕ → Bool) (start before now : LinesOf) (first last i : ℕ) (given bodies : List (Option (Vec ℕ Global))) (body : Option (Vec ℕ Global)) → given ≡ bodies → i < length given → body ≡ get_or given i body → last ≡ first + i
    → before ≡ start ++ filter p (lines_from (suc first) (take i bodies)) → now ≡ before ++ filter p (line_under (last + 1) (bytes_in body)) → now ≡ start ++ filter p (lines_from (suc first) (take (i + 1) bodies))
added_step p start before now first last i given bodies body same l item counted b n =
    let short : i < length bodies = subst (λ (xs : List (Option (Vec ℕ Global))). i < length xs) same l in
    let here : body ≡ get_or bodies i body = item ∙ ap (λ (xs : List (Option (Vec ℕ Global))). get_or xs i body) same in
    let number : last + 1 ≡ suc first + length (take i bodies) = ap (λ n. n + 1) counted ∙ omega arith ∙ ap (λ n. suc first + n) (sym (length-take-le i bodies (omega (arith, short)))) in
    subst (λ (xs : List (Option (Vec ℕ Global))). now ≡ start ++ filter p (lines_from (suc first) xs)) (ap (λ x. take i bodies ++ x ∷ []) here ∙ sym (take_more bodies i body short))
    (one_added p start before now first (last + 1) (take i bodies) body number b n)
