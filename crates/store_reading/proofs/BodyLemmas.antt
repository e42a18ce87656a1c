-- The body of one row's line, by what was made of the row.
use Rattle.std.proofs.Common.{◌≡◌, ◌∙◌, ℕ, List, [], ◌∷◌, map, Option, None, Some, ap, refl, sym}
use Rattle.std.specs.Prelude.{option_map, slice_get}
use Rattle.sqlite.specs.Order as sql
use Rattle.sqlite.specs.declared.types.Value.TheVariants.{Blob}
use Rattle.sql_meanings.specs.Lines.{LinesOf, line_at}
use Rattle.row_changes.specs.Moves.{body_now}
use Rattle.row_changes.specs.Overlay.{AreOf, body_at, made_of, overlay, shown}
use Rattle.row_changes.specs.declared.table.Made.{Made}
use Rattle.row_changes.specs.declared.table.TableChanges.{TableChanges}
use Rattle.row_changes.proofs.MoveLemmas.{made_tells}

pub made_body : (c : TableChanges) (kept : LinesOf) (id : ℕ) (m : Made) (now : Option (List ℕ)) → AreOf kept c → shown m ≡ made_of c id → shown m ≡ Some now → body_at id (overlay c kept) ≡ now
made_body c kept id m now are made is = made_tells c kept id are ∙ ap (λ o. body_now o (body_at id kept)) (sym made ∙ is)

pub same_body : (c : TableChanges) (kept : LinesOf) (id : ℕ) (m : Made) → AreOf kept c → shown m ≡ made_of c id → shown m ≡ None → body_at id (overlay c kept) ≡ body_at id kept
same_body c kept id m are made is = made_tells c kept id are ∙ ap (λ o. body_now o (body_at id kept)) (sym made ∙ is)

-- ---- the first of some lines

pub no_line : (lines : List sql.Row) (xs : LinesOf) → slice_get lines 0 ≡ None → lines ≡ map line_at xs → option_map (λ (x : ℕ × List ℕ). x.1) (slice_get xs 0) ≡ None
no_line lines [] none is = refl
no_line lines (x ∷ xs) none is = absurd (let first : slice_get lines 0 ≡ Some (line_at x) = ap (λ ls. slice_get ls 0) is in cc)

pub one_line : (lines : List sql.Row) (line : sql.Row) (xs : LinesOf) (o : Option (List ℕ)) → slice_get lines 0 ≡ Some line → lines ≡ map line_at xs → ((x : ℕ × List ℕ) → line ≡ line_at x → o ≡ Some x.1)
    → o ≡ option_map (λ (x : ℕ × List ℕ). x.1) (slice_get xs 0)
one_line lines line [] o some is told = absurd (let none : slice_get lines 0 ≡ None = ap (λ ls. slice_get ls 0) is in cc)
one_line lines line (x ∷ xs) o some is told = (let first : slice_get lines 0 ≡ Some (line_at x) = ap (λ ls. slice_get ls 0) is in let same : line ≡ line_at x = cc in told x same)

pub body_read : (line : sql.Row) (body : List ℕ) (x : ℕ × List ℕ) → sql.column line 1 ≡ Blob body → line ≡ line_at x → Some body ≡ Some x.1
body_read line body x bytes is = (let blob : Blob body ≡ Blob x.1 = sym bytes ∙ ap (λ r. sql.column r 1) is in cc)
