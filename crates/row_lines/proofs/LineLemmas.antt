-- Of the line of a row its cells are read.
use Rattle.std.proofs.Common.{◌≡◌, ◌∙◌, ℕ, ◌^◌, ◌<◌, ◌≤◌, true, false, ℤ, pos, negsuc, ◌+ℤ◌, ◌-ℤ◌, List, [], ◌∷◌, ap, arith, length, map, refl, subst, suc, take, unsigned_abs, zero}
use Rattle.std.proofs.lemmas.Int.{ints}
use Rattle.std.proofs.lemmas.List.{take_all}
use Rattle.std.proofs.lemmas.Nat.{from_be_bytes-to_be_bytes_4, from_be_bytes-to_be_bytes_8}
use Rattle.std.proofs.lemmas.Str.{chars-encodes}
use Rattle.std.specs.List.{AllByRecursion}
use Rattle.fx_types.specs.Days.{IsDay}
use Rattle.fx_types.specs.TypeView.{shape}
use Rattle.fx_types.specs.ValueView.{view}
use Rattle.fx_types.specs.Values.{Data, blank, number, text, boolean, date, rec, tab, fault}
use Rattle.fx_types.specs.declared.types.Ty.{Ty}
use Rattle.fx_types.specs.declared.types.Ty.TheVariants as ty
use Rattle.fx_types.specs.declared.values.Value.{Value}
use Rattle.fx_number.specs.Decimal.{IsInRange}
use Rattle.fx_core.specs.declared.schema.Column.{Column}
use Rattle.fx_value.specs.Fits.{fits_in}
use Rattle.fx_value.specs.Keys.{IsProper, key_bytes}
use Rattle.fx_value.specs.Order.{IsScalar}
use Rattle.row_queries.specs.TableRows.{AreCellsOf, value_at}
use Rattle.row_lines.specs.Bodies.{line_bytes}
use Rattle.row_lines.specs.FromBytes.{behind_piece, behind_pieces, cells_in, first_piece, piece_in, value_in}
use Rattle.row_lines.specs.Laws.{HasShortKey}
use Rattle.row_lines.proofs.PieceLemmas.{behind_piece-piece, first_piece-piece}

number_fits : (z : ℤ) → IsInRange z → unsigned_abs (z +ℤ pos (2 ^ 63)) < 2 ^ 64
number_fits (pos n) h = grind (arith, ints)
number_fits (negsuc n) h = grind (arith, ints)

number_back : (z : ℤ) → IsInRange z → pos (unsigned_abs (z +ℤ pos (2 ^ 63))) -ℤ pos (2 ^ 63) ≡ z
number_back (pos n) h = grind (arith, ints)
number_back (negsuc n) h = grind (arith, ints)

day_fits : (z : ℤ) → IsDay z → unsigned_abs (z +ℤ pos (2 ^ 31)) < 2 ^ 32
day_fits (pos n) h = grind (arith, ints)
day_fits (negsuc n) h = grind (arith, ints)

day_back : (z : ℤ) → IsDay z → pos (unsigned_abs (z +ℤ pos (2 ^ 31))) -ℤ pos (2 ^ 31) ≡ z
day_back (pos n) h = grind (arith, ints)
day_back (negsuc n) h = grind (arith, ints)

pub value_in-key_bytes : (t : Ty) (d : Data) → IsScalar d → fits_in d (shape t) ≡ true → IsProper d → value_in t (key_bytes d) ≡ d
value_in-key_bytes t blank s f p = refl
value_in-key_bytes t (rec fs) s f p = absurd s
value_in-key_bytes t (tab rs) s f p = absurd s
value_in-key_bytes t (fault k cs) s f p = absurd s
value_in-key_bytes ty.Number (number z) s f p =
    ap (λ n. number (pos n -ℤ pos (2 ^ 63))) (from_be_bytes-to_be_bytes_8 (unsigned_abs (z +ℤ pos (2 ^ 63))) (number_fits z p)) ∙ ap number (number_back z p)
value_in-key_bytes ty.Text (text cs) s f p = ap text (chars-encodes cs p)
value_in-key_bytes ty.Boolean (boolean true) s f p = refl
value_in-key_bytes ty.Boolean (boolean false) s f p = refl
value_in-key_bytes ty.Date (date z) s f p =
    ap (λ n. date (pos n -ℤ pos (2 ^ 31))) (from_be_bytes-to_be_bytes_4 (unsigned_abs (z +ℤ pos (2 ^ 31))) (day_fits z p)) ∙ ap date (day_back z p)
value_in-key_bytes _ _ s f p = cc

pub lines_tell : (cs : List Column) (ds : List Data) → AreCellsOf cs ds → AllByRecursion IsProper ds → AllByRecursion HasShortKey ds → cells_in cs (line_bytes ds) ≡ ds
lines_tell [] [] a p h = refl
lines_tell [] (d ∷ ds) a p h = absurd a
lines_tell (c ∷ cs) [] a p h = absurd a
lines_tell (c ∷ cs) (d ∷ ds) a p h =
    let body = line_bytes (d ∷ ds) in
    let key = key_bytes d in
    ap (λ bytes. value_in c.ty bytes ∷ cells_in cs (behind_piece body)) (first_piece-piece key (line_bytes ds) h.0)
    ∙ ap (λ bytes. value_in c.ty key ∷ cells_in cs bytes) (behind_piece-piece key (line_bytes ds) h.0)
    ∙ ap (λ e. e ∷ cells_in cs (line_bytes ds)) (value_in-key_bytes c.ty d a.0 a.1 p.0)
    ∙ ap (λ es. d ∷ es) (lines_tell cs ds a.2 p.1 h.1)

behind_pieces-behind : (place : ℕ) (bytes : List ℕ) → behind_piece (behind_pieces place bytes) ≡ behind_pieces place (behind_piece bytes)
behind_pieces-behind zero bytes = refl
behind_pieces-behind (suc place) bytes = ap behind_piece (behind_pieces-behind place bytes)

pub pieces_tell : (ds : List Data) (place : ℕ) → AllByRecursion HasShortKey ds → place < length ds → piece_in place (line_bytes ds) ≡ key_bytes (value_at ds place)
pieces_tell [] place h l = absurd (omega (arith, l))
pieces_tell (d ∷ ds) zero h l = first_piece-piece (key_bytes d) (line_bytes ds) h.0
pieces_tell (d ∷ ds) (suc place) h l =
    ap first_piece (behind_pieces-behind place (line_bytes (d ∷ ds)) ∙ ap (λ bytes. behind_pieces place bytes) (behind_piece-piece (key_bytes d) (line_bytes ds) h.0))
    ∙ pieces_tell ds place h.1 (omega (arith, l))

-- the cells of a line that was written value by value
pub line_tells : (cs : List Column) (values : List Value) (n : ℕ) (cells : List Data) (body : List ℕ) → map view values ≡ cells → length values ≤ n
    → body ≡ line_bytes (map view (take n values)) → AllByRecursion HasShortKey (map view (take n values)) → AreCellsOf cs cells → AllByRecursion IsProper cells → cells_in cs body ≡ cells
line_tells cs values n cells body e l b short fit proper =
    let whole : map view (take n values) ≡ cells = ap (λ vs. map view vs) (take_all n values l) ∙ e in
    ap (λ bytes. cells_in cs bytes) (b ∙ ap line_bytes whole) ∙ lines_tell cs cells fit proper (subst (AllByRecursion HasShortKey) whole short)
