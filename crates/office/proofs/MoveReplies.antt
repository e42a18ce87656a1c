-- Refusals of moves have the detail of their number.
use Rattle.std.proofs.Common.{◌≡◌, ℕ, ◌<◌, List, [], ◌∷◌, length, Option, Some, None, refl, sym, ◌∙◌, subst}
use Rattle.std.specs.Prelude.{IsSomeAnd, option_map, slice_get}
use Rattle.std.proofs.lemmas.Option.{slice_get-map, slice_get_within}
use Rattle.fx_core.specs.declared.schema.Column.{Column}
use Rattle.fx_core.specs.declared.schema.TableShape.{TableShape}
use Rattle.row_keeper.specs.Kept.{columns_shaped}
use Rattle.row_keeper.specs.MovedTables.{IsReshaped, IsRowRule}
use Rattle.row_keeper.specs.declared.rows.Reshaped.TheVariants.{Broken}
use Rattle.row_keeper.specs.declared.rows.RowRefusal.{RowRefusal}
use Rattle.app_moves.specs.Broken.{broken_move, mistyped_column}
use Rattle.app_moves.specs.Moves.{or_else, source_of}
use Rattle.app_moves.specs.Refusals.{broken_refusal, mistyped_refusal, moves_refusal, row_refusal, rows_refusal, type_refusal}
use Rattle.app_moves.specs.declared.moves.Move.{Move}
use Rattle.view_text.specs.RefusalText.{Fits}
use Rattle.view_text.specs.declared.refused.Refusal.{Refusal}

abbrev IsFit : Refusal → Type 0
IsFit r = Fits r.code r.detail

either_fits : (a b : Option Refusal) (r : Refusal) → ((x : Refusal) → a ≡ Some x → IsFit x) → ((x : Refusal) → b ≡ Some x → IsFit x) → or_else a b ≡ Some r → IsFit r
either_fits None b r f g e = g r e
either_fits (Some x) b r f g e = f r e

broken_fits : (o : Option Move) (r : Refusal) → option_map broken_refusal o ≡ Some r → IsFit r
broken_fits None r e = absurd cc
broken_fits (Some m) r e = let is : broken_refusal m ≡ r = cc in subst IsFit is refl

typed_fits : (new : TableShape) (o : Option Column) (r : Refusal) → option_map (type_refusal new) o ≡ Some r → IsFit r
typed_fits new None r e = absurd cc
typed_fits new (Some c) r e = let is : type_refusal new c ≡ r = cc in subst IsFit is refl

mistyped_fits : (olds : List TableShape) (moves : List Move) (news : List TableShape) (r : Refusal) → mistyped_refusal olds moves news ≡ Some r → IsFit r
mistyped_fits olds moves [] r e = absurd cc
mistyped_fits olds moves (n ∷ ns) r e =
    either_fits (option_map (type_refusal n) (mistyped_column moves (source_of olds moves n.name) n)) (mistyped_refusal olds moves ns) r
    (λ x f. typed_fits n (mistyped_column moves (source_of olds moves n.name) n) x f) (λ x f. mistyped_fits olds moves ns x f) e

pub moves_fit_reply : (olds news : List TableShape) (moves : List Move) (r : Refusal) → moves_refusal olds news moves ≡ Some r → Fits r.code r.detail
moves_fit_reply olds news moves r e =
    either_fits (option_map broken_refusal (broken_move olds news moves)) (mistyped_refusal olds moves news) r
    (λ x f. broken_fits (broken_move olds news moves) x f) (λ x f. mistyped_fits olds moves news x f) e

-- that of moved rows too
pub rows_fit_reply : (news : List TableShape) (k : ℕ) (r : RowRefusal) (x : Refusal) → Some x ≡ rows_refusal news k r → Fits x.code x.detail
rows_fit_reply news k r x e = by (slice_get news k) e
  where
    by : (o : Option TableShape) → Some x ≡ option_map (λ (new : TableShape). row_refusal new r) o → Fits x.code x.detail
    by None f = absurd cc
    by (Some new) f = let is : row_refusal new r ≡ x = cc in subst IsFit is refl

-- the table of which a keeper says that a moved row breaks a rule in it is there
pub table_there : (tables : List TableShape) (k : ℕ) (r : RowRefusal) → IsReshaped (columns_shaped tables) (Broken k r) → k < length tables
table_there tables k r h = by (slice_get tables k) refl (subst (λ (o : Option (List Column)). IsSomeAnd o (λ (cs : List Column). IsRowRule cs r)) (slice_get-map (λ (t : TableShape). t.columns) tables k) h)
  where
    by : (o : Option TableShape) → slice_get tables k ≡ o → IsSomeAnd (option_map (λ (t : TableShape). t.columns) o) (λ (cs : List Column). IsRowRule cs r) → k < length tables
    by None e f = absurd f
    by (Some t) e f = slice_get_within tables k t e

-- the refusal of lists that are read is that of these lists
pub refusal_is : (olds a news b : List TableShape) (moves c : List Move) (x o : Option Refusal) → a ≡ olds → b ≡ news → c ≡ moves → x ≡ moves_refusal a b c → x ≡ o → moves_refusal olds news moves ≡ o
refusal_is olds a news b moves c x o e f g is same =
    let whole : moves_refusal a b c ≡ moves_refusal olds news moves = λ i. moves_refusal (e i) (f i) (g i) in
    sym whole ∙ sym is ∙ same
