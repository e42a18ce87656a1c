-- The law of the one rule, for parts that were judged where a row puts them.
use Rattle.std.proofs.Common.{◌≡◌, ℕ, suc, ◌++◌, List, [], ◌∷◌, Bool, true, false, ◌&&◌, ◌||◌, ◌%◌, nat_eq, length, Result, Ok, Err, refl, ap, sym, subst, ◌∙◌, inl, inr, if◌then◌else◌}
use Rattle.std.specs.Prelude.{Option, Some, None}
use Rattle.std.proofs.lemmas.Bool.{and_parts, or_cases}
use Rattle.fx_types.specs.Types.{Shape, blanks, tables, no_columns}
use Rattle.fx_core.specs.declared.functions.Form.{Form}
use Rattle.fx_core.specs.declared.functions.Form.TheVariants as forms
use Rattle.fx_core.specs.declared.functions.Fun.{Fun}
use Rattle.fx_core.specs.declared.functions.Fun.TheVariants as fun
use Rattle.fx_core.specs.declared.rows.Ending.{Ending}
use Rattle.fx_core.specs.declared.rows.Ending.TheVariants as ending
use Rattle.fx_core.specs.declared.rows.Row.{Row}
use Rattle.fx_core.specs.declared.rows.Takes.{Takes}
use Rattle.fx_core.specs.declared.rows.Takes.TheVariants as takes
use Rattle.fx_core.specs.Rows.{row_of, form_row, inner_at, ended_at, takes_at, takes_count}
use Rattle.fx_core.specs.Term.{Term, Top, form}
use Rattle.fx_core.specs.ColumnLists.{and_then}
use Rattle.fx_typing.specs.Local.{Piece, value, label, coerced, stand, branches, common_of, answer_by, made_as, made_by, node_made, formed}
use Rattle.fx_typing.specs.Meaning.{Place}
use Rattle.fx_typing.specs.WellTyped.{Context, head_of, PartScope, standing_of, row_type, context_for}
use Rattle.fx_typing.proofs.Rules.{Typed, PartsTyped, Agrees, Goes, function_typed, form_typed}
use Rattle.fx_typing.specs.Parts.{JudgedPart, piece, meant, target, assigned, Setting, pieces}
use Rattle.fx_typing.specs.Typing.{context_of}
use Rattle.fx_typing.proofs.Frame.{PartTyped}
use Rattle.fx_typing.proofs.Places.{stood, PartsStand, first_stood, is_flat_place, flat_stood, flat_context, is_bound, piece_shape, row_stood, row_context, pieces_length, part_piece, to_pieces}

pub length_grows : {A : Type 0} (xs : List A) (x : A) → length (xs ++ x ∷ []) ≡ suc (length xs)
length_grows [] x = refl
length_grows (y ∷ xs) x = ap suc (length_grows xs x)

-- rows whose parts all stand where the whole does, save for what is caught; and rows over a table
abbrev pub is_flat_at : Takes → Bool
is_flat_at k = is_flat_place (standing_of k)

abbrev pub is_flat : Row → Bool
is_flat r = is_flat_at r.first && (is_flat_at r.second && (is_flat_at r.third && is_flat_at r.fourth))

abbrev pub is_table : Takes → Bool
is_table takes.Table = true
is_table k = false

-- a row whose last place is like the ones before
abbrev pub ends_alike : Ending → Bool
ends_alike ending.Branch = false
ends_alike e = true

abbrev pub is_over : Row → Bool
is_over r = is_table r.first && ends_alike r.ending

abbrev pub is_usual : Row → Bool
is_usual r = is_flat r || is_over r

pub function_usual : (f : Fun) → is_usual (row_of f) ≡ true
function_usual fun.AddNumbers = refl
function_usual f = refl

pub form_usual : (f : Form) → is_usual (form_row f) ≡ true
form_usual forms.All = refl
form_usual f = refl

-- what holds of the four places of a row, and of a branch, holds of every place
choose : (Holds : Takes → Type 0) (b : Bool) (x y : Takes) → Holds x → Holds y → Holds (if b then x else y)
choose Holds true x y h k = h
choose Holds false x y h k = k

inner_holds : (Holds : Takes → Type 0) (r : Row) (i : ℕ) → Holds r.first → Holds r.second → Holds r.third → Holds r.fourth → Holds (inner_at r i)
inner_holds Holds r i a b c d =
    choose Holds (nat_eq i 0) r.first (if nat_eq i 1 then r.second else (if nat_eq (i % 2) 0 then r.third else r.fourth)) a
    (choose Holds (nat_eq i 1) r.second (if nat_eq (i % 2) 0 then r.third else r.fourth) b
    (choose Holds (nat_eq (i % 2) 0) r.third r.fourth c d))

ended_holds : (Holds : Takes → Type 0) (e : Ending) (r : Row) (n i : ℕ) → Holds (inner_at r i) → Holds takes.Branch → Holds (ended_at e r n i)
ended_holds Holds ending.Branch r n i h k = choose Holds (nat_eq (suc i) n) takes.Branch (inner_at r i) k h
ended_holds Holds ending.Open r n i h k = h
ended_holds Holds ending.Whole r n i h k = h

pub each_place : (Holds : Takes → Type 0) (r : Row) (n i : ℕ) → Holds r.first → Holds r.second → Holds r.third → Holds r.fourth →
    Holds takes.Branch → Holds (takes_at r n i)
each_place Holds r n i a b c d k = ended_holds Holds r.ending r n i (inner_holds Holds r i a b c d) k

pub flat_place : (r : Row) (n i : ℕ) → is_flat r ≡ true → is_flat_place (standing_of (takes_at r n i)) ≡ true
flat_place r n i e =
    let a = and_parts (is_flat_at r.first) (is_flat_at r.second && (is_flat_at r.third && is_flat_at r.fourth)) e in
    let b = and_parts (is_flat_at r.second) (is_flat_at r.third && is_flat_at r.fourth) a.1 in
    let c = and_parts (is_flat_at r.third) (is_flat_at r.fourth) b.1 in
    each_place (λ k. is_flat_at k ≡ true) r n i a.0 b.0 c.0 c.1 refl

alike_place : (e : Ending) (r : Row) (n i : ℕ) → ends_alike e ≡ true → ended_at e r n i ≡ inner_at r i
alike_place ending.Branch r n i h = absurd cc
alike_place ending.Open r n i h = refl
alike_place ending.Whole r n i h = refl

pub inner_place : (r : Row) (n i : ℕ) → ends_alike r.ending ≡ true → takes_at r n i ≡ inner_at r i
inner_place r n i h = alike_place r.ending r n i h

table_only : (k : Takes) → is_table k ≡ true → k ≡ takes.Table
table_only takes.Table e = refl
table_only k e = absurd cc

over_first : (r : Row) (n : ℕ) → is_over r ≡ true → takes_at r n 0 ≡ takes.Table
over_first r n e =
    let a = and_parts (is_table r.first) (ends_alike r.ending) e in inner_place r n 0 a.1 ∙ table_only r.first a.0

unbound : (k : Takes) → is_bound (standing_of k) ≡ false
unbound takes.Table = refl
unbound k = refl

-- the law for a head with a row
abbrev RowRule : Row → Top → Context → List Piece → Term × Shape → Type 1
RowRule r h c ps x =
    (Inv : List Piece → List Shape → Type 0) (sc : List Piece → Context) → Agrees Inv r c (length ps) sc →
    ((common : Shape) → Goes Inv r (length ps) common) → Inv [] [] → PartsTyped sc [] ps → made_by r h ps ≡ Ok x → Typed c x

-- where a row of so many has a part stand
abbrev pub by_row : Row → ℕ → List JudgedPart → PartScope
by_row r n d = standing_of (takes_at r n (length d))

-- flat rows
abbrev Counted : List Piece → List Shape → Type 0
Counted b d = length b ≡ length d

abbrev flat_scope : Row → ℕ → Context → List Piece → Context
flat_scope r n c b = context_for (standing_of (takes_at r n (length b))) c []

flat_agrees : (r : Row) (n : ℕ) (c : Context) → is_flat r ≡ true → Agrees Counted r c n (flat_scope r n c)
flat_agrees r n c e b d l =
    ap (λ m. context_for (standing_of (takes_at r n m)) c []) l
    ∙ flat_context (standing_of (takes_at r n (length d))) c d (flat_place r n (length d) e)

counted_goes : (r : Row) (n : ℕ) (common : Shape) → Goes Counted r n common
counted_goes r n common b d first p x l e = length_grows b p ∙ ap suc l ∙ sym (length_grows d x.1)

flat_law : (p : Place) (s : Setting) (r : Row) (h : Top) (qs : List JudgedPart) (x : Term × Shape) → is_flat r ≡ true →
    RowRule r h (context_of p s) (pieces qs) x → PartsStand p s (by_row r (length (pieces qs))) [] qs → made_by r h (pieces qs) ≡ Ok x →
    Typed (context_of p s) x
flat_law p s r h qs x e law t m =
    let n = length (pieces qs) in
    law Counted (flat_scope r n (context_of p s)) (flat_agrees r n (context_of p s) e) (counted_goes r n) refl
    (to_pieces p s (λ d. Unit {0}) (by_row r n) (flat_scope r n (context_of p s)) (λ d q u. tt)
    (λ d u. flat_stood p s (by_row r n d) d (flat_place r n (length d) e)
    ∙ ap (λ k. context_for (standing_of (takes_at r n k)) (context_of p s) []) (sym (pieces_length d))) [] qs tt t) m

-- rows over a table: the first part has the rows that it has as it stands
abbrev Alike : List Piece → List Shape → Type 0
Alike [] [] = Unit {0}
Alike (p ∷ ps) (t ∷ ts) = (length ps ≡ length ts) × (row_type (piece_shape p) ≡ row_type t)
Alike b d = ⊥

abbrev first_shape : List Piece → List Shape
first_shape [] = []
first_shape (p ∷ ps) = piece_shape p ∷ []

abbrev over_scope : Row → ℕ → Context → List Piece → Context
over_scope r n c b = context_for (standing_of (takes_at r n (length b))) c (first_shape b)

over_agrees : (r : Row) (n : ℕ) (c : Context) → Agrees Alike r c n (over_scope r n c)
over_agrees r n c [] [] i = refl
over_agrees r n c (p ∷ ps) (t ∷ ts) i =
    row_context (standing_of (takes_at r n (suc (length ps)))) c (piece_shape p) t [] ts (unbound (takes_at r n (suc (length ps)))) i.1
    ∙ ap (λ m. context_for (standing_of (takes_at r n (suc m))) c (t ∷ ts)) i.0
over_agrees r n c b d i = absurd i

table_rows : (first common : Shape) (p : Piece) (x : Term × Shape) → stand takes.Table first common p ≡ Ok x →
    row_type (piece_shape p) ≡ row_type x.1
table_rows first common (value a c (tables cs)) x e = let y : (c, tables cs) ≡ x = cc in ap (λ (z : Term × Shape). row_type z.1) y
table_rows first common (value a c blanks) x e =
    let y : (coerced c (tables no_columns), tables no_columns) ≡ x = cc in ap (λ (z : Term × Shape). row_type z.1) y
table_rows first common p x e = absurd cc

over_goes : (r : Row) (n : ℕ) (common : Shape) → is_over r ≡ true → Goes Alike r n common
over_goes r n common o [] [] first p x i e =
    (refl, table_rows first common p x (subst (λ k. stand k first common p ≡ Ok x) (over_first r n o) e))
over_goes r n common o (b ∷ bs) (d ∷ ds) first p x i e = (length_grows bs p ∙ ap suc i.0 ∙ sym (length_grows ds x.1), i.1)
over_goes r n common o b d first p x i e = absurd i

-- where the first part is no value, the rule refuses
label_never : (r : Row) (h : Top) (l : List ℕ) (ps : List Piece) (x : Term × Shape) → is_over r ≡ true → made_by r h (label l ∷ ps) ≡ Ok x → ⊥
label_never r h l ps x o e =
    by_count (takes_count r (suc (length ps))) e
  where
    by_first : (common : Shape) (k : Takes) → k ≡ takes.Table →
        (go : Term × Shape → Result (List (Term × Shape)) ℕ) → and_then (and_then (stand k blanks common (label l)) go) (answer_by r h common) ≡ Ok x → ⊥
    by_first common k t go e =
        let w : and_then (and_then (stand takes.Table blanks common (label l)) go) (answer_by r h common) ≡ Ok x =
        subst (λ j. and_then (and_then (stand j blanks common (label l)) go) (answer_by r h common) ≡ Ok x) t e in
        absurd cc

    by_common : (o : Option Shape) → made_as r h (label l ∷ ps) o ≡ Ok x → ⊥
    by_common None e = absurd cc
    by_common (Some common) e = by_first common (takes_at r (suc (length ps)) 0) (over_first r (suc (length ps)) o) _ e

    by_count : (b : Bool) → (if b then made_as r h (label l ∷ ps) (common_of (branches r (suc (length ps)) 0 (label l ∷ ps))) else Err 7) ≡ Ok x → ⊥
    by_count true e = by_common (common_of (branches r (suc (length ps)) 0 (label l ∷ ps))) e
    by_count false e = absurd cc

-- the first part is a value or the name of a column
abbrev Begins : List JudgedPart → Type 0
Begins (piece k ∷ d) = Unit {0}
Begins d = ⊥

begins_more : (d : List JudgedPart) (q : JudgedPart) → Begins d → Begins (d ++ q ∷ [])
begins_more (piece k ∷ d) q h = tt
begins_more d q h = absurd h

over_stood : (p : Place) (s : Setting) (r : Row) (n : ℕ) (d : List JudgedPart) → Begins d →
    stood p s (by_row r n d) d ≡ over_scope r n (context_of p s) (pieces d)
over_stood p s r n (piece k ∷ d) h =
    row_stood p s (by_row r n (piece k ∷ d)) k d (unbound (takes_at r n (suc (length d))))
    ∙ ap (λ m. context_for (standing_of (takes_at r n (suc m))) (context_of p s) (piece_shape k ∷ [])) (sym (pieces_length d))
over_stood p s r n d h = absurd h

over_pieces : (p : Place) (s : Setting) (r : Row) (h : Top) (n : ℕ) (qs : List JudgedPart) (x : Term × Shape) → is_over r ≡ true →
    PartsStand p s (by_row r n) [] qs → made_by r h (pieces qs) ≡ Ok x → PartsTyped (over_scope r n (context_of p s)) [] (pieces qs)
over_pieces p s r h n [] x o t m = tt
over_pieces p s r h n (piece k ∷ qs) x o t m = (
  part_piece (over_scope r n (context_of p s) []) (piece k) (subst (λ c. PartTyped c (piece k)) (first_stood p s (by_row r n [])) t.0),
  to_pieces p s Begins (by_row r n) (over_scope r n (context_of p s)) begins_more (over_stood p s r n) (piece k ∷ []) qs tt t.1,
)
over_pieces p s r h n (meant k ∷ qs) x o t m = absurd (label_never r h [] (pieces qs) x o m)
over_pieces p s r h n (target a l ∷ qs) x o t m = absurd (label_never r h l (pieces qs) x o m)
over_pieces p s r h n (assigned ns xs ∷ qs) x o t m = absurd (label_never r h [] (pieces qs) x o m)

over_law : (p : Place) (s : Setting) (r : Row) (h : Top) (qs : List JudgedPart) (x : Term × Shape) → is_over r ≡ true →
    RowRule r h (context_of p s) (pieces qs) x → PartsStand p s (by_row r (length (pieces qs))) [] qs → made_by r h (pieces qs) ≡ Ok x →
    Typed (context_of p s) x
over_law p s r h qs x o law t m =
    let n = length (pieces qs) in
    law Alike (over_scope r n (context_of p s)) (over_agrees r n (context_of p s)) (λ common. over_goes r n common o) tt
    (over_pieces p s r h n qs x o t m) m

row_law : (p : Place) (s : Setting) (r : Row) (h : Top) (qs : List JudgedPart) (x : Term × Shape) → is_usual r ≡ true →
    RowRule r h (context_of p s) (pieces qs) x → PartsStand p s (by_row r (length qs)) [] qs → made_by r h (pieces qs) ≡ Ok x →
    Typed (context_of p s) x
row_law p s r h qs x u law t m =
    let here = subst (λ n. PartsStand p s (by_row r n) [] qs) (sym (pieces_length qs)) t in
    elim (or_cases (is_flat r) (is_over r) u) [
      | inl e ↦ flat_law p s r h qs x e law here m
      | inr o ↦ over_law p s r h qs x o law here m
    ]

-- functions and forms, whose parts stand where their rows put them
pub function_law : (p : Place) (s : Setting) (f : Fun) (qs : List JudgedPart) (x : Term × Shape) → PartsStand p s (by_row (row_of f) (length qs)) [] qs →
    node_made f (pieces qs) ≡ Ok x → Typed (context_of p s) x
function_law p s f qs x t m =
    row_law p s (row_of f) (head_of f) qs x (function_usual f)
    (λ Inv sc agree goes inv typed e. function_typed Inv f (context_of p s) sc (pieces qs) x agree goes inv typed e) t m

pub form_law : (p : Place) (s : Setting) (f : Form) (qs : List JudgedPart) (x : Term × Shape) → PartsStand p s (by_row (form_row f) (length qs)) [] qs →
    formed f (pieces qs) ≡ Ok x → Typed (context_of p s) x
form_law p s f qs x t m =
    row_law p s (form_row f) (form f) qs x (form_usual f)
    (λ Inv sc agree goes inv typed e. form_typed Inv f (context_of p s) sc (pieces qs) x agree goes inv typed e) t m
