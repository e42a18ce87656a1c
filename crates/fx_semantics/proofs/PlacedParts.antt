-- Names, dots and functions make trees that act in their place of parts that do.
use Rattle.std.proofs.Common.{◌≡◌, ℕ, suc, List, [], ◌∷◌, Bool, true, false, length, codes, Option, Some, None, Result, Ok, Err, refl}
use Rattle.std.proofs.lemmas.Bool.{or_parts}
use Rattle.fx_types.specs.Types.{Shape, blanks, records, tables, no_columns}
use Rattle.fx_types.specs.Values.{text}
use Rattle.fx_semantics.specs.Places.{IsPlaced, ArePlaced, is_for_all, part_may_act}
use Rattle.fx_core.specs.declared.functions.Fun.{Fun}
use Rattle.fx_core.specs.declared.functions.Fun.TheVariants as fun
use Rattle.fx_core.specs.declared.rows.Row.{Row}
use Rattle.fx_core.specs.declared.rows.Takes.{Takes}
use Rattle.fx_core.specs.declared.rows.Takes.TheVariants as takes
use Rattle.fx_core.specs.Rows.{shape_of, row_of, takes_at, takes_count}
use Rattle.fx_core.specs.Term.{Term, Terms, of, nil, cons, all, Top}
use Rattle.fx_core.specs.Term as term
use Rattle.fx_typing.proofs.QuietParts.{AllQuiet, Made, PartQuiet, PiecesQuiet, TreeQuiet, if_quiet, made_quiet, then_quiet}
use Rattle.fx_typing.specs.Acts.{acts, any_acts, is_acting}
use Rattle.fx_typing.specs.Columns.{tells_error}
use Rattle.fx_core.specs.ColumnLists.{field_in}
use Rattle.fx_typing.specs.Local.{Piece, value, label, by_way, exact_way, branch_way, part_or_rule, without_kind, stand, put_first, stand_rest, stand_all, branches, common_of, firsts, answer_by, made_as, made_by, node_made}
use Rattle.fx_typing.specs.Meaning.{NameMeaning, valued}
use Rattle.fx_typing.specs.Parts.{JudgedPart, piece, meant, target, assigned, as_part, pieces, put_value, values}
use Rattle.fx_typing.specs.Ways.{Way, same, changed, refused, way, is_scalar, is_comparable}
use Rattle.fx_typing.specs.WellTyped.{answered_type, head_of}

-- what acts in these acts in its place
abbrev pub TreePlaced : Term × Shape → Type 0
TreePlaced x = IsPlaced x.0

abbrev pub AllPlaced : List (Term × Shape) → Type 0
AllPlaced [] = Unit {0}
AllPlaced (x ∷ xs) = IsPlaced x.0 × AllPlaced xs

abbrev pub PiecePlaced : Piece → Type 0
PiecePlaced (value a c t) = IsPlaced c
PiecePlaced (label x) = Unit {0}

abbrev pub PiecesPlaced : List Piece → Type 0
PiecesPlaced [] = Unit {0}
PiecesPlaced (k ∷ ks) = PiecePlaced k × PiecesPlaced ks

abbrev pub MeaningPlaced : NameMeaning → Type 0
MeaningPlaced (valued c t) = IsPlaced c
MeaningPlaced m = Unit {0}

abbrev pub PartPlaced : JudgedPart → Type 0
PartPlaced (piece k) = PiecePlaced k
PartPlaced (meant m) = MeaningPlaced m
PartPlaced (assigned ns xs) = AllPlaced xs
PartPlaced (target a x) = Unit {0}

abbrev pub EachPlaced : List JudgedPart → Type 0
EachPlaced [] = Unit {0}
EachPlaced (q ∷ qs) = PartPlaced q × EachPlaced qs

-- ---- what doesn't act acts nowhere
no_place : (h : Top) (ts : Terms) → acts (of h ts) ≡ false → acts (of h ts) ≡ true → part_may_act h ≡ true
no_place h ts q e = absurd cc

mutual
  pub quiet_placed : (t : Term) → acts t ≡ false → IsPlaced t
  quiet_placed (of h ts) q = (no_place h ts q, quiets_placed ts (or_parts (is_acting h) (any_acts ts) q).1)

  quiets_placed : (ts : Terms) → any_acts ts ≡ false → ArePlaced ts
  quiets_placed nil q = tt
  quiets_placed (cons t ts) q =
      let k = or_parts (acts t) (any_acts ts) q in
      (quiet_placed t k.0, quiets_placed ts k.1)

pub all_still : (xs : List (Term × Shape)) → AllQuiet xs → AllPlaced xs
all_still [] h = tt
all_still (x ∷ xs) h = (quiet_placed x.0 h.0, all_still xs h.1)

pub tree_still : (r : Result (Term × Shape) ℕ) → Made TreeQuiet r → Made TreePlaced r
tree_still (Ok x) h = quiet_placed x.0 h
tree_still (Err e) h = tt

meaning_still : (m : NameMeaning) → PartQuiet (meant m) → MeaningPlaced m
meaning_still (valued c t) h = quiet_placed c h
meaning_still m h = tt

pub one_still : (q : JudgedPart) → PartQuiet q → PartPlaced q
one_still (piece (value a c t)) h = quiet_placed c h
one_still (piece (label x)) h = tt
one_still (meant m) h = meaning_still m h
one_still (target a x) h = tt
one_still (assigned ns xs) h = all_still xs h

pub part_still : (r : Result JudgedPart ℕ) → Made PartQuiet r → Made PartPlaced r
part_still (Ok q) h = one_still q h
part_still (Err e) h = tt

-- ---- nodes that may act
pub terms_placed : (xs : List (Term × Shape)) → AllPlaced xs → ArePlaced (all (firsts xs))
terms_placed [] h = tt
terms_placed (x ∷ xs) h = (h.0, terms_placed xs h.1)

pub node_placed : (h : Top) (ts : Terms) → part_may_act h ≡ true → ArePlaced ts → IsPlaced (of h ts)
node_placed h ts e k = (λ a. e, k)

pub one_placed : (h : Top) (c : Term) → part_may_act h ≡ true → IsPlaced c → IsPlaced (of h (cons c nil))
one_placed h c e k = node_placed h (cons c nil) e (k, tt)

pub as_part_placed : (r : Result (Term × Shape) ℕ) → Made TreePlaced r → Made PartPlaced (as_part r)
as_part_placed (Ok x) h = h
as_part_placed (Err e) h = tt

-- ---- the one rule
pub by_way_placed : (w : Way) (c : Term) (t : Shape) → IsPlaced c → Made TreePlaced (by_way w c t)
by_way_placed same c t h = h
by_way_placed changed c t h = one_placed (term.coerce t) c refl h
by_way_placed refused c t h = tt

when_placed : (b : Bool) (e : ℕ) (c : Term) (t : Shape) → IsPlaced c → Made TreePlaced (part_or_rule b e c t)
when_placed true e c t h = h
when_placed false e c t h = tt

stand_placed : (k : Takes) (first common : Shape) (p : Piece) → PiecePlaced p → Made TreePlaced (stand k first common p)
stand_placed (takes.Scalar s) first common (value a c t) h = by_way_placed (way t (shape_of s)) c (shape_of s) h
stand_placed (takes.Formula s) first common (value a c t) h = by_way_placed (way t (shape_of s)) c (shape_of s) h
stand_placed (takes.Exact s) first common (value a c t) h = by_way_placed (exact_way t (shape_of s)) c (shape_of s) h
stand_placed takes.Any first common (value a c t) h = h
stand_placed takes.AnyFormula first common (value a c t) h = h
stand_placed takes.ErrorRecord first common (value a c (records cs)) h = when_placed (tells_error cs) (without_kind (field_in (codes "Kind") cs)) c (records cs) h
stand_placed takes.Table first common (value a c (tables cs)) h = h
stand_placed takes.Table first common (value a c blanks) h = one_placed (term.coerce (tables no_columns)) c refl h
stand_placed takes.ScalarFormula first common (value a c t) h = when_placed (is_scalar t) 6 c t h
stand_placed takes.RowFormula first common (value a c (tables cs)) h = tt
stand_placed takes.RowFormula first common (value a c t) h = h
stand_placed takes.Choice first common (value a c t) h = by_way_placed (branch_way t common) c common h
stand_placed takes.Branch first common (value a c t) h = by_way_placed (branch_way t common) c common h
stand_placed takes.Fallback first common (value a c t) h = by_way_placed (branch_way t common) c common h
stand_placed takes.Compared first common (value a c t) h = when_placed (is_scalar t) 6 c t h
stand_placed takes.Match first common (value a c t) h = when_placed (is_comparable first t) 6 c t h
stand_placed takes.Column first common (label x) h = quiet_placed (of (term.const (text x)) nil) refl
stand_placed takes.NewColumn first common (label x) h = quiet_placed (of (term.const (text x)) nil) refl
stand_placed k first common p h = tt

pub put_placed : (x : Term × Shape) (r : Result (List (Term × Shape)) ℕ) → TreePlaced x → Made AllPlaced r → Made AllPlaced (put_first x r)
put_placed x (Ok xs) h k = (h, k)
put_placed x (Err e) h k = tt

rest_placed : (r : Row) (n i : ℕ) (first common : Shape) (ps : List Piece) → PiecesPlaced ps → Made AllPlaced (stand_rest r n i first common ps)
rest_placed r n i first common [] h = tt
rest_placed r n i first common (p ∷ ps) h =
    then_quiet TreePlaced AllPlaced (stand (takes_at r n i) first common p) _ (stand_placed (takes_at r n i) first common p h.0)
    (λ x k. put_placed x (stand_rest r n (suc i) first common ps) k (rest_placed r n (suc i) first common ps h.1))

all_stand : (r : Row) (common : Shape) (ps : List Piece) → PiecesPlaced ps → Made AllPlaced (stand_all r common ps)
all_stand r common [] h = tt
all_stand r common (p ∷ ps) h =
    then_quiet TreePlaced AllPlaced (stand (takes_at r (suc (length ps)) 0) blanks common p) _ (stand_placed (takes_at r (suc (length ps)) 0) blanks common p h.0)
    (λ x k. put_placed x (stand_rest r (suc (length ps)) 1 x.1 common ps) k (rest_placed r (suc (length ps)) 1 x.1 common ps h.1))

answer_placed : (r : Row) (h : Top) (common : Shape) (xs : List (Term × Shape)) → part_may_act h ≡ true → AllPlaced xs → Made TreePlaced (answer_by r h common xs)
answer_placed r h common xs e k = then_quiet (λ t. Unit {0}) TreePlaced (answered_type r.answer common xs) _ (any_answer (answered_type r.answer common xs)) (λ t u. node_placed h (all (firsts xs)) e (terms_placed xs k))
  where
    any_answer : (o : Result Shape ℕ) → Made (λ t. Unit {0}) o
    any_answer (Ok t) = tt
    any_answer (Err n) = tt

made_as_placed : (r : Row) (h : Top) (ps : List Piece) (o : Option Shape) → part_may_act h ≡ true → PiecesPlaced ps → Made TreePlaced (made_as r h ps o)
made_as_placed r h ps (Some common) e k = then_quiet AllPlaced TreePlaced (stand_all r common ps) _ (all_stand r common ps k) (λ xs m. answer_placed r h common xs e m)
made_as_placed r h ps None e k = tt

-- a node that may act
pub made_by_placed : (r : Row) (h : Top) (ps : List Piece) → part_may_act h ≡ true → PiecesPlaced ps → Made TreePlaced (made_by r h ps)
made_by_placed r h ps e k =
    if_quiet TreePlaced (takes_count r (length ps)) _ _ (made_as_placed r h ps (common_of (branches r (length ps) 0 ps)) e k) tt

for_all_acts : (f : Fun) → is_for_all f ≡ true → part_may_act (head_of f) ≡ true
for_all_acts fun.ForAll e = refl
for_all_acts f e = absurd cc

-- a function: where a part may act it is `ForAll`
pub made_placed : (f : Fun) (ps : List Piece) → PiecesPlaced ps → (is_for_all f ≡ false → PiecesQuiet ps) → Made TreePlaced (node_made f ps)
made_placed f ps h q = by (is_for_all f) refl
  where
    by : (b : Bool) → is_for_all f ≡ b → Made TreePlaced (node_made f ps)
    by true e = made_by_placed (row_of f) (head_of f) ps (for_all_acts f e) h
    by false e = tree_still (node_made f ps) (made_quiet f ps (q e))

-- ---- parts
pub pieces_placed : (qs : List JudgedPart) → EachPlaced qs → PiecesPlaced (pieces qs)
pieces_placed [] h = tt
pieces_placed (piece k ∷ qs) h = (h.0, pieces_placed qs h.1)
pieces_placed (meant m ∷ qs) h = (tt, pieces_placed qs h.1)
pieces_placed (target a x ∷ qs) h = (tt, pieces_placed qs h.1)
pieces_placed (assigned ns xs ∷ qs) h = (tt, pieces_placed qs h.1)

put_value_placed : (x : Term × Shape) (r : Result (List (Term × Shape)) ℕ) → TreePlaced x → Made AllPlaced r → Made AllPlaced (put_value x r)
put_value_placed x (Ok xs) h k = (h, k)
put_value_placed x (Err e) h k = tt

pub values_placed : (qs : List JudgedPart) → EachPlaced qs → Made AllPlaced (values qs)
values_placed [] h = tt
values_placed (piece (value a c t) ∷ qs) h = put_value_placed (c, t) (values qs) h.0 (values_placed qs h.1)
values_placed (piece (label x) ∷ qs) h = tt
values_placed (meant m ∷ qs) h = tt
values_placed (target a x ∷ qs) h = tt
values_placed (assigned ns xs ∷ qs) h = tt
