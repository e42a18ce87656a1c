-- Where the parts of a node stand when they are judged, and that the typed tree has them stand there.
use Rattle.std.proofs.Common.{◌≡◌, ℕ, suc, ◌++◌, List, [], ◌∷◌, Bool, true, false, map, length, refl, ap, subst, ◌∙◌}
use Rattle.std.proofs.Math.Bool.{or-false, or-true}
use Rattle.std.proofs.lemmas.List.{map_push}
use Rattle.fx_types.specs.Types.{Shape, texts}
use Rattle.fx_core.specs.Tree.{Head}
use Rattle.fx_typing.specs.Local.{Piece, value, label}
use Rattle.fx_typing.specs.Meaning.{Place, Scope}
use Rattle.fx_typing.specs.WellTyped.{Context, PartScope, plain, inside, bound, catching, row_type, context_for}
use Rattle.fx_typing.proofs.Rules.{PieceTyped, PartsTyped}
use Rattle.fx_typing.specs.Parts.{nothing, JudgedPart, piece, meant, target, assigned, Setting, piece_of, pieces}
use Rattle.fx_typing.specs.Plans.{argument_rule, plan_at, first_row, setting_by}
use Rattle.fx_typing.specs.Typing.{context_of}
use Rattle.fx_typing.proofs.Frame.{PartTyped, PartsTypedAt}

-- what a part stands in behind the done ones
abbrev pub stood : Place → Setting → PartScope → List JudgedPart → Context
stood p s st done = context_of p (setting_by p.names s (argument_rule st nothing) done)

-- parts, each judged where it stands behind the ones before
abbrev pub PartsStand : Place → Setting → (List JudgedPart → PartScope) → List JudgedPart → List JudgedPart → Type 0
PartsStand p s st done [] = Unit {0}
PartsStand p s st done (q ∷ qs) = PartTyped (stood p s (st done) done) q × PartsStand p s st (done ++ q ∷ []) qs

abbrev pub standing_in : Place → Setting → Head → ℕ → List JudgedPart → PartScope
standing_in p s h n done = (plan_at p.names s.grant h n done).standing

pub parts_stand : (p : Place) (s : Setting) (h : Head) (n : ℕ) (done qs : List JudgedPart) → PartsTypedAt p s h n done qs →
    PartsStand p s (standing_in p s h n) done qs
parts_stand p s h n done [] t = tt
parts_stand p s h n done (q ∷ qs) t = (t.0, parts_stand p s h n (done ++ q ∷ []) qs t.1)

pub same_standing : (p : Place) (s : Setting) (st to : List JudgedPart → PartScope) (done qs : List JudgedPart) → ((d : List JudgedPart) → st d ≡ to d) →
    PartsStand p s st done qs → PartsStand p s to done qs
same_standing p s st to done [] e t = tt
same_standing p s st to done (q ∷ qs) e t =
    (subst (λ x. PartTyped (stood p s x done) q) (e done) t.0, same_standing p s st to (done ++ q ∷ []) qs e t.1)

-- the first part stands where the whole does, whatever stands there
pub first_stood : (p : Place) (s : Setting) (st : PartScope) → stood p s st [] ≡ context_for st (context_of p s) []
first_stood p s plain = λ i. record (context_of p s) { caught = or-false s.catches i }
first_stood p s inside = λ i. record (context_of p s) { caught = or-false s.catches i }
first_stood p s bound = λ i. record (context_of p s) { caught = or-false s.catches i }
first_stood p s catching = λ i. record (context_of p s) { caught = or-true s.catches i }

-- a place in no scope of its own
abbrev pub is_flat_place : PartScope → Bool
is_flat_place plain = true
is_flat_place catching = true
is_flat_place st = false

pub flat_stood : (p : Place) (s : Setting) (st : PartScope) (done : List JudgedPart) → is_flat_place st ≡ true →
    stood p s st done ≡ context_for st (context_of p s) []
flat_stood p s plain done e = λ i. record (context_of p s) { caught = or-false s.catches i }
flat_stood p s catching done e = λ i. record (context_of p s) { caught = or-true s.catches i }
flat_stood p s st done e = absurd cc

pub flat_context : (st : PartScope) (c : Context) (us : List Shape) → is_flat_place st ≡ true → context_for st c [] ≡ context_for st c us
flat_context plain c us e = refl
flat_context catching c us e = refl
flat_context st c us e = absurd cc

-- the scope of a row of the first part, which is a value or the name of a column
abbrev pub is_bound : PartScope → Bool
is_bound bound = true
is_bound st = false

abbrev pub piece_shape : Piece → Shape
piece_shape (value a k t) = t
piece_shape (label x) = texts

pub first_row_type : (p : Place) (k : Piece) → (first_row p.names (piece k)).row_type ≡ row_type (piece_shape k)
first_row_type p (value a k t) = refl
first_row_type p (label x) = refl

pub row_stood : (p : Place) (s : Setting) (st : PartScope) (k : Piece) (done : List JudgedPart) → is_bound st ≡ false →
    stood p s st (piece k ∷ done) ≡ context_for st (context_of p s) (piece_shape k ∷ [])
row_stood p s plain k done e = λ i. record (context_of p s) { caught = or-false s.catches i }
row_stood p s inside k done e =
    let rows = map_push (λ (r : Scope). r.row_type) s.scopes (first_row p.names (piece k))
    ∙ ap (λ t. map (λ (r : Scope). r.row_type) s.scopes ++ t ∷ []) (first_row_type p k) in
    λ i. record (context_of p s) { rows = rows i; caught = or-false s.catches i }
row_stood p s bound k done e = absurd cc
row_stood p s catching k done e = λ i. record (context_of p s) { caught = or-true s.catches i }

-- rows of one type are one scope
pub row_context : (st : PartScope) (c : Context) (u t : Shape) (us ts : List Shape) → is_bound st ≡ false → row_type u ≡ row_type t →
    context_for st c (u ∷ us) ≡ context_for st c (t ∷ ts)
row_context plain c u t us ts e h = refl
row_context inside c u t us ts e h = λ i. record c { rows = c.rows ++ h i ∷ [] }
row_context bound c u t us ts e h = absurd cc
row_context catching c u t us ts e h = refl

-- parts as pieces
pub pieces_more : (done : List JudgedPart) (q : JudgedPart) → pieces (done ++ q ∷ []) ≡ pieces done ++ piece_of q ∷ []
pieces_more [] q = refl
pieces_more (d ∷ done) q = ap (λ xs. piece_of d ∷ xs) (pieces_more done q)

pub pieces_length : (qs : List JudgedPart) → length (pieces qs) ≡ length qs
pieces_length [] = refl
pieces_length (q ∷ qs) = ap suc (pieces_length qs)

pub part_piece : (c : Context) (q : JudgedPart) → PartTyped c q → PieceTyped c (piece_of q)
part_piece c (piece k) t = t
part_piece c (meant m) t = tt
part_piece c (target a x) t = tt
part_piece c (assigned ns xs) t = tt

-- parts that stand somewhere are pieces that stand there
pub to_pieces : (p : Place) (s : Setting) (Holds : List JudgedPart → Type 0) (st : List JudgedPart → PartScope) (sc : List Piece → Context) →
    ((d : List JudgedPart) (q : JudgedPart) → Holds d → Holds (d ++ q ∷ [])) → ((d : List JudgedPart) → Holds d → stood p s (st d) d ≡ sc (pieces d)) →
    (done qs : List JudgedPart) → Holds done → PartsStand p s st done qs → PartsTyped sc (pieces done) (pieces qs)
to_pieces p s Holds st sc goes same done [] h t = tt
to_pieces p s Holds st sc goes same done (q ∷ qs) h t = (
  part_piece (sc (pieces done)) q (subst (λ c. PartTyped c q) (same done h) t.0),
  subst (λ b. PartsTyped sc b (pieces qs)) (pieces_more done q) (to_pieces p s Holds st sc goes same (done ++ q ∷ []) qs (goes done q h) t.1),
)
