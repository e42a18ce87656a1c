-- The local rule, by the heads.
use Rattle.std.proofs.Common.{◌≡◌, ℕ, List, [], ◌∷◌, Result, Ok, Err, refl, ap, sym}
use Rattle.fx_types.specs.Types.{Shape, numbers, texts, booleans}
use Rattle.fx_types.specs.Values.{number, text, boolean}
use Rattle.fx_typing.specs.Calls.{made_if}
use Rattle.fx_typing.specs.Parts.{JudgedPart, piece, meant, target, assigned, Setting, put_value, values}
use Rattle.fx_typing.specs.Typing.{admit, constant, global_by, name_by, paired_by}
use Rattle.fx_core.specs.declared.expr.Op.{Op}
use Rattle.fx_core.specs.Tree as tree
use Rattle.fx_core.specs.Term.{Term}
use Rattle.fx_core.specs.ColumnLists.{and_then}
use Rattle.fx_typing.specs.Local.{Piece, value, label}
use Rattle.fx_typing.specs.Meaning.{Place, in_globals, meaning_of}
use Rattle.fx_infer.specs.Operands.{leaf_of, operator_of}

-- heads without parts
pub number_leaf : (p : Place) (s : Setting) (z : _) (qs : List JudgedPart) → leaf_of qs (constant (number z) numbers) ≡ admit p s (tree.num z) qs
number_leaf p s z [] = refl
number_leaf p s z (q ∷ qs) = refl

pub text_leaf : (p : Place) (s : Setting) (x : List ℕ) (qs : List JudgedPart) → leaf_of qs (constant (text x) texts) ≡ admit p s (tree.text x) qs
text_leaf p s x [] = refl
text_leaf p s x (q ∷ qs) = refl

pub truth_leaf : (p : Place) (s : Setting) (b : _) (qs : List JudgedPart) → leaf_of qs (constant (boolean b) booleans) ≡ admit p s (tree.truth b) qs
truth_leaf p s b [] = refl
truth_leaf p s b (q ∷ qs) = refl

pub name_leaf : (p : Place) (s : Setting) (x : List ℕ) (qs : List JudgedPart) →
    leaf_of qs (name_by s.grant x (meaning_of p s.scopes s.catches x)) ≡ admit p s (tree.name x) qs
name_leaf p s x [] = refl
name_leaf p s x (q ∷ qs) = refl

pub global_leaf : (p : Place) (s : Setting) (x : List ℕ) (qs : List JudgedPart) →
    leaf_of qs (global_by s.grant x (in_globals p.names x)) ≡ admit p s (tree.global x) qs
global_leaf p s x [] = refl
global_leaf p s x (q ∷ qs) = refl

-- where a part is no value, all parts are of a wrong type
put_wrong : (x : Term × Shape) (r : Result (List (Term × Shape)) ℕ) (e : ℕ) → put_value x r ≡ Err e → r ≡ Err e
put_wrong x (Ok xs) e h = absurd cc
put_wrong x (Err d) e h = let k : d ≡ e = cc in ap Err k

values_wrong : (qs : List JudgedPart) (e : ℕ) → values qs ≡ Err e → 6 ≡ e
values_wrong [] e h = absurd cc
values_wrong (piece (value a c t) ∷ qs) e h = values_wrong qs e (put_wrong (c, t) (values qs) e h)
values_wrong (piece (label x) ∷ qs) e h = cc
values_wrong (meant m ∷ qs) e h = cc
values_wrong (target a x ∷ qs) e h = cc
values_wrong (assigned ns xs ∷ qs) e h = cc

put_some : (x : Term × Shape) (r : Result (List (Term × Shape)) ℕ) → put_value x r ≡ Ok [] → ⊥
put_some x (Ok xs) h = cc
put_some x (Err e) h = cc

values_some : (q : JudgedPart) (qs : List JudgedPart) → values (q ∷ qs) ≡ Ok [] → ⊥
values_some (piece (value a c t)) qs h = put_some (c, t) (values qs) h
values_some (piece (label x)) qs h = cc
values_some (meant m) qs h = cc
values_some (target a x) qs h = cc
values_some (assigned ns xs) qs h = cc

-- an operator of more or fewer than two operands
more_operands : (o : Op) (x y : Term × Shape) (z : JudgedPart) (zs : List JudgedPart) (ps : List Piece) (r : Result (List (Term × Shape)) ℕ) → values (z ∷ zs) ≡ r →
    and_then (put_value x (put_value y r)) (λ xs. paired_by o xs ps) ≡ Err 6
more_operands o x y z zs ps (Ok []) h = absurd (values_some z zs h)
more_operands o x y z zs ps (Ok (w ∷ ws)) h = refl
more_operands o x y z zs ps (Err e) h = ap Err (sym (values_wrong (z ∷ zs) e h))

pub paired_is : (o : Op) (qs : List JudgedPart) (ps : List Piece) → made_if (operator_of o qs) ps ≡ and_then (values qs) (λ xs. paired_by o xs ps)
paired_is o [] ps = refl
paired_is o (piece (value a c t) ∷ []) ps = refl
paired_is o (piece (label x) ∷ []) ps = refl
paired_is o (meant m ∷ []) ps = refl
paired_is o (target a x ∷ []) ps = refl
paired_is o (assigned ns xs ∷ []) ps = refl
paired_is o (piece (value a c t) ∷ piece (value b d u) ∷ []) ps = refl
paired_is o (piece (value a c t) ∷ piece (label x) ∷ []) ps = refl
paired_is o (piece (value a c t) ∷ meant m ∷ []) ps = refl
paired_is o (piece (value a c t) ∷ target b x ∷ []) ps = refl
paired_is o (piece (value a c t) ∷ assigned ns xs ∷ []) ps = refl
paired_is o (piece (label x) ∷ r ∷ []) ps = refl
paired_is o (meant m ∷ r ∷ []) ps = refl
paired_is o (target a x ∷ r ∷ []) ps = refl
paired_is o (assigned ns xs ∷ r ∷ []) ps = refl
paired_is o (piece (value a c t) ∷ piece (value b d u) ∷ z ∷ zs) ps = sym (more_operands o (c, t) (d, u) z zs ps (values (z ∷ zs)) refl)
paired_is o (piece (value a c t) ∷ piece (label x) ∷ z ∷ zs) ps = refl
paired_is o (piece (value a c t) ∷ meant m ∷ z ∷ zs) ps = refl
paired_is o (piece (value a c t) ∷ target b x ∷ z ∷ zs) ps = refl
paired_is o (piece (value a c t) ∷ assigned ns xs ∷ z ∷ zs) ps = refl
paired_is o (piece (label x) ∷ r ∷ z ∷ zs) ps = refl
paired_is o (meant m ∷ r ∷ z ∷ zs) ps = refl
paired_is o (target a x ∷ r ∷ z ∷ zs) ps = refl
paired_is o (assigned ns xs ∷ r ∷ z ∷ zs) ps = refl
