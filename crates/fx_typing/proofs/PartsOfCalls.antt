-- What a part can be, by what its place allows: the parts of a function of the table are values or names of columns.
use Rattle.std.proofs.Common.{◌≡◌, ℕ, suc, List, [], ◌∷◌, Bool, true, false, Option, Some, None, refl, sym, subst}
use Rattle.fx_core.specs.declared.functions.Fun.{Fun}
use Rattle.fx_core.specs.declared.rows.Takes.{Takes}
use Rattle.fx_core.specs.declared.rows.Takes.TheVariants as takes
use Rattle.fx_core.specs.declared.signatures.SigShape.TheVariants as sig
use Rattle.fx_core.specs.Rows.{row_of, takes_at}
use Rattle.fx_core.specs.declared.names.Names.{Names}
use Rattle.fx_core.specs.Tree.{Tree, Forest, Head}
use Rattle.fx_core.specs.Tree as tree
use Rattle.fx_typing.specs.Meaning.{Place, NameMeaning, valued, controlled, screened, enumerated, or_else}
use Rattle.fx_typing.specs.WellTyped.{PartScope, plain, inside, bound, catching}
use Rattle.fx_typing.specs.Parts.{Grant, a_target, aliased_target, a_meaning, on_screen, JudgedPart, piece, meant, target, assigned, Setting, may_act}
use Rattle.fx_typing.specs.Plans.{grant_of, if_acting, called_as}
use Rattle.fx_typing.specs.Elaborates.{Elaborates, a_node, PartsElaborate, no_more, one_more}
use Rattle.fx_typing.specs.Nodes
use Rattle.fx_typing.specs.Nodes.{Node, IsForTarget}
use Rattle.fx_typing.specs.Places.{called_part, part_plan, stood, part_setting}
use Rattle.fx_typing.specs.Records.{left_part}
use Rattle.fx_typing.proofs.Taken.{IsPiece, ArePieces}

abbrev IsForLeft : Grant → Type 0
IsForLeft (a_meaning b) = Unit {0}
IsForLeft g = ⊥

abbrev IsForScreen : Grant → Type 0
IsForScreen (on_screen b) = Unit {0}
IsForScreen g = ⊥

-- what may be a part, by what the place allows
abbrev MayBe : Grant → JudgedPart → Type 0
MayBe g (piece k) = Unit {0}
MayBe g (target a x) = IsForTarget g
MayBe g (meant m) = IsForLeft g
MayBe g (assigned ns xs) = IsForScreen g

-- parts from a place on, of so many
abbrev pub MayBeAll : Names → Setting → Head → ℕ → ℕ → Option JudgedPart → List JudgedPart → Type 0
MayBeAll m s h n i first [] = Unit {0}
MayBeAll m s h n i first (q ∷ qs) = MayBe (part_plan m s.grant h n i first).grant q × MayBeAll m s h n (suc i) (or_else first (Some q)) qs

left_may : (g : Grant) (b : Bool) (m : NameMeaning) → g ≡ a_meaning b → MayBe g (left_part m)
left_may g b (valued c t) e = tt
left_may g b (controlled k c) e = subst IsForLeft (sym e) tt
left_may g b screened e = subst IsForLeft (sym e) tt
left_may g b (enumerated v) e = subst IsForLeft (sym e) tt

node_may : (p : Place) (s : Setting) (h : Head) (qs : List JudgedPart) (q : JudgedPart) → Node p s h qs q → MayBe s.grant q
node_may p s h qs q (Nodes.named_target i) = i
node_may p s h qs q (Nodes.named_left {b = b} {m = m} i j) = left_may s.grant b m i
node_may p s h qs q (Nodes.global_target i) = i
node_may p s h qs q (Nodes.global_left {b = b} {m = m} i j) = left_may s.grant b m i
node_may p s h qs q (Nodes.target_with_name i) = subst IsForTarget (sym i) tt
node_may p s h qs q (Nodes.screen_variables i v d l) = subst IsForScreen (sym i) tt
node_may p s h qs q Nodes.a_number = tt
node_may p s h qs q Nodes.a_text = tt
node_may p s h qs q Nodes.a_truth = tt
node_may p s h qs q (Nodes.named_value i m) = tt
node_may p s h qs q (Nodes.named_column i) = tt
node_may p s h qs q (Nodes.global_value i m) = tt
node_may p s h qs q (Nodes.behind_dot i b) = tt
node_may p s h qs q (Nodes.a_call i n c b d) = tt
node_may p s h qs q (Nodes.negated c) = tt
node_may p s h qs q (Nodes.denied c) = tt
node_may p s h qs q (Nodes.in_percent c) = tt
node_may p s h qs q (Nodes.two_operands v i c) = tt
node_may p s h qs q (Nodes.joined_texts c) = tt
node_may p s h qs q (Nodes.all_of c) = tt
node_may p s h qs q (Nodes.any_of c) = tt
node_may p s h qs q (Nodes.a_chain m v i) = tt
node_may p s h qs q (Nodes.rows_with_name i) = tt
node_may p s h qs q (Nodes.a_record i v d b) = tt
node_may p s h qs q (Nodes.a_list v r b) = tt
node_may p s h qs q Nodes.empty_weave = tt
node_may p s h qs q (Nodes.a_weave c) = tt

formula_may : (p : Place) (s : Setting) (e : Tree) (q : JudgedPart) → Elaborates p s e q → MayBe s.grant q
formula_may p s e q (a_node {h = h} {qs = qs} parts whole) = node_may p s h qs q whole

stood_grant : (m : Names) (s : Setting) (st : PartScope) (g : Grant) (first : Option JudgedPart) → (stood m s st g first).grant ≡ g
stood_grant m s plain g first = refl
stood_grant m s inside g None = refl
stood_grant m s inside g (Some q) = refl
stood_grant m s bound g None = refl
stood_grant m s bound g (Some q) = refl
stood_grant m s catching g first = refl

pub parts_may : (p : Place) (s : Setting) (h : Head) (n i : ℕ) (first : Option JudgedPart) (ts : Forest) (qs : List JudgedPart) → PartsElaborate p s h n i first ts qs →
    MayBeAll p.names s h n i first qs
parts_may p s h n i first ts qs no_more = tt
parts_may p s h n i first ts qs (one_more {k = k} {ks = ks} {q = q} {qs = others} one rest) = (
  subst (λ g. MayBe g q)
      (stood_grant p.names s (part_plan p.names s.grant h n i first).standing (part_plan p.names s.grant h n i first).grant first)
      (formula_may p (part_setting p.names s h n i first) k q one),
  parts_may p s h n (suc i) (or_else first (Some q)) ks others rest,
)

-- a place of the table takes a value or the name of a column
abbrev IsForPiece : Grant → Type 0
IsForPiece a_target = ⊥
IsForPiece aliased_target = ⊥
IsForPiece (a_meaning b) = ⊥
IsForPiece (on_screen b) = ⊥
IsForPiece g = Unit {0}

acting_piece : (b : Bool) → IsForPiece (if_acting b)
acting_piece true = tt
acting_piece false = tt

table_piece : (b : Bool) (k : Takes) → IsForPiece (grant_of b k)
table_piece b takes.RowFormula = acting_piece b
table_piece b takes.Branch = acting_piece b
table_piece b takes.Fallback = acting_piece b
table_piece b k = tt

only_piece : (g : Grant) (q : JudgedPart) → IsForPiece g → MayBe g q → IsPiece q
only_piece g (piece k) i m = tt
only_piece a_target (target a x) i m = absurd i
only_piece aliased_target (target a x) i m = absurd i
only_piece g (target a x) i m = absurd m
only_piece (a_meaning b) (meant k) i m = absurd i
only_piece g (meant k) i m = absurd m
only_piece (on_screen b) (assigned ns xs) i m = absurd i
only_piece g (assigned ns xs) i m = absurd m

pub all_pieces : (m : Names) (s : Setting) (x : List ℕ) (f : Fun) (n i : ℕ) (first : Option JudgedPart) (qs : List JudgedPart) → called_as m x ≡ Some (sig.One f) →
    MayBeAll m s (tree.call x) n i first qs → ArePieces qs
all_pieces m s x f n i first [] e h = tt
all_pieces m s x f n i first (q ∷ qs) e h =
    let here : MayBe (grant_of (may_act s.grant) (takes_at (row_of f) n i)) q = subst (λ o. MayBe (called_part (may_act s.grant) o n i first).grant q) e h.0 in (
      only_piece (grant_of (may_act s.grant) (takes_at (row_of f) n i)) q (table_piece (may_act s.grant) (takes_at (row_of f) n i)) here,
      all_pieces m s x f n (suc i) (or_else first (Some q)) qs e h.1,
    )
