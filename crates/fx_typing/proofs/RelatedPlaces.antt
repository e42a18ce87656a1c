-- Where the definition that judges puts the parts of a node is where they stand.
use Rattle.std.proofs.Common.{◌≡◌, ℕ, suc, ◌++◌, List, [], ◌∷◌, Bool, ◌||◌, ◌&&◌, nat_lt, length, Option, Some, None, refl, ap, ◌∙◌}
use Rattle.std.proofs.Math.Bool.{or-false, or-true}
use Rattle.fx_types.specs.Types.{blanks, numbers, texts, booleans, dates, records, tables}
use Rattle.fx_core.specs.declared.functions.Fun.{Fun}
use Rattle.fx_core.specs.declared.signatures.SigShape.{SigShape}
use Rattle.fx_core.specs.declared.signatures.SigShape.TheVariants as sig
use Rattle.fx_core.specs.Rows.{row_of}
use Rattle.fx_core.specs.declared.names.Names.{Names}
use Rattle.fx_core.specs.Tree.{Head}
use Rattle.fx_core.specs.Tree as tree
use Rattle.fx_typing.specs.Local.{value, label}
use Rattle.fx_typing.specs.Meaning.{Place, or_else}
use Rattle.fx_typing.specs.WellTyped.{PartScope, plain, inside, bound, catching}
use Rattle.fx_typing.specs.Parts.{Grant, JudgedPart, piece, meant, target, assigned, Setting, may_act}
use Rattle.fx_typing.specs.Plans.{pick, argument_rule, plan_by_row, plan_call, called_as, plan_at, first_row, first_record, setting_by, setting_at, depth_of, is_inside, opens_rows}
use Rattle.fx_typing.specs.Typing.{is_too_deep}
use Rattle.fx_typing.specs.Places.{first_part, function_chosen, called_part, part_plan, stood, part_setting, opens_scope, is_fourth_scope}

pub length_one : (done : List JudgedPart) (q : JudgedPart) → length (done ++ q ∷ []) ≡ suc (length done)
length_one [] q = refl
length_one (d ∷ done) q = ap suc (length_one done q)

pub first_one : (done : List JudgedPart) (q : JudgedPart) → first_part (done ++ q ∷ []) ≡ or_else (first_part done) (Some q)
first_one [] q = refl
first_one (d ∷ done) q = refl

pub pick_is : (f g : Fun) (qs : List JudgedPart) → pick f g qs ≡ function_chosen f g (first_part qs)
pick_is f g [] = refl
pick_is f g (piece (value (Some a) c t) ∷ qs) = refl
pick_is f g (piece (value None c (tables cs)) ∷ qs) = refl
pick_is f g (piece (value None c (records cs)) ∷ qs) = refl
pick_is f g (piece (value None c blanks) ∷ qs) = refl
pick_is f g (piece (value None c numbers) ∷ qs) = refl
pick_is f g (piece (value None c texts) ∷ qs) = refl
pick_is f g (piece (value None c booleans) ∷ qs) = refl
pick_is f g (piece (value None c dates) ∷ qs) = refl
pick_is f g (piece (label x) ∷ qs) = refl
pick_is f g (meant m ∷ qs) = refl
pick_is f g (target a x ∷ qs) = refl
pick_is f g (assigned ns xs ∷ qs) = refl

call_is : (b : Bool) (o : Option SigShape) (n : ℕ) (done : List JudgedPart) → plan_call b o n done ≡ called_part b o n (length done) (first_part done)
call_is b (Some (sig.One f)) n done = refl
call_is b (Some (sig.Either f g)) n [] = refl
call_is b (Some (sig.Either f g)) n (q ∷ qs) = ap (λ k. plan_by_row b (row_of k) n (length (q ∷ qs))) (pick_is f g (q ∷ qs))
call_is b (Some (sig.Literal f)) n done = refl
call_is b (Some (sig.Form f)) n done = refl
call_is b (Some sig.With) n done = refl
call_is b (Some sig.Table) n done = refl
call_is b (Some sig.Today) n done = refl
call_is b (Some sig.Defaults) n done = refl
call_is b (Some (sig.Act a)) n done = refl
call_is b None n done = refl

plan_is : (m : Names) (g : Grant) (h : Head) (n : ℕ) (done : List JudgedPart) → plan_at m g h n done ≡ part_plan m g h n (length done) (first_part done)
plan_is m g (tree.call x) n done = call_is (may_act g) (called_as m x) n done
plan_is m g (tree.dot x) n done = refl
plan_is m g tree.chain n done = refl
plan_is m g (tree.alias x) n done = refl
plan_is m g (tree.rec ns ps) n done = refl
plan_is m g h n done = refl

stood_is : (m : Names) (s : Setting) (st : PartScope) (g : Grant) (done : List JudgedPart) → setting_by m s (argument_rule st g) done ≡ stood m s st g (first_part done)
stood_is m s plain g done = λ i. record { scopes = s.scopes; catches = or-false s.catches i; grant = g }
stood_is m s inside g [] = λ i. record { scopes = s.scopes; catches = or-false s.catches i; grant = g }
stood_is m s inside g (q ∷ qs) = λ i. record { scopes = s.scopes ++ first_row m q ∷ []; catches = or-false s.catches i; grant = g }
stood_is m s bound g [] = λ i. record { scopes = s.scopes; catches = or-false s.catches i; grant = g }
stood_is m s bound g (q ∷ qs) = λ i. record { scopes = s.scopes ++ first_record q ∷ []; catches = or-false s.catches i; grant = g }
stood_is m s catching g done = λ i. record { scopes = s.scopes; catches = or-true s.catches i; grant = g }

pub setting_is : (m : Names) (s : Setting) (h : Head) (n : ℕ) (done : List JudgedPart) → setting_at m s h n done ≡ part_setting m s h n (length done) (first_part done)
setting_is m s h n done =
    let k = plan_is m s.grant h n done in
    ap (λ pl. setting_by m s pl done) k
    ∙ stood_is m s (part_plan m s.grant h n (length done) (first_part done)).standing (part_plan m s.grant h n (length done) (first_part done)).grant done

opens_is : (m : Names) (g : Grant) (h : Head) (n : ℕ) (done qs : List JudgedPart) → opens_rows m g h n done qs ≡ opens_scope m g h n (length done) (first_part done) qs
opens_is m g h n done [] = refl
opens_is m g h n done (q ∷ qs) =
    let first : (is_inside (plan_at m g h n done).standing || opens_rows m g h n (done ++ q ∷ []) qs)
    ≡ (is_inside (part_plan m g h n (length done) (first_part done)).standing || opens_scope m g h n (length (done ++ q ∷ [])) (first_part (done ++ q ∷ [])) qs)
    = λ i. is_inside (plan_is m g h n done i).standing || opens_is m g h n (done ++ q ∷ []) qs i in
    first ∙ (λ i. is_inside (part_plan m g h n (length done) (first_part done)).standing || opens_scope m g h n (length_one done q i) (first_one done q i) qs)

pub depth_is : (p : Place) (s : Setting) (h : Head) (qs : List JudgedPart) → is_too_deep p s h qs ≡ is_fourth_scope p.names s h qs
depth_is p s h qs = ap (λ b. b && nat_lt 2 (depth_of s.scopes)) (opens_is p.names s.grant h (length qs) [] qs)
