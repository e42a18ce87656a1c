-- What calls make of well typed arguments is well typed.
use Rattle.std.proofs.Common.{◌≡◌, ℕ, zero, suc, ◌+◌, ◌<◌, ◌≤◌, ◌++◌, List, [], ◌∷◌, Bool, true, false, nat_lt, nat_le, nat_eq, length, take, drop, encode_utf8_all, Result, Ok, Err, refl, ap, sym, subst, ◌∙◌, arith, if◌then◌else◌}
use Rattle.std.specs.Prelude.{Option, Some, None, is_some, option_map}
use Rattle.std.proofs.lemmas.Bool.{leb-true, lt-ltb}
use Rattle.std.proofs.lemmas.List.{length-take}
use Rattle.fx_types.specs.Types.{Shape, dates, tables}
use Rattle.fx_core.specs.declared.functions.Acting.{Acting}
use Rattle.fx_core.specs.declared.functions.Fun.{Fun}
use Rattle.fx_core.specs.declared.functions.Fun.TheVariants as fun
use Rattle.fx_types.specs.declared.formats.DateFormat.{DateFormat}
use Rattle.fx_types.specs.declared.formats.NumberFormat.{NumberFormat}
use Rattle.fx_core.specs.declared.signatures.SigShape.{SigShape}
use Rattle.fx_core.specs.declared.signatures.SigShape.TheVariants as sig
use Rattle.fx_core.specs.declared.signatures.Signature.{Signature}
use Rattle.fx_core.specs.declared.sources.Source.TheVariants as source
use Rattle.fx_core.specs.Literals.{with_literal, time_unit, sort_order, number_format, date_format, format_by}
use Rattle.fx_core.specs.Rows.{row_of, inner_at, takes_at, is_arity}
use Rattle.fx_core.specs.Signatures.{signature_in}
use Rattle.fx_core.specs.Tree as tree
use Rattle.fx_core.specs.Term.{Term, of, nil, read}
use Rattle.fx_typing.specs.Local.{value, node_made}
use Rattle.fx_typing.specs.Meaning.{Place}
use Rattle.fx_typing.specs.WellTyped.{PartScope, plain, standing_of}
use Rattle.fx_typing.proofs.Rules.{Typed}
use Rattle.fx_typing.specs.Breaks.{taken_at, mistells}
use Rattle.fx_typing.specs.Builds.{bounded}
use Rattle.fx_typing.specs.Calls.{literal_in, made_if, function_by, made_literal, called_by, called_with, called}
use Rattle.fx_typing.specs.Parts.{nothing, JudgedPart, piece, Setting, may_act, piece_of, pieces, unless_rule}
use Rattle.fx_typing.specs.Plans.{argument_rule, plan_by_row, pick, plan_either, plan_literal, plan_call, shape_in, called_as}
use Rattle.fx_typing.specs.Typing.{is_too_deep, admit, context_of}
use Rattle.fx_typing.proofs.Built.{within_limit, bounded_ok, table_typed, with_typed, defaults_typed}
use Rattle.fx_typing.proofs.Frame.{PartTyped, PartsTypedAt}
use Rattle.fx_typing.proofs.Operators.{AsTree, as_tree, plain_place}
use Rattle.fx_typing.proofs.Places.{stood, pieces_length, PartsStand, parts_stand}
use Rattle.fx_typing.proofs.Functions.{length_grows, ends_alike, inner_place, by_row, function_law, form_law}

-- the row of a function has its last place like the ones before, and no error is caught at its first
ends_plainly : (f : Fun) → ends_alike (row_of f).ending ≡ true
ends_plainly fun.AddNumbers = refl
ends_plainly f = refl

first_plain : (f : Fun) → standing_of (row_of f).first ≡ plain
first_plain fun.AddNumbers = refl
first_plain f = refl

pub function_place : (f : Fun) (n i : ℕ) → takes_at (row_of f) n i ≡ inner_at (row_of f) i
function_place f n i = inner_place (row_of f) n i (ends_plainly f)

function_first : (f : Fun) (n : ℕ) → standing_of (takes_at (row_of f) n 0) ≡ plain
function_first f n = ap standing_of (function_place f n 0) ∙ first_plain f

-- under one name: the first part chooses, and the others follow its choice
pick_by_first : (f g : Fun) (q : JudgedPart) (d e : List JudgedPart) → pick f g (q ∷ d) ≡ pick f g (q ∷ e)
pick_by_first f g (piece (value (Some a) c t)) d e = refl
pick_by_first f g (piece (value None c (tables cs))) d e = refl
pick_by_first f g q d e = refl

abbrev either_placed : Bool → Fun → Fun → ℕ → List JudgedPart → PartScope
either_placed b f g n d = (plan_either b f g n d).standing

abbrev Begun : JudgedPart → List JudgedPart → Type 0
Begun q [] = ⊥
Begun q (k ∷ d) = k ≡ q

-- parts that stand as they would elsewhere, as long as something holds of the ones before
stand_where : (p : Place) (s : Setting) (Holds : List JudgedPart → Type 0) (st to : List JudgedPart → PartScope) (done qs : List JudgedPart) →
    ((d : List JudgedPart) (q : JudgedPart) → Holds d → Holds (d ++ q ∷ [])) → ((d : List JudgedPart) → Holds d → st d ≡ to d) → Holds done →
    PartsStand p s st done qs → PartsStand p s to done qs
stand_where p s Holds st to done [] goes e h t = tt
stand_where p s Holds st to done (q ∷ qs) goes e h t =
    (subst (λ x. PartTyped (stood p s x done) q) (e done h) t.0, stand_where p s Holds st to (done ++ q ∷ []) qs goes e (goes done q h) t.1)

begun_more : (q : JudgedPart) (d : List JudgedPart) (k : JudgedPart) → Begun q d → Begun q (d ++ k ∷ [])
begun_more q [] k h = absurd h
begun_more q (x ∷ d) k h = h

either_place : (b : Bool) (f g : Fun) (n : ℕ) (q : JudgedPart) (qs d : List JudgedPart) → Begun q d →
    either_placed b f g n d ≡ by_row (row_of (pick f g (q ∷ qs))) n d
either_place b f g n q qs [] h = absurd h
either_place b f g n q qs (k ∷ d) h =
    ap (λ w. by_row (row_of w) n (k ∷ d)) (ap (λ w. pick f g (w ∷ d)) h ∙ pick_by_first f g q d qs)

either_stand : (p : Place) (s : Setting) (b : Bool) (f g : Fun) (n : ℕ) (qs : List JudgedPart) → PartsStand p s (either_placed b f g n) [] qs →
    PartsStand p s (by_row (row_of (pick f g qs)) n) [] qs
either_stand p s b f g n [] t = tt
either_stand p s b f g n (q ∷ qs) t = (
  subst (λ x. PartTyped (stood p s x []) q) (sym (function_first (pick f g (q ∷ qs)) n)) t.0,
  stand_where p s (Begun q) (either_placed b f g n) (by_row (row_of (pick f g (q ∷ qs))) n) (q ∷ []) qs (begun_more q) (either_place b f g n q qs) refl t.1,
)

-- a literal behind the other arguments
abbrev literal_placed : Bool → Fun → ℕ → List JudgedPart → PartScope
literal_placed b f n d = (plan_literal b f n (length d)).standing

stand_below : (p : Place) (s : Setting) (st to : List JudgedPart → PartScope) (m : ℕ) (done qs : List JudgedPart) → length done + length qs ≤ m →
    ((d : List JudgedPart) → length d < m → st d ≡ to d) → PartsStand p s st done qs → PartsStand p s to done qs
stand_below p s st to m done [] l e t = tt
stand_below p s st to m done (q ∷ qs) l e t =
    let grows = length_grows done q in (
      subst (λ x. PartTyped (stood p s x done) q) (e done (omega arith)) t.0,
      stand_below p s st to m (done ++ q ∷ []) qs (omega arith) e t.1,
    )

literal_place : (b : Bool) (f : Fun) (n : ℕ) (d : List JudgedPart) → length d < (row_of f).most → literal_placed b f n d ≡ by_row (row_of f) n d
literal_place b f n d l = by_test (nat_lt (length d) (row_of f).most) (lt-ltb (length d) (row_of f).most l)
  where
    by_test : (t : Bool) → t ≡ true →
        (if t then plan_by_row b (row_of f) n (length d) else argument_rule plain nothing).standing ≡ standing_of (takes_at (row_of f) n (length d))
    by_test true e = refl
    by_test false e = absurd cc

stand_front : (p : Place) (s : Setting) (st : List JudgedPart → PartScope) (m : ℕ) (done qs : List JudgedPart) → PartsStand p s st done qs → PartsStand p s st done (take m qs)
stand_front p s st zero done qs t = tt
stand_front p s st (suc m) done [] t = tt
stand_front p s st (suc m) done (q ∷ qs) t = (t.0, stand_front p s st m (done ++ q ∷ []) qs t.1)

pieces_front : (m : ℕ) (qs : List JudgedPart) → pieces (take m qs) ≡ take m (pieces qs)
pieces_front zero qs = refl
pieces_front (suc m) [] = refl
pieces_front (suc m) (q ∷ qs) = ap (λ ps. piece_of q ∷ ps) (pieces_front m qs)

-- a function that a literal makes of another has its parts stand alike
abbrev StandAlike : Fun → Option Fun → Type 0
StandAlike f (Some g) = (n m i : ℕ) → standing_of (takes_at (row_of f) n i) ≡ standing_of (takes_at (row_of g) m i)
StandAlike f None = Unit {0}

format_alike : (a : Option NumberFormat) (b : Option DateFormat) → StandAlike fun.Text (format_by a b)
format_alike (Some x) b = λ n m i. plain_place (row_of fun.Text) n i refl ∙ sym (plain_place (row_of (fun.FormatNumber x)) m i refl)
format_alike None (Some x) = λ n m i. plain_place (row_of fun.Text) n i refl ∙ sym (plain_place (row_of (fun.FormatDate x)) m i refl)
format_alike None None = tt

one_row : (f g : Fun) → row_of f ≡ row_of g → StandAlike f (Some g)
one_row f g e n m i =
    ap standing_of (function_place f n i) ∙ ap (λ r. standing_of (inner_at r i)) e ∙ sym (ap standing_of (function_place g m i))

mapped_alike : {A : Type 0} (f : Fun) (by : A → Fun) (o : Option A) → ((a : A) → row_of f ≡ row_of (by a)) → StandAlike f (option_map by o)
mapped_alike f by (Some a) e = one_row f (by a) (e a)
mapped_alike f by None e = tt

literal_alike : (f : Fun) (x : List ℕ) → StandAlike f (with_literal f x)
literal_alike (fun.DateAdd u) x = mapped_alike (fun.DateAdd u) fun.DateAdd (time_unit x) (λ a. refl)
literal_alike (fun.DateDiff u) x = mapped_alike (fun.DateDiff u) fun.DateDiff (time_unit x) (λ a. refl)
literal_alike (fun.Sort o) x = mapped_alike (fun.Sort o) fun.Sort (sort_order x) (λ a. refl)
literal_alike fun.Text x = format_alike (number_format x) (date_format x)
literal_alike f x = tt

function_alike : (f : Fun) (o : Option (List ℕ)) → StandAlike f (function_by f o)
function_alike f (Some x) = literal_alike f (encode_utf8_all x)
function_alike f None = tt

front_typed : (p : Place) (s : Setting) (b : Bool) (f : Fun) (n : ℕ) (o : Option Fun) (qs : List JudgedPart) (x : Term × Shape) → StandAlike f o →
    PartsStand p s (literal_placed b f n) [] qs → made_if o (pieces (take (row_of f).most qs)) ≡ Ok x → Typed (context_of p s) x
front_typed p s b f n (Some g) qs x alike t m =
    let front = take (row_of f).most qs in
    let short = length-take (row_of f).most qs in
    function_law p s g front x (
    stand_below p s (literal_placed b f n) (by_row (row_of g) (length front)) (row_of f).most [] front (omega arith)
    (λ d l. literal_place b f n d l ∙ alike n (length front) (length d))
    (stand_front p s (literal_placed b f n) (row_of f).most [] qs t)
    ) m
front_typed p s b f n None qs x alike t m = absurd cc

literal_typed : (p : Place) (s : Setting) (b : Bool) (f : Fun) (qs : List JudgedPart) (x : Term × Shape) → PartsStand p s (literal_placed b f (length qs)) [] qs →
    made_literal f (pieces qs) ≡ Ok x → Typed (context_of p s) x
literal_typed p s b f qs x t m = by_most (nat_le (length (pieces qs)) (row_of f).most) refl m
  where
    most : ℕ
    most = (row_of f).most

    with_literal_behind : Result (Term × Shape) ℕ
    with_literal_behind = made_if (function_by f (literal_in (drop most (pieces qs)))) (take most (pieces qs))

    by_one_more : (k : Bool) → (if k then with_literal_behind else Err 7) ≡ Ok x → Typed (context_of p s) x
    by_one_more true e =
        front_typed p s b f (length qs) (function_by f (literal_in (drop most (pieces qs)))) qs x (function_alike f (literal_in (drop most (pieces qs)))) t
        (subst (λ ps. made_if (function_by f (literal_in (drop most (pieces qs)))) ps ≡ Ok x) (sym (pieces_front most qs)) e)
    by_one_more false e = absurd cc

    by_most : (k : Bool) → nat_le (length (pieces qs)) most ≡ k →
        (if k then node_made f (pieces qs) else (if nat_eq (length (pieces qs)) (suc most) then with_literal_behind else Err 7)) ≡ Ok x → Typed (context_of p s) x
    by_most true i e =
        let few = leb-true (length (pieces qs)) most i in
        let same = pieces_length qs in
        function_law p s f qs x (
        stand_below p s (literal_placed b f (length qs)) (by_row (row_of f) (length qs)) most [] qs (omega arith) (literal_place b f (length qs)) t
        ) e
    by_most false i e = by_one_more (nat_eq (length (pieces qs)) (suc most)) e

-- what the signature of a call makes of arguments that stand where it puts them
abbrev pub call_placed : Setting → Option SigShape → ℕ → List JudgedPart → PartScope
call_placed s o n d = (plan_call (may_act s.grant) o n d).standing

shape_typed : (p : Place) (s : Setting) (k : SigShape) (qs : List JudgedPart) (x : Term × Shape) → PartsStand p s (call_placed s (Some k) (length qs)) [] qs →
    called_by p s k qs ≡ Ok x → ((a : Acting) → k ≡ sig.Act a → Typed (context_of p s) x) → Typed (context_of p s) x
shape_typed p s (sig.One f) qs x t e acts =
    let one = within_limit (is_some (taken_at f qs)) 5 (unless_rule (mistells f qs) 6 (node_made f (pieces qs))) x e in
    function_law p s f qs x t (within_limit (mistells f qs) 6 (node_made f (pieces qs)) x one)
shape_typed p s (sig.Either f g) qs x t e acts = function_law p s (pick f g qs) qs x (either_stand p s (may_act s.grant) f g (length qs) qs t) e
shape_typed p s (sig.Literal f) qs x t e acts = literal_typed p s (may_act s.grant) f qs x t e
shape_typed p s (sig.Form f) qs x t e acts = form_law p s f qs x t e
shape_typed p s sig.With qs x t e acts = with_typed p s (may_act s.grant) qs x t e
shape_typed p s sig.Table qs x t e acts = table_typed p s qs x t e
shape_typed p s sig.Today qs x t e acts =
    let y : (of (read source.Today) nil, dates) ≡ x = cc in subst (Typed (context_of p s)) y ([], refl, refl)
shape_typed p s sig.Defaults qs x t e acts = defaults_typed (context_of p s) p.names qs x (λ r. refl) e
shape_typed p s (sig.Act a) qs x t e acts = acts a refl

-- what acting calls of this name, with these parts, make is well typed
abbrev pub ActsTyped : Place → Setting → List ℕ → List JudgedPart → Type 0
ActsTyped p s x qs =
    (a : Acting) (y : Term × Shape) → called_as p.names x ≡ Some (sig.Act a) → called_by p s (sig.Act a) qs ≡ Ok y → Typed (context_of p s) y

-- THE law of calls: what is admitted of well typed arguments is a well typed tree, where that holds of acting calls
pub call_typed : (p : Place) (s : Setting) (x : List ℕ) (qs : List JudgedPart) (q : JudgedPart) → ActsTyped p s x qs →
    admit p s (tree.call x) qs ≡ Ok q → PartsTypedAt p s (tree.call x) (length qs) [] qs → AsTree (context_of p s) q
call_typed p s x qs q acts e t =
    as_tree (context_of p s) (unless_rule (is_too_deep p s (tree.call x) qs) 13 (called p s x qs)) q e (λ y m.
    by_name (signature_in p.names.signatures.now (encode_utf8_all x)) y refl (within_limit (is_too_deep p s (tree.call x) qs) 13 (called p s x qs) y m))
  where
    by_count : (f : Signature) (b : Bool) (y : Term × Shape) → called_as p.names x ≡ Some f.shape → (if b then bounded (called_by p s f.shape qs) else Err 7) ≡ Ok y →
        Typed (context_of p s) y
    by_count f true y i m =
        let k = bounded_ok (called_by p s f.shape qs) y m in
        let stand = subst (λ o. PartsStand p s (call_placed s o (length qs)) [] qs) i (parts_stand p s (tree.call x) (length qs) [] qs t) in
        shape_typed p s f.shape qs y stand k (λ a j. acts a y (i ∙ ap Some j) (subst (λ h. called_by p s h qs ≡ Ok y) j k))
    by_count f false y i m = absurd cc

    by_name : (o : Option Signature) (y : Term × Shape) → signature_in p.names.signatures.now (encode_utf8_all x) ≡ o → called_with p s o qs ≡ Ok y →
        Typed (context_of p s) y
    by_name (Some f) y i m = by_count f (is_arity f.least f.most (length qs)) y (ap shape_in i) m
    by_name None y i m = absurd cc
