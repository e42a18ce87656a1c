-- Constants, names, dots, aliases, records, lists and chains: what the local rule makes of well typed parts is well typed.
use Rattle.std.proofs.Common.{◌≡◌, ℕ, List, [], ◌∷◌, Bool, true, false, not, length, Option, Some, None, Result, Ok, Err, refl, inl, subst, if◌then◌else◌}
use Rattle.fx_types.specs.Types.{Shape, numbers, texts, booleans}
use Rattle.fx_types.specs.Values.{Data, number, text, boolean}
use Rattle.fx_value.specs.Fits.{fits_in}
use Rattle.fx_core.specs.Lawful.{IsLawful}
use Rattle.fx_core.specs.Tree.{Head}
use Rattle.fx_core.specs.Tree as tree
use Rattle.fx_core.specs.Term.{Term, of, nil, const}
use Rattle.fx_core.specs.ColumnLists.{and_then}
use Rattle.fx_typing.specs.LawfulTypes.{IsLawfulType}
use Rattle.fx_typing.specs.Local.{value, label}
use Rattle.fx_typing.specs.Meaning.{Place, NameMeaning, valued, controlled, screened, enumerated, in_globals, meaning_of, named}
use Rattle.fx_typing.proofs.Rules.{Typed}
use Rattle.fx_typing.specs.Builds.{typed_record, record_by, put_fields, is_bounded, typed_list, are_names_distinct}
use Rattle.fx_typing.specs.Parts.{Grant, nothing, acting, an_alias, a_column, a_target, aliased_target, a_meaning, on_screen, JudgedPart, piece, meant, target, assigned, Setting, may_act, plainly, as_part, values, unless_rule}
use Rattle.fx_typing.specs.Typing.{context_of, constant, left_of_dot, name_by, global_by, dot_by, alias_by, assigned_of, record_as, chain_by, admit}
use Rattle.fx_typing.proofs.Frame.{AllTyped, PartTyped, PartsTypedAt, IsMeant, AreMeant}
use Rattle.fx_typing.proofs.Names.{Fitting, in_globals_typed, meaning_typed, named_typed, dotted_typed}
use Rattle.fx_typing.proofs.Records.{record_typed, list_typed, chain_typed}
use Rattle.fx_typing.proofs.Built.{within_limit}
use Rattle.fx_typing.proofs.Operators.{then_ok}
use Rattle.fx_typing.proofs.Steps.{EachTyped, each_plain, values_typed}
use Rattle.fx_typing.proofs.RelatedSteps.{as_part_ok, ok_is}

-- a part that is well typed where the node stands, and that means what it says
abbrev pub IsSound : Place → Setting → JudgedPart → Type 0
IsSound p s q = PartTyped (context_of p s) q × IsMeant p.names q

-- what the local rule makes of well typed parts of this head
abbrev pub IsSoundAt : Place → Head → Type 0
IsSoundAt p h =
    (s : Setting) (qs : List JudgedPart) (q : JudgedPart) → admit p s h qs ≡ Ok q → PartsTypedAt p s h (length qs) [] qs → AreMeant p.names qs → IsSound p s q

pub as_part_sound : (p : Place) (s : Setting) (r : Result (Term × Shape) ℕ) (q : JudgedPart) → as_part r ≡ Ok q →
    ((x : Term × Shape) → r ≡ Ok x → Typed (context_of p s) x) → IsSound p s q
as_part_sound p s r q e h = let a = as_part_ok r q e in subst (IsSound p s) a.2 (h a.0 a.1, tt)

constant_sound : (p : Place) (s : Setting) (v : Data) (t : Shape) (q : JudgedPart) → fits_in v t ≡ true → IsLawfulType t → constant v t ≡ Ok q → IsSound p s q
constant_sound p s v t q f l e = let k : plainly (of (const v) nil, t) ≡ q = cc in subst (IsSound p s) k (([], refl, (f, inl l)), tt)

pub num_sound : (p : Place) (s : Setting) (qs : List JudgedPart) (q : JudgedPart) (z : _) → admit p s (tree.num z) qs ≡ Ok q → IsSound p s q
num_sound p s [] q z e = constant_sound p s (number z) numbers q refl tt e
num_sound p s (r ∷ qs) q z e = absurd cc

pub text_sound : (p : Place) (s : Setting) (qs : List JudgedPart) (q : JudgedPart) (cs : List ℕ) → admit p s (tree.text cs) qs ≡ Ok q → IsSound p s q
text_sound p s [] q cs e = constant_sound p s (text cs) texts q refl tt e
text_sound p s (r ∷ qs) q cs e = absurd cc

pub truth_sound : (p : Place) (s : Setting) (qs : List JudgedPart) (q : JudgedPart) (b : Bool) → admit p s (tree.truth b) qs ≡ Ok q → IsSound p s q
truth_sound p s [] q b e = constant_sound p s (boolean b) booleans q refl tt e
truth_sound p s (r ∷ qs) q b e = absurd cc

-- names
label_sound : (p : Place) (s : Setting) (x : List ℕ) (q : JudgedPart) → ◌≡◌ {A = Result JudgedPart ℕ} (Ok (piece (label x))) (Ok q) → IsSound p s q
label_sound p s x q e = let k : piece (label x) ≡ q = cc in subst (IsSound p s) k (tt, tt)

target_sound : (p : Place) (s : Setting) (a : Option (List ℕ)) (x : List ℕ) (q : JudgedPart) → ◌≡◌ {A = Result JudgedPart ℕ} (Ok (target a x)) (Ok q) → IsSound p s q
target_sound p s a x q e = let k : target a x ≡ q = cc in subst (IsSound p s) k (tt, tt)

meaning_sound : (p : Place) (s : Setting) (o : Option NameMeaning) (q : JudgedPart) → ((m : NameMeaning) → o ≡ Some m → Fitting p.names (context_of p s) m) →
    left_of_dot o ≡ Ok q → IsSound p s q
meaning_sound p s (Some (valued c t)) q h e = let k : plainly (c, t) ≡ q = cc in subst (IsSound p s) k (h (valued c t) refl, tt)
meaning_sound p s (Some (controlled i c)) q h e = let k : meant (controlled i c) ≡ q = cc in subst (IsSound p s) k (tt, h (controlled i c) refl)
meaning_sound p s (Some screened) q h e = let k : meant screened ≡ q = cc in subst (IsSound p s) k (tt, tt)
meaning_sound p s (Some (enumerated m)) q h e = let k : meant (enumerated m) ≡ q = cc in subst (IsSound p s) k (tt, tt)
meaning_sound p s None q h e = absurd cc

named_sound : (p : Place) (s : Setting) (o : Option NameMeaning) (q : JudgedPart) → ((m : NameMeaning) → o ≡ Some m → Fitting p.names (context_of p s) m) →
    as_part (named o) ≡ Ok q → IsSound p s q
named_sound p s o q h e = as_part_sound p s (named o) q e (λ x i. named_typed p.names (context_of p s) o x h i)

name_by_sound : (p : Place) (s : Setting) (g : Grant) (x : List ℕ) (o : Option NameMeaning) (q : JudgedPart) →
    ((m : NameMeaning) → o ≡ Some m → Fitting p.names (context_of p s) m) → name_by g x o ≡ Ok q → IsSound p s q
name_by_sound p s a_column x o q h e = label_sound p s x q e
name_by_sound p s a_target x o q h e = target_sound p s None x q e
name_by_sound p s aliased_target x o q h e = target_sound p s None x q e
name_by_sound p s (a_meaning b) x o q h e = meaning_sound p s o q h e
name_by_sound p s nothing x o q h e = named_sound p s o q h e
name_by_sound p s acting x o q h e = named_sound p s o q h e
name_by_sound p s an_alias x o q h e = named_sound p s o q h e
name_by_sound p s (on_screen b) x o q h e = named_sound p s o q h e

global_by_sound : (p : Place) (s : Setting) (g : Grant) (x : List ℕ) (o : Option NameMeaning) (q : JudgedPart) →
    ((m : NameMeaning) → o ≡ Some m → Fitting p.names (context_of p s) m) → global_by g x o ≡ Ok q → IsSound p s q
global_by_sound p s a_target x o q h e = target_sound p s None x q e
global_by_sound p s aliased_target x o q h e = target_sound p s None x q e
global_by_sound p s (a_meaning b) x o q h e = meaning_sound p s o q h e
global_by_sound p s nothing x o q h e = named_sound p s o q h e
global_by_sound p s acting x o q h e = named_sound p s o q h e
global_by_sound p s an_alias x o q h e = named_sound p s o q h e
global_by_sound p s a_column x o q h e = named_sound p s o q h e
global_by_sound p s (on_screen b) x o q h e = named_sound p s o q h e

pub name_sound : (p : Place) (s : Setting) (qs : List JudgedPart) (q : JudgedPart) (x : List ℕ) → IsLawful p.names → admit p s (tree.name x) qs ≡ Ok q → IsSound p s q
name_sound p s [] q x law e = name_by_sound p s s.grant x (meaning_of p s.scopes s.catches x) q (λ m i. meaning_typed p s x m law i) e
name_sound p s (r ∷ qs) q x law e = absurd cc

pub global_sound : (p : Place) (s : Setting) (qs : List JudgedPart) (q : JudgedPart) (x : List ℕ) → IsLawful p.names → admit p s (tree.global x) qs ≡ Ok q → IsSound p s q
global_sound p s [] q x law e = global_by_sound p s s.grant x (in_globals p.names x) q (λ m i. in_globals_typed p s x m law i) e
global_sound p s (r ∷ qs) q x law e = absurd cc

-- dots and aliases
dot_by_typed : (p : Place) (s : Setting) (x : List ℕ) (qs : List JudgedPart) (y : Term × Shape) → IsLawful p.names → EachTyped (context_of p s) qs → AreMeant p.names qs →
    dot_by p x qs ≡ Ok y → Typed (context_of p s) y
dot_by_typed p s x (piece (value a c t) ∷ []) y law h m e = dotted_typed p s x (valued c t) y law h.0 e
dot_by_typed p s x (meant (controlled k c) ∷ []) y law h m e = dotted_typed p s x (controlled k c) y law m.0 e
dot_by_typed p s x (meant (valued c t) ∷ []) y law h m e = absurd m.0
dot_by_typed p s x (meant screened ∷ []) y law h m e = dotted_typed p s x screened y law tt e
dot_by_typed p s x (meant (enumerated k) ∷ []) y law h m e = dotted_typed p s x (enumerated k) y law tt e
dot_by_typed p s x qs y law h m e = absurd cc

pub dot_sound : (p : Place) (x : List ℕ) → IsLawful p.names → IsSoundAt p (tree.dot x)
dot_sound p x law s qs q e t m =
    as_part_sound p s (dot_by p x qs) q e (λ y i. dot_by_typed p s x qs y law (each_plain p s (tree.dot x) (length qs) [] qs (λ d. refl) t) m i)

alias_by_sound : (p : Place) (s : Setting) (g : Grant) (x : List ℕ) (qs : List JudgedPart) (q : JudgedPart) → EachTyped (context_of p s) qs → alias_by g x qs ≡ Ok q → IsSound p s q
alias_by_sound p s an_alias x (piece (value a c t) ∷ []) q h e = let k : piece (value (Some x) c t) ≡ q = cc in subst (IsSound p s) k (h.0, tt)
alias_by_sound p s aliased_target x (piece (value a c t) ∷ []) q h e = let k : piece (value (Some x) c t) ≡ q = cc in subst (IsSound p s) k (h.0, tt)
alias_by_sound p s aliased_target x (target None y ∷ []) q h e = target_sound p s (Some x) y q e
alias_by_sound p s g x qs q h e = absurd cc

pub alias_sound : (p : Place) (x : List ℕ) → IsSoundAt p (tree.alias x)
alias_sound p x s qs q e t m = alias_by_sound p s s.grant x qs q (each_plain p s (tree.alias x) (length qs) [] qs (λ d. refl) t) e

-- records, lists and chains
assigned_sound : (p : Place) (s : Setting) (ns : List (List ℕ)) (xs : List (Term × Shape)) (q : JudgedPart) → AllTyped (context_of p s) xs → assigned_of ns xs ≡ Ok q → IsSound p s q
assigned_sound p s ns xs q h e = by_test (are_names_distinct ns) e
  where
    by_test : (b : Bool) → if◌then◌else◌ {A = Result JudgedPart ℕ} b (unless_rule (not (is_bounded (record_by (put_fields ns xs)).1)) 13 (Ok (assigned ns xs))) (Err 5) ≡ Ok q → IsSound p s q
    by_test true i =
        let bound = is_bounded (record_by (put_fields ns xs)).1 in
        let k : assigned ns xs ≡ q = ok_is (assigned ns xs) q (within_limit (not bound) 13 (Ok (assigned ns xs)) q i) in subst (IsSound p s) k (h, tt)
    by_test false i = absurd cc

record_as_sound : (p : Place) (s : Setting) (g : Grant) (ns : List (List ℕ)) (xs : List (Term × Shape)) (q : JudgedPart) → AllTyped (context_of p s) xs →
    record_as g ns xs ≡ Ok q → IsSound p s q
record_as_sound p s (on_screen b) ns xs q h e = assigned_sound p s ns xs q h e
record_as_sound p s nothing ns xs q h e = as_part_sound p s (typed_record ns xs) q e (λ y i. record_typed (context_of p s) ns xs y h i)
record_as_sound p s acting ns xs q h e = as_part_sound p s (typed_record ns xs) q e (λ y i. record_typed (context_of p s) ns xs y h i)
record_as_sound p s an_alias ns xs q h e = as_part_sound p s (typed_record ns xs) q e (λ y i. record_typed (context_of p s) ns xs y h i)
record_as_sound p s a_column ns xs q h e = as_part_sound p s (typed_record ns xs) q e (λ y i. record_typed (context_of p s) ns xs y h i)
record_as_sound p s a_target ns xs q h e = as_part_sound p s (typed_record ns xs) q e (λ y i. record_typed (context_of p s) ns xs y h i)
record_as_sound p s aliased_target ns xs q h e = as_part_sound p s (typed_record ns xs) q e (λ y i. record_typed (context_of p s) ns xs y h i)
record_as_sound p s (a_meaning b) ns xs q h e = as_part_sound p s (typed_record ns xs) q e (λ y i. record_typed (context_of p s) ns xs y h i)

pub rec_sound : (p : Place) (ns : List (List ℕ)) (ps : List ℕ) → IsSoundAt p (tree.rec ns ps)
rec_sound p ns ps s qs q e t m =
    let a = then_ok (values qs) (record_as s.grant ns) q e in
    record_as_sound p s s.grant ns a.0 q (values_typed (context_of p s) qs a.0 a.1 (each_plain p s (tree.rec ns ps) (length qs) [] qs (λ d. refl) t)) a.2

pub list_sound : (p : Place) → IsSoundAt p tree.list
list_sound p s qs q e t m = as_part_sound p s (and_then (values qs) typed_list) q e (λ y i. by_values y i)
  where
    by_values : (y : Term × Shape) → and_then (values qs) typed_list ≡ Ok y → Typed (context_of p s) y
    by_values y i =
        let a = then_ok (values qs) typed_list y i in
        list_typed (context_of p s) a.0 y (values_typed (context_of p s) qs a.0 a.1 (each_plain p s tree.list (length qs) [] qs (λ d. refl) t)) a.2

pub chain_sound : (p : Place) → IsSoundAt p tree.chain
chain_sound p s qs q e t m = as_part_sound p s (unless_rule (not (may_act s.grant)) 9 (and_then (values qs) chain_by)) q e (λ y i. by_values y i)
  where
    by_values : (y : Term × Shape) → unless_rule (not (may_act s.grant)) 9 (and_then (values qs) chain_by) ≡ Ok y → Typed (context_of p s) y
    by_values y i =
        let u = within_limit (not (may_act s.grant)) 9 (and_then (values qs) chain_by) y i in
        let a = then_ok (values qs) chain_by y u in
        chain_typed (context_of p s) a.0 y (values_typed (context_of p s) qs a.0 a.1 (each_plain p s tree.chain (length qs) [] qs (λ d. refl) t)) a.2
