-- A collection in which an admitted formula gathers rows has the type of a table.
use Rattle.std.proofs.Common.{◌≡◌, ℕ, ◌++◌, List, [], ◌∷◌, Bool, true, false, not, All, length, encode_utf8_all, Option, Some, None, Result, Ok, Err, refl, ap, sym, subst, ◌∙◌, if◌then◌else◌}
use Rattle.std.specs.Prelude.{◌&&◌, is_some, option_map}
use Rattle.std.proofs.lemmas.List.Elements.{All-nil, All-append}
use Rattle.fx_types.specs.TypeView.{shape}
use Rattle.fx_types.specs.Types.{Shape, blanks, numbers, texts, booleans, dates, records, tables, ColumnList}
use Rattle.fx_core.specs.declared.deeds.Deed.{Deed}
use Rattle.fx_core.specs.declared.deeds.Deed.TheVariants as deed
use Rattle.fx_core.specs.declared.functions.Acting.{Acting}
use Rattle.fx_core.specs.declared.functions.Acting.TheVariants as acts
use Rattle.fx_core.specs.declared.names.Collection.{Collection}
use Rattle.fx_core.specs.declared.names.Names.{Names}
use Rattle.fx_core.specs.declared.signatures.SigShape.{SigShape}
use Rattle.fx_core.specs.declared.signatures.SigShape.TheVariants as sig
use Rattle.fx_core.specs.declared.signatures.Signature.{Signature}
use Rattle.fx_core.specs.Rows.{is_arity}
use Rattle.fx_core.specs.Signatures.{signature_in}
use Rattle.fx_core.specs.Term.{Term}
use Rattle.fx_core.specs.Tree.{Tree, node, Forest, none, more, Head}
use Rattle.fx_core.specs.Tree as tree
use Rattle.fx_typing.proofs.Built.{within_limit}
use Rattle.fx_typing.proofs.Deeds.{by_name_ok, if_known_ok, joins_rows}
use Rattle.fx_typing.proofs.Frame.{at_node_ok, onward_ok, put_one}
use Rattle.fx_typing.proofs.Operators.{then_ok}
use Rattle.fx_typing.proofs.RelatedSteps.{as_part_ok}
use Rattle.fx_typing.specs.Breaks.{could_act, gives_variables, large_given}
use Rattle.fx_typing.specs.Builds.{bounded, bounded_by}
use Rattle.fx_typing.specs.Calls.{acted_by, acted_on_screen, called_by, called_with}
use Rattle.fx_typing.specs.Deeds.{acted, by_first_name, collect_of, collect_to, done_by, given_variable, if_known, joins_to, rows_given, rows_collected, until_settled}
use Rattle.fx_typing.specs.Local.{by_way, firsts, put_first}
use Rattle.fx_typing.specs.Meaning.{NameMeaning, Place, in_globals, meaning_of}
use Rattle.fx_typing.specs.Parts.{Grant, a_target, JudgedPart, as_part, target, Setting, may_act, part_count, unless_rule, values}
use Rattle.fx_typing.specs.Plans as plans
use Rattle.fx_typing.specs.Plans.{plan_call, setting_at, shape_in}
use Rattle.fx_typing.specs.Targets.{collection_named}
use Rattle.fx_typing.specs.Typing.{admit, at_node, global_by, is_too_deep, judge, judge_parts, judge_whole, name_by, outermost_setting, position, whole_argument}
use Rattle.fx_typing.specs.Ways.{way}
use Rattle.app_names.specs.Declarations.{shape_called, declared_among, declared_at, declared_in, first_name}
use Rattle.app_names.specs.declared.declarations.Declared.{Declared}
use Rattle.app_names.specs.declared.declarations.Thing.TheVariants as thing
use Rattle.app_loader.proofs.Declared.{call_holds, gathers}

-- ---- a value that is gathered makes its collection's type that of a table
rows_are : (c : Term) (t : Shape) → (ds : ColumnList) × ((rows_collected (c, t)).1 ≡ tables ds)
rows_are c (tables cs) = (cs, refl)
rows_are c blanks = (_, refl)
rows_are c numbers = (_, refl)
rows_are c texts = (_, refl)
rows_are c booleans = (_, refl)
rows_are c dates = (_, refl)
rows_are c (records cs) = (_, refl)

if_ok : (b : Bool) (k : ℕ) (r : Result (Term × Shape) ℕ) (y : Term × Shape) → (if b then r else Err k) ≡ Ok y → (b ≡ true) × (r ≡ Ok y)
if_ok true k r y e = (refl, e)
if_ok false k r y e = absurd cc

given_rows : (t : Shape) (x y : Term × Shape) → given_variable t (rows_collected x) ≡ Ok y → (cs : ColumnList) × (t ≡ tables cs)
given_rows t x y e =
    let j = if_ok (joins_to t (rows_collected x).1) 11 (by_way (way (rows_collected x).1 t) (rows_collected x).0 t) y e in
    let r = rows_are x.0 x.1 in
    joins_rows t r.0 (subst (λ u. joins_to t u ≡ true) r.1 j.0)

-- a collection of this name has the type of a table
abbrev pub IsGathered : Names → List ℕ → Type 0
IsGathered n x = (c : ℕ × Collection) × (cs : ColumnList) × (collection_named n x ≡ Some c) × (shape c.1.ty ≡ tables cs)

collected_to : (d : ℕ → Deed) (c : ℕ × Collection) (xs : List (Term × Shape)) (y : Term × Shape) → collect_to d c xs ≡ Ok y → (cs : ColumnList) × (shape c.1.ty ≡ tables cs)
collected_to d c [] y e = absurd cc
collected_to d c (x ∷ xs) y e =
    let g = then_ok (rows_given (shape c.1.ty) (x ∷ xs)) (λ ys. Ok (done_by (d c.0) (firsts ys))) y e in
    let first = then_ok (given_variable (shape c.1.ty) (rows_collected x)) (λ z. put_first z (rows_given (shape c.1.ty) xs)) g.0 g.1 in
    given_rows (shape c.1.ty) x first.0 first.1

collected : (d : ℕ → Deed) (n : Names) (x : List ℕ) (qs : List JudgedPart) (y : Term × Shape) → collect_of d n x qs ≡ Ok y → IsGathered n x
collected d n x qs y e =
    let v = then_ok (values qs) (λ xs. if_known (collection_named n x) (λ (c : ℕ × Collection). collect_to d c xs)) y e in
    let c = if_known_ok (collection_named n x) (λ (c : ℕ × Collection). collect_to d c v.0) y v.2 in
    let t = collected_to d c.0 v.0 y c.2 in
    (c.0, t.0, c.1, t.1)

-- ---- a call that gathers names its collection first
abbrev Named : List ℕ → List JudgedPart → Type 0
Named x qs = (more : List JudgedPart) × (qs ≡ target None x ∷ more)

abbrev Gathers : Acting → Type 0
Gathers a = (p : Place) (screen : Option ℕ) (qs : List JudgedPart) (y : Term × Shape) → acted p.names screen a qs ≡ Ok y → (x : List ℕ) × Named x qs × IsGathered p.names x

gathered_by : (d : ℕ → Deed) (p : Place) (qs : List JudgedPart) (y : Term × Shape) → by_first_name qs (collect_of d p.names) ≡ Ok y → (x : List ℕ) × Named x qs × IsGathered p.names x
gathered_by d p qs y e = let w = by_name_ok qs (collect_of d p.names) y e in (w.0, (w.1, w.2), collected d p.names w.0 w.1 y w.3)

collects : Gathers acts.Collect
collects p screen qs y e = gathered_by deed.Collect p qs y e

clears_and_collects : Gathers acts.ClearCollect
clears_and_collects p screen qs y e = gathered_by deed.ClearCollect p qs y e

settled_ok : (b : Bool) (r : Result (Term × Shape) ℕ) (y : Term × Shape) → b ≡ true → until_settled b r ≡ Ok y → r ≡ Ok y
settled_ok b (Ok x) y t e = e
settled_ok true (Err k) y t e = absurd cc
settled_ok false (Err k) y t e = absurd cc

same_target : (x z : List ℕ) (ps qs : List JudgedPart) → target None x ∷ ps ≡ target None z ∷ qs → x ≡ z
same_target x z ps qs e = cc

module _ (p : Place) (settled : p.settled ≡ true) where
  -- an acting call that is admitted was done
  acted_ok : (s : Setting) (a : Acting) (qs : List JudgedPart) (y : Term × Shape) → called_by p s (sig.Act a) qs ≡ Ok y → acted p.names p.screen a qs ≡ Ok y
  acted_ok s a qs y m =
      let r = acted_by p a qs in
      let able = within_limit (not (may_act s.grant)) 9 (unless_rule (not (could_act a qs)) 6 r) y m in
      let known = within_limit (not (could_act a qs)) 6 r y able in
      let small = within_limit (is_some (large_given p.names p.screen a qs) && p.settled) 13 (acted_on_screen p a qs) y known in
      settled_ok p.settled (acted p.names p.screen a qs) y settled
      (within_limit (not (gives_variables p.names p.screen a qs)) 15 (until_settled p.settled (acted p.names p.screen a qs)) y small)

  -- what a call of a function is
  call_ok : (s : Setting) (f : Signature) (deep : Bool) (qs : List JudgedPart) (q : JudgedPart) → as_part (unless_rule deep 13 (called_with p s (Some f) qs)) ≡ Ok q → (y : Term × Shape) × (called_by p s f.shape qs ≡ Ok y)
  call_ok s f deep qs q e =
      let whole = as_part_ok (unless_rule deep 13 (called_with p s (Some f) qs)) q e in
      let call = within_limit deep 13 (called_with p s (Some f) qs) whole.0 whole.1 in
      let many = if_ok (is_arity f.least f.most (length qs)) 7 (bounded (called_by p s f.shape qs)) whole.0 call in
      let made = then_ok (called_by p s f.shape qs) bounded_by whole.0 many.1 in
      (made.0, made.1)

  -- the first name of a call whose first place names what changes
  named_ok : (x : List ℕ) (g : Grant) (o : Option NameMeaning) (q : JudgedPart) → g ≡ a_target → name_by g x o ≡ Ok q → target None x ≡ q
  named_ok x g o q t e = let k : ◌≡◌ {A = Result JudgedPart ℕ} (Ok (target None x)) (Ok q) = ap (λ z. name_by z x o) (sym t) ∙ e in cc

  global_ok : (x : List ℕ) (g : Grant) (o : Option NameMeaning) (q : JudgedPart) → g ≡ a_target → global_by g x o ≡ Ok q → target None x ≡ q
  global_ok x g o q t e = let k : ◌≡◌ {A = Result JudgedPart ℕ} (Ok (target None x)) (Ok q) = ap (λ z. global_by z x o) (sym t) ∙ e in cc

  name_admitted : (u : Setting) (x : List ℕ) (rs : List JudgedPart) (q : JudgedPart) → u.grant ≡ a_target → admit p u (tree.name x) rs ≡ Ok q → target None x ≡ q
  name_admitted u x [] q t e = named_ok x u.grant (meaning_of p u.scopes u.catches x) q t e
  name_admitted u x (r ∷ rs) q t e = absurd cc

  global_admitted : (u : Setting) (x : List ℕ) (rs : List JudgedPart) (q : JudgedPart) → u.grant ≡ a_target → admit p u (tree.global x) rs ≡ Ok q → target None x ≡ q
  global_admitted u x [] q t e = global_ok x u.grant (in_globals p.names x) q t e
  global_admitted u x (r ∷ rs) q t e = absurd cc

  name_judged : (u : Setting) (at : ℕ) (h : Head) (us : Forest) (x : List ℕ) (q : JudgedPart) → ((rs : List JudgedPart) → admit p u h rs ≡ Ok q → target None x ≡ q) → judge p u (node at h us) ≡ Ok q → target None x ≡ q
  name_judged u at h us x q go e =
      let a = onward_ok (judge_parts p u h (part_count us) [] us) (λ rs. at_node at (admit p u h rs)) q e in
      go a.0 (at_node_ok at (admit p u h a.0) q a.2)

  -- the done parts stand first
  begins : (s : Setting) (h : Head) (n : ℕ) (done : List JudgedPart) (ts : Forest) (qs : List JudgedPart) → judge_parts p s h n done ts ≡ Ok qs → (rest : List JudgedPart) × (qs ≡ done ++ rest)
  begins s h n done none qs e = let k : done ≡ qs = cc in ([], sym k ∙ ends done)
    where
      ends : (xs : List JudgedPart) → xs ≡ xs ++ []
      ends [] = refl
      ends (x ∷ xs) = ap (λ ys. x ∷ ys) (ends xs)
  begins s h n done (more k ks) qs e =
      let a = onward_ok (judge p (setting_at p.names s h n done) k) (λ q. judge_parts p s h n (done ++ q ∷ []) ks) qs e in
      let r = begins s h n (done ++ a.0 ∷ []) ks qs a.2 in
      (a.0 ∷ r.0, r.1 ∙ put_one done a.0 r.0)

  abbrev TakesTarget : Setting → Head → ℕ → Type 0
  TakesTarget s h n = (setting_at p.names s h n []).grant ≡ a_target

  first_named : (s : Setting) (h : Head) (n : ℕ) (ts : Forest) (qs : List JudgedPart) (x : List ℕ) (at : ℕ) → TakesTarget s h n → first_name ts ≡ Some (x, at) → judge_parts p s h n [] ts ≡ Ok qs → Named x qs
  first_named s h n none qs x at t e j = absurd cc
  first_named s h n (more (node b (tree.name w) us) ks) qs x at t e j =
      let pair : ◌≡◌ {A = List ℕ × ℕ} (w, b) (x, at) = cc in
      let same : w ≡ x = ap (λ (z : List ℕ × ℕ). z.0) pair in
      let a = onward_ok (judge p (setting_at p.names s h n []) (node b (tree.name w) us)) (λ q. judge_parts p s h n (q ∷ []) ks) qs j in
      let q = name_judged (setting_at p.names s h n []) b (tree.name w) us w a.0 (λ rs k. name_admitted (setting_at p.names s h n []) w rs a.0 t k) a.1 in
      let r = begins s h n (a.0 ∷ []) ks qs a.2 in
      (r.0, r.1 ∙ ap (λ z. z ∷ r.0) (sym q ∙ ap (target None) same))
  first_named s h n (more (node b (tree.global w) us) ks) qs x at t e j =
      let pair : ◌≡◌ {A = List ℕ × ℕ} (w, b) (x, at) = cc in
      let same : w ≡ x = ap (λ (z : List ℕ × ℕ). z.0) pair in
      let a = onward_ok (judge p (setting_at p.names s h n []) (node b (tree.global w) us)) (λ q. judge_parts p s h n (q ∷ []) ks) qs j in
      let q = name_judged (setting_at p.names s h n []) b (tree.global w) us w a.0 (λ rs k. global_admitted (setting_at p.names s h n []) w rs a.0 t k) a.1 in
      let r = begins s h n (a.0 ∷ []) ks qs a.2 in
      (r.0, r.1 ∙ ap (λ z. z ∷ r.0) (sym q ∙ ap (target None) same))
  first_named s h n (more (node b k us) ks) qs x at t e j = absurd cc

  -- ---- calls
  acts_gathered : (s : Setting) (a : Acting) (qs : List JudgedPart) (y : Term × Shape) (x : List ℕ) → Gathers a → called_by p s (sig.Act a) qs ≡ Ok y → Named x qs → IsGathered p.names x
  acts_gathered s a qs y x law c named =
      let w = law p p.screen qs y (acted_ok s a qs y c) in
      subst (IsGathered p.names) (same_target w.0 x w.1.0 named.0 (sym w.1.1 ∙ named.1)) w.2

  by_shape : (s : Setting) (x : List ℕ) (k : SigShape) (ts : Forest) (qs : List JudgedPart) (y : Term × Shape) (z : List ℕ) (at : ℕ) → plans.called_as p.names x ≡ Some k → judge_parts p s (tree.call x) (part_count ts) [] ts ≡ Ok qs →
      called_by p s k qs ≡ Ok y → gathers (Some k) ≡ true → first_name ts ≡ Some (z, at) → IsGathered p.names z
  by_shape s x (sig.Act acts.Collect) ts qs y z at e j c g f =
      let t : TakesTarget s (tree.call x) (part_count ts) = ap (λ o. (plan_call (may_act s.grant) o (part_count ts) []).grant) e in
      acts_gathered s acts.Collect qs y z collects c (first_named s (tree.call x) (part_count ts) ts qs z at t f j)
  by_shape s x (sig.Act acts.ClearCollect) ts qs y z at e j c g f =
      let t : TakesTarget s (tree.call x) (part_count ts) = ap (λ o. (plan_call (may_act s.grant) o (part_count ts) []).grant) e in
      acts_gathered s acts.ClearCollect qs y z clears_and_collects c (first_named s (tree.call x) (part_count ts) ts qs z at t f j)
  by_shape s x k ts qs y z at e j c g f = absurd cc

  by_signature : (s : Setting) (x : List ℕ) (o : Option Signature) (ts : Forest) (qs : List JudgedPart) (q : JudgedPart) (z : List ℕ) (at : ℕ) → signature_in p.names.signatures.now (encode_utf8_all x) ≡ o →
      judge_parts p s (tree.call x) (part_count ts) [] ts ≡ Ok qs → as_part (unless_rule (is_too_deep p s (tree.call x) qs) 13 (called_with p s o qs)) ≡ Ok q →
      gathers (option_map (λ (f : Signature). f.shape) o) ≡ true → first_name ts ≡ Some (z, at) → IsGathered p.names z
  by_signature s x None ts qs q z at e j c g f = absurd cc
  by_signature s x (Some f) ts qs q z at e j c g first =
      let y = call_ok s f (is_too_deep p s (tree.call x) qs) qs q c in
      by_shape s x f.shape ts qs y.0 z at (ap shape_in e) j y.1 g first

  -- ---- trees
  abbrev functions : List Signature
  functions = p.names.signatures.now

  -- a collection that is declared has the type of a table
  abbrev pub Stands : Declared → Type 0
  Stands d = d.thing ≡ thing.Collection → IsGathered p.names d.name

  no_collection : (s : Option ℕ) (x : List ℕ) (at : ℕ) → Stands (record { thing = thing.Variable s; name = x; at = at })
  no_collection s x at e = absurd cc

  module _ (screen : Option ℕ) where
    here : (s : Setting) (h : Head) (ts : Forest) (qs : List JudgedPart) (q : JudgedPart) → judge_parts p s h (part_count ts) [] ts ≡ Ok qs → admit p s h qs ≡ Ok q → All Stands (declared_at functions screen h ts)
    here s (tree.call x) ts qs q j e =
        call_holds Stands no_collection screen (shape_called functions x) ts
        (λ z at g f k. by_signature s x (signature_in functions (encode_utf8_all x)) ts qs q z at refl j e g f)
    here s h ts qs q j e = All-nil Stands

    mutual
      node_stands : (s : Setting) (e : Tree) (q : JudgedPart) → judge p s e ≡ Ok q → All Stands (declared_in functions screen e)
      node_stands s (node at h ts) q e =
          let a = onward_ok (judge_parts p s h (part_count ts) [] ts) (λ qs. at_node at (admit p s h qs)) q e in
          All-append Stands (declared_at functions screen h ts) (declared_among functions screen ts)
          (here s h ts a.0 q a.1 (at_node_ok at (admit p s h a.0) q a.2)) (parts_stand s h (part_count ts) [] ts a.0 a.1)

      parts_stand : (s : Setting) (h : Head) (n : ℕ) (done : List JudgedPart) (ts : Forest) (qs : List JudgedPart) → judge_parts p s h n done ts ≡ Ok qs → All Stands (declared_among functions screen ts)
      parts_stand s h n done none qs e = All-nil Stands
      parts_stand s h n done (more k ks) qs e =
          let a = onward_ok (judge p (setting_at p.names s h n done) k) (λ q. judge_parts p s h n (done ++ q ∷ []) ks) qs e in
          All-append Stands (declared_in functions screen k) (declared_among functions screen ks)
          (node_stands (setting_at p.names s h n done) k a.0 a.1) (parts_stand s h n (done ++ a.0 ∷ []) ks qs a.2)

    pub whole_stands : (b : Bool) (wanted : Option Shape) (e : Tree) (x : Term × Shape) → judge_whole p b wanted e ≡ Ok x → All Stands (declared_in functions screen e)
    whole_stands b wanted e x h =
        let a = onward_ok (judge p (outermost_setting b) e) (λ q. at_node (position e) (whole_argument wanted q)) x h in
        node_stands (outermost_setting b) e a.0 a.1
