-- Calls are worth their bodies.
use Rattle.std.proofs.Common.{◌≡◌, ℕ, zero, suc, ◌+◌, ◌≤◌, max, List, [], ◌∷◌, ◌++◌, length, slice_get, Bool, true, false, Option, Some, refl, sym, ap, ap₂, subst, ◌∙◌, arith, append_assoc}
use Rattle.std.proofs.lemmas.List.{length_push}
use Rattle.std.proofs.lemmas.Option.{same_Some}
use Rattle.fx_types.specs.declared.faults.Kind.{Kind}
use Rattle.fx_types.specs.Values.{Data, rec, field, no_fields, field_list}
use Rattle.fx_core.specs.declared.sources.Source.{Source}
use Rattle.fx_core.specs.Term.{Term, Terms, of, nil, cons, Top, term_field_names, field_terms}
use Rattle.fx_core.specs.Term as top
use Rattle.fx_typing.specs.WellTyped.{PartScope, bound as in_record_scope, catching, inside as in_row, parts_count, plain, standing_at}
use Rattle.fx_scalar.specs.LazyForms.{ErrorOr}
use Rattle.fx_semantics.specs.Around.{Around, AreValues, Meaning, catching as catching_in, inside}
use Rattle.fx_semantics.specs.Errors.{IsCaught}
use Rattle.fx_semantics.specs.Fresh.{IsNode, OfAll, fields_by, meaning, meanings}
use Rattle.fx_udf.specs.Expanding.{AllExpand, CallsNone, Expands, arranged, call, deeper, in_record, listed, more, moved, node, none}
use Rattle.user_calls.specs.Laws.{CallsAreWorthTheirBodies}
use Rattle.user_calls.specs.UserCalls.{AllClosed, AreClosed, Calls, IsCallBy, IsClosed, IsHeadClosed, IsNodeBy, IsWorth, bound, calls_of, catches, meaning_by, meanings_by, standing}
use Rattle.user_calls.proofs.Arranging.{ArePaired, AreWorth, worth_arranged, worth_back}
use Rattle.user_calls.proofs.Carrying.{AllCarry, Carries, EachCarries, IsInner, Pairs, here, node_carries, placed, plainly, there, values}

-- ---- where a tree stands, and where what it becomes stands

-- under how many scopes, and whether the error that was caught around is the same
abbrev Place : Type 0
Place = ℕ × Bool

abbrev one_deeper : Place → Place
one_deeper k = (suc k.0, k.1)

abbrev where_caught : Place → Place
where_caught k = (k.0, true)

-- around the second tree these scopes stand besides, outside all others
record IsAround (outer : List Data) (own : Bool) (k : Place) (a b : Around) : Type 0 where
  gives : (s : Source) (v : Data) → a.gives s v → b.gives s v
  back : (s : Source) (v : Data) → b.gives s v → a.gives s v
  rows : b.rows ≡ outer ++ a.rows
  depth : length b.rows ≡ k.0
  item : own ≡ true → b.item ≡ a.item
  caught : k.1 ≡ true → b.caught ≡ a.caught

deeper_by_one : (rows : List Data) (x : Data) (d : ℕ) → length rows ≡ d → length (rows ++ x ∷ []) ≡ suc d
deeper_by_one rows x d l = let e = length_push rows x in omega (arith, e, l)

under : (outer : List Data) (own : Bool) (k : Place) (a b : Around) (d : Data) → IsAround outer own k a b → IsAround outer own (one_deeper k) (inside a d) (inside b d)
under outer own k a b d r = record {
  gives = r.gives;
  back = r.back;
  rows = ap (λ rs. rs ++ d ∷ []) r.rows ∙ append_assoc outer a.rows (d ∷ []);
  depth = deeper_by_one b.rows d k.0 r.depth;
  item = r.item;
  caught = r.caught;
}

catches_in : (outer : List Data) (own : Bool) (k : Place) (a b : Around) (e : Kind) (cs : List ℕ) → IsAround outer own k a b → IsAround outer own (where_caught k) (catching_in a e cs) (catching_in b e cs)
catches_in outer own k a b e cs r = record {
  gives = r.gives;
  back = r.back;
  rows = r.rows;
  depth = r.depth;
  item = r.item;
  caught = λ _. refl;
}

-- the same the other way round
abbrev IsTurned : List Data → Bool → Place → Around → Around → Type 0
IsTurned outer own k a b = IsAround outer own k b a

under_turned : (outer : List Data) (own : Bool) (k : Place) (a b : Around) (d : Data) → IsTurned outer own k a b → IsTurned outer own (one_deeper k) (inside a d) (inside b d)
under_turned outer own k a b d r = under outer own k b a d r

catches_turned : (outer : List Data) (own : Bool) (k : Place) (a b : Around) (e : Kind) (cs : List ℕ) → IsTurned outer own k a b → IsTurned outer own (where_caught k) (catching_in a e cs) (catching_in b e cs)
catches_turned outer own k a b e cs r = catches_in outer own k b a e cs r

abbrev AllGo : List Data → Bool → Place → Top → ℕ → ℕ → Pairs → Type 1
AllGo outer own = AllCarry Place one_deeper where_caught (IsAround outer own) (under outer own) (catches_in outer own)

abbrev AllReturn : List Data → Bool → Place → Top → ℕ → ℕ → Pairs → Type 1
AllReturn outer own = AllCarry Place one_deeper where_caught (IsTurned outer own) (under_turned outer own) (catches_turned outer own)

-- what a part sees where it stands
go_place : (outer : List Data) (own : Bool) (s : PartScope) (d : ℕ) (c : Bool) → placed Place one_deeper where_caught (IsAround outer own) (under outer own) (catches_in outer own) s (d, c) ≡ (deeper s d, catches c s)
go_place outer own plain d c = refl
go_place outer own in_row d c = refl
go_place outer own in_record_scope d c = refl
go_place outer own catching d c = refl

return_place : (outer : List Data) (own : Bool) (s : PartScope) (d : ℕ) (c : Bool) → placed Place one_deeper where_caught (IsTurned outer own) (under_turned outer own) (catches_turned outer own) s (d, c) ≡ (deeper s d, catches c s)
return_place outer own plain d c = refl
return_place outer own in_row d c = refl
return_place outer own in_record_scope d c = refl
return_place outer own catching d c = refl

-- ---- the meanings of parts

abbrev pairs : Calls → Terms → Terms → Pairs
pairs C (cons t ts) (cons u us) = (meaning_by C t, meaning u) ∷ pairs C ts us
pairs C _ _ = []

abbrev turned : Calls → Terms → Terms → Pairs
turned C (cons t ts) (cons u us) = (meaning u, meaning_by C t) ∷ turned C ts us
turned C _ _ = []

record AreParts (C : Calls) (ts us : Terms) : Type 1 where
  here_ahead : here (pairs C ts us) ≡ meanings_by C ts
  there_ahead : there (pairs C ts us) ≡ meanings us
  here_back : here (turned C ts us) ≡ meanings us
  there_back : there (turned C ts us) ≡ meanings_by C ts

are_parts : {A : List (List (List ℕ))} {B : List Term} {b d : ℕ} {h : Top} {n i : ℕ} {ts us : Terms} → AllExpand A B b d h n i ts us → (C : Calls) → AreParts C ts us
are_parts (none b d h n i) C = record { here_ahead = refl; there_ahead = refl; here_back = refl; there_back = refl }
are_parts (more b d h n i t u ts us p q) C = let r = are_parts q C in record {
  here_ahead = ap (λ Ps. meaning_by C t ∷ Ps) r.here_ahead;
  there_ahead = ap (λ Ps. meaning u ∷ Ps) r.there_ahead;
  here_back = ap (λ Ps. meaning u ∷ Ps) r.here_back;
  there_back = ap (λ Ps. meaning_by C t ∷ Ps) r.there_back;
}

expand_length : {A : List (List (List ℕ))} {B : List Term} {b d : ℕ} {h : Top} {n i : ℕ} {ts us : Terms} → AllExpand A B b d h n i ts us → length (listed us) ≡ length (listed ts)
expand_length (none b d h n i) = refl
expand_length (more b d h n i t u ts us p q) = ap suc (expand_length q)

-- ---- nodes

-- P here has the value where Q has it there, and the other way round
abbrev Both : Meaning → Meaning → Around → Around → Data → Type 0
Both P Q a b v = (P a v → Q b v) × (Q b v → P a v)

inner_there : (outer : List Data) (own : Bool) (C : Calls) (h : Top) (k : Place) (n : ℕ) (ts us : Terms) → IsInner h → AreParts C ts us → AllGo outer own k h n 0 (pairs C ts us) → AllReturn outer own k h n 0 (turned C ts us)
    → (a b : Around) → IsAround outer own k a b → (v : Data) → Both (IsNode h (meanings_by C ts)) (IsNode h (meanings us)) a b v
inner_there outer own C h k n ts us i s go back a b r v = (
  λ x. subst (λ Ps. IsNode h Ps b v) s.there_ahead
      (node_carries Place one_deeper where_caught (IsAround outer own) (under outer own) (catches_in outer own) h k n (pairs C ts us) i go a b v r (subst (λ Ps. IsNode h Ps a v) (sym s.here_ahead) x)),
  λ x. subst (λ Ps. IsNode h Ps a v) s.there_back
      (node_carries Place one_deeper where_caught (IsTurned outer own) (under_turned outer own) (catches_turned outer own) h k n (turned C ts us) i back b a v r (subst (λ Ps. IsNode h Ps b v) (sym s.here_back) x)),
)

row_there : (outer rows : List Data) (k : ℕ) → slice_get (outer ++ rows) (length outer + k) ≡ slice_get rows k
row_there [] rows k = ap (slice_get rows) (none_more k)
  where
    none_more : (k : ℕ) → 0 + k ≡ k
    none_more k = omega arith
row_there (r ∷ outer) rows k = ap (slice_get (r ∷ (outer ++ rows))) (one_more (length outer) k) ∙ row_there outer rows k
  where
    one_more : (n k : ℕ) → suc n + k ≡ suc (n + k)
    one_more n k = omega arith

row_is : (outer : List Data) (own : Bool) (k : Place) (base : ℕ) (a b : Around) → IsAround outer own k a b → length outer ≡ base → (j : ℕ) → slice_get b.rows (base + j) ≡ slice_get a.rows j
row_is outer own k base a b r e j = (λ i. slice_get (r.rows i) (sym e i + j)) ∙ row_there outer a.rows j

head_there : (outer : List Data) (own caught : Bool) (C : Calls) (h : Top) (base d n : ℕ) (ts us : Terms) → CallsNone h → IsHeadClosed own caught h → length outer ≡ base → AreParts C ts us
    → AllGo outer own (d, caught) h n 0 (pairs C ts us) → AllReturn outer own (d, caught) h n 0 (turned C ts us)
    → (a b : Around) → IsAround outer own (d, caught) a b → (v : Data) → Both (IsNodeBy C h (meanings_by C ts)) (IsNode (moved base h) (meanings us)) a b v
head_there outer own caught C (top.read s) base d n ts us k c e p go back a b r v = (r.gives s v, r.back s v)
head_there outer own caught C (top.row j) base d n ts us k c e p go back a b r v = let is = row_is outer own (d, caught) base a b r e j in (λ x. is ∙ x, λ x. sym is ∙ x)
head_there outer own caught C top.item base d n ts us k c e p go back a b r v = (λ x. r.item c ∙ x, λ x. sym (r.item c) ∙ x)
head_there outer own caught C top.caught base d n ts us k c e p go back a b r v = (λ x. subst (λ o. IsCaught o v) (sym (r.caught c)) x, λ x. subst (λ o. IsCaught o v) (r.caught c) x)
head_there outer own caught C (top.user f) base d n ts us k c e p go back a b r v = absurd k
head_there outer own caught C h base d n ts us k c e p go back a b r v = inner_there outer own C h (d, caught) n ts us c p go back a b r v

-- ---- arguments under the names of their parameters

abbrev IsWorthAt : Around → Term → Data → Type 0
IsWorthAt a t d = meaning t a d

values_worth : (us : Terms) (a : Around) (ds : List Data) → (AreValues (meanings us) a ds → AreWorth (IsWorthAt a) (listed us) ds) × (AreWorth (IsWorthAt a) (listed us) ds → AreValues (meanings us) a ds)
values_worth nil a [] = (λ x. x, λ x. x)
values_worth nil a (d ∷ ds) = (λ x. x, λ x. x)
values_worth (cons u us) a [] = (λ x. x, λ x. x)
values_worth (cons u us) a (d ∷ ds) = let r = values_worth us a ds in (λ x. (x.0, r.0 x.1), λ x. (x.0, r.1 x.1))

worth_length : (a : Around) (xs : List Term) (ds : List Data) → AreWorth (IsWorthAt a) xs ds → length ds ≡ length xs
worth_length a [] [] h = refl
worth_length a [] (d ∷ ds) h = absurd h
worth_length a (x ∷ xs) [] h = absurd h
worth_length a (x ∷ xs) (d ∷ ds) h = ap suc (worth_length a xs ds h.1)

abbrev values_in : List (List ℕ × Data) → List Data
values_in [] = []
values_in (q ∷ qs) = q.1 ∷ values_in qs

-- the fields of a record have these values
record_there : (a : Around) (fs : List (List ℕ × Term)) (qs : List (List ℕ × Data)) → ArePaired (IsWorthAt a) fs qs → AreValues (meanings (field_terms fs)) a (values_in qs) × (field_list qs ≡ fields_by (term_field_names fs) (values_in qs))
record_there a [] [] h = (tt, refl)
record_there a [] (q ∷ qs) h = absurd h
record_there a (f ∷ fs) [] h = absurd h
record_there a (f ∷ fs) (q ∷ qs) h = let r = record_there a fs qs h.2 in ((h.1, r.0), λ i. field (sym h.0 i) q.1 (r.1 i))

record_back : (a : Around) (fs : List (List ℕ × Term)) (es : List Data) → AreValues (meanings (field_terms fs)) a es → (qs : List (List ℕ × Data)) × ArePaired (IsWorthAt a) fs qs × (field_list qs ≡ fields_by (term_field_names fs) es)
record_back a [] [] h = ([], tt, refl)
record_back a [] (e ∷ es) h = absurd h
record_back a (f ∷ fs) [] h = absurd h
record_back a (f ∷ fs) (e ∷ es) h = let r = record_back a fs es h.1 in ((f.0, e) ∷ r.0, (refl, h.0, r.1), ap (field f.0 e) r.2)

-- ---- calls

body_around : (outer : List Data) (own : Bool) (k : Place) (a b : Around) → IsAround outer own k a b → (names : List (List ℕ)) (ds : List Data) → IsAround b.rows false (suc k.0, false) (standing a.gives names ds) (inside b (bound names ds))
body_around outer own k a b r names ds = record {
  gives = r.gives;
  back = r.back;
  rows = refl;
  depth = deeper_by_one b.rows (bound names ds) k.0 r.depth;
  item = λ e. absurd cc;
  caught = λ e. absurd cc;
}

-- what a body and what it becomes are worth in the scope of the parameters
abbrev BodyLaw : (outer : List Data) → Bool → Place → Calls → Term → Term → Type 1
BodyLaw outer own k C body e = (a b : Around) → IsAround outer own k a b → (names : List (List ℕ)) (ds : List Data) (v : Data) → Both (meaning_by C body) (meaning e) (standing a.gives names ds) (inside b (bound names ds)) v

call_there : (A : List (List (List ℕ))) (B : List Term) (m : ℕ) (outer : List Data) (own : Bool) (k : Place) (f n : ℕ) (names : List (List ℕ)) (body e : Term) (ts us : Terms) → slice_get A f ≡ Some names → slice_get B f ≡ Some body
    → length (listed us) ≡ length names → AreParts (calls_of A B (suc m)) ts us → AllGo outer own k (top.user f) n 0 (pairs (calls_of A B (suc m)) ts us) → AllReturn outer own k (top.user f) n 0 (turned (calls_of A B (suc m)) ts us)
    → BodyLaw outer own k (calls_of A B m) body e
    → (a b : Around) → IsAround outer own k a b → (v : Data) → Both (meaning_by (calls_of A B (suc m)) (of (top.user f) ts)) (meaning (in_record (arranged names (listed us)) e)) a b v
call_there A B m outer own k f n names body e ts us x y l p go back law a b r v =
    let C = calls_of A B (suc m) in
    let fs = arranged names (listed us) in
    let ahead : (ds : List Data) → AreValues (meanings_by C ts) a ds → AreValues (meanings us) b ds =
    λ ds h. subst (λ Ps. AreValues Ps b ds) p.there_ahead
    (values Place one_deeper where_caught (IsAround outer own) (under outer own) (catches_in outer own) k (pairs C ts us)
    (plainly Place one_deeper where_caught (IsAround outer own) (under outer own) (catches_in outer own) k (top.user f) n 0 (pairs C ts us) (λ j. refl) go) a b r ds (subst (λ Ps. AreValues Ps a ds) (sym p.here_ahead) h)) in
    let behind : (ds : List Data) → AreValues (meanings us) b ds → AreValues (meanings_by C ts) a ds =
    λ ds h. subst (λ Ps. AreValues Ps a ds) p.there_back
    (values Place one_deeper where_caught (IsTurned outer own) (under_turned outer own) (catches_turned outer own) k (turned C ts us)
    (plainly Place one_deeper where_caught (IsTurned outer own) (under_turned outer own) (catches_turned outer own) k (top.user f) n 0 (turned C ts us) (λ j. refl) back) b a r ds (subst (λ Ps. AreValues Ps b ds) (sym p.here_back) h)) in (
      λ h.
          let ds = h.0 in
          let named : h.2.0 ≡ names = same_Some h.2.0 names (sym h.2.2 ∙ x) in
          let its : h.2.1 ≡ body = same_Some h.2.1 body (sym h.2.3 ∙ y) in
          let inner : meaning_by (calls_of A B m) body (standing a.gives names ds) v =
          subst (λ (t : Term). meaning_by (calls_of A B m) t (standing a.gives names ds) v) its (subst (λ (ns : List (List ℕ)). meaning_by (calls_of A B m) h.2.1 (standing a.gives ns ds) v) named h.2.5) in
          let q = record_there b fs (arranged names ds) (worth_arranged (IsWorthAt b) names (listed us) ds ((values_worth us b ds).0 (ahead ds h.1))) in
          (bound names ds, (values_in (arranged names ds), q.0, ap rec q.1), (law a b r names ds v).0 inner),
      λ h.
          let q = record_back b fs h.1.0 h.1.1 in
          let w = worth_back (IsWorthAt b) names (listed us) l q.0 q.1 in
          let ds = w.0 in
          let is : h.0 ≡ bound names ds = h.1.2 ∙ ap rec (sym q.2 ∙ ap field_list (sym w.2)) in
          let inner : meaning e (inside b (bound names ds)) v = subst (λ (z : Data). ErrorOr z (meaning e (inside b z) v) v) is h.2 in
          (ds, behind ds ((values_worth us b ds).1 w.1), (names, body, x, y, worth_length b (listed us) ds w.1 ∙ l, (law a b r names ds v).1 inner)),
    )

-- ---- trees

abbrev mutual
  height : {A : List (List (List ℕ))} {B : List Term} {b d : ℕ} {t c : Term} → Expands A B b d t c → ℕ
  height (node b d h ts us k p) = heights p
  height (call b d f names body e ts us x y l p q) = max (heights p) (suc (height q))

  heights : {A : List (List (List ℕ))} {B : List Term} {b d : ℕ} {h : Top} {n i : ℕ} {ts us : Terms} → AllExpand A B b d h n i ts us → ℕ
  heights (none b d h n i) = 0
  heights (more b d h n i t u ts us p q) = max (height p) (heights q)

mutual
  tree_there : {A : List (List (List ℕ))} {B : List Term} {base d : ℕ} {t c : Term} → AllClosed B → (p : Expands A B base d t c) (n : ℕ) → height p ≤ n → (outer : List Data) (own caught : Bool) → length outer ≡ base → IsClosed own caught t
      → (a b : Around) → IsAround outer own (d, caught) a b → (v : Data) → Both (meaning_by (calls_of A B n) t) (meaning c) a b v
  tree_there {A} {B} z (node base d h ts us k p) n l outer own caught e c a b r v =
      head_there outer own caught (calls_of A B n) h base d (parts_count ts) ts us k c.0 e (are_parts p (calls_of A B n))
      (parts_ahead z p n l outer own caught e c.1) (parts_back z p n l outer own caught e c.1) a b r v
  tree_there {A} {B} z (call base d f names body i ts us x y m p q) zero l outer own caught e c a b r v = absurd (omega (arith, l))
  tree_there {A} {B} z (call base d f names body i ts us x y m p q) (suc n) l outer own caught e c a b r v =
      call_there A B n outer own (d, caught) f (parts_count ts) names body i ts us x y (expand_length p ∙ m) (are_parts p (calls_of A B (suc n)))
      (parts_ahead z p (suc n) (omega (arith, l)) outer own caught e c.1) (parts_back z p (suc n) (omega (arith, l)) outer own caught e c.1)
      (λ a' b' r' ns ds w. tree_there z q n (omega (arith, l)) b'.rows false false r'.depth (z f body y) (standing a'.gives ns ds) (inside b' (bound ns ds)) (body_around outer own (d, caught) a' b' r' ns ds) w)
      a b r v

  parts_ahead : {A : List (List (List ℕ))} {B : List Term} {base d : ℕ} {h : Top} {m i : ℕ} {ts us : Terms} → AllClosed B → (p : AllExpand A B base d h m i ts us) (n : ℕ) → heights p ≤ n → (outer : List Data) (own caught : Bool) → length outer ≡ base
      → AreClosed own caught h m i ts → AllGo outer own (d, caught) h m i (pairs (calls_of A B n) ts us)
  parts_ahead z (none base d h m i) n l outer own caught e c = tt
  parts_ahead z (more base d h m i t u ts us p q) n l outer own caught e c = (
    λ a b v r x. (tree_there z p n (omega (arith, l)) outer own (catches caught (standing_at h m i)) e c.0 a b (subst (λ (k : Place). IsAround outer own k a b) (go_place outer own (standing_at h m i) d caught) r) v).0 x,
    parts_ahead z q n (omega (arith, l)) outer own caught e c.1,
  )

  parts_back : {A : List (List (List ℕ))} {B : List Term} {base d : ℕ} {h : Top} {m i : ℕ} {ts us : Terms} → AllClosed B → (p : AllExpand A B base d h m i ts us) (n : ℕ) → heights p ≤ n → (outer : List Data) (own caught : Bool) → length outer ≡ base
      → AreClosed own caught h m i ts → AllReturn outer own (d, caught) h m i (turned (calls_of A B n) ts us)
  parts_back z (none base d h m i) n l outer own caught e c = tt
  parts_back z (more base d h m i t u ts us p q) n l outer own caught e c = (
    λ b a v r x. (tree_there z p n (omega (arith, l)) outer own (catches caught (standing_at h m i)) e c.0 a b (subst (λ (k : Place). IsAround outer own k a b) (return_place outer own (standing_at h m i) d caught) r) v).1 x,
    parts_back z q n (omega (arith, l)) outer own caught e c.1,
  )

-- ---- the law

same_around : (a : Around) (d : ℕ) → length a.rows ≡ d → IsAround [] true (d, true) a a
same_around a d e = record { gives = λ s v x. x; back = λ s v x. x; rows = refl; depth = e; item = λ _. refl; caught = λ _. refl }

left_of : (m n : ℕ) → m ≤ max m n
left_of m n = omega arith

right_of : (m n : ℕ) → n ≤ max m n
right_of m n = omega arith

same_height : (n : ℕ) → n ≤ n
same_height n = omega arith

pub calls_are_worth : CallsAreWorthTheirBodies
calls_are_worth A bodies z types values rows item caught t c s p v =
    let a : Around = Rattle.fx_semantics.specs.Unique.told types values rows item caught in
    let law = λ (n : ℕ) (l : height p ≤ n). tree_there z p n l [] true true refl s a a (same_around a (length rows) refl) v in (
      λ x. let n = max x.0 (height p) in (law n (right_of x.0 (height p))).0 (x.1 n (left_of x.0 (height p))),
      λ x. (height p, λ m l. (law m l).1 x),
    )
