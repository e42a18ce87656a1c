-- The law of the one rule: what it makes of well typed parts is well typed.
use Rattle.std.proofs.Common.{◌≡◌, ℕ, suc, ◌++◌, List, [], ◌∷◌, Bool, true, false, length, Result, Ok, Err, refl, ap, sym, subst, ◌∙◌, inl, if◌then◌else◌}
use Rattle.std.specs.Prelude.{Option, Some, None}
use Rattle.fx_types.specs.Types.{Shape, blanks, numbers, texts, booleans, dates, records, tables, no_columns}
use Rattle.fx_types.specs.Values.{text}
use Rattle.fx_core.specs.declared.functions.Form.{Form}
use Rattle.fx_core.specs.declared.functions.Fun.{Fun}
use Rattle.fx_core.specs.declared.rows.Row.{Row}
use Rattle.fx_core.specs.declared.rows.Takes.{Takes}
use Rattle.fx_core.specs.declared.rows.Takes.TheVariants as takes
use Rattle.fx_core.specs.Rows.{shape_of, row_of, form_row, takes_at, takes_count}
use Rattle.fx_core.specs.Term.{Term, Terms, of, nil, cons, all, Top, const, coerce, form}
use Rattle.fx_typing.specs.Columns.{tells_error}
use Rattle.fx_core.specs.ColumnLists.{and_then}
use Rattle.fx_typing.specs.Local.{Piece, value, label, coerced, by_way, exact_way, branch_way, part_or_rule, stand, put_first, stand_rest, stand_all, branches, common_of, firsts, answer_by, made_as, made_by, node_made, formed}
use Rattle.fx_typing.specs.WellTyped.{Context, head_by, head_of, standing_of, standing_at, context_for, first_type, Stands, AllStand, typed_pairs, answered_type, IsByRow, IsRuled, parts_count, IsTyped, AreTyped}
use Rattle.fx_typing.specs.Ways.{Way, same, changed, refused, way, is_scalar, is_comparable}
use Rattle.fx_typing.proofs.Same.{way_same, exact_same, exact_changed, branch_same, comparable_itself}

-- a part, where it was judged
abbrev pub PieceTyped : Context → Piece → Type 0
PieceTyped c (value a k t) = IsTyped c k t
PieceTyped c (label x) = Unit {0}

-- a tree of its type
abbrev pub Typed : Context → Term × Shape → Type 0
Typed c x = IsTyped c x.0 x.1

pub coercion_ruled : (c : Context) (k : Term) (u to : Shape) → way u to ≡ changed → IsRuled c (coerce to) (cons k nil) (u ∷ []) to
coercion_ruled c k u blanks e = refl
coercion_ruled c k u numbers e = (e, refl)
coercion_ruled c k u texts e = (e, refl)
coercion_ruled c k u booleans e = (e, refl)
coercion_ruled c k u dates e = (e, refl)
coercion_ruled c k u (records cs) e = (e, refl)
coercion_ruled c k u (tables cs) e = (e, refl)

branch_ruled : (c : Context) (k : Term) (u to : Shape) → branch_way u to ≡ changed → IsRuled c (coerce to) (cons k nil) (u ∷ []) to
branch_ruled c k u blanks e = refl
branch_ruled c k u numbers e = (e, refl)
branch_ruled c k u texts e = (e, refl)
branch_ruled c k u booleans e = (e, refl)
branch_ruled c k u dates e = (e, refl)
branch_ruled c k u (records cs) e = (e, refl)
branch_ruled c k u (tables cs) e = (e, refl)

coerced_typed : (c : Context) (k : Term) (u to : Shape) → IsTyped c k u → IsRuled c (coerce to) (cons k nil) (u ∷ []) to → IsTyped c (coerced k to) to
coerced_typed c k u to h r = (u ∷ [], (u, [], refl, h, refl), r)

-- a part that comes to a type has it
by_way_typed : (c : Context) (w : Way) (k : Term) (u to : Shape) (x : Term × Shape) → by_way w k to ≡ Ok x → IsTyped c k u →
    (w ≡ same → u ≡ to) → (w ≡ changed → IsRuled c (coerce to) (cons k nil) (u ∷ []) to) → Typed c x × (x.1 ≡ to)
by_way_typed c same k u to x e h s r =
    let y : (k, to) ≡ x = cc in
    subst (λ (z : Term × Shape). Typed c z × (z.1 ≡ to)) y (subst (IsTyped c k) (s refl) h, refl)
by_way_typed c changed k u to x e h s r =
    let y : (coerced k to, to) ≡ x = cc in
    subst (λ (z : Term × Shape). Typed c z × (z.1 ≡ to)) y (coerced_typed c k u to h (r refl), refl)
by_way_typed c refused k u to x e h s r = absurd cc

when_ok : (b : Bool) (e : ℕ) (k : Term) (t : Shape) (x : Term × Shape) → part_or_rule b e k t ≡ Ok x → (b ≡ true) × ((k, t) ≡ x)
when_ok true e k t x h = (refl, cc)
when_ok false e k t x h = absurd cc

-- a part that stands is well typed where it was judged, and of a type that stands there
abbrev StandsTyped : Context → Takes → Shape → Shape → Term × Shape → Type 0
StandsTyped c k first common x = Typed c x × Stands k first common x.1

along : (c : Context) (k : Takes) (first common : Shape) (x y : Term × Shape) → x ≡ y → StandsTyped c k first common x → StandsTyped c k first common y
along c k first common x y e h = subst (StandsTyped c k first common) e h

piece_typed : (c : Context) (k : Takes) (first common : Shape) (p : Piece) (x : Term × Shape) → stand k first common p ≡ Ok x → PieceTyped c p → StandsTyped c k first common x
piece_typed c (takes.Scalar s) first common (value a m t) x e h =
    by_way_typed c (way t (shape_of s)) m t (shape_of s) x e h (way_same t (shape_of s)) (coercion_ruled c m t (shape_of s))
piece_typed c (takes.Formula s) first common (value a m t) x e h =
    by_way_typed c (way t (shape_of s)) m t (shape_of s) x e h (way_same t (shape_of s)) (coercion_ruled c m t (shape_of s))
piece_typed c (takes.Exact s) first common (value a m t) x e h =
    by_way_typed c (exact_way t (shape_of s)) m t (shape_of s) x e h (exact_same t (shape_of s)) (λ i. coercion_ruled c m t (shape_of s) (exact_changed t (shape_of s) i))
piece_typed c takes.Choice first common (value a m t) x e h = by_way_typed c (branch_way t common) m t common x e h (branch_same t common) (branch_ruled c m t common)
piece_typed c takes.Branch first common (value a m t) x e h = by_way_typed c (branch_way t common) m t common x e h (branch_same t common) (branch_ruled c m t common)
piece_typed c takes.Fallback first common (value a m t) x e h = by_way_typed c (branch_way t common) m t common x e h (branch_same t common) (branch_ruled c m t common)
piece_typed c takes.Any first common (value a m t) x e h = let y : (m, t) ≡ x = cc in along c takes.Any first common _ x y (h, tt)
piece_typed c takes.AnyFormula first common (value a m t) x e h = let y : (m, t) ≡ x = cc in along c takes.AnyFormula first common _ x y (h, tt)
piece_typed c takes.ErrorRecord first common (value a m (records cs)) x e h =
    let w = when_ok (tells_error cs) _ m (records cs) x e in along c takes.ErrorRecord first common _ x w.1 (h, (cs, refl, w.0))
piece_typed c takes.Table first common (value a m (tables cs)) x e h = let y : (m, tables cs) ≡ x = cc in along c takes.Table first common _ x y (h, (cs, refl))
piece_typed c takes.Table first common (value a m blanks) x e h =
    let y : (coerced m (tables no_columns), tables no_columns) ≡ x = cc in
    along c takes.Table first common _ x y (coerced_typed c m blanks (tables no_columns) h (refl, refl), (no_columns, refl))
piece_typed c takes.ScalarFormula first common (value a m t) x e h = let w = when_ok (is_scalar t) 6 m t x e in along c takes.ScalarFormula first common _ x w.1 (h, w.0)
piece_typed c takes.Compared first common (value a m t) x e h = let w = when_ok (is_scalar t) 6 m t x e in along c takes.Compared first common _ x w.1 (h, w.0)
piece_typed c takes.Match first common (value a m t) x e h = let w = when_ok (is_comparable first t) 6 m t x e in along c takes.Match first common _ x w.1 (h, w.0)
piece_typed c takes.RowFormula first common (value a m blanks) x e h = let y : (m, blanks) ≡ x = cc in along c takes.RowFormula first common _ x y (h, tt)
piece_typed c takes.RowFormula first common (value a m numbers) x e h = let y : (m, numbers) ≡ x = cc in along c takes.RowFormula first common _ x y (h, tt)
piece_typed c takes.RowFormula first common (value a m texts) x e h = let y : (m, texts) ≡ x = cc in along c takes.RowFormula first common _ x y (h, tt)
piece_typed c takes.RowFormula first common (value a m booleans) x e h = let y : (m, booleans) ≡ x = cc in along c takes.RowFormula first common _ x y (h, tt)
piece_typed c takes.RowFormula first common (value a m dates) x e h = let y : (m, dates) ≡ x = cc in along c takes.RowFormula first common _ x y (h, tt)
piece_typed c takes.RowFormula first common (value a m (records cs)) x e h = let y : (m, records cs) ≡ x = cc in along c takes.RowFormula first common _ x y (h, tt)
piece_typed c takes.Column first common (label l) x e h = let y : (of (const (text l)) nil, texts) ≡ x = cc in along c takes.Column first common _ x y (([], refl, (refl, inl tt)), refl)
piece_typed c takes.NewColumn first common (label l) x e h = let y : (of (const (text l)) nil, texts) ≡ x = cc in along c takes.NewColumn first common _ x y (([], refl, (refl, inl tt)), refl)
piece_typed c k first common p x e h = absurd cc

-- the first part stands whatever the first type is
first_stands : (k : Takes) (common u : Shape) → Stands k blanks common u → Stands k u common u
first_stands (takes.Scalar s) common u h = h
first_stands (takes.Exact s) common u h = h
first_stands (takes.Formula s) common u h = h
first_stands takes.Any common u h = h
first_stands takes.AnyFormula common u h = h
first_stands takes.ErrorRecord common u h = h
first_stands takes.Table common u h = h
first_stands takes.ScalarFormula common u h = h
first_stands takes.RowFormula common blanks h = tt
first_stands takes.RowFormula common numbers h = tt
first_stands takes.RowFormula common texts h = tt
first_stands takes.RowFormula common booleans h = tt
first_stands takes.RowFormula common dates h = tt
first_stands takes.RowFormula common (records cs) h = tt
first_stands takes.RowFormula common (tables cs) h = h
first_stands takes.Choice common u h = h
first_stands takes.Branch common u h = h
first_stands takes.Fallback common u h = h
first_stands takes.Compared common u h = h
first_stands takes.Match common u h = comparable_itself u h
first_stands takes.Column common u h = h
first_stands takes.NewColumn common u h = h

-- parts, each where the parts before put it
abbrev pub PartsTyped : (List Piece → Context) → List Piece → List Piece → Type 0
PartsTyped sc before [] = Unit {0}
PartsTyped sc before (p ∷ ps) = PieceTyped (sc before) p × PartsTyped sc (before ++ p ∷ []) ps

abbrev pub seconds : List (Term × Shape) → List Shape
seconds [] = []
seconds (x ∷ xs) = x.1 ∷ seconds xs

length_more : {A : Type 0} (xs : List A) (x : A) → length (xs ++ x ∷ []) ≡ suc (length xs)
length_more [] x = refl
length_more (y ∷ xs) x = ap suc (length_more xs x)

and_then_ok : {A B : Type 0} (r : Result A ℕ) (go : A → Result B ℕ) (b : B) → and_then r go ≡ Ok b → (a : A) × (r ≡ Ok a) × (go a ≡ Ok b)
and_then_ok (Ok a) go b e = (a, refl, e)
and_then_ok (Err n) go b e = absurd cc

pub put_ok : (x : Term × Shape) (r : Result (List (Term × Shape)) ℕ) (xs : List (Term × Shape)) → put_first x r ≡ Ok xs → (ys : List (Term × Shape)) × (r ≡ Ok ys) × (xs ≡ x ∷ ys)
put_ok x (Ok ys) xs e = (ys, refl, sym cc)
put_ok x (Err n) xs e = absurd cc

pairs_back : (xs : List (Term × Shape)) → typed_pairs (all (firsts xs)) (seconds xs) ≡ xs
pairs_back [] = refl
pairs_back (x ∷ xs) = ap (λ ys. x ∷ ys) (pairs_back xs)

seconds_length : (xs : List (Term × Shape)) → length (seconds xs) ≡ length xs
seconds_length [] = refl
seconds_length (x ∷ xs) = ap suc (seconds_length xs)

count_firsts : (xs : List (Term × Shape)) → parts_count (all (firsts xs)) ≡ length xs
count_firsts [] = refl
count_firsts (x ∷ xs) = ap suc (count_firsts xs)

rest_length : (r : Row) (n i : ℕ) (first common : Shape) (ps : List Piece) (xs : List (Term × Shape)) → stand_rest r n i first common ps ≡ Ok xs → length xs ≡ length ps
rest_length r n i first common [] xs e = let k : [] ≡ xs = cc in ap length (sym k)
rest_length r n i first common (p ∷ ps) xs e =
    let a = and_then_ok (stand (takes_at r n i) first common p) _ xs e in
    let b = put_ok a.0 (stand_rest r n (suc i) first common ps) xs a.2 in
    ap length b.2 ∙ ap suc (rest_length r n (suc i) first common ps b.0 b.1)

-- where each part was judged, and how that goes on from part to part
abbrev pub Agrees : (List Piece → List Shape → Type 0) → Row → Context → ℕ → (List Piece → Context) → Type 0
Agrees Inv r c n sc = (b : List Piece) (d : List Shape) → Inv b d → sc b ≡ context_for (standing_of (takes_at r n (length d))) c d

abbrev pub Goes : (List Piece → List Shape → Type 0) → Row → ℕ → Shape → Type 0
Goes Inv r n common =
    (b : List Piece) (d : List Shape) (first : Shape) (p : Piece) (x : Term × Shape) → Inv b d →
    stand (takes_at r n (length d)) first common p ≡ Ok x → Inv (b ++ p ∷ []) (d ++ x.1 ∷ [])

-- the head has each part stand as the row says
abbrev pub Follows : Top → Row → ℕ → Type 0
Follows h r n = (i : ℕ) → standing_at h n i ≡ standing_of (takes_at r n i)

put_in_place : (c : Context) (h : Top) (r : Row) (n : ℕ) (d : List Shape) (here : Context) (x : Term × Shape) → Follows h r n →
    here ≡ context_for (standing_of (takes_at r n (length d))) c d → Typed here x → Typed (context_for (standing_at h n (length d)) c d) x
put_in_place c h r n d here x follows e t =
    subst (λ (w : Context). Typed w x) (e ∙ ap (λ s. context_for s c d) (sym (follows (length d)))) t

rest_typed : (Inv : List Piece → List Shape → Type 0) (r : Row) (h : Top) (c : Context) (n : ℕ) (first common : Shape) (sc : List Piece → Context) →
    Follows h r n → Agrees Inv r c n sc → Goes Inv r n common →
    (before : List Piece) (done : List Shape) (ps : List Piece) (xs : List (Term × Shape)) →
    Inv before done → stand_rest r n (length done) first common ps ≡ Ok xs → PartsTyped sc before ps →
    AreTyped c h n done (all (firsts xs)) (seconds xs) × AllStand r n (length done) first common (seconds xs)
rest_typed Inv r h c n first common sc follows agree goes before done [] xs inv e t =
    let k : [] ≡ xs = cc in
    subst (λ (ys : List (Term × Shape)). AreTyped c h n done (all (firsts ys)) (seconds ys) × AllStand r n (length done) first common (seconds ys)) k (refl, tt)
rest_typed Inv r h c n first common sc follows agree goes before done (p ∷ ps) xs inv e t =
    let a = and_then_ok (stand (takes_at r n (length done)) first common p) _ xs e in
    let b = put_ok a.0 (stand_rest r n (suc (length done)) first common ps) xs a.2 in
    let one = piece_typed (sc before) (takes_at r n (length done)) first common p a.0 a.1 t.0 in
    let more = rest_typed Inv r h c n first common sc follows agree goes (before ++ p ∷ []) (done ++ a.0.1 ∷ []) ps b.0
    (goes before done first p a.0 inv a.1)
    (subst (λ i. stand_rest r n i first common ps ≡ Ok b.0) (sym (length_more done a.0.1)) b.1) t.1 in
    subst (λ (ys : List (Term × Shape)). AreTyped c h n done (all (firsts ys)) (seconds ys) × AllStand r n (length done) first common (seconds ys)) (sym b.2) (
      (a.0.1, seconds b.0, refl, put_in_place c h r n done (sc before) a.0 follows (agree before done inv) one.0, more.0),
      (one.1, subst (λ i. AllStand r n i first common (seconds b.0)) (length_more done a.0.1) more.1),
    )

all_typed : (Inv : List Piece → List Shape → Type 0) (r : Row) (h : Top) (c : Context) (common : Shape) (sc : List Piece → Context)
    (ps : List Piece) (xs : List (Term × Shape)) →
    Follows h r (length ps) → Agrees Inv r c (length ps) sc → Goes Inv r (length ps) common → Inv [] [] →
    stand_all r common ps ≡ Ok xs → PartsTyped sc [] ps →
    AreTyped c h (length ps) [] (all (firsts xs)) (seconds xs) × AllStand r (length ps) 0 (first_type (seconds xs)) common (seconds xs) × (length xs ≡ length ps)
all_typed Inv r h c common sc [] xs follows agree goes inv e t =
    let k : [] ≡ xs = cc in
    subst (λ (ys : List (Term × Shape)). AreTyped c h 0 [] (all (firsts ys)) (seconds ys) × AllStand r 0 0 (first_type (seconds ys)) common (seconds ys) × (length ys ≡ 0)) k (refl, tt, refl)
all_typed Inv r h c common sc (p ∷ ps) xs follows agree goes inv e t =
    let n = suc (length ps) in
    let a = and_then_ok (stand (takes_at r n 0) blanks common p) _ xs e in
    let b = put_ok a.0 (stand_rest r n 1 a.0.1 common ps) xs a.2 in
    let one = piece_typed (sc []) (takes_at r n 0) blanks common p a.0 a.1 t.0 in
    let more = rest_typed Inv r h c n a.0.1 common sc follows agree goes (p ∷ []) (a.0.1 ∷ []) ps b.0 (goes [] [] blanks p a.0 inv a.1) b.1 t.1 in
    subst (λ (ys : List (Term × Shape)). AreTyped c h n [] (all (firsts ys)) (seconds ys) × AllStand r n 0 (first_type (seconds ys)) common (seconds ys) × (length ys ≡ n)) (sym b.2) (
      (a.0.1, seconds b.0, refl, put_in_place c h r n [] (sc []) a.0 follows (agree [] [] inv) one.0, more.0),
      (first_stands (takes_at r n 0) common a.0.1 one.1, more.1),
      ap suc (rest_length r n 1 a.0.1 common ps b.0 b.1),
    )

-- a head whose rule is this row
abbrev pub RuledBy : Context → Top → Row → Type 0
RuledBy c h r = (cs : Terms) (us : List Shape) (t : Shape) → IsByRow r cs us t → IsRuled c h cs us t

answer_typed : (r : Row) (h : Top) (c : Context) (common : Shape) (ps : List Piece) (xs : List (Term × Shape)) (x : Term × Shape) → RuledBy c h r →
    takes_count r (length ps) ≡ true → AreTyped c h (length ps) [] (all (firsts xs)) (seconds xs) →
    AllStand r (length ps) 0 (first_type (seconds xs)) common (seconds xs) → length xs ≡ length ps →
    answer_by r h common xs ≡ Ok x → Typed c x
answer_typed r h c common ps xs x ruled count typed stands l e =
    let a = and_then_ok (answered_type r.answer common xs) _ x e in
    let y : (of h (all (firsts xs)), a.0) ≡ x = cc in
    let many = seconds_length xs ∙ l in
    subst (Typed c) y (
      seconds xs,
      subst (λ m. AreTyped c h m [] (all (firsts xs)) (seconds xs)) (sym (count_firsts xs ∙ l)) typed,
      ruled (all (firsts xs)) (seconds xs) a.0 (
        subst (λ m. takes_count r m ≡ true) (sym many) count,
        common,
        subst (λ m. AllStand r m 0 (first_type (seconds xs)) common (seconds xs)) (sym many) stands,
        ap (answered_type r.answer common) (pairs_back xs) ∙ a.1,
      ),
    )

-- THE law: what the rule makes of well typed parts is well typed
pub made_typed : (Inv : List Piece → List Shape → Type 0) (r : Row) (h : Top) (c : Context) (sc : List Piece → Context) (ps : List Piece) (x : Term × Shape) →
    RuledBy c h r → Follows h r (length ps) → Agrees Inv r c (length ps) sc → ((common : Shape) → Goes Inv r (length ps) common) → Inv [] [] →
    PartsTyped sc [] ps → made_by r h ps ≡ Ok x → Typed c x
made_typed Inv r h c sc ps x ruled follows agree goes inv t e = by_count (takes_count r (length ps)) refl e
  where
    by_common : (o : Option Shape) → takes_count r (length ps) ≡ true → made_as r h ps o ≡ Ok x → Typed c x
    by_common None count e = absurd cc
    by_common (Some common) count e =
        let a = and_then_ok (stand_all r common ps) (answer_by r h common) x e in
        let k = all_typed Inv r h c common sc ps a.0 follows agree (goes common) inv a.1 t in
        answer_typed r h c common ps a.0 x ruled count k.0 k.1 k.2 a.2

    by_count : (b : Bool) → takes_count r (length ps) ≡ b → (if b then made_as r h ps (common_of (branches r (length ps) 0 ps)) else Err 7) ≡ Ok x → Typed c x
    by_count true count e = by_common (common_of (branches r (length ps) 0 ps)) count e
    by_count false count e = absurd cc

-- a function's head has its row
follows_by : (k : Takes) (f : Fun) (n : ℕ) → Follows (head_by k f) (row_of f) n
follows_by takes.Table f n i = refl
follows_by (takes.Scalar s) f n i = refl
follows_by (takes.Exact s) f n i = refl
follows_by (takes.Formula s) f n i = refl
follows_by takes.Any f n i = refl
follows_by takes.AnyFormula f n i = refl
follows_by takes.ErrorRecord f n i = refl
follows_by takes.ScalarFormula f n i = refl
follows_by takes.RowFormula f n i = refl
follows_by takes.Choice f n i = refl
follows_by takes.Branch f n i = refl
follows_by takes.Fallback f n i = refl
follows_by takes.Compared f n i = refl
follows_by takes.Match f n i = refl
follows_by takes.Column f n i = refl
follows_by takes.NewColumn f n i = refl

ruled_by : (k : Takes) (f : Fun) (c : Context) → (row_of f).first ≡ k → RuledBy c (head_by k f) (row_of f)
ruled_by takes.Table f c e cs us t h = (ap (λ k. head_by k f) e, h)
ruled_by (takes.Scalar s) f c e cs us t h = (ap (λ k. head_by k f) e, h)
ruled_by (takes.Exact s) f c e cs us t h = (ap (λ k. head_by k f) e, h)
ruled_by (takes.Formula s) f c e cs us t h = (ap (λ k. head_by k f) e, h)
ruled_by takes.Any f c e cs us t h = (ap (λ k. head_by k f) e, h)
ruled_by takes.AnyFormula f c e cs us t h = (ap (λ k. head_by k f) e, h)
ruled_by takes.ErrorRecord f c e cs us t h = (ap (λ k. head_by k f) e, h)
ruled_by takes.ScalarFormula f c e cs us t h = (ap (λ k. head_by k f) e, h)
ruled_by takes.RowFormula f c e cs us t h = (ap (λ k. head_by k f) e, h)
ruled_by takes.Choice f c e cs us t h = (ap (λ k. head_by k f) e, h)
ruled_by takes.Branch f c e cs us t h = (ap (λ k. head_by k f) e, h)
ruled_by takes.Fallback f c e cs us t h = (ap (λ k. head_by k f) e, h)
ruled_by takes.Compared f c e cs us t h = (ap (λ k. head_by k f) e, h)
ruled_by takes.Match f c e cs us t h = (ap (λ k. head_by k f) e, h)
ruled_by takes.Column f c e cs us t h = (ap (λ k. head_by k f) e, h)
ruled_by takes.NewColumn f c e cs us t h = (ap (λ k. head_by k f) e, h)

-- the law for functions and operators, and for forms
pub function_typed : (Inv : List Piece → List Shape → Type 0) (f : Fun) (c : Context) (sc : List Piece → Context) (ps : List Piece) (x : Term × Shape) →
    Agrees Inv (row_of f) c (length ps) sc → ((common : Shape) → Goes Inv (row_of f) (length ps) common) → Inv [] [] →
    PartsTyped sc [] ps → node_made f ps ≡ Ok x → Typed c x
function_typed Inv f c sc ps x agree goes inv t e =
    made_typed Inv (row_of f) (head_of f) c sc ps x (ruled_by (row_of f).first f c refl) (follows_by (row_of f).first f (length ps)) agree goes inv t e

pub form_typed : (Inv : List Piece → List Shape → Type 0) (f : Form) (c : Context) (sc : List Piece → Context) (ps : List Piece) (x : Term × Shape) →
    Agrees Inv (form_row f) c (length ps) sc → ((common : Shape) → Goes Inv (form_row f) (length ps) common) → Inv [] [] →
    PartsTyped sc [] ps → formed f ps ≡ Ok x → Typed c x
form_typed Inv f c sc ps x agree goes inv t e =
    made_typed Inv (form_row f) (form f) c sc ps x (λ cs us t h. h) (λ i. refl) agree goes inv t e
