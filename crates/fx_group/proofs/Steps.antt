-- One more row in the buckets.
use Rattle.std.proofs.Common.{◌≡◌, ℕ, zero, suc, ◌<◌, ◌+◌, append_assoc, drop, get_or, set, arith, List, [], ◌∷◌, ◌++◌, length, map, Bool, true, false, Option, Some, None, refl, sym, ap, subst, ◌∙◌, cond, if◌then◌else◌}
use Rattle.std.specs.BTreeMap.{get}
use Rattle.std.specs.List.{list_any}
use Rattle.std.specs.Ordering.{is_eq}
use Rattle.std.specs.declared.alloc.Global.{Global}
use Rattle.std.specs.declared.vec.Vec.{Vec}
use Rattle.std.proofs.lemmas.List.{length-map, map-append}
use Rattle.fx_tables.specs.Groups.{value_of}
use Rattle.fx_value.specs.Columns.{Row}
use Rattle.fx_value.specs.Keys.{key_bytes}
use Rattle.fx_group.specs.Buckets.{HoldsGroups, IsOpened, bytes_of, bytes_order, firsts_by, group_by, has_bytes, has_same_bytes, items_of, key_order, place_by, with_behind}
use Rattle.fx_group.specs.declared.buckets.Buckets.{Buckets}
use Rattle.fx_group.proofs.Bytes.{bytes_meet, equal_bytes, order_seen, own_bytes, same_meets, same_turns}
use Rattle.fx_group.proofs.Firsts.{AreApart, alone, any_firsts, firsts_apart, firsts_more, groups_grow, groups_stay, is_among, or_place, place_alike, place_more, place_none, place_some}

-- where a key is, among the first rows
pub place_is : (ns : List (List ℕ)) (b : Buckets) (rows : List Row) (key : Vec (Vec ℕ Global) Global) (r : Row) (o : Option ℕ) → HoldsGroups ns b rows → items_of key.items ≡ bytes_of ns r →
    o ≡ get key_order b.places key → place_by (has_bytes ns (bytes_of ns r)) b.firsts.items ≡ o
place_is ns b rows key r o h seen e = ap (λ k. place_by (has_bytes ns k) b.firsts.items) (sym seen) ∙ sym (h.places_are key) ∙ sym e

-- as many groups as first rows
many : (ns : List (List ℕ)) (b : Buckets) (rows : List Row) → HoldsGroups ns b rows → length b.groups.items ≡ length b.firsts.items
many ns b rows h =
    sym (length-map b.groups.items (λ (v : Vec Row Global). v.items)) ∙ ap length h.groups_are ∙ length-map b.firsts.items (group_by (has_same_bytes ns) rows)

pub within : (ns : List (List ℕ)) (b : Buckets) (rows : List Row) (k : List (List ℕ)) (i : ℕ) → HoldsGroups ns b rows → place_by (has_bytes ns k) b.firsts.items ≡ Some i → i < length b.groups.items
within ns b rows k i h at =
    let less = (place_some (has_bytes ns k) b.firsts.items i at).1 in
    let long = many ns b rows h in
    rw long less

among : (ns : List (List ℕ)) (b : Buckets) (rows : List Row) (r : Row) → HoldsGroups ns b rows → list_any (has_bytes ns (bytes_of ns r)) b.firsts.items ≡ is_among (has_same_bytes ns) r rows
among ns b rows r h =
    ap (list_any (has_bytes ns (bytes_of ns r))) h.firsts_are ∙ any_firsts (has_same_bytes ns) (has_bytes ns (bytes_of ns r)) (bytes_meet ns (bytes_of ns r)) rows

firsts_next : (ns : List (List ℕ)) (rows : List Row) (r : Row) (b : Bool) → is_among (has_same_bytes ns) r rows ≡ b →
    firsts_by (has_same_bytes ns) (rows ++ r ∷ []) ≡ (if b then firsts_by (has_same_bytes ns) rows else firsts_by (has_same_bytes ns) rows ++ r ∷ [])
firsts_next ns rows r b e =
    firsts_more (has_same_bytes ns) rows r ∙ ap (λ k. if k then firsts_by (has_same_bytes ns) rows else firsts_by (has_same_bytes ns) rows ++ r ∷ []) e

-- a row of a key that there is
pub put : (ns : List (List ℕ)) (old new : Buckets) (rows : List Row) (r : Row) (i : ℕ) → HoldsGroups ns old rows → place_by (has_bytes ns (bytes_of ns r)) old.firsts.items ≡ Some i →
    new.firsts ≡ old.firsts → new.places ≡ old.places → items_of new.groups.items ≡ with_behind i r (items_of old.groups.items) → HoldsGroups ns new (rows ++ r ∷ [])
put ns old new rows r i h at f p g =
    let same = has_same_bytes ns in
    let fs = old.firsts.items in
    let was = sym (among ns old rows r h) ∙ (place_some (has_bytes ns (bytes_of ns r)) fs i at).0 in
    let apart = subst (AreApart same) (sym h.firsts_are) (firsts_apart same rows) in
    let firsts = ap (λ (v : Vec Row Global). v.items) f in
    record {
      firsts_are = firsts ∙ h.firsts_are ∙ sym (firsts_next ns rows r true was);
      groups_are = g ∙ ap (with_behind i r) h.groups_are ∙ sym (groups_grow same (same_meets ns) rows r fs i apart at) ∙ ap (map (group_by same (rows ++ r ∷ []))) (sym firsts);
      places_are = λ k. ap (λ m. get key_order m k) p ∙ h.places_are k ∙ ap (place_by (has_bytes ns (items_of k.items))) (sym firsts);
    }

either : (b : Bool) (o : Option ℕ) (n : ℕ) → (b ≡ true → o ≡ None) → cond b (Some n) o ≡ or_place o (if b then Some n else None)
either true o n h = sym (ap (λ p. or_place p (Some n)) (h refl))
either false None n h = refl
either false (Some i) n h = refl

-- a row of a new key
pub opened : (ns : List (List ℕ)) (old new : Buckets) (rows : List Row) (r : Row) (key : Vec (Vec ℕ Global) Global) → HoldsGroups ns old rows → items_of key.items ≡ bytes_of ns r →
    place_by (has_bytes ns (bytes_of ns r)) old.firsts.items ≡ None → IsOpened old new key r → HoldsGroups ns new (rows ++ r ∷ [])
opened ns old new rows r key h seen at o =
    let same = has_same_bytes ns in
    let fs = old.firsts.items in
    let grown = group_by same (rows ++ r ∷ []) in
    let was = sym (among ns old rows r h) ∙ place_none (has_bytes ns (bytes_of ns r)) fs at in
    let stay = groups_stay same rows r fs at in
    let own = alone same (same_turns ns) rows r (own_bytes ns r) was in
    record {
      firsts_are = o.first ∙ ap (λ xs. xs ++ r ∷ []) h.firsts_are ∙ sym (firsts_next ns rows r false was);
      groups_are = o.group ∙ ap (λ gs. gs ++ (r ∷ []) ∷ []) h.groups_are ∙ sym (ap (map grown) o.first ∙ map-append grown fs (r ∷ []) ∙ (λ j. stay j ++ own j ∷ []));
      places_are = λ k. placed k;
    }
  where
    placed : (q : Vec (Vec ℕ Global) Global) → get key_order new.places q ≡ place_by (has_bytes ns (items_of q.items)) new.firsts.items
    placed q =
        let fs = old.firsts.items in
        let p = has_bytes ns (items_of q.items) in
        let test : is_eq (key_order key q) ≡ p r = ap is_eq (order_seen key.items q.items) ∙ ap (λ k. is_eq (bytes_order k (items_of q.items))) seen in
        let none = λ (e : p r ≡ true). sym (place_alike (has_bytes ns (bytes_of ns r)) p (equal_bytes ns (bytes_of ns r) (items_of q.items) e) fs) ∙ at in
        o.place q ∙ (λ i. cond (test i) (Some (many ns old rows h i)) (h.places_are q i))
        ∙ either (p r) (place_by p fs) (length fs) none
        ∙ sym (ap (place_by p) o.first ∙ place_more p fs r)

-- one more in a group of vectors
pub behind : {A : Type 0} (vs : List (Vec A Global)) (i : ℕ) (v : Vec A Global) (d : Vec A Global) (x : A) → i < length vs → v.items ≡ (get_or vs i d).items ++ x ∷ [] →
    items_of (set vs i v) ≡ with_behind i x (items_of vs)
behind [] i v d x l e = absurd (omega arith)
behind (w ∷ vs) zero v d x l e = ap (λ z. z ∷ items_of vs) e
behind (w ∷ vs) (suc i) v d x l e = ap (λ z. w.items ∷ z) (behind vs i v d x (omega arith) e)

-- the bytes of one more value of a key
pub bytes_more : (ns : List (List ℕ)) (i : ℕ) (n : List ℕ) (r : Row) (done : List (Vec ℕ Global)) (v : Vec ℕ Global) (new : List (Vec ℕ Global)) (all : List (List ℕ)) →
    drop i ns ≡ n ∷ drop (i + 1) ns → v.items ≡ key_bytes (value_of n r) → new ≡ done ++ v ∷ [] →
    items_of done ++ bytes_of (drop i ns) r ≡ all → items_of new ++ bytes_of (drop (i + 1) ns) r ≡ all
bytes_more ns i n r done v new all split made put h =
    let rest = bytes_of (drop (i + 1) ns) r in
    ap (λ z. items_of z ++ rest) put ∙ ap (λ z. z ++ rest) (map-append (λ (w : Vec ℕ Global). w.items) done (v ∷ []))
    ∙ append_assoc (items_of done) (v.items ∷ []) rest ∙ ap (λ z. items_of done ++ z ∷ rest) made
    ∙ sym (ap (λ z. items_of done ++ bytes_of z r) split) ∙ h
