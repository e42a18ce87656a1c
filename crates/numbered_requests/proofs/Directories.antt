-- Things by their names.
use Rattle.std.proofs.Common.{◌≡◌, ◌≢◌, ℕ, suc, Bool, true, false, bytes_eq, List, [], ◌∷◌, Option, Some, None, refl, ap, sym, ◌∙◌, arith, is_some}
use Rattle.std.specs.Prelude.{option_map}
use Rattle.std.specs.List.{position}
use Rattle.std.proofs.lemmas.Grind.{common_steps}
use Rattle.std.proofs.lemmas.Slice.Eq.{bytes_eq-Decides}
use Rattle.numbered_requests.specs.Directory.{find, is_in_directory, is_named, it_at, put_named, put_at}
use Rattle.numbered_requests.specs.declared.directory.Named.{Named}

pub same_bytes : (a b : List ℕ) → bytes_eq a b ≡ true → a ≡ b
same_bytes a b e = (bytes_eq-Decides a b).0 e

pub itself : (a : List ℕ) → bytes_eq a a ≡ true
itself a = (bytes_eq-Decides a a).1 refl

pub apart : (a b : List ℕ) → a ≢ b → bytes_eq a b ≡ false
apart a b differ = by (bytes_eq a b) refl
  where
    by : (t : Bool) → bytes_eq a b ≡ t → t ≡ false
    by true e = absurd (differ (same_bytes a b e))
    by false e = refl

pub position_here : (T : Type 0) (name : List ℕ) (n : Named T) (ns : List (Named T)) → is_named name n ≡ true → position (is_named name) (n ∷ ns) ≡ Some 0
position_here T name n ns e = grind (arith, common_steps, e)

pub position_past : (T : Type 0) (name : List ℕ) (n : Named T) (ns : List (Named T)) → is_named name n ≡ false → position (is_named name) (n ∷ ns) ≡ option_map suc (position (is_named name) ns)
position_past T name n ns e = grind (arith, common_steps, e)

it_past : (T : Type 0) (o : Option ℕ) (n : Named T) (ns : List (Named T)) → it_at (option_map suc o) (n ∷ ns) ≡ it_at o ns
it_past T None n ns = refl
it_past T (Some k) n ns = refl

put_past : (T : Type 0) (o : Option ℕ) (x n : Named T) (ns : List (Named T)) → put_at (option_map suc o) x (n ∷ ns) ≡ n ∷ put_at o x ns
put_past T None x n ns = refl
put_past T (Some k) x n ns = refl

pub find_here : (T : Type 0) (name : List ℕ) (n : Named T) (ns : List (Named T)) → is_named name n ≡ true → find name (n ∷ ns) ≡ Some n.it
find_here T name n ns e = ap (λ o. it_at o (n ∷ ns)) (position_here T name n ns e)

pub find_past : (T : Type 0) (name : List ℕ) (n : Named T) (ns : List (Named T)) → is_named name n ≡ false → find name (n ∷ ns) ≡ find name ns
find_past T name n ns e = ap (λ o. it_at o (n ∷ ns)) (position_past T name n ns e) ∙ it_past T (position (is_named name) ns) n ns

put_here : (T : Type 0) (name : List ℕ) (it : T) (n : Named T) (ns : List (Named T)) → is_named name n ≡ true → put_named name it (n ∷ ns) ≡ record { name = name; it = it } ∷ ns
put_here T name it n ns e = ap (λ o. put_at o (record { name = name; it = it }) (n ∷ ns)) (position_here T name n ns e)

put_on : (T : Type 0) (name : List ℕ) (it : T) (n : Named T) (ns : List (Named T)) → is_named name n ≡ false → put_named name it (n ∷ ns) ≡ n ∷ put_named name it ns
put_on T name it n ns e = ap (λ o. put_at o (record { name = name; it = it }) (n ∷ ns)) (position_past T name n ns e) ∙ put_past T (position (is_named name) ns) (record { name = name; it = it }) n ns

-- what was put is found
pub find_put : (T : Type 0) (name : List ℕ) (it : T) (list : List (Named T)) → find name (put_named name it list) ≡ Some it
find_put T name it [] = find_here T name (record { name = name; it = it }) [] (itself name)
find_put T name it (n ∷ ns) = by (is_named name n) refl (find_put T name it ns)
  where
    by : (b : Bool) → is_named name n ≡ b → find name (put_named name it ns) ≡ Some it → find name (put_named name it (n ∷ ns)) ≡ Some it
    by true e rest = ap (λ (l : List (Named T)). find name l) (put_here T name it n ns e) ∙ find_here T name (record { name = name; it = it }) ns (itself name)
    by false e rest = ap (λ (l : List (Named T)). find name l) (put_on T name it n ns e) ∙ find_past T name n (put_named name it ns) e ∙ rest

-- and nothing else changes
pub find_other : (T : Type 0) (name other : List ℕ) (it : T) (list : List (Named T)) → name ≢ other → find other (put_named name it list) ≡ find other list
find_other T name other it [] differ = find_past T other (record { name = name; it = it }) [] (apart name other differ)
find_other T name other it (n ∷ ns) differ = by (is_named name n) refl (is_named other n) refl (find_other T name other it ns differ)
  where
    by : (b : Bool) → is_named name n ≡ b → (d : Bool) → is_named other n ≡ d → find other (put_named name it ns) ≡ find other ns → find other (put_named name it (n ∷ ns)) ≡ find other (n ∷ ns)
    by true e true f rest = absurd (differ (sym (same_bytes n.name name e) ∙ same_bytes n.name other f))
    by true e false f rest = ap (λ (l : List (Named T)). find other l) (put_here T name it n ns e) ∙ find_past T other (record { name = name; it = it }) ns (apart name other differ) ∙ sym (find_past T other n ns f)
    by false e true f rest = ap (λ (l : List (Named T)). find other l) (put_on T name it n ns e) ∙ find_here T other n (put_named name it ns) f ∙ sym (find_here T other n ns f)
    by false e false f rest = ap (λ (l : List (Named T)). find other l) (put_on T name it n ns e) ∙ find_past T other n (put_named name it ns) f ∙ rest ∙ sym (find_past T other n ns f)

-- what is found is among them
pub found_among : (T : Type 0) (name : List ℕ) (it : T) (list : List (Named T)) → find name list ≡ Some it → is_in_directory name list ≡ true
found_among T name it list e = by (position (is_named name) list) e
  where
    by : (o : Option ℕ) → it_at o list ≡ Some it → is_some o ≡ true
    by None h = absurd cc
    by (Some k) h = refl
