-- The places of the router's table, and the routes at them.
use Rattle.std.proofs.Common.{◌≡◌, ◌≢◌, ℕ, zero, suc, ◌<◌, List, [], ◌∷◌, length, map, get_or, Option, Some, None, Bool, true, false, ltb, not, bytes_eq, Ok, Err, refl, ap, sym, ◌∙◌, subst, arith, ◌&&◌, ◌||◌, ◌⊎◌, inl, inr, lit<}
use Rattle.std.specs.List.{AllZip, list_all}
use Rattle.std.specs.Char.{is_ascii_digit}
use Rattle.std.specs.Str.{IsAscii, IsUtf8}
use Rattle.std.proofs.lemmas.Bool.{and_parts}
use Rattle.std.proofs.lemmas.Bool.Decides.{nat_tests}
use Rattle.std.proofs.lemmas.Slice.Eq.{bytes_eq-Decides}
use Rattle.std.proofs.lemmas.Str.{IsUtf8-from_ascii}
use Rattle.matchit.specs.Rows.{RowsOf}
use Rattle.matchit.specs.Router.{RouteOf}
use Rattle.matchit.specs.Seek.{first}
use Rattle.app_wire.specs.Routing.{HasPath, IsCallerName, IsRouteNumber, IsOneRoute, IsTitle, RoutePart, Routing, SaysPart, is_name_byte, method_of, path_parts, route_path, word}
use Rattle.app_wire.specs.Routing as part
use Rattle.app_wire.specs.RouteTable.{RouterFinds, Is, Kind, Placed, RoutePartReads, RoutePartTakes, text, caller, title, number, kinds, found_place, route_index, places, route_row, route_table, tokens}
use Rattle.app_wire.specs.declared.head.Method.{Method}
use Rattle.app_wire.specs.declared.head.Method.TheVariants as method
use Rattle.app_wire.specs.declared.route.Place.{Place}
use Rattle.app_wire.specs.declared.route.Place.TheVariants as place
use Rattle.app_wire.specs.declared.route.Route.{Route}
use Rattle.app_wire.specs.declared.route.Route.TheVariants.{Begin, End, View, Named, Items, Event, Input, Rows, Edit, Replace, Page, Plan, Graph}
use Rattle.app_wire.specs.declared.route.RouteEnd.{RouteEnd}
use Rattle.app_wire.specs.declared.route.RouteEnd.TheVariants.{NoRoute, WrongMethod, Memory}
use Rattle.app_wire.proofs.RouteSteps.{Has}
use Rattle.app_wire.proofs.RoutePaths.{AreBytes, Matches, found_matches, none_matches}
use Rattle.app_wire.proofs.RouteParts.{AreTexts, are_plain, match_of_parts, parts_of_match, path_text, plain_rest, word_plain}

abbrev pub Among : Place → List Place → Type 0
Among p [] = ⊥
Among p (q ∷ rest) = (q ≡ p) ⊎ Among p rest

among : (p : Place) → Among p places
among place.Replace = inl refl
among place.Edit = inr (inl refl)
among place.Rows = inr (inr (inl refl))
among place.Graph = inr (inr (inr (inl refl)))
among place.Plan = inr (inr (inr (inr (inl refl))))
among place.Page = inr (inr (inr (inr (inr (inl refl)))))
among place.Event = inr (inr (inr (inr (inr (inr (inl refl))))))
among place.Input = inr (inr (inr (inr (inr (inr (inr (inl refl)))))))
among place.Items = inr (inr (inr (inr (inr (inr (inr (inr (inl refl))))))))
among place.Named = inr (inr (inr (inr (inr (inr (inr (inr (inr (inl refl)))))))))
among place.View = inr (inr (inr (inr (inr (inr (inr (inr (inr (inr (inl refl))))))))))
among place.Session = inr (inr (inr (inr (inr (inr (inr (inr (inr (inr (inr (inl refl)))))))))))

plain_words : (p : Place) → are_plain (kinds p) ≡ true
plain_words place.Session = refl
plain_words place.View = refl
plain_words place.Named = refl
plain_words place.Items = refl
plain_words place.Event = refl
plain_words place.Input = refl
plain_words place.Rows = refl
plain_words place.Edit = refl
plain_words place.Replace = refl
plain_words place.Page = refl
plain_words place.Plan = refl
plain_words place.Graph = refl

-- the rows are those of the places
rows : List Place → RowsOf (RouteOf Place)
rows l = map (λ p. (tokens (kinds p), route_row p)) l

row_among : (p : Place) (l : List Place) → Among p l → Has (rows l) (tokens (kinds p)) (route_row p)
unfolding rows
row_among p [] h = h
row_among p (q ∷ l) (inl e) = inl (ap (λ z. tokens (kinds z)) e, ap route_row e)
row_among p (q ∷ l) (inr h) = inr (row_among p l h)

place_among : (l : List Place) (t : List ℕ) (r : RouteOf Place) → Has (rows l) t r → (p : Place) × (tokens (kinds p) ≡ t) × (route_row p ≡ r)
unfolding rows
place_among [] t r h = absurd h
place_among (q ∷ l) t r (inl e) = (q, e.0, e.1)
place_among (q ∷ l) t r (inr h) = place_among l t r h

-- what the router finds is the place of the path
pub placed : (path : List ℕ) → AreBytes path → (found : Option (RouteOf Place)) → first route_table path ≡ found → Placed path (found_place found)
unfolding route_table rows
placed path bytes None e = λ p z.
    none_matches (length path) (route_row p) route_table path (tokens (kinds p)) (omega arith) refl bytes e (row_among p places (among p)) (match_of_parts (kinds p) path (plain_words p) z)
placed path bytes (Some r) e =
    let f = found_matches (length path) r route_table path (omega arith) refl bytes e in
    let q = place_among places f.0 r f.1 in
    subst (λ k. AllZip RoutePartTakes (path_parts path) (text [] ∷ kinds (k.value))) q.2
    (parts_of_match (kinds q.0) path (plain_words q.0) (subst (λ t. Matches t path) (sym q.1) f.2))

-- what a part of a route says
abbrev pub kind_of : RoutePart → Kind
kind_of (part.word w) = text w
kind_of (part.caller n) = caller
kind_of (part.title n) = title
kind_of (part.number n) = number

pub kinds_are : (r : Route) → map kind_of (route_path r) ≡ kinds (route_index r)
kinds_are (Begin n) = refl
kinds_are (End n) = refl
kinds_are (View n) = refl
kinds_are (Named n) = refl
kinds_are (Items n g f) = refl
kinds_are (Event n) = refl
kinds_are (Input n) = refl
kinds_are (Rows n) = refl
kinds_are (Edit n) = refl
kinds_are (Replace n) = refl
kinds_are (Page t a) = refl
kinds_are Plan = refl
kinds_are Graph = refl

says_is : (bytes : List ℕ) (p : RoutePart) → SaysPart bytes p → Is (kind_of p) bytes
says_is bytes (part.word w) h = h
says_is bytes (part.caller n) h = h.0
says_is bytes (part.title n) h = h.0
says_is bytes (part.number n) h = h.0

is_takes : (bytes : List ℕ) (k : Kind) → Is k bytes → RoutePartTakes bytes k
is_takes bytes (text w) h = h
is_takes bytes caller h = h.some
is_takes bytes title h = h.some
is_takes bytes number h = h.some

-- all parts are of the kinds of the place
abbrev pub AreOf : List (List ℕ) → List Kind → Type 0
AreOf parts ks = AllZip (λ bytes k. Is k bytes) parts ks

all_of : (parts : List (List ℕ)) (ps : List RoutePart) → AllZip SaysPart parts ps → AreOf parts (map kind_of ps)
all_of [] [] h = tt
all_of [] (p ∷ ps) h = h
all_of (b ∷ parts) [] h = h
all_of (b ∷ parts) (p ∷ ps) h = (says_is b p h.0, all_of parts ps h.1)

all_taken : (parts : List (List ℕ)) (ks : List Kind) → AreOf parts ks → AllZip RoutePartTakes parts ks
all_taken [] [] h = tt
all_taken [] (k ∷ ks) h = h
all_taken (b ∷ parts) [] h = h
all_taken (b ∷ parts) (k ∷ ks) h = (is_takes b k h.0, all_taken parts ks h.1)

pub path_kinds : (path : List ℕ) (r : Route) → HasPath path r → AreOf (path_parts path) (text [] ∷ kinds (route_index r))
path_kinds path r h = subst (λ ks. AreOf (path_parts path) (text [] ∷ ks)) (kinds_are r) (all_of (path_parts path) (word [] ∷ route_path r) h)

pub path_placed : (path : List ℕ) (r : Route) → HasPath path r → Placed path (Some (route_index r))
path_placed path r h = all_taken (path_parts path) (text [] ∷ kinds (route_index r)) (path_kinds path r h)

pub kind_at : (parts : List (List ℕ)) (ks : List Kind) (i : ℕ) → i < length ks → AreOf parts ks → Is (get_or ks i (text [])) (get_or parts i [])
kind_at [] [] i l h = absurd (omega (arith, l))
kind_at [] (k ∷ ks) i l h = absurd h
kind_at (b ∷ parts) [] i l h = absurd h
kind_at (b ∷ parts) (k ∷ ks) zero l h = h.0
kind_at (b ∷ parts) (k ∷ ks) (suc i) l h = kind_at parts ks i (omega (arith, l)) h.1

-- two places have no path in common
clash : List Kind → List Kind → Bool
clash [] [] = false
clash [] (l ∷ ls) = true
clash (k ∷ ks) [] = true
clash (text a ∷ ks) (text b ∷ ls) = not (bytes_eq a b) || clash ks ls
clash (k ∷ ks) (l ∷ ls) = clash ks ls

clash_words : (a b bytes : List ℕ) → not (bytes_eq a b) ≡ true → bytes ≡ a → bytes ≡ b → ⊥
clash_words a b bytes h e f =
    let yes = (bytes_eq-Decides a b).1 (sym e ∙ f) in
    let no : not true ≡ true = sym (ap not yes) ∙ h in
    cc

no_clash : (parts : List (List ℕ)) (ks ls : List Kind) → AllZip RoutePartTakes parts ks → AllZip RoutePartTakes parts ls → clash ks ls ≡ true → ⊥
unfolding clash
no_clash [] [] [] h g c = cc
no_clash [] [] (l ∷ ls) h g c = g
no_clash [] (k ∷ ks) ls h g c = h
no_clash (b ∷ parts) [] ls h g c = h
no_clash (b ∷ parts) (k ∷ ks) [] h g c = g
no_clash (b ∷ parts) (text x ∷ ks) (text y ∷ ls) h g c = by (not (bytes_eq x y)) refl (no_clash parts ks ls h.1 g.1) c
  where
    by : (v : Bool) → not (bytes_eq x y) ≡ v → (clash ks ls ≡ true → ⊥) → (v || clash ks ls) ≡ true → ⊥
    by true q again c = clash_words x y b q h.0 g.0
    by false q again c = again c
no_clash (b ∷ parts) (text x ∷ ks) (caller ∷ ls) h g c = no_clash parts ks ls h.1 g.1 c
no_clash (b ∷ parts) (text x ∷ ks) (title ∷ ls) h g c = no_clash parts ks ls h.1 g.1 c
no_clash (b ∷ parts) (text x ∷ ks) (number ∷ ls) h g c = no_clash parts ks ls h.1 g.1 c
no_clash (b ∷ parts) (caller ∷ ks) (l ∷ ls) h g c = no_clash parts ks ls h.1 g.1 c
no_clash (b ∷ parts) (title ∷ ks) (l ∷ ls) h g c = no_clash parts ks ls h.1 g.1 c
no_clash (b ∷ parts) (number ∷ ks) (l ∷ ls) h g c = no_clash parts ks ls h.1 g.1 c

apart : Place → List Place → Bool
apart p l = list_all (λ q. clash (kinds p) (kinds q) && clash (kinds q) (kinds p)) l

all_apart : List Place → Bool
all_apart [] = true
all_apart (p ∷ l) = apart p l && all_apart l

apart_from : (p q : Place) (l : List Place) → apart p l ≡ true → Among q l → (clash (kinds p) (kinds q) && clash (kinds q) (kinds p)) ≡ true
unfolding apart
apart_from p q [] h a = absurd a
apart_from p q (x ∷ l) h (inl e) =
    let two = and_parts (clash (kinds p) (kinds x) && clash (kinds x) (kinds p)) (apart p l) h in
    subst (λ z. (clash (kinds p) (kinds z) && clash (kinds z) (kinds p)) ≡ true) e two.0
apart_from p q (x ∷ l) h (inr a) =
    let two = and_parts (clash (kinds p) (kinds x) && clash (kinds x) (kinds p)) (apart p l) h in
    apart_from p q l two.1 a

one_among : (p q : Place) (l : List Place) → all_apart l ≡ true → Among p l → Among q l → (p ≡ q) ⊎ (clash (kinds p) (kinds q) ≡ true)
unfolding all_apart
one_among p q [] h a b = absurd a
one_among p q (x ∷ l) h (inl e) (inl f) = inl (sym e ∙ f)
one_among p q (x ∷ l) h (inl e) (inr b) =
    let two = and_parts (apart x l) (all_apart l) h in
    let c = apart_from x q l two.0 b in
    inr (subst (λ z. clash (kinds z) (kinds q) ≡ true) e (and_parts (clash (kinds x) (kinds q)) (clash (kinds q) (kinds x)) c).0)
one_among p q (x ∷ l) h (inr a) (inl f) =
    let two = and_parts (apart x l) (all_apart l) h in
    let c = apart_from x p l two.0 a in
    inr (subst (λ z. clash (kinds p) (kinds z) ≡ true) f (and_parts (clash (kinds x) (kinds p)) (clash (kinds p) (kinds x)) c).1)
one_among p q (x ∷ l) h (inr a) (inr b) =
    let two = and_parts (apart x l) (all_apart l) h in
    one_among p q l two.1 a b

pub one_place : (path : List ℕ) (p q : Place) → Placed path (Some p) → Placed path (Some q) → p ≡ q
unfolding clash apart all_apart
one_place path p q h g = by (one_among p q places refl (among p) (among q))
  where
    by : (p ≡ q) ⊎ (clash (kinds p) (kinds q) ≡ true) → p ≡ q
    by (inl e) = e
    by (inr c) = absurd (no_clash (path_parts path) (text [] ∷ kinds p) (text [] ∷ kinds q) h g c)

-- a path of a route is text
small : (b : ℕ) → is_name_byte b ≡ true → b < 128
small b h = grind (arith, nat_tests, h)

small_digit : (b : ℕ) → is_ascii_digit b ≡ true → b < 128
small_digit b h = grind (arith, nat_tests, h)

pub name_ascii : (name : List ℕ) → list_all is_name_byte name ≡ true → IsAscii name
name_ascii [] h i = lit< tt
name_ascii (x ∷ xs) h zero = small x (and_parts (is_name_byte x) (list_all is_name_byte xs) h).0
name_ascii (x ∷ xs) h (suc i) = name_ascii xs (and_parts (is_name_byte x) (list_all is_name_byte xs) h).1 i

digits_ascii : (bs : List ℕ) → list_all is_ascii_digit bs ≡ true → IsAscii bs
digits_ascii [] h i = lit< tt
digits_ascii (x ∷ xs) h zero = small_digit x (and_parts (is_ascii_digit x) (list_all is_ascii_digit xs) h).0
digits_ascii (x ∷ xs) h (suc i) = digits_ascii xs (and_parts (is_ascii_digit x) (list_all is_ascii_digit xs) h).1 i

small_word : (b : ℕ) → ltb b 128 ≡ true → b < 128
small_word b h = grind (arith, nat_tests, h)

word_ascii : (bs : List ℕ) → list_all (λ b. ltb b 128) bs ≡ true → IsAscii bs
word_ascii [] h i = lit< tt
word_ascii (x ∷ xs) h zero = small_word x (and_parts (ltb x 128) (list_all (λ b. ltb b 128) xs) h).0
word_ascii (x ∷ xs) h (suc i) = word_ascii xs (and_parts (ltb x 128) (list_all (λ b. ltb b 128) xs) h).1 i

kind_text : (bytes : List ℕ) (k : Kind) (ks : List Kind) → are_plain (k ∷ ks) ≡ true → Is k bytes → IsUtf8 bytes
kind_text bytes (text w) ks h is = subst IsUtf8 (sym is) (IsUtf8-from_ascii w (word_ascii w (word_plain w ks h).1))
kind_text bytes caller ks h is = IsUtf8-from_ascii bytes (name_ascii bytes is.bytes)
kind_text bytes title ks h is = is.text
kind_text bytes number ks h is = IsUtf8-from_ascii bytes (digits_ascii bytes is.digits)

all_texts : (parts : List (List ℕ)) (ks : List Kind) → are_plain ks ≡ true → AreOf parts ks → AreTexts parts
all_texts [] [] p h = tt
all_texts [] (k ∷ ks) p h = absurd h
all_texts (b ∷ parts) [] p h = absurd h
all_texts (b ∷ parts) (k ∷ ks) p h = (kind_text b k ks p h.0, all_texts parts ks (plain_rest k ks p) h.1)

pub route_text : (path : List ℕ) (r : Route) → HasPath path r → IsUtf8 path
route_text path r h = path_text path (all_texts (path_parts path) (text [] ∷ kinds (route_index r)) (plain_words (route_index r)) (path_kinds path r h))

-- the route of what is said at a place
name_in : RoutePart → List ℕ
name_in (part.word w) = w
name_in (part.caller n) = n
name_in (part.title n) = n
name_in (part.number n) = []

count_in : RoutePart → ℕ
count_in (part.word w) = 0
count_in (part.caller n) = 0
count_in (part.title n) = 0
count_in (part.number n) = n

name_at : List RoutePart → ℕ → List ℕ
name_at ps i = name_in (get_or ps i (word []))

count_at : List RoutePart → ℕ → ℕ
count_at ps i = count_in (get_or ps i (word []))

session_by : Method → List ℕ → Route
session_by method.Delete n = End n
session_by method.Get n = Begin n
session_by method.Put n = Begin n
session_by method.Post n = Begin n
session_by method.Other n = Begin n

route_by : Place → Method → List RoutePart → Route
route_by place.Session m ps = session_by m (name_at ps 1)
route_by place.View m ps = View (name_at ps 1)
route_by place.Named m ps = Named (name_at ps 1)
route_by place.Items m ps = Items (name_at ps 1) (name_at ps 3) (count_at ps 4)
route_by place.Event m ps = Event (name_at ps 1)
route_by place.Input m ps = Input (name_at ps 1)
route_by place.Rows m ps = Rows (name_at ps 1)
route_by place.Edit m ps = Edit (name_at ps 1)
route_by place.Replace m ps = Replace (name_at ps 1)
route_by place.Page m ps = Page (name_at ps 1) (count_at ps 2)
route_by place.Plan m ps = Plan
route_by place.Graph m ps = Graph

by_parts : (r : Route) → route_by (route_index r) (method_of r) (route_path r) ≡ r
unfolding route_by session_by name_at count_at name_in count_in
by_parts (Begin n) = refl
by_parts (End n) = refl
by_parts (View n) = refl
by_parts (Named n) = refl
by_parts (Items n g f) = refl
by_parts (Event n) = refl
by_parts (Input n) = refl
by_parts (Rows n) = refl
by_parts (Edit n) = refl
by_parts (Replace n) = refl
by_parts (Page t a) = refl
by_parts Plan = refl
by_parts Graph = refl

-- bytes say one thing of a kind
says_one : (bytes : List ℕ) (p q : RoutePart) → kind_of p ≡ kind_of q → SaysPart bytes p → SaysPart bytes q → p ≡ q
says_one bytes (part.word a) (part.word b) e h g = ap part.word (sym h ∙ g)
says_one bytes (part.word a) (part.caller b) e h g = cc
says_one bytes (part.word a) (part.title b) e h g = cc
says_one bytes (part.word a) (part.number b) e h g = cc
says_one bytes (part.caller a) (part.word b) e h g = cc
says_one bytes (part.caller a) (part.caller b) e h g = ap part.caller (h.1 ∙ sym g.1)
says_one bytes (part.caller a) (part.title b) e h g = cc
says_one bytes (part.caller a) (part.number b) e h g = cc
says_one bytes (part.title a) (part.word b) e h g = cc
says_one bytes (part.title a) (part.caller b) e h g = cc
says_one bytes (part.title a) (part.title b) e h g = ap part.title (h.1 ∙ sym g.1)
says_one bytes (part.title a) (part.number b) e h g = cc
says_one bytes (part.number a) (part.word b) e h g = cc
says_one bytes (part.number a) (part.caller b) e h g = cc
says_one bytes (part.number a) (part.title b) e h g = cc
says_one bytes (part.number a) (part.number b) e h g = ap part.number (h.1 ∙ sym g.1)

all_one : (parts : List (List ℕ)) (ps qs : List RoutePart) → map kind_of ps ≡ map kind_of qs → AllZip SaysPart parts ps → AllZip SaysPart parts qs → ps ≡ qs
all_one [] [] [] e h g = refl
all_one [] [] (q ∷ qs) e h g = absurd g
all_one [] (p ∷ ps) qs e h g = absurd h
all_one (b ∷ parts) [] qs e h g = absurd h
all_one (b ∷ parts) (p ∷ ps) [] e h g = absurd g
all_one (b ∷ parts) (p ∷ ps) (q ∷ qs) e h g =
    let first : kind_of p ≡ kind_of q = cc in
    let rest : map kind_of ps ≡ map kind_of qs = cc in
    let same = says_one b p q first h.0 g.0 in
    let more = all_one parts ps qs rest h.1 g.1 in
    ap (λ x. x ∷ ps) same ∙ ap (λ xs. q ∷ xs) more

pub same_place : (path : List ℕ) (r s : Route) → HasPath path r → HasPath path s → route_index r ≡ route_index s
same_place path r s h g = one_place path (route_index r) (route_index s) (path_placed path r h) (path_placed path s g)

-- a path has one route for a method
same_route : (path : List ℕ) (r s : Route) → HasPath path r → HasPath path s → method_of r ≡ method_of s → r ≡ s
same_route path r s h g m =
    let p = same_place path r s h g in
    let k : map kind_of (route_path r) ≡ map kind_of (route_path s) = kinds_are r ∙ ap kinds p ∙ sym (kinds_are s) in
    let all = all_one (path_parts path) (word [] ∷ route_path r) (word [] ∷ route_path s) (ap (λ ks. text [] ∷ ks) k) h g in
    let ps : route_path r ≡ route_path s = cc in
    sym (by_parts r) ∙ ap (λ z. route_by z (method_of r) (route_path r)) p ∙ ap (λ z. route_by (route_index s) z (route_path r)) m ∙ ap (route_by (route_index s) (method_of s)) ps
    ∙ by_parts s

pub one_route : IsOneRoute
one_route m path (Ok r) (Ok s) x y h g = ap Ok (same_route path r s h.0 g.0 (h.1 ∙ sym g.1))
one_route m path (Ok r) (Err NoRoute) x y h g = absurd (g r h.0)
one_route m path (Ok r) (Err WrongMethod) x y h g = absurd (g.1 r h.0 h.1)
one_route m path (Ok r) (Err Memory) x y h g = absurd (y refl)
one_route m path (Err NoRoute) (Ok s) x y h g = absurd (h s g.0)
one_route m path (Err NoRoute) (Err NoRoute) x y h g = refl
one_route m path (Err NoRoute) (Err WrongMethod) x y h g = absurd (h g.0.0 g.0.1)
one_route m path (Err NoRoute) (Err Memory) x y h g = absurd (y refl)
one_route m path (Err WrongMethod) (Ok s) x y h g = absurd (h.1 s g.0 g.1)
one_route m path (Err WrongMethod) (Err NoRoute) x y h g = absurd (g h.0.0 h.0.1)
one_route m path (Err WrongMethod) (Err WrongMethod) x y h g = refl
one_route m path (Err WrongMethod) (Err Memory) x y h g = absurd (y refl)
one_route m path (Err Memory) b x y h g = absurd (x refl)

-- where a place is known
pub ends_known : (p : Place) (m : Method) (path : List ℕ) (e : RouteEnd) → Placed path (Some p) → RouterFinds p m path (Err e) → Routing m path (Err e)
ends_known p m path NoRoute at f = λ r h. f r (one_place path (route_index r) p (path_placed path r h) at) h
ends_known p m path WrongMethod at f = absurd f
ends_known p m path Memory at f = tt

pub ends_wrong : (p : Place) (m : Method) (path : List ℕ) (r : Route) → RouterFinds p m path (Ok r) → method_of r ≢ m → Routing m path (Err WrongMethod)
ends_wrong p m path r f differ = ((r, f.0), λ other h is. differ (f.2 other (same_place path other r h f.0 ∙ f.1) is))

-- what is read at a place
abbrev pub is_session : Place → Bool
is_session place.Session = true
is_session place.View = false
is_session place.Named = false
is_session place.Items = false
is_session place.Event = false
is_session place.Input = false
is_session place.Rows = false
is_session place.Edit = false
is_session place.Replace = false
is_session place.Page = false
is_session place.Plan = false
is_session place.Graph = false

method_at : Place → Method
method_at place.Session = method.Put
method_at place.View = method.Get
method_at place.Named = method.Get
method_at place.Items = method.Get
method_at place.Event = method.Post
method_at place.Input = method.Post
method_at place.Rows = method.Post
method_at place.Edit = method.Post
method_at place.Replace = method.Post
method_at place.Page = method.Get
method_at place.Plan = method.Get
method_at place.Graph = method.Get

one_method : (r : Route) → is_session (route_index r) ≡ false → method_of r ≡ method_at (route_index r)
unfolding method_at
one_method (Begin n) e = refl
one_method (End n) e = cc
one_method (View n) e = refl
one_method (Named n) e = refl
one_method (Items n g f) e = refl
one_method (Event n) e = refl
one_method (Input n) e = refl
one_method (Rows n) e = refl
one_method (Edit n) e = refl
one_method (Replace n) e = refl
one_method (Page t a) e = refl
one_method Plan e = refl
one_method Graph e = refl

same_method : (r other : Route) (m : Method) → is_session (route_index r) ≡ false → route_index other ≡ route_index r → method_of other ≡ m → method_of r ≡ m
same_method r other m e p is = one_method r e ∙ sym (ap method_at p) ∙ sym (one_method other (ap is_session p ∙ e)) ∙ is

-- the parts of a route that are no words
abbrev pub SaidFrom : ℕ → List RoutePart → List (List ℕ) → Type 0
SaidFrom i [] parts = Unit {0}
SaidFrom i (part.word w ∷ ps) parts = SaidFrom (suc i) ps parts
SaidFrom i (part.caller n ∷ ps) parts = SaysPart (get_or parts i []) (part.caller n) × SaidFrom (suc i) ps parts
SaidFrom i (part.title n ∷ ps) parts = SaysPart (get_or parts i []) (part.title n) × SaidFrom (suc i) ps parts
SaidFrom i (part.number n ∷ ps) parts = SaysPart (get_or parts i []) (part.number n) × SaidFrom (suc i) ps parts

said_behind : (i : ℕ) (ps : List RoutePart) (b : List ℕ) (parts : List (List ℕ)) → SaidFrom (suc i) ps (b ∷ parts) → SaidFrom i ps parts
said_behind i [] b parts h = tt
said_behind i (part.word w ∷ ps) b parts h = said_behind (suc i) ps b parts h
said_behind i (part.caller n ∷ ps) b parts h = (h.0, said_behind (suc i) ps b parts h.1)
said_behind i (part.title n ∷ ps) b parts h = (h.0, said_behind (suc i) ps b parts h.1)
said_behind i (part.number n ∷ ps) b parts h = (h.0, said_behind (suc i) ps b parts h.1)

all_said : (ps : List RoutePart) (parts : List (List ℕ)) → AllZip RoutePartTakes parts (map kind_of ps) → SaidFrom 0 ps parts → AllZip SaysPart parts ps
all_said [] [] t h = tt
all_said [] (b ∷ parts) t h = absurd t
all_said (p ∷ ps) [] t h = absurd t
all_said (part.word w ∷ ps) (b ∷ parts) t h = (t.0, all_said ps parts t.1 (said_behind 0 ps b parts h))
all_said (part.caller n ∷ ps) (b ∷ parts) t h = (h.0, all_said ps parts t.1 (said_behind 0 ps b parts h.1))
all_said (part.title n ∷ ps) (b ∷ parts) t h = (h.0, all_said ps parts t.1 (said_behind 0 ps b parts h.1))
all_said (part.number n ∷ ps) (b ∷ parts) t h = (h.0, all_said ps parts t.1 (said_behind 0 ps b parts h.1))

pub said_path : (path : List ℕ) (r : Route) → Placed path (Some (route_index r)) → SaidFrom 1 (route_path r) (path_parts path) → HasPath path r
said_path path r at h =
    all_said (word [] ∷ route_path r) (path_parts path) (subst (λ ks. AllZip RoutePartTakes (path_parts path) (text [] ∷ ks)) (sym (kinds_are r)) at) h

pub reads : (path : List ℕ) (r : Route) (m : Method) → Placed path (Some (route_index r)) → is_session (route_index r) ≡ false → SaidFrom 1 (route_path r) (path_parts path)
    → RouterFinds (route_index r) m path (Ok r)
reads path r m at e h = (said_path path r at h, refl, λ other p is. same_method r other m e p is)

pub reads_end : (path : List ℕ) (name : List ℕ) (m : Method) → Placed path (Some place.Session) → m ≡ method.Delete → SaysPart (get_or (path_parts path) 2 []) (part.caller name)
    → RouterFinds place.Session m path (Ok (End name))
reads_end path name m at e h = (said_path path (End name) at (h, tt), refl, λ other p is. sym e)

pub reads_begin : (path : List ℕ) (name : List ℕ) (m : Method) → Placed path (Some place.Session) → m ≢ method.Delete → SaysPart (get_or (path_parts path) 2 []) (part.caller name)
    → RouterFinds place.Session m path (Ok (Begin name))
reads_begin path name m at e h = (said_path path (Begin name) at (h, tt), refl, λ other p is. by other p is)
  where
    by : (other : Route) → route_index other ≡ place.Session → method_of other ≡ m → method.Put ≡ m
    by (Begin n) p is = is
    by (End n) p is = absurd (e (sym is))
    by (View n) p is = cc
    by (Named n) p is = cc
    by (Items n g f) p is = cc
    by (Event n) p is = cc
    by (Input n) p is = cc
    by (Rows n) p is = cc
    by (Edit n) p is = cc
    by (Replace n) p is = cc
    by (Page t a) p is = cc
    by Plan p is = cc
    by Graph p is = cc

-- a part that is not of its kind
pub misses : (p : Place) (i : ℕ) (m : Method) (path : List ℕ) → i < suc (length (kinds p)) → (Is (get_or (text [] ∷ kinds p) i (text [])) (get_or (path_parts path) i []) → ⊥)
    → RouterFinds p m path (Err NoRoute)
misses p i m path l differ = λ r at h.
    differ (kind_at (path_parts path) (text [] ∷ kinds p) i l (subst (λ q. AreOf (path_parts path) (text [] ∷ kinds q)) at (path_kinds path r h)))

-- the end of a part that was not read is the end at its place
pub ends : {A : Type 0} (k : Kind) (part : A → RoutePart) (p : Place) (i : ℕ) (m : Method) (path : List ℕ) (e : RouteEnd) → get_or (text [] ∷ kinds p) i (text []) ≡ k → i < suc (length (kinds p))
    → RoutePartReads k part (get_or (path_parts path) i []) (Err e) → RouterFinds p m path (Err e)
ends k part p i m path NoRoute same l differ = misses p i m path l (λ is. differ (subst (λ q. Is q (get_or (path_parts path) i [])) same is))
ends k part p i m path WrongMethod same l e = e
ends k part p i m path Memory same l e = tt

-- the same at a place that is known to be this one
pub reads_at : (p : Place) (m : Method) (path : List ℕ) (r : Route) → p ≡ route_index r → Placed path (Some p) → is_session (route_index r) ≡ false → SaidFrom 1 (route_path r) (path_parts path)
    → RouterFinds p m path (Ok r)
reads_at p m path r same at e h = subst (λ q. RouterFinds q m path (Ok r)) (sym same) (reads path r m (subst (λ q. Placed path (Some q)) same at) e h)
