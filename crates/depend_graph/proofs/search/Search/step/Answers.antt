use Rattle.std.proofs.Common.{◌≡◌, ℕ, suc, ◌-◌, ◌<◌, ◌++◌, ◌∷◌, [], List, length, get_or, set, take, sym, ◌∙◌, ap, subst, arith, Vec, vec_len}
use Rattle.std.specs.List.{sum_by, Contains}
use Rattle.depend_graph.specs.declared.state.State.{State}
use Rattle.depend_graph.specs.declared.state.State.TheVariants.{New, Open, Done}
use Rattle.std.specs.declared.alloc.Global.{Global}
use Rattle.depend_graph.specs.declared.search.Search.{Search}
use Rattle.depend_graph.specs.Lists.{nth_list, lists_of}
use Rattle.depend_graph.specs.Search.{visit_state, work_of, IsOnPath, IsSearchState}
use Rattle.depend_graph.proofs.Circles as circles
use Rattle.depend_graph.proofs.Moves as moves
use Rattle.depend_graph.proofs.Lasts.{IsLast, last_is, splits, state_is, less, stays_new, read_is, carried, open_is_not_new}
use Rattle.depend_graph.proofs.search.Search.step.Goals as goal
use Rattle.depend_graph.proofs.search.Search.step.Goals.{in-New+in_ok-open-in-New, in-Done}
use Rattle.depend_graph.proofs.search.Search.step.Goals.{in-New+in_ok-open-in-New, in-Done}
use Rattle.depend_graph.proofs.search.Search.step.Goals.{in-New+in_ok-open-in-New, in-Done}

pub index-requires : goal.index-requires
index-requires c =
    let i : IsLast c.args.self.now.states.items c.args.self.now.path.items c.args.last = last_is _ _ _ _ (vec_len c.args.self.now.path) c.args.last c.requires.search (omega arith) c.requires.last in
    let within = i.within in
    omega arith

pub unreachable-requires : goal.unreachable-requires
unreachable-requires c =
    let i : IsLast c.args.self.now.states.items c.args.self.now.path.items c.args.last = last_is _ _ _ _ (vec_len c.args.self.now.path) c.args.last c.requires.search (omega arith) c.requires.last in
    c.in_default.not-Open _ _ (sym (state_is c.args.self.now.states.items c.args.last _ i.within c.index.ensures) ∙ i.state)

pub close-requires : goal.close-requires
close-requires c =
    let i : IsLast c.args.self.now.states.items c.args.self.now.path.items c.args.last = last_is _ _ _ _ (vec_len c.args.self.now.path) c.args.last c.requires.search (omega arith) c.requires.last in
    let within = i.within in
    omega arith

last_state : (states : List State) (last place left : ℕ) (s : State) → last < length states → s ≡ get_or states last s → s ≡ Open place left → visit_state states last ≡ Open place left
last_state states last place left s lt read is = state_is states last s lt read ∙ is

to_zero : (states : List State) (n place left : ℕ) → visit_state states n ≡ Open place left → left ≡ 0 → visit_state states n ≡ Open place 0
to_zero states n place left e none = e ∙ ap (λ (m : ℕ). Open place m) none

pub returns-then-left-eq0-clause-search : goal.returns-then-left-eq0-clause-search
returns-then-left-eq0-clause-search c =
    let i : IsLast c.args.self.now.states.items c.args.self.now.path.items c.args.last = last_is _ _ _ _ (vec_len c.args.self.now.path) c.args.last c.requires.search (omega arith) c.requires.last in
    let here : visit_state c.args.self.now.states.items c.args.last ≡ Open c.in-Open.place c.in-Open.left = last_state c.args.self.now.states.items c.args.last _ _ _ i.within c.index.ensures c.in-Open.is in
    let zero_left : visit_state c.args.self.now.states.items c.args.last ≡ Open c.in-Open.place 0 = to_zero _ c.args.last _ _ here c.if-left-eq0.true in
    let next : IsSearchState (lists_of c.args.reads.now) (set c.args.self.now.states.items c.args.last Done) (take (vec_len c.args.self.now.path - 1) c.args.self.now.path.items) (c.args.self.now.order.items ++ c.args.last ∷ []) =
    moves.closed _ _ _ _ _ c.args.last c.in-Open.place c.requires.search i.within zero_left (splits _ _ c.args.last (vec_len c.args.self.now.path) (omega arith) i) in
    rw (c.in_ok-close.ensures.states, c.in_ok-close.ensures.path, c.in_ok-close.ensures.order) next

pub returns-then-left-eq0-clause-less : goal.returns-then-left-eq0-clause-less
returns-then-left-eq0-clause-less c =
    let i : IsLast c.args.self.now.states.items c.args.self.now.path.items c.args.last = last_is _ _ _ _ (vec_len c.args.self.now.path) c.args.last c.requires.search (omega arith) c.requires.last in
    let here : visit_state c.args.self.now.states.items c.args.last ≡ Open c.in-Open.place c.in-Open.left = last_state c.args.self.now.states.items c.args.last _ _ _ i.within c.index.ensures c.in-Open.is in
    rw (c.in_ok-close.ensures.states) (less c.args.self.now.states.items c.args.last _ Done i.within here (omega arith))

pub read_at-read-requires-clause-number : goal.read_at-read-requires-clause-number
read_at-read-requires-clause-number c =
    let i : IsLast c.args.self.now.states.items c.args.self.now.path.items c.args.last = last_is _ _ _ _ (vec_len c.args.self.now.path) c.args.last c.requires.search (omega arith) c.requires.last in
    let within = i.within in
    omega (arith, c.requires.len)

pub read_at-read-requires-clause-within : goal.read_at-read-requires-clause-within
read_at-read-requires-clause-within c =
    let i : IsLast c.args.self.now.states.items c.args.self.now.path.items c.args.last = last_is _ _ _ _ (vec_len c.args.self.now.path) c.args.last c.requires.search (omega arith) c.requires.last in
    let here : visit_state c.args.self.now.states.items c.args.last ≡ Open c.in-Open.place c.in-Open.left = last_state c.args.self.now.states.items c.args.last _ _ _ i.within c.index.ensures c.in-Open.is in
    let o : IsOnPath (lists_of c.args.reads.now) c.args.self.now.states.items c.args.self.now.path.items c.args.last c.in-Open.place c.in-Open.left = c.requires.search.is_open c.args.last _ _ here in
    o.fits

pub index-requires-2 : goal.index-requires-2
index-requires-2 c =
    let i : IsLast c.args.self.now.states.items c.args.self.now.path.items c.args.last = last_is _ _ _ _ (vec_len c.args.self.now.path) c.args.last c.requires.search (omega arith) c.requires.last in
    let here : visit_state c.args.self.now.states.items c.args.last ≡ Open c.in-Open.place c.in-Open.left = last_state c.args.self.now.states.items c.args.last _ _ _ i.within c.index.ensures c.in-Open.is in
    let o : IsOnPath (lists_of c.args.reads.now) c.args.self.now.states.items c.args.self.now.path.items c.args.last c.in-Open.place c.in-Open.left = c.requires.search.is_open c.args.last _ _ here in
    let fits = o.fits in
    let k : ℕ = length (nth_list (lists_of c.args.reads.now) c.args.last) - c.in-Open.left in
    let short : k < length (nth_list (lists_of c.args.reads.now) c.args.last) = omega arith in
    let is : c.read_at-read.result ≡ get_or (nth_list (lists_of c.args.reads.now) c.args.last) k 0 = c.read_at-read.ensures in
    let below : get_or (nth_list (lists_of c.args.reads.now) c.args.last) k 0 < vec_len c.args.self.now.states = c.requires.below c.args.last k 0 short in
    omega arith

pub open-requires-clause-number : goal.open-requires-clause-number
open-requires-clause-number c =
    let i : IsLast c.args.self.now.states.items c.args.self.now.path.items c.args.last = last_is _ _ _ _ (vec_len c.args.self.now.path) c.args.last c.requires.search (omega arith) c.requires.last in
    let here : visit_state c.args.self.now.states.items c.args.last ≡ Open c.in-Open.place c.in-Open.left = last_state c.args.self.now.states.items c.args.last _ _ _ i.within c.index.ensures c.in-Open.is in
    let o : IsOnPath (lists_of c.args.reads.now) c.args.self.now.states.items c.args.self.now.path.items c.args.last c.in-Open.place c.in-Open.left = c.requires.search.is_open c.args.last _ _ here in
    let fits = o.fits in
    let k : ℕ = length (nth_list (lists_of c.args.reads.now) c.args.last) - c.in-Open.left in
    let short : k < length (nth_list (lists_of c.args.reads.now) c.args.last) = omega arith in
    let is : c.read_at-read.result ≡ get_or (nth_list (lists_of c.args.reads.now) c.args.last) k 0 = c.read_at-read.ensures in
    let below : get_or (nth_list (lists_of c.args.reads.now) c.args.last) k 0 < vec_len c.args.self.now.states = c.requires.below c.args.last k 0 short in
    omega arith

pub circle_from-requires : goal.circle_from-requires
circle_from-requires c =
    let i : IsLast c.args.self.now.states.items c.args.self.now.path.items c.args.last = last_is _ _ _ _ (vec_len c.args.self.now.path) c.args.last c.requires.search (omega arith) c.requires.last in
    let here : visit_state c.args.self.now.states.items c.args.last ≡ Open c.in-Open.place c.in-Open.left = last_state c.args.self.now.states.items c.args.last _ _ _ i.within c.index.ensures c.in-Open.is in
    let o : IsOnPath (lists_of c.args.reads.now) c.args.self.now.states.items c.args.self.now.path.items c.args.last c.in-Open.place c.in-Open.left = c.requires.search.is_open c.args.last _ _ here in
    let fits = o.fits in
    let k : ℕ = length (nth_list (lists_of c.args.reads.now) c.args.last) - c.in-Open.left in
    let short : k < length (nth_list (lists_of c.args.reads.now) c.args.last) = omega arith in
    let is : c.read_at-read.result ≡ get_or (nth_list (lists_of c.args.reads.now) c.args.last) k 0 = c.read_at-read.ensures in
    let below : get_or (nth_list (lists_of c.args.reads.now) c.args.last) k 0 < vec_len c.args.self.now.states = c.requires.below c.args.last k 0 short in
    let within : c.read_at-read.result < length c.args.self.now.states.items = omega arith in
    let there : visit_state c.args.self.now.states.items c.read_at-read.result ≡ Open c.in-Open-index.place c.in-Open-index.left = last_state c.args.self.now.states.items c.read_at-read.result _ _ _ within c.index-2.ensures c.in-Open-index.is in
    let x : IsOnPath (lists_of c.args.reads.now) c.args.self.now.states.items c.args.self.now.path.items c.read_at-read.result c.in-Open-index.place c.in-Open-index.left = c.requires.search.is_open _ _ _ there in
    let before = x.within in
    omega arith

pub returns-in-Open-index-clause-end : goal.returns-in-Open-index-clause-end
returns-in-Open-index-clause-end c =
    let i : IsLast c.args.self.now.states.items c.args.self.now.path.items c.args.last = last_is _ _ _ _ (vec_len c.args.self.now.path) c.args.last c.requires.search (omega arith) c.requires.last in
    let here : visit_state c.args.self.now.states.items c.args.last ≡ Open c.in-Open.place c.in-Open.left = last_state c.args.self.now.states.items c.args.last _ _ _ i.within c.index.ensures c.in-Open.is in
    let o : IsOnPath (lists_of c.args.reads.now) c.args.self.now.states.items c.args.self.now.path.items c.args.last c.in-Open.place c.in-Open.left = c.requires.search.is_open c.args.last _ _ here in
    let fits = o.fits in
    let k : ℕ = length (nth_list (lists_of c.args.reads.now) c.args.last) - c.in-Open.left in
    let short : k < length (nth_list (lists_of c.args.reads.now) c.args.last) = omega arith in
    let is : c.read_at-read.result ≡ get_or (nth_list (lists_of c.args.reads.now) c.args.last) k 0 = c.read_at-read.ensures in
    let below : get_or (nth_list (lists_of c.args.reads.now) c.args.last) k 0 < vec_len c.args.self.now.states = c.requires.below c.args.last k 0 short in
    let within : c.read_at-read.result < length c.args.self.now.states.items = omega arith in
    let there : visit_state c.args.self.now.states.items c.read_at-read.result ≡ Open c.in-Open-index.place c.in-Open-index.left = last_state c.args.self.now.states.items c.read_at-read.result _ _ _ within c.index-2.ensures c.in-Open-index.is in
    let reading : Contains (nth_list (lists_of c.args.reads.now) c.args.last) c.read_at-read.result = read_is (nth_list (lists_of c.args.reads.now) c.args.last) k c.read_at-read.result short is in
    circles.closed (λ a b. Contains (nth_list (lists_of c.args.reads.now) a) b) _ _ (moves.found _ _ _ _ c.args.last c.read_at-read.result _ _ c.requires.search i.stands reading there) c.in_ok-circle_from-in-Open-index.ensures

pub index_mut-requires : goal.index_mut-requires
index_mut-requires c =
    let i : IsLast c.args.self.now.states.items c.args.self.now.path.items c.args.last = last_is _ _ _ _ (vec_len c.args.self.now.path) c.args.last c.requires.search (omega arith) c.requires.last in
    let within = i.within in
    omega arith

one_less : (states : List State) (n place left : ℕ) → visit_state states n ≡ Open place left → (left ≡ 0 → ⊥) → visit_state states n ≡ Open place (suc (left - 1))
one_less states n place left e ne = let more : left ≡ suc (left - 1) = omega arith in e ∙ ap (λ (m : ℕ). Open place m) more

opened_at : (reads : List (List ℕ)) (states : List State) (path order : List ℕ) (last n m : ℕ) → m ≡ length path → IsSearchState reads states path order → n < length states → visit_state states n ≡ New → get_or path (length path - 1) 0 ≡ last → Contains (nth_list reads last) n → IsSearchState reads (set states n (Open m (length (nth_list reads n)))) (path ++ n ∷ []) order
opened_at reads states path order last n m long s lt new ends reading =
    let P : ℕ → Type 0 = λ x. IsSearchState reads (set states n (Open x (length (nth_list reads n)))) (path ++ n ∷ []) order in
    let Q : ℕ → Type 0 = λ x. Contains (nth_list reads x) n in
    subst P (sym long) (moves.opened reads states path order n s lt new (λ k e. let there : k ≡ length path - 1 = omega arith in subst Q (sym (ap (λ (j : ℕ). get_or path j 0) there ∙ ends)) reading))

pub returns-clause-search : goal.returns-clause-search
returns-clause-search c =
    let i : IsLast c.args.self.now.states.items c.args.self.now.path.items c.args.last = last_is _ _ _ _ (vec_len c.args.self.now.path) c.args.last c.requires.search (omega arith) c.requires.last in
    let here : visit_state c.args.self.now.states.items c.args.last ≡ Open c.in-Open.place c.in-Open.left = last_state c.args.self.now.states.items c.args.last _ _ _ i.within c.index.ensures c.in-Open.is in
    let o : IsOnPath (lists_of c.args.reads.now) c.args.self.now.states.items c.args.self.now.path.items c.args.last c.in-Open.place c.in-Open.left = c.requires.search.is_open c.args.last _ _ here in
    let fits = o.fits in
    let k : ℕ = length (nth_list (lists_of c.args.reads.now) c.args.last) - c.in-Open.left in
    let short : k < length (nth_list (lists_of c.args.reads.now) c.args.last) = omega arith in
    let is : c.read_at-read.result ≡ get_or (nth_list (lists_of c.args.reads.now) c.args.last) k 0 = c.read_at-read.ensures in
    let below : get_or (nth_list (lists_of c.args.reads.now) c.args.last) k 0 < vec_len c.args.self.now.states = c.requires.below c.args.last k 0 short in
    let within : c.read_at-read.result < length c.args.self.now.states.items = omega arith in
    let reading : Contains (nth_list (lists_of c.args.reads.now) c.args.last) c.read_at-read.result = read_is (nth_list (lists_of c.args.reads.now) c.args.last) k c.read_at-read.result short is in
    elim c.match-index-2.branch [
      | in-New+in_ok-open-in-New w ↦
          let e = w.in_ok-open-in-New.ensures in
          let new : visit_state c.args.self.now.states.items c.read_at-read.result ≡ New = state_is c.args.self.now.states.items c.read_at-read.result _ within c.index-2.ensures ∙ w.in-New.is in
          let states : c.match-index-2.self.states.items ≡ set c.args.self.now.states.items c.read_at-read.result (Open (vec_len c.args.self.now.path) (length (nth_list (lists_of c.args.reads.now) c.read_at-read.result))) = ap (λ (s : Search). s.states.items) w.self-is ∙ e.states in
          let path : c.match-index-2.self.path.items ≡ c.args.self.now.path.items ++ c.read_at-read.result ∷ [] = ap (λ (s : Search). s.path.items) w.self-is ∙ e.path in
          let order : c.match-index-2.self.order.items ≡ c.args.self.now.order.items = ap (λ (s : Search). s.order.items) w.self-is ∙ ap (λ (v : Vec ℕ Global). v.items) e.order in
          carried _ c.match-index-2.self _ _ _ states path order
          (opened_at _ _ _ _ c.args.last c.read_at-read.result (vec_len c.args.self.now.path) (omega arith) c.requires.search within new i.stands reading)
      | in-Done w ↦
          let states : c.match-index-2.self.states.items ≡ set c.args.self.now.states.items c.args.last (Open c.in-Open.place (c.in-Open.left - 1)) = ap (λ (s : Search). s.states.items) w.self-is in
          let path : c.match-index-2.self.path.items ≡ c.args.self.now.path.items = ap (λ (s : Search). s.path.items) w.self-is in
          let order : c.match-index-2.self.order.items ≡ c.args.self.now.order.items = ap (λ (s : Search). s.order.items) w.self-is in
          let done : visit_state c.args.self.now.states.items c.read_at-read.result ≡ Done = state_is c.args.self.now.states.items c.read_at-read.result _ within c.index-2.ensures ∙ w.in-Done.is in
          let more : c.in-Open.left ≡ suc (c.in-Open.left - 1) = omega arith in
          let read : visit_state c.args.self.now.states.items (get_or (nth_list (lists_of c.args.reads.now) c.args.last) (length (nth_list (lists_of c.args.reads.now) c.args.last) - suc (c.in-Open.left - 1)) 0) ≡ Done =
          ap (λ (m : ℕ). visit_state c.args.self.now.states.items (get_or (nth_list (lists_of c.args.reads.now) c.args.last) (length (nth_list (lists_of c.args.reads.now) c.args.last) - m) 0)) (sym more) ∙ ap (visit_state c.args.self.now.states.items) (sym is) ∙ done in
          carried _ c.match-index-2.self _ _ _ states path order
          (moves.passed _ _ _ _ c.args.last c.in-Open.place (c.in-Open.left - 1) c.requires.search i.within (one_less c.args.self.now.states.items c.args.last _ _ here c.if-left-eq0.false) read)
    ]

pub returns-clause-stay : goal.returns-clause-stay
returns-clause-stay c =
    let i : IsLast c.args.self.now.states.items c.args.self.now.path.items c.args.last = last_is _ _ _ _ (vec_len c.args.self.now.path) c.args.last c.requires.search (omega arith) c.requires.last in
    let here : visit_state c.args.self.now.states.items c.args.last ≡ Open c.in-Open.place c.in-Open.left = last_state c.args.self.now.states.items c.args.last _ _ _ i.within c.index.ensures c.in-Open.is in
    let o : IsOnPath (lists_of c.args.reads.now) c.args.self.now.states.items c.args.self.now.path.items c.args.last c.in-Open.place c.in-Open.left = c.requires.search.is_open c.args.last _ _ here in
    let fits = o.fits in
    let k : ℕ = length (nth_list (lists_of c.args.reads.now) c.args.last) - c.in-Open.left in
    let short : k < length (nth_list (lists_of c.args.reads.now) c.args.last) = omega arith in
    let is : c.read_at-read.result ≡ get_or (nth_list (lists_of c.args.reads.now) c.args.last) k 0 = c.read_at-read.ensures in
    let below : get_or (nth_list (lists_of c.args.reads.now) c.args.last) k 0 < vec_len c.args.self.now.states = c.requires.below c.args.last k 0 short in
    let within : c.read_at-read.result < length c.args.self.now.states.items = omega arith in
    elim c.match-index-2.branch [
      | in-New+in_ok-open-in-New w ↦ λ n e.
          let states : c.match-index-2.self.states.items ≡ set c.args.self.now.states.items c.read_at-read.result (Open (vec_len c.args.self.now.path) (length (nth_list (lists_of c.args.reads.now) c.read_at-read.result))) = ap (λ (s : Search). s.states.items) w.self-is ∙ w.in_ok-open-in-New.ensures.states in
          stays_new c.args.self.now.states.items c.read_at-read.result n _ within (open_is_not_new _ _) (ap (λ (x : List State). visit_state x n) (sym states) ∙ e)
      | in-Done w ↦ λ n e.
          let states : c.match-index-2.self.states.items ≡ set c.args.self.now.states.items c.args.last (Open c.in-Open.place (c.in-Open.left - 1)) = ap (λ (s : Search). s.states.items) w.self-is in
          stays_new c.args.self.now.states.items c.args.last n _ i.within (open_is_not_new _ _) (ap (λ (x : List State). visit_state x n) (sym states) ∙ e)
    ]

pub returns-clause-less : goal.returns-clause-less
returns-clause-less c =
    let i : IsLast c.args.self.now.states.items c.args.self.now.path.items c.args.last = last_is _ _ _ _ (vec_len c.args.self.now.path) c.args.last c.requires.search (omega arith) c.requires.last in
    let here : visit_state c.args.self.now.states.items c.args.last ≡ Open c.in-Open.place c.in-Open.left = last_state c.args.self.now.states.items c.args.last _ _ _ i.within c.index.ensures c.in-Open.is in
    let o : IsOnPath (lists_of c.args.reads.now) c.args.self.now.states.items c.args.self.now.path.items c.args.last c.in-Open.place c.in-Open.left = c.requires.search.is_open c.args.last _ _ here in
    let fits = o.fits in
    let k : ℕ = length (nth_list (lists_of c.args.reads.now) c.args.last) - c.in-Open.left in
    let short : k < length (nth_list (lists_of c.args.reads.now) c.args.last) = omega arith in
    let is : c.read_at-read.result ≡ get_or (nth_list (lists_of c.args.reads.now) c.args.last) k 0 = c.read_at-read.ensures in
    let below : get_or (nth_list (lists_of c.args.reads.now) c.args.last) k 0 < vec_len c.args.self.now.states = c.requires.below c.args.last k 0 short in
    let within : c.read_at-read.result < length c.args.self.now.states.items = omega arith in
    let P : List State → Type 0 = λ x. sum_by work_of x < sum_by work_of c.args.self.now.states.items in
    elim c.match-index-2.branch [
      | in-New+in_ok-open-in-New w ↦
          let states : c.match-index-2.self.states.items ≡ set c.args.self.now.states.items c.read_at-read.result (Open (vec_len c.args.self.now.path) (length (nth_list (lists_of c.args.reads.now) c.read_at-read.result))) = ap (λ (s : Search). s.states.items) w.self-is ∙ w.in_ok-open-in-New.ensures.states in
          let new : visit_state c.args.self.now.states.items c.read_at-read.result ≡ New = state_is c.args.self.now.states.items c.read_at-read.result _ within c.index-2.ensures ∙ w.in-New.is in
          let small = w.in_ok-open-in-New.ensures.small in
          subst P (sym states) (less c.args.self.now.states.items c.read_at-read.result New (Open (vec_len c.args.self.now.path) (length (nth_list (lists_of c.args.reads.now) c.read_at-read.result))) within new (omega arith))
      | in-Done w ↦
          let states : c.match-index-2.self.states.items ≡ set c.args.self.now.states.items c.args.last (Open c.in-Open.place (c.in-Open.left - 1)) = ap (λ (s : Search). s.states.items) w.self-is in
          subst P (sym states) (less c.args.self.now.states.items c.args.last (Open c.in-Open.place c.in-Open.left) (Open c.in-Open.place (c.in-Open.left - 1)) i.within here (omega arith))
    ]
