use Rattle.std.proofs.Common.{◌≡◌, ℕ, ◌<◌, ◌++◌, ◌∷◌, [], List, length, set, sym, ◌∙◌, ap, subst, arith, Vec, vec_len, length-set}
use Rattle.std.specs.declared.alloc.Global.{Global}
use Rattle.depend_graph.specs.declared.search.Search.{Search}
use Rattle.depend_graph.specs.declared.state.State.{State}
use Rattle.depend_graph.specs.declared.state.State.TheVariants.{New, Open}
use Rattle.depend_graph.specs.Lists.{nth_list, lists_of}
use Rattle.depend_graph.specs.Search.{visit_state, IsSearchState}
use Rattle.depend_graph.proofs.Moves.{opened}
use Rattle.depend_graph.proofs.Lasts.{state_is, stays_new, seen, carried, open_is_not_new}
use Rattle.depend_graph.proofs.search.Search.visit.Goals as goal
use Rattle.depend_graph.proofs.search.Search.visit.Goals.{in-New+in_ok-open, in_default}

-- the first number of a path
opened_first : (reads : List (List ℕ)) (states : List State) (path order : List ℕ) (n m : ℕ) → m ≡ length path → path ≡ [] → IsSearchState reads states path order → n < length states → visit_state states n ≡ New → IsSearchState reads (set states n (Open m (length (nth_list reads n)))) (path ++ n ∷ []) order
opened_first reads states path order n m long none s lt new =
    let P : ℕ → Type 0 = λ x. IsSearchState reads (set states n (Open x (length (nth_list reads n)))) (path ++ n ∷ []) order in
    let empty : length path ≡ 0 = ap length none in
    subst P (sym long) (opened reads states path order n s lt new (λ k e. absurd (omega arith)))

pub loop-last-init : goal.loop-last-init
loop-last-init c =
    let within : c.args.number < length c.args.self.now.states.items = omega (arith, c.requires.number) in
    elim c.match-index.branch [
      | in-New+in_ok-open w ↦
          let e = w.in_ok-open.ensures in
          let new : visit_state c.args.self.now.states.items c.args.number ≡ New = state_is c.args.self.now.states.items c.args.number _ within c.index.ensures ∙ w.in-New.is in
          let now : State = Open (vec_len c.args.self.now.path) (length (nth_list (lists_of c.args.reads.now) c.args.number)) in
          let states : c.match-index.self.states.items ≡ set c.args.self.now.states.items c.args.number now = ap (λ (s : Search). s.states.items) w.self-is ∙ e.states in
          let path : c.match-index.self.path.items ≡ c.args.self.now.path.items ++ c.args.number ∷ [] = ap (λ (s : Search). s.path.items) w.self-is ∙ e.path in
          let order : c.match-index.self.order.items ≡ c.args.self.now.order.items = ap (λ (s : Search). s.order.items) w.self-is ∙ ap (λ (v : Vec ℕ Global). v.items) e.order in
          let lens : length c.match-index.self.states.items ≡ length c.args.self.now.states.items = ap length states ∙ length-set c.args.self.now.states.items c.args.number now in
          record {
            len = omega arith;
            search = carried _ c.match-index.self _ _ _ states path order (opened_first _ _ _ _ c.args.number (vec_len c.args.self.now.path) (omega arith) c.requires.path c.requires.search within new);
            seen = λ is. seen c.args.self.now.states.items c.args.number now within (open_is_not_new _ _) (ap (λ (x : List State). visit_state x c.args.number) (sym states) ∙ is);
            stay = λ n is. stays_new c.args.self.now.states.items c.args.number n now within (open_is_not_new _ _) (ap (λ (x : List State). visit_state x n) (sym states) ∙ is);
          }
      | in_default w ↦
          let same : c.match-index.self ≡ c.args.self.now = w.self-is in
          record {
            len = ap (λ (s : Search). vec_len s.states) same;
            search = let P : Search → Type 0 = λ s. IsSearchState (lists_of c.args.reads.now) s.states.items s.path.items s.order.items in subst P (sym same) c.requires.search;
            seen = λ is. w.in_default.not-New (sym (state_is c.args.self.now.states.items c.args.number _ within c.index.ensures) ∙ ap (λ (s : Search). visit_state s.states.items c.args.number) (sym same) ∙ is);
            stay = λ n is. ap (λ (s : Search). visit_state s.states.items n) (sym same) ∙ is;
          }
    ]
