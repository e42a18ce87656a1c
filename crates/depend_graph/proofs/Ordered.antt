-- What the finished search gives.
use Rattle.std.proofs.Common.{◌≡◌, ◌≢◌, ◌↔◌, ℕ, ◌+◌, ◌<◌, [], List, length, get_or, sym, ◌∙◌, ap, subst, inl, inr, arith}
use Rattle.std.proofs.lemmas.List.{get_or_past, get_or_default}
use Rattle.std.proofs.lemmas.List.Elements.{Contains-get_or}
use Rattle.std.proofs.lemmas.Bool.{cases_lt}
use Rattle.std.specs.List.{Contains}
use Rattle.depend_graph.specs.declared.state.State.{State}
use Rattle.depend_graph.specs.declared.state.State.TheVariants.{New, Open, Done}
use Rattle.depend_graph.specs.declared.end.OrderEnd.{OrderEnd}
use Rattle.depend_graph.specs.declared.end.OrderEnd.TheVariants.{Cycle, Memory}
use Rattle.depend_graph.specs.Order.{AreBelow, IsOrder}
use Rattle.depend_graph.specs.Ends.{HasOrderCause, HasCauseIn}
use Rattle.depend_graph.specs.Lists.{nth_list, AreReaders, AreTurned, HoldBelow}
use Rattle.depend_graph.specs.Search.{visit_state, IsOnPath, IsSearchState}

-- the lists tell what the edges say
abbrev pub AreReads : List (ℕ × ℕ) → List (List ℕ) → Type 0
AreReads edges reads = (a b : ℕ) → Contains (nth_list reads a) b ↔ Contains edges (a, b)

edge_below : (count : ℕ) (edges : List (ℕ × ℕ)) (a b : ℕ) → AreBelow count edges → Contains edges (a, b) → (a < count) × (b < count)
edge_below count edges a b below h =
    let e : get_or edges h.0 (a, b) ≡ (a, b) = h.2 in
    let P : (ℕ × ℕ) → Type 0 = λ x. (x.0 < count) × (x.1 < count) in
    subst P e (below h.0 (a, b) h.1)

pub readers_below : (count : ℕ) (edges : List (ℕ × ℕ)) (readers : List (List ℕ)) → AreBelow count edges → AreReaders edges readers → HoldBelow count readers
readers_below count edges readers below are place k d lt =
    (edge_below count edges _ place below ((are (get_or (nth_list readers place) k d) place).0 (Contains-get_or (nth_list readers place) k d lt))).0

pub are_reads : (edges : List (ℕ × ℕ)) (readers reads : List (List ℕ)) → AreReaders edges readers → AreTurned readers reads → AreReads edges reads
are_reads edges readers reads are turned a b = (λ h. (are a b).0 ((turned a b).0 h), λ h. (turned a b).1 ((are a b).1 h))

pub reads_below : (count : ℕ) (edges : List (ℕ × ℕ)) (reads : List (List ℕ)) → AreBelow count edges → AreReads edges reads → HoldBelow count reads
reads_below count edges reads below are place k d lt =
    (edge_below count edges place _ below ((are place (get_or (nth_list reads place) k d)).0 (Contains-get_or (nth_list reads place) k d lt))).1

-- all numbers below this one have been seen
abbrev pub SeenBelow : ℕ → List State → Type 0
SeenBelow i states = (n : ℕ) → n < i → visit_state states n ≢ New

pub seen_more : (i : ℕ) (old new : List State) → SeenBelow i old → visit_state new i ≢ New → ((n : ℕ) → visit_state new n ≡ New → visit_state old n ≡ New) → SeenBelow (i + 1) new
seen_more i old new seen here stay n lt is = elim (cases_lt n i) [
  | inl before ↦ seen n before (stay n is)
  | inr last ↦ let e : n ≡ i = omega arith in here (ap (visit_state new) (sym e) ∙ is)
]

-- with no path each number that was seen is done
settled : (reads : List (List ℕ)) (states : List State) (path order : List ℕ) (n : ℕ) (s : State) → path ≡ [] → IsSearchState reads states path order → visit_state states n ≡ s → (s ≡ New → ⊥) → visit_state states n ≡ Done
settled reads states path order n New none h e ne = absurd (ne (let r : New ≡ New = cc in r))
settled reads states path order n (Open place left) none h e ne =
    let o : IsOnPath reads states path n place left = h.is_open n place left e in
    let within = o.within in
    let empty : length path ≡ 0 = ap length none in
    absurd (omega arith)
settled reads states path order n Done none h e ne = e

done_within : (states : List State) (n : ℕ) → visit_state states n ≡ Done → n < length states
done_within states n e = elim (cases_lt n (length states)) [
  | inl lt ↦ lt
  | inr past ↦ let new : visit_state states n ≡ New = get_or_past states n New past in cc
]

pub ordered : (count : ℕ) (edges : List (ℕ × ℕ)) (reads : List (List ℕ)) (states : List State) (path order : List ℕ) → AreReads edges reads → IsSearchState reads states path order → path ≡ [] → length states ≡ count → SeenBelow count states → IsOrder count edges order
ordered count edges reads states path order are s none len seen = record {
  all = λ n. (
    λ h.
        let e : get_or order h.0 0 ≡ n = get_or_default order h.0 0 n h.1 ∙ h.2 in
        let small : n < length states = done_within states n (ap (visit_state states) (sym e) ∙ s.ordered h.0 h.1) in
        omega arith,
    λ lt. s.done n (settled reads states path order n (visit_state states n) none s (let r : visit_state states n ≡ visit_state states n = cc in r) (seen n lt)),
  );
  once = s.once;
  behind = λ k b lt h. s.behind k b lt ((are (get_or order k 0) b).1 h);
}

-- a circle of what is read is one of edges
pub caused : (edges : List (ℕ × ℕ)) (reads : List (List ℕ)) (end : OrderEnd) → AreReads edges reads → HasCauseIn reads end → HasOrderCause edges end
caused edges reads (Cycle path) are h = record {
  long = h.long;
  steps = λ k lt. (are (get_or path.items k 0) (get_or path.items (k + 1) 0)).0 (h.steps k lt);
  closed = h.closed;
  least = h.least;
}
caused edges reads Memory are h = tt
