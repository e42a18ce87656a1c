use Rattle.std.proofs.Common.{◌≡◌, ◌≤◌, List, sym, subst, Vec, vec_len, ℕ, arith}
use Rattle.std.specs.declared.alloc.Global.{Global}
use Rattle.depend_graph.specs.declared.state.State.{State}
use Rattle.depend_graph.specs.Order.{IsOrder}
use Rattle.depend_graph.specs.Ends.{HasCauseIn}
use Rattle.depend_graph.specs.Lists.{lists_of, HoldBelow, AreTurned}
use Rattle.std.proofs.lemmas.Result.{err_from_is_err_and}
use Rattle.depend_graph.proofs.Acyclic.{acyclic}
use Rattle.depend_graph.proofs.Ordered.{readers_below, are_reads, reads_below, ordered, caused, AreReads, SeenBelow}
use Rattle.depend_graph.proofs.order.Goals as goal

-- the slice of the readers is theirs
turns : (slice readers reads : List (Vec ℕ Global)) → slice ≡ readers → AreTurned (lists_of slice) (lists_of reads) → AreTurned (lists_of readers) (lists_of reads)
turns slice readers reads e h = let P : List (Vec ℕ Global) → Type 0 = λ ls. AreTurned (lists_of ls) (lists_of reads) in subst P e h

all_seen : (i count : ℕ) (states : List State) → count ≤ i → SeenBelow i states → SeenBelow count states
all_seen i count states le seen n lt = seen n (omega arith)

pub transpose-requires-clause-below : goal.transpose-requires-clause-below
transpose-requires-clause-below c =
    let P : List (Vec ℕ Global) → Type 0 = λ ls. HoldBelow c.args.count (lists_of ls) in
    subst P (sym c.as_slice.ensures.value) (readers_below c.args.count c.args.edges.now _ c.requires c.in_ok-readers.ensures.readers)

pub visit-requires-clause-below : goal.visit-requires-clause-below
visit-requires-clause-below c =
    let P : List (Vec ℕ Global) → Type 0 = λ ls. HoldBelow (vec_len c.loop-number.search.states) (lists_of ls) in
    let Q : ℕ → Type 0 = λ m. HoldBelow m (lists_of c.in_ok-reads.reads.items) in
    subst P (sym c.as_slice-in-loop-number.ensures.value) (subst Q (sym c.loop-number.invariant.len)
    (reads_below c.args.count c.args.edges.now _ c.requires (are_reads c.args.edges.now _ _ c.in_ok-readers.ensures.readers (turns _ _ _ c.as_slice.ensures.value c.in_ok-reads.ensures.turned))))

pub returns-in_err-visit-clause-end : goal.returns-in_err-visit-clause-end
returns-in_err-visit-clause-end c =
    let are : AreReads c.args.edges.now (lists_of c.in_ok-reads.reads.items) = are_reads c.args.edges.now _ _ c.in_ok-readers.ensures.readers (turns _ _ _ c.as_slice.ensures.value c.in_ok-reads.ensures.turned) in
    let P : List (Vec ℕ Global) → Type 0 = λ ls. HasCauseIn (lists_of ls) c.in_err-visit.field-0.0 in
    let p = err_from_is_err_and c.from_residual-in_err-visit.result c.from_residual-in_err-visit.ensures.1 in
    rw (p.1, p.2) (caused c.args.edges.now _ c.in_err-visit.field-0.0 are (subst P c.as_slice-in-loop-number.ensures.value c.in_err-visit.ensures.end))

pub returns-clause-order : goal.returns-clause-order
returns-clause-order c =
    let are : AreReads c.args.edges.now (lists_of c.in_ok-reads.reads.items) = are_reads c.args.edges.now _ _ c.in_ok-readers.ensures.readers (turns _ _ _ c.as_slice.ensures.value c.in_ok-reads.ensures.turned) in
    let o : IsOrder c.args.count c.args.edges.now c.loop-number.search.order.items = ordered c.args.count c.args.edges.now _ _ _ _ are c.loop-number.invariant.search c.loop-number.invariant.path (omega (arith, c.loop-number.invariant.len)) (all_seen _ _ _ (omega arith) c.loop-number.invariant.seen) in
    let P : Vec ℕ Global → Type 0 = λ v. IsOrder c.args.count c.args.edges.now v.items in
    subst P (sym c.into_order.ensures) o

pub returns-clause-acyclic : goal.returns-clause-acyclic
returns-clause-acyclic c =
    let are : AreReads c.args.edges.now (lists_of c.in_ok-reads.reads.items) = are_reads c.args.edges.now _ _ c.in_ok-readers.ensures.readers (turns _ _ _ c.as_slice.ensures.value c.in_ok-reads.ensures.turned) in
    let o : IsOrder c.args.count c.args.edges.now c.loop-number.search.order.items = ordered c.args.count c.args.edges.now _ _ _ _ are c.loop-number.invariant.search c.loop-number.invariant.path (omega (arith, c.loop-number.invariant.len)) (all_seen _ _ _ (omega arith) c.loop-number.invariant.seen) in
    acyclic c.args.count c.args.edges.now _ c.requires o
