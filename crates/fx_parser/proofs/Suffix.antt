-- What is left behind a tree stands at the end of the tokens.
use Rattle.std.proofs.Common.{◌≡◌, ℕ, List, [], ◌∷◌, ◌++◌, refl, ap, sym, ◌∙◌}
use Rattle.fx_core.specs.Tree.{Tree, NamedTree}
use Rattle.fx_grammar.specs.declared.item.Item.{Item}
use Rattle.fx_grammar.specs.declared.line.Separator.{Separator}
use Rattle.fx_grammar.specs.declared.line.Line.{Line}
use Rattle.fx_grammar.specs.Grammar.{Parses, plain, ended, one, many, first, next, no_alias, aliased, no_sign, signed, base, raised, no_percent, percent, no_dot, dotted, leaf, a_global, a_call, brackets, a_record, a_list, a_weave, Parts, alone, further, Args, no_args, some_args, Field, field, SomeFields, one_field, further_field, Fields, no_fields, some_fields, Strands, no_strands, piece, island}
use Rattle.std.proofs.Common.{append_assoc}

pub record Suffix (ts rest : List Item) : Type 0 where
  pub front : List Item
  pub joined : ts ≡ front ++ rest

same : (ts : List Item) → Suffix ts ts
same ts = record { front = []; joined = refl }

after : {x : Item} {us rest : List Item} → Suffix us rest → Suffix (x ∷ us) rest
after {x} h = record { front = x ∷ h.front; joined = ap (λ ys. x ∷ ys) h.joined }

then : {ts us rest : List Item} → Suffix ts us → Suffix us rest → Suffix ts rest
then {ts} {us} {rest} h g = record { front = h.front ++ g.front; joined = h.joined ∙ ap (λ ys. h.front ++ ys) g.joined ∙ sym (append_assoc h.front g.front rest) }

past : {ts : List Item} {x : Item} {us : List Item} → Suffix ts (x ∷ us) → Suffix ts us
past {ts} {x} {us} h = then h (after (same us))

mutual
  pub suffix : {l : Line} {d : ℕ} {ts : List Item} {t : Tree} {rest : List Item} → Parses l d ts t rest → Suffix ts rest
  suffix (plain d ts t rest p) = suffix p
  suffix (ended d ts t x rest p e) = past (suffix p)
  suffix (one j d ts t rest p) = suffix p
  suffix (many j d ts p q ps rest h) = suffix_parts h
  suffix (first l d ts t rest p) = suffix p
  suffix (next l d e ts t x us o u rest p f q) = then (past (suffix p)) (suffix q)
  suffix (no_alias d ts t rest p) = suffix p
  suffix (aliased d ts t x y cs rest p e f) = past (past (suffix p))
  suffix (no_sign d ts t rest p) = suffix p
  suffix (signed d x h us t rest e p) = after (suffix p)
  suffix (base d ts t rest p) = suffix p
  suffix (raised d e ts t x us u rest p f q) = then (past (suffix p)) (suffix q)
  suffix (no_percent d ts t rest p) = suffix p
  suffix (percent d ts t x rest p e) = past (suffix p)
  suffix (no_dot d ts t rest p) = suffix p
  suffix (dotted d ts t x y cs rest p e f) = past (past (suffix p))
  suffix (leaf x h rest e) = after (same rest)
  suffix (a_global x y z cs rest e f g) = after (after (after (same rest)))
  suffix (a_call d x y h us ps z rest e f k g) = after (after (past (suffix_args k)))
  suffix (brackets d x us t y rest e p f) = after (past (suffix p))
  suffix (a_record d x us fs y rest e k f) = after (past (suffix_fields k))
  suffix (a_list d x us ps y rest e k f) = after (past (suffix_args k))
  suffix (a_weave d x us ps y rest e k f) = after (past (suffix_strands k))

  suffix_parts : {s : Separator} {d : ℕ} {ts : List Item} {ps : List Tree} {rest : List Item} → Parts s d ts ps rest → Suffix ts rest
  suffix_parts (alone s d ts t rest p) = suffix p
  suffix_parts (further s d e ts ps x us t rest h f p) = then (past (suffix_parts h)) (suffix p)

  suffix_args : {d : ℕ} {ts : List Item} {ps : List Tree} {rest : List Item} → Args d ts ps rest → Suffix ts rest
  suffix_args (no_args ts) = same ts
  suffix_args (some_args d ts ps rest h) = suffix_parts h

  suffix_field : {d : ℕ} {ts : List Item} {f : NamedTree} {rest : List Item} → Field d ts f rest → Suffix ts rest
  suffix_field (field d x y cs us t rest e f p) = after (after (suffix p))

  suffix_some : {d : ℕ} {ts : List Item} {fs : List NamedTree} {rest : List Item} → SomeFields d ts fs rest → Suffix ts rest
  suffix_some (one_field d ts f rest p) = suffix_field p
  suffix_some (further_field d e ts fs x us f rest h g p) = then (past (suffix_some h)) (suffix_field p)

  suffix_fields : {d : ℕ} {ts : List Item} {fs : List NamedTree} {rest : List Item} → Fields d ts fs rest → Suffix ts rest
  suffix_fields (no_fields ts) = same ts
  suffix_fields (some_fields d ts fs rest h) = suffix_some h

  suffix_strands : {d : ℕ} {ts : List Item} {ps : List Tree} {rest : List Item} → Strands d ts ps rest → Suffix ts rest
  suffix_strands (no_strands ts) = same ts
  suffix_strands (piece d ts ps x cs rest h e) = past (suffix_strands h)
  suffix_strands (island d e ts ps x us t y rest h f p g) = then (past (suffix_strands h)) (past (suffix p))
