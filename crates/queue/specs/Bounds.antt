-- Neither queue holds a place from its size on.
use Rattle.std.specs.Prelude.{Some, None, ◌==◌, nat_lt}
use Rattle.std.proofs.Common.{⊎_elim, arith}
use Rattle.std.proofs.lemmas.List.{get_or_past}
use Rattle.std.proofs.lemmas.Bool.{cases_Bool, and_parts, ltb-true, eqb-true, cond-false}
use Rattle.queue.specs.declared.strip.Keys.{Keys}
use Rattle.queue.specs.declared.tree.Tree.{Tree}
use Rattle.queue.specs.Queues.{Bounded}
use Rattle.queue.specs.Arrays.{strip_model}
use Rattle.queue.specs.Trees.{node, spot_of, key_of, holds, tree_model}

pub strip_bounded : (s : Keys) → Bounded (strip_model s)
strip_bounded s p past = get_or_past s.at p None (omega (arith, s.full))

pub tree_bounded : (t : Tree) → Bounded (tree_model t)
tree_bounded t p past =
    ⊎_elim
    (λ h.
    let parts = and_parts (nat_lt (spot_of t p) t.len) (node t (spot_of t p) == p) h in
    let at = eqb-true (node t (spot_of t p)) p parts.1 in
    let low = t.within (spot_of t p) (ltb-true (spot_of t p) t.len parts.0) in
    absurd (omega arith))
    (λ h. cond-false (holds t p) (Some (key_of t p)) None h)
    (cases_Bool (holds t p))
