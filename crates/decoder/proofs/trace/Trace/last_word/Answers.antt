use Rattle.std.proofs.Common.{ℕ, List, length, get_or, MatchOption, Option, sym, subst, rules, tests}
use Rattle.std.proofs.lemmas.Iterator.{IsFirst-from_position, YieldsList-from_slice}
use Rattle.codetable.specs.declared.word.Codeword.{Codeword}
use Rattle.decoder.specs.Receptions.{code, observed}
use Rattle.decoder.specs.Traces.{EndsAt, NoneLast, LowestLast}
use Rattle.decoder.proofs.Lowest.{NotLast, none_found, lowest_found}
use Rattle.decoder.proofs.trace.Trace.last_word.Goals as goal

pub returns-in_err-k : goal.returns-in_err-k
returns-in_err-k c =
    let m = c.args.self.now in
    let ws = code m.reception in
    let vs = observed m.reception in
    let costs = m.costs.now in
    let i = c.args.stage in
    let j = c.args.bits in
    let first = IsFirst-from_position _ _ c.position.result (EndsAt vs costs i j) (NotLast vs costs i j) c.position.ensures.ran (YieldsList-from_slice ws cc) (λ x q k. search (rules, tests)) (λ x q k. search (rules, tests)) in
    record {
      lowest = subst (λ (o : Option (ℕ × Codeword)). MatchOption o (NoneLast ws vs costs i j (length ws)) (LowestLast ws vs costs i j)) (sym c.from_residual.ensures) (none_found vs costs i j ws c.position.result (c.in_err-k.was) first);
    }

pub returns : goal.returns
returns c =
    let m = c.args.self.now in
    let ws = code m.reception in
    let vs = observed m.reception in
    let costs = m.costs.now in
    let i = c.args.stage in
    let j = c.args.bits in
    let first = IsFirst-from_position _ _ c.position.result (EndsAt vs costs i j) (NotLast vs costs i j) c.position.ensures.ran (YieldsList-from_slice ws cc) (λ x q k. search (rules, tests)) (λ x q k. search (rules, tests)) in
    let found = lowest_found vs costs i j ws c.position.result c.in_ok-k.k (record { len = 0; value = 0; weight = 0 }) (c.in_ok-k.was) first in
    record { lowest = subst (λ (l : List Codeword). LowestLast ws vs costs i j (c.in_ok-k.k, get_or l c.in_ok-k.k (record { len = 0; value = 0; weight = 0 }))) (sym c.as_slice-words.ensures.words) found }
