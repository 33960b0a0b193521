use Rattle.std.proofs.Common.{◌≡◌, drop}
use Rattle.codetable.specs.Tables.{words}
use Rattle.search.specs.Graphs.{nth as edge_nth}
use Rattle.distance.specs.Tails.{pairs}
use Rattle.distance.proofs.tails.Tails.pair.Given as goal

-- the pair is the one at what is left of the index, among those of the words that are left
abbrev pub invariant-loop-number : goal.invariant-loop-number
invariant-loop-number l = edge_nth (pairs 0 (words l.self.table)) l.index ≡ edge_nth (pairs l.number (drop l.number l.words)) l.left
