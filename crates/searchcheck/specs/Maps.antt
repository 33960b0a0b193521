-- The two maps of the worked example.
use Rattle.std.specs.Prelude.{[], ◌∷◌, Some, None, refl}
use Rattle.std.proofs.Common.{lit<}
use Rattle.search.specs.Graphs.{Graph, Lawful}
use Rattle.searchcheck.specs.Tables.{Table, graph_of, table_lawful}

-- two paths of equal cost, 3, lead to the finish; the finish comes up before the second of them is opened
abbrev pub ties_table : Table
ties_table =
    record {
      size = 6;
      start = 0;
      finish = 1;
      edges = ((2, 1) ∷ (3, 2) ∷ []) ∷ [] ∷ ((1, 2) ∷ (4, 3) ∷ []) ∷ ((1, 1) ∷ (4, 1) ∷ (5, 1) ∷ []) ∷ ((1, 4) ∷ []) ∷ [] ∷ [];
      estimates = Some 3 ∷ Some 0 ∷ Some 2 ∷ Some 1 ∷ Some 4 ∷ None ∷ [];
      most = 0 ∷ 8 ∷ 1 ∷ 2 ∷ 4 ∷ 3 ∷ [];
    }

abbrev pub ties_graph : Graph
ties_graph = graph_of ties_table

pub ties_lawful : Lawful ties_graph
ties_lawful = table_lawful ties_table refl (lit< tt) (lit< tt) refl refl

-- no path leads to the finish
abbrev pub apart_table : Table
apart_table =
    record {
      size = 5;
      start = 0;
      finish = 4;
      edges = ((1, 2) ∷ (2, 5) ∷ []) ∷ ((2, 1) ∷ []) ∷ [] ∷ ((4, 1) ∷ []) ∷ [] ∷ [];
      estimates = Some 1 ∷ Some 1 ∷ Some 0 ∷ Some 1 ∷ Some 0 ∷ [];
      most = 0 ∷ 2 ∷ 5 ∷ 0 ∷ 1 ∷ [];
    }

abbrev pub apart_graph : Graph
apart_graph = graph_of apart_table

pub apart_lawful : Lawful apart_graph
apart_lawful = table_lawful apart_table refl (lit< tt) (lit< tt) refl refl
