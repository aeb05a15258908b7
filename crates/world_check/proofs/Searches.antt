-- What is the first of the places of a table, or of a body's list, that lacks a property.
use Rattle.std.proofs.Common.{◌≡◌, ℕ, ◌<◌, Bool, cond, not, Option, Some, None, List, ◌∷◌, Decides, IfSome, refl}
use Rattle.std.specs.List.{position, slice_get}
use Rattle.std.specs.Option.{option_map}
use Rattle.check_names.specs.Known.{is_nameable}
use Rattle.world.specs.Failing.{first_failing}
use Rattle.check_trees.specs.First.{FindsFailing, FindsFirst, numbered}
use Rattle.check_trees.proofs.First.{headed, met_here}
use Rattle.check_trees.proofs.Numbered.{first_numbered, numbered_at, numbered_found, numbered_met, numbered_wrong, Stands}
use Rattle.world_check.specs.WorldPlaces.{of_table}
use Rattle.world_check.specs.declared.place.NodeKind.{NodeKind}
use Rattle.world_check.specs.declared.place.Place.{Place}
use Rattle.world_check.specs.declared.place.Place.TheVariants.{Table, Row, Nodes, Node}
use Rattle.world_check.specs.declared.place.TableName.{TableName}

-- Tables with their rows.

-- a table and its rows all have the property
pub table_met : {X : Type 0} (P : Place → Type 0) (table : TableName) (rows : List X) → P (Table table) → ((i : ℕ) → P (Row table i)) → FindsFailing P (of_table table rows) None
table_met P table rows whole met = met_here P (Table table) (numbered (Row table) 0 rows) None whole (numbered_met P (Row table) 0 rows met)

-- a table has it; of its rows a test decides, by its index and itself
pub rows_first : {X : Type 0} (P : Place → Type 0) (table : TableName) (test : ℕ → X → Bool) (rows : List X) → P (Table table) → ((i : ℕ) (row : X) → slice_get rows i ≡ Some row → Decides (test i row) (P (Row table i))) → FindsFailing P (of_table table rows) (option_map (Row table) (first_failing test 0 rows))
rows_first P table test rows whole fits = met_here P (Table table) (numbered (Row table) 0 rows) (option_map (Row table) (first_failing test 0 rows)) whole (numbered_at P (Row table) test rows fits)

-- or by itself
pub rows_wrong : {X : Type 0} (P : Place → Type 0) (table : TableName) (test : X → Bool) (rows : List X) → P (Table table) → ((i : ℕ) (row : X) → slice_get rows i ≡ Some row → Decides (test row) (P (Row table i))) → FindsFailing P (of_table table rows) (option_map (Row table) (position (λ row. not (test row)) rows))
rows_wrong P table test rows whole fits = met_here P (Table table) (numbered (Row table) 0 rows) (option_map (Row table) (position (λ row. not (test row)) rows)) whole (numbered_wrong P (Row table) test rows fits)

-- or the first that lacks a property was found elsewhere
pub rows_found : {X : Type 0} (P : Place → Type 0) (table : TableName) (fact : X → ℕ → Type 0) (rows : List X) (found : Option ℕ) → P (Table table)
    → ((k : ℕ) → IfSome (slice_get rows k) (λ row. fact row k) → P (Row table k)) → ((k : ℕ) → P (Row table k) → IfSome (slice_get rows k) (λ row. fact row k))
    → (found ≡ None → (k : ℕ) → IfSome (slice_get rows k) (λ row. fact row k)) → IfSome found (λ k. IfSome (slice_get rows k) (λ row. fact row k) → ⊥) → IfSome found (λ k. (j : ℕ) → j < k → IfSome (slice_get rows j) (λ row. fact row j)) → FindsFailing P (of_table table rows) (option_map (Row table) found)
rows_found {X} P table fact rows found whole from to none wrong first = met_here P (Table table) (numbered (Row table) 0 rows) (option_map (Row table) found) whole (by found none wrong first)
  where
    stands : (k : ℕ) (found : Option X) → slice_get rows k ≡ found → (IfSome found (λ row. fact row k) → ⊥) → Stands rows k
    stands k None there fails = absurd (fails tt)
    stands k (Some x) there fails = record { element = x; there = there }

    by : (found : Option ℕ) → (found ≡ None → (k : ℕ) → IfSome (slice_get rows k) (λ row. fact row k)) → IfSome found (λ k. IfSome (slice_get rows k) (λ row. fact row k) → ⊥) → IfSome found (λ k. (j : ℕ) → j < k → IfSome (slice_get rows j) (λ row. fact row j)) → FindsFailing P (numbered (Row table) 0 rows) (option_map (Row table) found)
    by None none wrong first = numbered_met P (Row table) 0 rows (λ k. from k (none refl k))
    by (Some k) none wrong first =
        first_numbered P (Row table) rows k (stands k (slice_get rows k) refl wrong) (λ has. wrong (to k has)) (λ j here h. from j (first j h))

-- a table whose length is asked, and whose rows all have the property
pub length_asked : {X : Type 0} (P : Place → Type 0) (table : TableName) (entries : ℕ) (rows : List X) → Decides (is_nameable entries) (P (Table table)) → ((i : ℕ) → P (Row table i)) → FindsFailing P (of_table table rows) (cond (is_nameable entries) None (Some (Table table)))
length_asked P table entries rows whole met = headed P (Table table) (numbered (Row table) 0 rows) (is_nameable entries) None whole (numbered_met P (Row table) 0 rows met)

-- a table whose length and whose rows are asked
pub table_asked : {X : Type 0} (P : Place → Type 0) (table : TableName) (entries : ℕ) (test : X → Bool) (rows : List X) → Decides (is_nameable entries) (P (Table table)) → ((i : ℕ) (row : X) → slice_get rows i ≡ Some row → Decides (test row) (P (Row table i))) → FindsFailing P (of_table table rows) (cond (is_nameable entries) (option_map (Row table) (position (λ row. not (test row)) rows)) (Some (Table table)))
table_asked P table entries test rows whole fits =
    headed P (Table table) (numbered (Row table) 0 rows) (is_nameable entries) (option_map (Row table) (position (λ row. not (test row)) rows)) whole (numbered_wrong P (Row table) test rows fits)

-- Lists of a body's nodes.

abbrev pub of_nodes : {X : Type 0} → ℕ → NodeKind → List X → List Place
of_nodes b kind nodes = Nodes b kind ∷ numbered (Node b kind) 0 nodes

-- a list and its nodes all have the property
pub nodes_met : {X : Type 0} (P : Place → Type 0) (b : ℕ) (kind : NodeKind) (nodes : List X) → P (Nodes b kind) → ((i : ℕ) → P (Node b kind i)) → FindsFailing P (of_nodes b kind nodes) None
nodes_met P b kind nodes whole met = met_here P (Nodes b kind) (numbered (Node b kind) 0 nodes) None whole (numbered_met P (Node b kind) 0 nodes met)

-- a list has it, and the first of its nodes that is not as asked was found elsewhere
pub nodes_found : {X : Type 0} (P : Place → Type 0) (b : ℕ) (kind : NodeKind) (Asked : ℕ → X → Type 0) (nodes : List X) (found : Option ℕ) → P (Nodes b kind)
    → ((i : ℕ) (node : X) → slice_get nodes i ≡ Some node → Asked i node → P (Node b kind i)) → ((i : ℕ) (node : X) → slice_get nodes i ≡ Some node → P (Node b kind i) → Asked i node) → FindsFirst Asked nodes found → FindsFailing P (of_nodes b kind nodes) (option_map (Node b kind) found)
nodes_found P b kind Asked nodes found whole from to first = met_here P (Nodes b kind) (numbered (Node b kind) 0 nodes) (option_map (Node b kind) found) whole (numbered_found P (Node b kind) Asked nodes found from to first)
