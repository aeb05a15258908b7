-- Where no place of the list fails a row of the check, every place meets it: one that the world doesn't have is asked nothing.
use Rattle.std.proofs.Common.{◌≡◌, ℕ, zero, suc, ◌+◌, Bool, true, false, Option, Some, None, List, [], ◌∷◌, ◌++◌, IfSome, refl, sym, ◌∙◌, ap, arith, subst}
use Rattle.std.specs.List.{slice_get}
use Rattle.std.specs.Option.{is_some}
use Rattle.world.specs.declared.body.Body.{Body}
use Rattle.world.specs.declared.database.BodyRow.{BodyRow}
use Rattle.world.specs.declared.database.HirDatabase.{HirDatabase}
use Rattle.check_trees.specs.Ellipsis.{is_ellipsis_inside}
use Rattle.check_trees.specs.Jumps.{IsJumpInside}
use Rattle.check_trees.specs.Tree.{IsExprInOrder, IsPatInOrder}
use Rattle.world_check.specs.Meets.{Meets}
use Rattle.check_ids.specs.Parts.{if_there}
use Rattle.check_trees.specs.First.{FindsFailing, numbered}
use Rattle.world_check.specs.WorldPlaces.{named_functions, of_adts, of_bodies, of_body, of_code, of_items, of_keyed_rows, of_names, of_table, places}
use Rattle.world_check.proofs.Searches.{of_nodes}
use Rattle.world_check.specs.declared.fault.CheckRow.{CheckRow}
use Rattle.world_check.specs.declared.fault.CheckRow.TheVariants.{C1, C2, C3, C4, C5, C6, C7}
use Rattle.world_check.specs.declared.place.NamedFunction.{NamedFunction}
use Rattle.world_check.specs.declared.place.NamedFunction.TheVariants.{Drop, Deref, DerefMut, Call, CallMut, CallOnce}
use Rattle.world_check.specs.declared.place.NodeKind.{NodeKind}
use Rattle.world_check.specs.declared.place.NodeKind.TheVariants.{Exprs, Pats, Bindings, Labels}
use Rattle.world_check.specs.declared.place.Place.{Place}
use Rattle.world_check.specs.declared.place.Place.TheVariants.{Table, Row, Nodes, Node, Function}
use Rattle.world_check.specs.declared.place.TableName.{TableName}
use Rattle.world_check.specs.declared.place.TableName.TheVariants.{Crates, Functions, Consts, Statics, Structs, Unions, Enums, Variants, Traits, Aliases, TypeParams, ConstParams, Closures, Bodies, Layouts, Normals, Impls, ConstImpls}
use Rattle.check_trees.proofs.First.{apart, head}
use Rattle.check_trees.proofs.Numbered.{entry}
use Rattle.world_check.proofs.Segments.{of_body_is}

-- Parts of a list in which nothing fails.

-- nothing fails in any part of the list of all places
record IsNowhere (P : Place → Type 0) (world : HirDatabase) : Type 0 where
  crates : FindsFailing P (of_table Crates world.crates) None
  functions : FindsFailing P (of_table Functions world.functions) None
  consts : FindsFailing P (of_table Consts world.consts) None
  statics : FindsFailing P (of_table Statics world.statics) None
  structs : FindsFailing P (of_table Structs world.structs) None
  unions : FindsFailing P (of_table Unions world.unions) None
  enums : FindsFailing P (of_table Enums world.enums) None
  variants : FindsFailing P (of_table Variants world.variants) None
  traits : FindsFailing P (of_table Traits world.traits) None
  aliases : FindsFailing P (of_table Aliases world.aliases) None
  type_params : FindsFailing P (of_table TypeParams world.type_params) None
  const_params : FindsFailing P (of_table ConstParams world.const_params) None
  closures : FindsFailing P (of_table Closures world.closures) None
  layouts : FindsFailing P (of_table Layouts world.layouts) None
  normals : FindsFailing P (of_table Normals world.normals) None
  impls : FindsFailing P (of_table Impls world.impls) None
  const_impls : FindsFailing P (of_table ConstImpls world.const_impls) None
  bodies : FindsFailing P (Table Bodies ∷ of_bodies 0 world.bodies) None
  named : FindsFailing P named_functions None

nowhere : (P : Place → Type 0) (world : HirDatabase) → FindsFailing P (places world) None → IsNowhere P world
nowhere P world all =
    let a = apart P (of_items world) (of_adts world ++ (of_names world ++ (of_code world ++ (of_keyed_rows world ++ named_functions)))) all in
    let b = apart P (of_adts world) (of_names world ++ (of_code world ++ (of_keyed_rows world ++ named_functions))) a.1 in
    let c = apart P (of_names world) (of_code world ++ (of_keyed_rows world ++ named_functions)) b.1 in
    let d = apart P (of_code world) (of_keyed_rows world ++ named_functions) c.1 in
    let f = apart P (of_keyed_rows world) named_functions d.1 in
    let code = apart P (of_table Closures world.closures) (Table Bodies ∷ of_bodies 0 world.bodies) d.0 in
    let i1 = apart P (of_table Crates world.crates) ((of_table Functions world.functions) ++ ((of_table Consts world.consts) ++ (of_table Statics world.statics))) a.0 in
    let i2 = apart P (of_table Functions world.functions) ((of_table Consts world.consts) ++ (of_table Statics world.statics)) i1.1 in
    let i3 = apart P (of_table Consts world.consts) (of_table Statics world.statics) i2.1 in
    let s1 = apart P (of_table Structs world.structs) ((of_table Unions world.unions) ++ ((of_table Enums world.enums) ++ (of_table Variants world.variants))) b.0 in
    let s2 = apart P (of_table Unions world.unions) ((of_table Enums world.enums) ++ (of_table Variants world.variants)) s1.1 in
    let s3 = apart P (of_table Enums world.enums) (of_table Variants world.variants) s2.1 in
    let n1 = apart P (of_table Traits world.traits) ((of_table Aliases world.aliases) ++ ((of_table TypeParams world.type_params) ++ (of_table ConstParams world.const_params))) c.0 in
    let n2 = apart P (of_table Aliases world.aliases) ((of_table TypeParams world.type_params) ++ (of_table ConstParams world.const_params)) n1.1 in
    let n3 = apart P (of_table TypeParams world.type_params) (of_table ConstParams world.const_params) n2.1 in
    let k1 = apart P (of_table Layouts world.layouts) ((of_table Normals world.normals) ++ ((of_table Impls world.impls) ++ (of_table ConstImpls world.const_impls))) f.0 in
    let k2 = apart P (of_table Normals world.normals) ((of_table Impls world.impls) ++ (of_table ConstImpls world.const_impls)) k1.1 in
    let k3 = apart P (of_table Impls world.impls) (of_table ConstImpls world.const_impls) k2.1 in
    record {
      crates = i1.0;
      functions = i2.0;
      consts = i3.0;
      statics = i3.1;
      structs = s1.0;
      unions = s2.0;
      enums = s3.0;
      variants = s3.1;
      traits = n1.0;
      aliases = n2.0;
      type_params = n3.0;
      const_params = n3.1;
      closures = code.0;
      layouts = k1.0;
      normals = k2.0;
      impls = k3.0;
      const_impls = k3.1;
      bodies = code.1;
      named = f.1;
    }

-- Places that the world doesn't have.

abbrev has_row : HirDatabase → TableName → ℕ → Bool
has_row world Crates i = is_some (slice_get world.crates i)
has_row world Functions i = is_some (slice_get world.functions i)
has_row world Consts i = is_some (slice_get world.consts i)
has_row world Statics i = is_some (slice_get world.statics i)
has_row world Structs i = is_some (slice_get world.structs i)
has_row world Unions i = is_some (slice_get world.unions i)
has_row world Enums i = is_some (slice_get world.enums i)
has_row world Variants i = is_some (slice_get world.variants i)
has_row world Traits i = is_some (slice_get world.traits i)
has_row world Aliases i = is_some (slice_get world.aliases i)
has_row world TypeParams i = is_some (slice_get world.type_params i)
has_row world ConstParams i = is_some (slice_get world.const_params i)
has_row world Closures i = is_some (slice_get world.closures i)
has_row world Bodies i = is_some (slice_get world.bodies i)
has_row world Layouts i = is_some (slice_get world.layouts i)
has_row world Normals i = is_some (slice_get world.normals i)
has_row world Impls i = is_some (slice_get world.impls i)
has_row world ConstImpls i = is_some (slice_get world.const_impls i)

-- a test of an element that isn't there passes
absent : {X : Type 0} (test : X → Bool) (found : Option X) → is_some found ≡ false → if_there test found ≡ true
absent test None e = refl
absent test (Some x) e = cc

-- a fact of an element that isn't there holds
absent_fact : {X : Type 0} (fact : X → Type 0) (found : Option X) → is_some found ≡ false → IfSome found fact
absent_fact fact None e = tt
absent_fact fact (Some x) e = cc

absent_row : (row : CheckRow) (world : HirDatabase) (table : TableName) (i : ℕ) → has_row world table i ≡ false → Meets row world (Row table i)
absent_row C1 world Functions i e = absent _ _ e
absent_row C1 world Consts i e = absent _ _ e
absent_row C1 world Statics i e = absent _ _ e
absent_row C1 world Structs i e = absent _ _ e
absent_row C1 world Unions i e = absent _ _ e
absent_row C1 world Enums i e = absent _ _ e
absent_row C1 world Variants i e = absent _ _ e
absent_row C1 world ConstParams i e = absent _ _ e
absent_row C1 world Closures i e = absent _ _ e
absent_row C1 world Bodies i e = absent _ _ e
absent_row C1 world Layouts i e = absent _ _ e
absent_row C1 world Normals i e = absent _ _ e
absent_row C1 world Impls i e = absent _ _ e
absent_row C1 world ConstImpls i e = absent _ _ e
absent_row C1 world _ i e = refl
absent_row C2 world table i e = tt
absent_row C3 world table i e = tt
absent_row C4 world Normals i e = absent _ _ e
absent_row C4 world Impls i e = absent _ _ e
absent_row C4 world ConstImpls i e = absent _ _ e
absent_row C4 world _ i e = refl
absent_row C5 world Layouts i e = absent_fact _ _ e
absent_row C5 world _ i e = tt
absent_row C6 world Layouts i e = absent_fact _ _ e
absent_row C6 world _ i e = tt
absent_row C7 world Functions i e = absent _ _ e
absent_row C7 world Variants i e = absent_fact _ _ e
absent_row C7 world Closures i e = absent _ _ e
absent_row C7 world _ i e = tt

absent_list : (row : CheckRow) (world : HirDatabase) (b : ℕ) (kind : NodeKind) → has_row world Bodies b ≡ false → Meets row world (Nodes b kind)
absent_list C1 world b Exprs e = absent _ _ e
absent_list C1 world b Pats e = absent _ _ e
absent_list C1 world b Bindings e = absent _ _ e
absent_list C1 world b Labels e = absent _ _ e
absent_list C2 world b kind e = tt
absent_list C3 world b kind e = tt
absent_list C4 world b kind e = refl
absent_list C5 world b kind e = tt
absent_list C6 world b kind e = tt
absent_list C7 world b kind e = tt

-- the body isn't there
absent_in : (row : CheckRow) (world : HirDatabase) (b : ℕ) (kind : NodeKind) (i : ℕ) → has_row world Bodies b ≡ false → Meets row world (Node b kind i)
absent_in C1 world b Exprs i e = absent _ _ e
absent_in C1 world b Pats i e = absent _ _ e
absent_in C1 world b Bindings i e = absent _ _ e
absent_in C1 world b Labels i e = refl
absent_in C2 world b Exprs i e = absent_fact _ _ e
absent_in C2 world b Pats i e = absent_fact _ _ e
absent_in C2 world b _ i e = tt
absent_in C3 world b Exprs i e = absent_fact _ _ e
absent_in C3 world b _ i e = tt
absent_in C4 world b kind i e = refl
absent_in C5 world b kind i e = tt
absent_in C6 world b kind i e = tt
absent_in C7 world b Pats i e = absent_fact _ _ e
absent_in C7 world b _ i e = tt

abbrev has_node : Body → NodeKind → ℕ → Bool
has_node body Exprs i = is_some (slice_get body.exprs i)
has_node body Pats i = is_some (slice_get body.pats i)
has_node body Bindings i = is_some (slice_get body.bindings i)
has_node body Labels i = false

absent_inside : {X : Type 0} (fact : Body → X → Type 0) (nodes : Body → Option X) (found : Option BodyRow) (row : BodyRow) → found ≡ Some row → is_some (nodes row.body) ≡ false → IfSome found (λ (r : BodyRow). IfSome (nodes r.body) (fact r.body))
absent_inside fact nodes found row there e = subst (λ (o : Option BodyRow). IfSome o (λ (r : BodyRow). IfSome (nodes r.body) (fact r.body))) (sym there) (absent_fact (fact row.body) (nodes row.body) e)

-- the body is there, and the node isn't
absent_node : (row : CheckRow) (world : HirDatabase) (b : ℕ) (kind : NodeKind) (i : ℕ) (found : BodyRow) → slice_get world.bodies b ≡ Some found → has_node found.body kind i ≡ false → Meets row world (Node b kind i)
absent_node C1 world b Exprs i found there e = ap (if_there _) there ∙ absent _ _ e
absent_node C1 world b Pats i found there e = ap (if_there _) there ∙ absent _ _ e
absent_node C1 world b Bindings i found there e = ap (if_there _) there ∙ absent _ _ e
absent_node C1 world b Labels i found there e = refl
absent_node C2 world b Exprs i found there e = absent_inside (λ body. IsExprInOrder body i) (λ body. slice_get body.exprs i) (slice_get world.bodies b) found there e
absent_node C2 world b Pats i found there e = absent_inside (λ body. IsPatInOrder body i) (λ body. slice_get body.pats i) (slice_get world.bodies b) found there e
absent_node C2 world b _ i found there e = tt
absent_node C3 world b Exprs i found there e = absent_inside (λ body. IsJumpInside body i) (λ body. slice_get body.exprs i) (slice_get world.bodies b) found there e
absent_node C3 world b _ i found there e = tt
absent_node C4 world b kind i found there e = refl
absent_node C5 world b kind i found there e = tt
absent_node C6 world b kind i found there e = tt
absent_node C7 world b Pats i found there e = absent_inside (λ body pattern. is_ellipsis_inside pattern ≡ true) (λ body. slice_get body.pats i) (slice_get world.bodies b) found there e
absent_node C7 world b _ i found there e = tt

-- Each place.

table_met : (P : Place → Type 0) (world : HirDatabase) → IsNowhere P world → (table : TableName) → P (Table table)
table_met P world clear Crates = (head P (Table Crates) (numbered (Row Crates) 0 world.crates) clear.crates).0
table_met P world clear Functions = (head P (Table Functions) (numbered (Row Functions) 0 world.functions) clear.functions).0
table_met P world clear Consts = (head P (Table Consts) (numbered (Row Consts) 0 world.consts) clear.consts).0
table_met P world clear Statics = (head P (Table Statics) (numbered (Row Statics) 0 world.statics) clear.statics).0
table_met P world clear Structs = (head P (Table Structs) (numbered (Row Structs) 0 world.structs) clear.structs).0
table_met P world clear Unions = (head P (Table Unions) (numbered (Row Unions) 0 world.unions) clear.unions).0
table_met P world clear Enums = (head P (Table Enums) (numbered (Row Enums) 0 world.enums) clear.enums).0
table_met P world clear Variants = (head P (Table Variants) (numbered (Row Variants) 0 world.variants) clear.variants).0
table_met P world clear Traits = (head P (Table Traits) (numbered (Row Traits) 0 world.traits) clear.traits).0
table_met P world clear Aliases = (head P (Table Aliases) (numbered (Row Aliases) 0 world.aliases) clear.aliases).0
table_met P world clear TypeParams = (head P (Table TypeParams) (numbered (Row TypeParams) 0 world.type_params) clear.type_params).0
table_met P world clear ConstParams = (head P (Table ConstParams) (numbered (Row ConstParams) 0 world.const_params) clear.const_params).0
table_met P world clear Closures = (head P (Table Closures) (numbered (Row Closures) 0 world.closures) clear.closures).0
table_met P world clear Layouts = (head P (Table Layouts) (numbered (Row Layouts) 0 world.layouts) clear.layouts).0
table_met P world clear Normals = (head P (Table Normals) (numbered (Row Normals) 0 world.normals) clear.normals).0
table_met P world clear Impls = (head P (Table Impls) (numbered (Row Impls) 0 world.impls) clear.impls).0
table_met P world clear ConstImpls = (head P (Table ConstImpls) (numbered (Row ConstImpls) 0 world.const_impls) clear.const_impls).0
table_met P world clear Bodies = (head P (Table Bodies) (of_bodies 0 world.bodies) clear.bodies).0

body_from : (P : Place → Type 0) (b k : ℕ) (rows : List BodyRow) (row : BodyRow) → FindsFailing P (of_bodies b rows) None → slice_get rows k ≡ Some row → FindsFailing P (of_body (b + k) row.body) None
body_from P b k [] row clear there = cc
body_from P b zero (next ∷ rows) row clear there =
    let start : b ≡ b + zero = omega arith in
    let here : next ≡ row = cc in
    let found = (apart P (of_body b next.body) (of_bodies (b + 1) rows) clear).0 in
    subst (λ j. FindsFailing P (of_body j row.body) None) start (subst (λ (r : BodyRow). FindsFailing P (of_body b r.body) None) here found)
body_from P b (suc k) (next ∷ rows) row clear there =
    let step : b + 1 + k ≡ b + suc k = omega arith in
    subst (λ j. FindsFailing P (of_body j row.body) None) step (body_from P (b + 1) k rows row (apart P (of_body b next.body) (of_bodies (b + 1) rows) clear).1 there)

record IsNowhereIn (P : Place → Type 0) (b : ℕ) (body : Body) : Type 0 where
  exprs : FindsFailing P (of_nodes b Exprs body.exprs) None
  pats : FindsFailing P (of_nodes b Pats body.pats) None
  bindings : FindsFailing P (of_nodes b Bindings body.bindings) None
  rest : FindsFailing P (Nodes b Labels ∷ Row Bodies b ∷ []) None

in_body : (P : Place → Type 0) (world : HirDatabase) → IsNowhere P world → (b : ℕ) (row : BodyRow) → slice_get world.bodies b ≡ Some row → IsNowhereIn P b row.body
in_body P world clear b row there =
    let start : 0 + b ≡ b = omega arith in
    let whole = subst (λ j. FindsFailing P (of_body j row.body) None) start (body_from P 0 b world.bodies row (head P (Table Bodies) (of_bodies 0 world.bodies) clear.bodies).1 there) in
    let listed = subst (λ xs. FindsFailing P xs None) (of_body_is b row.body) whole in
    let e = apart P (of_nodes b Exprs row.body.exprs) (of_nodes b Pats row.body.pats ++ (of_nodes b Bindings row.body.bindings ++ (Nodes b Labels ∷ Row Bodies b ∷ []))) listed in
    let f = apart P (of_nodes b Pats row.body.pats) (of_nodes b Bindings row.body.bindings ++ (Nodes b Labels ∷ Row Bodies b ∷ [])) e.1 in
    let g = apart P (of_nodes b Bindings row.body.bindings) (Nodes b Labels ∷ Row Bodies b ∷ []) f.1 in
    record { exprs = e.0; pats = f.0; bindings = g.0; rest = g.1 }

-- a fact of the row of a body, or of where there is none
by_body : {A : Type 0} (world : HirDatabase) (b : ℕ) → (has_row world Bodies b ≡ false → A) → ((row : BodyRow) → slice_get world.bodies b ≡ Some row → A) → A
by_body {A} world b none some = by (slice_get world.bodies b) refl
  where
    by : (found : Option BodyRow) → slice_get world.bodies b ≡ found → A
    by None there = none (ap is_some there)
    by (Some row) there = some row there

body_row_met : (row : CheckRow) (world : HirDatabase) → IsNowhere (Meets row world) world → (b : ℕ) → Meets row world (Row Bodies b)
body_row_met row world clear b =
    by_body world b (absent_row row world Bodies b)
    (λ found there. (head (Meets row world) (Row Bodies b) [] (head (Meets row world) (Nodes b Labels) (Row Bodies b ∷ []) (in_body (Meets row world) world clear b found there).rest).1).0)

list_in : (P : Place → Type 0) (b : ℕ) (kind : NodeKind) (body : Body) → IsNowhereIn P b body → P (Nodes b kind)
list_in P b Exprs body clear = (head P (Nodes b Exprs) (numbered (Node b Exprs) 0 body.exprs) clear.exprs).0
list_in P b Pats body clear = (head P (Nodes b Pats) (numbered (Node b Pats) 0 body.pats) clear.pats).0
list_in P b Bindings body clear = (head P (Nodes b Bindings) (numbered (Node b Bindings) 0 body.bindings) clear.bindings).0
list_in P b Labels body clear = (head P (Nodes b Labels) (Row Bodies b ∷ []) clear.rest).0

list_met : (row : CheckRow) (world : HirDatabase) → IsNowhere (Meets row world) world → (b : ℕ) (kind : NodeKind) → Meets row world (Nodes b kind)
list_met row world clear b kind =
    by_body world b (absent_list row world b kind) (λ found there. list_in (Meets row world) b kind found.body (in_body (Meets row world) world clear b found there))

node_in : (P : Place → Type 0) (b : ℕ) (kind : NodeKind) (i : ℕ) (body : Body) → IsNowhereIn P b body → (has_node body kind i ≡ false → P (Node b kind i)) → P (Node b kind i)
node_in P b Exprs i body clear none = entry P (Node b Exprs) i body.exprs (head P (Nodes b Exprs) (numbered (Node b Exprs) 0 body.exprs) clear.exprs).1 (λ e. none (ap is_some e))
node_in P b Pats i body clear none = entry P (Node b Pats) i body.pats (head P (Nodes b Pats) (numbered (Node b Pats) 0 body.pats) clear.pats).1 (λ e. none (ap is_some e))
node_in P b Bindings i body clear none = entry P (Node b Bindings) i body.bindings (head P (Nodes b Bindings) (numbered (Node b Bindings) 0 body.bindings) clear.bindings).1 (λ e. none (ap is_some e))
node_in P b Labels i body clear none = none refl

node_met : (row : CheckRow) (world : HirDatabase) → IsNowhere (Meets row world) world → (b : ℕ) (kind : NodeKind) (i : ℕ) → Meets row world (Node b kind i)
node_met row world clear b kind i =
    by_body world b (absent_in row world b kind i)
    (λ found there. node_in (Meets row world) b kind i found.body (in_body (Meets row world) world clear b found there) (absent_node row world b kind i found there))

function_met : (P : Place → Type 0) → FindsFailing P named_functions None → (name : NamedFunction) → P (Function name)
function_met P e name =
    let a = head P (Function Drop) (Function Deref ∷ Function DerefMut ∷ Function Call ∷ Function CallMut ∷ Function CallOnce ∷ []) e in
    let b = head P (Function Deref) (Function DerefMut ∷ Function Call ∷ Function CallMut ∷ Function CallOnce ∷ []) a.1 in
    let c = head P (Function DerefMut) (Function Call ∷ Function CallMut ∷ Function CallOnce ∷ []) b.1 in
    let d = head P (Function Call) (Function CallMut ∷ Function CallOnce ∷ []) c.1 in
    let f = head P (Function CallMut) (Function CallOnce ∷ []) d.1 in
    by name a.0 b.0 c.0 d.0 f.0 (head P (Function CallOnce) [] f.1).0
  where
    by : (name : NamedFunction) → P (Function Drop) → P (Function Deref) → P (Function DerefMut) → P (Function Call) → P (Function CallMut) → P (Function CallOnce) → P (Function name)
    by Drop a b c d e f = a
    by Deref a b c d e f = b
    by DerefMut a b c d e f = c
    by Call a b c d e f = d
    by CallMut a b c d e f = e
    by CallOnce a b c d e f = f

row_met : (row : CheckRow) (world : HirDatabase) → IsNowhere (Meets row world) world → (table : TableName) (i : ℕ) → Meets row world (Row table i)
row_met row world clear Crates i = entry (Meets row world) (Row Crates) i world.crates (head (Meets row world) (Table Crates) (numbered (Row Crates) 0 world.crates) clear.crates).1 (λ e. absent_row row world Crates i (ap is_some e))
row_met row world clear Functions i = entry (Meets row world) (Row Functions) i world.functions (head (Meets row world) (Table Functions) (numbered (Row Functions) 0 world.functions) clear.functions).1 (λ e. absent_row row world Functions i (ap is_some e))
row_met row world clear Consts i = entry (Meets row world) (Row Consts) i world.consts (head (Meets row world) (Table Consts) (numbered (Row Consts) 0 world.consts) clear.consts).1 (λ e. absent_row row world Consts i (ap is_some e))
row_met row world clear Statics i = entry (Meets row world) (Row Statics) i world.statics (head (Meets row world) (Table Statics) (numbered (Row Statics) 0 world.statics) clear.statics).1 (λ e. absent_row row world Statics i (ap is_some e))
row_met row world clear Structs i = entry (Meets row world) (Row Structs) i world.structs (head (Meets row world) (Table Structs) (numbered (Row Structs) 0 world.structs) clear.structs).1 (λ e. absent_row row world Structs i (ap is_some e))
row_met row world clear Unions i = entry (Meets row world) (Row Unions) i world.unions (head (Meets row world) (Table Unions) (numbered (Row Unions) 0 world.unions) clear.unions).1 (λ e. absent_row row world Unions i (ap is_some e))
row_met row world clear Enums i = entry (Meets row world) (Row Enums) i world.enums (head (Meets row world) (Table Enums) (numbered (Row Enums) 0 world.enums) clear.enums).1 (λ e. absent_row row world Enums i (ap is_some e))
row_met row world clear Variants i = entry (Meets row world) (Row Variants) i world.variants (head (Meets row world) (Table Variants) (numbered (Row Variants) 0 world.variants) clear.variants).1 (λ e. absent_row row world Variants i (ap is_some e))
row_met row world clear Traits i = entry (Meets row world) (Row Traits) i world.traits (head (Meets row world) (Table Traits) (numbered (Row Traits) 0 world.traits) clear.traits).1 (λ e. absent_row row world Traits i (ap is_some e))
row_met row world clear Aliases i = entry (Meets row world) (Row Aliases) i world.aliases (head (Meets row world) (Table Aliases) (numbered (Row Aliases) 0 world.aliases) clear.aliases).1 (λ e. absent_row row world Aliases i (ap is_some e))
row_met row world clear TypeParams i = entry (Meets row world) (Row TypeParams) i world.type_params (head (Meets row world) (Table TypeParams) (numbered (Row TypeParams) 0 world.type_params) clear.type_params).1 (λ e. absent_row row world TypeParams i (ap is_some e))
row_met row world clear ConstParams i = entry (Meets row world) (Row ConstParams) i world.const_params (head (Meets row world) (Table ConstParams) (numbered (Row ConstParams) 0 world.const_params) clear.const_params).1 (λ e. absent_row row world ConstParams i (ap is_some e))
row_met row world clear Closures i = entry (Meets row world) (Row Closures) i world.closures (head (Meets row world) (Table Closures) (numbered (Row Closures) 0 world.closures) clear.closures).1 (λ e. absent_row row world Closures i (ap is_some e))
row_met row world clear Layouts i = entry (Meets row world) (Row Layouts) i world.layouts (head (Meets row world) (Table Layouts) (numbered (Row Layouts) 0 world.layouts) clear.layouts).1 (λ e. absent_row row world Layouts i (ap is_some e))
row_met row world clear Normals i = entry (Meets row world) (Row Normals) i world.normals (head (Meets row world) (Table Normals) (numbered (Row Normals) 0 world.normals) clear.normals).1 (λ e. absent_row row world Normals i (ap is_some e))
row_met row world clear Impls i = entry (Meets row world) (Row Impls) i world.impls (head (Meets row world) (Table Impls) (numbered (Row Impls) 0 world.impls) clear.impls).1 (λ e. absent_row row world Impls i (ap is_some e))
row_met row world clear ConstImpls i = entry (Meets row world) (Row ConstImpls) i world.const_impls (head (Meets row world) (Table ConstImpls) (numbered (Row ConstImpls) 0 world.const_impls) clear.const_impls).1 (λ e. absent_row row world ConstImpls i (ap is_some e))
row_met row world clear Bodies b = body_row_met row world clear b

each : (row : CheckRow) (world : HirDatabase) → IsNowhere (Meets row world) world → (place : Place) → Meets row world place
each row world clear (Table table) = table_met (Meets row world) world clear table
each row world clear (Row table i) = row_met row world clear table i
each row world clear (Nodes b kind) = list_met row world clear b kind
each row world clear (Node b kind i) = node_met row world clear b kind i
each row world clear (Function name) = function_met (Meets row world) clear.named name

-- where no place of the world fails a row, every place meets it
pub all_met : (row : CheckRow) (world : HirDatabase) → FindsFailing (Meets row world) (places world) None → (place : Place) → Meets row world place
all_met row world clear place = each row world (nowhere (Meets row world) world clear) place
