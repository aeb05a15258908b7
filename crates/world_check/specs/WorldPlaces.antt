-- All places of a world, in the order in which the check goes through them.
use Rattle.std.specs.Prelude.{ℕ, ◌+◌, List, [], ◌∷◌, ◌++◌, map}
use Rattle.world.specs.declared.body.Body.{Body}
use Rattle.world.specs.declared.database.BodyRow.{BodyRow}
use Rattle.world.specs.declared.database.HirDatabase.{HirDatabase}
use Rattle.check_ids.specs.Parts.{parts_of}
use Rattle.check_ids.specs.declared.part.BodyPart.{BodyPart}
use Rattle.check_ids.specs.declared.part.BodyPart.TheVariants as part
use Rattle.check_trees.specs.First.{numbered}
use Rattle.check_trees.specs.declared.node.BodyNode.{BodyNode}
use Rattle.check_trees.specs.declared.node.BodyNode.TheVariants as node
use Rattle.world_check.specs.declared.place.NamedFunction.TheVariants as function
use Rattle.world_check.specs.declared.place.NodeKind.TheVariants.{Exprs, Pats, Bindings, Labels}
use Rattle.world_check.specs.declared.place.Place.{Place}
use Rattle.world_check.specs.declared.place.Place.TheVariants.{Table, Row, Nodes, Node, Function}
use Rattle.world_check.specs.declared.place.TableName.{TableName}
use Rattle.world_check.specs.declared.place.TableName.TheVariants.{Crates, Functions, Consts, Statics, Structs, Unions, Enums, Variants, Traits, Aliases, TypeParams, ConstParams, Closures, Bodies, Layouts, Normals, Impls, ConstImpls}

-- the place of a table, then those of its rows
abbrev pub of_table : {X : Type 0} → TableName → List X → List Place
of_table table rows = Table table ∷ numbered (Row table) 0 rows

-- the place of a part of body `b`
abbrev pub part_place : ℕ → BodyPart → Place
part_place b part.Exprs = Nodes b Exprs
part_place b (part.Expr i) = Node b Exprs i
part_place b part.Pats = Nodes b Pats
part_place b (part.Pat i) = Node b Pats i
part_place b part.Bindings = Nodes b Bindings
part_place b (part.Binding i) = Node b Bindings i
part_place b part.Labels = Nodes b Labels
part_place b part.Rest = Row Bodies b

-- the places of a body's parts: the lists, each with its nodes, then the body's row, which stands for all else in it; labels have no places of their own
abbrev pub of_body : ℕ → Body → List Place
of_body b body = map (part_place b) (parts_of body)

-- the places of several bodies, of which the first is body `b`
abbrev pub of_bodies : ℕ → List BodyRow → List Place
of_bodies b [] = []
of_bodies b (row ∷ rows) = of_body b row.body ++ of_bodies (b + 1) rows

abbrev pub of_items : HirDatabase → List Place
of_items world =
    of_table Crates world.crates
    ++ (of_table Functions world.functions
    ++ (of_table Consts world.consts
    ++ of_table Statics world.statics))

abbrev pub of_adts : HirDatabase → List Place
of_adts world =
    of_table Structs world.structs
    ++ (of_table Unions world.unions
    ++ (of_table Enums world.enums
    ++ of_table Variants world.variants))

abbrev pub of_names : HirDatabase → List Place
of_names world =
    of_table Traits world.traits
    ++ (of_table Aliases world.aliases
    ++ (of_table TypeParams world.type_params
    ++ of_table ConstParams world.const_params))

abbrev pub of_code : HirDatabase → List Place
of_code world = of_table Closures world.closures ++ (Table Bodies ∷ of_bodies 0 world.bodies)

abbrev pub of_keyed_rows : HirDatabase → List Place
of_keyed_rows world =
    of_table Layouts world.layouts
    ++ (of_table Normals world.normals
    ++ (of_table Impls world.impls
    ++ of_table ConstImpls world.const_impls))

-- the lang functions, from `drop_fn` to `call_once_fn`
abbrev pub named_functions : List Place
named_functions =
    Function function.Drop
    ∷ Function function.Deref
    ∷ Function function.DerefMut
    ∷ Function function.Call
    ∷ Function function.CallMut
    ∷ Function function.CallOnce
    ∷ []

-- all places, in the order of the world's fields; those of a body's nodes come before the body's row
abbrev pub places : HirDatabase → List Place
places world =
    of_items world
    ++ (of_adts world
    ++ (of_names world
    ++ (of_code world
    ++ (of_keyed_rows world
    ++ named_functions))))

-- the place of a node of body `b`
abbrev pub node_place : ℕ → BodyNode → Place
node_place b (node.Expr i) = Node b Exprs i
node_place b (node.Pat i) = Node b Pats i
