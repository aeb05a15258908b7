-- The text of a place.
use Rattle.std.specs.Prelude.{ℕ, List, ◌++◌, codes}
use Rattle.std.specs.Fmt.{decimal}
use Rattle.world_check.specs.declared.place.NamedFunction.{NamedFunction}
use Rattle.world_check.specs.declared.place.NamedFunction.TheVariants as function
use Rattle.world_check.specs.declared.place.NodeKind.{NodeKind}
use Rattle.world_check.specs.declared.place.NodeKind.TheVariants.{Exprs, Pats, Bindings, Labels}
use Rattle.world_check.specs.declared.place.Place.{Place}
use Rattle.world_check.specs.declared.place.Place.TheVariants.{Table, Row, Nodes, Node, Function}
use Rattle.world_check.specs.declared.place.TableName.{TableName}
use Rattle.world_check.specs.declared.place.TableName.TheVariants.{Crates, Functions, Consts, Statics, Structs, Unions, Enums, Variants, Traits, Aliases, TypeParams, ConstParams, Closures, Bodies, Layouts, Normals, Impls, ConstImpls}

-- the name of a lang function
abbrev pub function_text : NamedFunction → List ℕ
function_text function.Drop = codes "drop_fn"
function_text function.Deref = codes "deref_fn"
function_text function.DerefMut = codes "deref_mut_fn"
function_text function.Call = codes "call_fn"
function_text function.CallMut = codes "call_mut_fn"
function_text function.CallOnce = codes "call_once_fn"

abbrev pub table_text : TableName → List ℕ
table_text Crates = codes "crates"
table_text Functions = codes "functions"
table_text Consts = codes "consts"
table_text Statics = codes "statics"
table_text Structs = codes "structs"
table_text Unions = codes "unions"
table_text Enums = codes "enums"
table_text Variants = codes "variants"
table_text Traits = codes "traits"
table_text Aliases = codes "aliases"
table_text TypeParams = codes "type_params"
table_text ConstParams = codes "const_params"
table_text Closures = codes "closures"
table_text Bodies = codes "bodies"
table_text Layouts = codes "layouts"
table_text Normals = codes "normals"
table_text Impls = codes "impls"
table_text ConstImpls = codes "const_impls"

abbrev pub kind_text : NodeKind → List ℕ
kind_text Exprs = codes "exprs"
kind_text Pats = codes "pats"
kind_text Bindings = codes "bindings"
kind_text Labels = codes "labels"

-- a place in a list, as `consts[3]`
abbrev pub indexed : List ℕ → ℕ → List ℕ
indexed list i = list ++ codes "[" ++ decimal i ++ codes "]"

-- a list of a body's nodes, as `bodies[0].exprs`
abbrev pub nodes_text : ℕ → NodeKind → List ℕ
nodes_text body kind = indexed (table_text Bodies) body ++ codes "." ++ kind_text kind

abbrev pub place_text : Place → List ℕ
place_text (Table table) = table_text table
place_text (Row table i) = indexed (table_text table) i
place_text (Nodes body kind) = nodes_text body kind
place_text (Node body kind i) = indexed (nodes_text body kind) i
place_text (Function name) = function_text name
