-- What is the first of all places that lacks a property, by what is first in the parts of their list.
use Rattle.std.proofs.Common.{◌≡◌, ℕ, zero, suc, ◌+◌, ◌<◌, Bool, true, Option, Some, None, List, [], ◌∷◌, ◌++◌, map, Decides, IfSome, refl, sym, ◌∙◌, ap, arith, subst}
use Rattle.std.specs.List.{slice_get}
use Rattle.std.specs.Option.{option_or}
use Rattle.world.specs.declared.body.Body.{Body}
use Rattle.world.specs.declared.database.BodyRow.{BodyRow}
use Rattle.world.specs.declared.database.HirDatabase.{HirDatabase}
use Rattle.check_ids.specs.Parts.{if_there, list_parts}
use Rattle.check_ids.specs.declared.part.BodyPart.{BodyPart}
use Rattle.check_ids.specs.declared.part.BodyPart.TheVariants as part
use Rattle.check_trees.specs.First.{FindsFailing, numbered}
use Rattle.check_trees.proofs.First.{four, joined, longer, met_here, nothing, passed}
use Rattle.check_trees.proofs.Numbered.{map_numbered}
use Rattle.world_check.specs.WorldPlaces.{named_functions, of_adts, of_bodies, of_body, of_code, of_items, of_keyed_rows, of_names, of_table, part_place, places}
use Rattle.world_check.specs.declared.place.NodeKind.{NodeKind}
use Rattle.world_check.specs.declared.place.NodeKind.TheVariants.{Exprs, Pats, Bindings, Labels}
use Rattle.world_check.specs.declared.place.Place.{Place}
use Rattle.world_check.specs.declared.place.Place.TheVariants.{Table, Row, Nodes, Node, Function}
use Rattle.world_check.specs.declared.place.NamedFunction.{NamedFunction}
use Rattle.world_check.specs.declared.place.NamedFunction.TheVariants.{Drop, Deref, DerefMut, Call, CallMut, CallOnce}
use Rattle.world_check.specs.declared.place.TableName.{TableName}
use Rattle.world_check.specs.declared.place.TableName.TheVariants.{Crates, Functions, Consts, Statics, Structs, Unions, Enums, Variants, Traits, Aliases, TypeParams, ConstParams, Closures, Bodies, Layouts, Normals, Impls, ConstImpls}
use Rattle.world_check.proofs.Searches.{nodes_met, of_nodes, table_met}

pub or_both : {A : Type 0} (a b c d : Option A) → a ≡ b → c ≡ d → option_or a c ≡ option_or b d
or_both a b c d e f = ap (λ o. option_or o c) e ∙ ap (option_or b) f

pub or_none : {A : Type 0} (a : Option A) → option_or a None ≡ a
or_none None = refl
or_none (Some x) = refl

-- all places
pub all_places : (P : Place → Type 0) (world : HirDatabase) (items adts names code keyed functions : Option Place) → FindsFailing P (of_items world) items → FindsFailing P (of_adts world) adts → FindsFailing P (of_names world) names → FindsFailing P (of_code world) code
    → FindsFailing P (of_keyed_rows world) keyed → FindsFailing P named_functions functions → FindsFailing P (places world) (option_or items (option_or adts (option_or names (option_or code (option_or keyed functions)))))
all_places P world items adts names code keyed functions e f g h i j =
    joined P (of_items world) _ items (option_or adts (option_or names (option_or code (option_or keyed functions)))) e
    (joined P (of_adts world) _ adts (option_or names (option_or code (option_or keyed functions))) f
    (joined P (of_names world) _ names (option_or code (option_or keyed functions)) g
    (joined P (of_code world) _ code (option_or keyed functions) h
    (joined P (of_keyed_rows world) named_functions keyed functions i j))))

-- groups of tables

pub items : (P : Place → Type 0) (world : HirDatabase) (a b c d : Option Place) → FindsFailing P (of_table Crates world.crates) a → FindsFailing P (of_table Functions world.functions) b → FindsFailing P (of_table Consts world.consts) c → FindsFailing P (of_table Statics world.statics) d → FindsFailing P (of_items world) (option_or a (option_or b (option_or c d)))
items P world a b c d e f g h = four P (of_table Crates world.crates) (of_table Functions world.functions) (of_table Consts world.consts) (of_table Statics world.statics) a b c d e f g h

pub adts : (P : Place → Type 0) (world : HirDatabase) (a b c d : Option Place) → FindsFailing P (of_table Structs world.structs) a → FindsFailing P (of_table Unions world.unions) b → FindsFailing P (of_table Enums world.enums) c → FindsFailing P (of_table Variants world.variants) d → FindsFailing P (of_adts world) (option_or a (option_or b (option_or c d)))
adts P world a b c d e f g h = four P (of_table Structs world.structs) (of_table Unions world.unions) (of_table Enums world.enums) (of_table Variants world.variants) a b c d e f g h

pub names : (P : Place → Type 0) (world : HirDatabase) (a b c d : Option Place) → FindsFailing P (of_table Traits world.traits) a → FindsFailing P (of_table Aliases world.aliases) b → FindsFailing P (of_table TypeParams world.type_params) c → FindsFailing P (of_table ConstParams world.const_params) d → FindsFailing P (of_names world) (option_or a (option_or b (option_or c d)))
names P world a b c d e f g h = four P (of_table Traits world.traits) (of_table Aliases world.aliases) (of_table TypeParams world.type_params) (of_table ConstParams world.const_params) a b c d e f g h

pub keyed : (P : Place → Type 0) (world : HirDatabase) (a b c d : Option Place) → FindsFailing P (of_table Layouts world.layouts) a → FindsFailing P (of_table Normals world.normals) b → FindsFailing P (of_table Impls world.impls) c → FindsFailing P (of_table ConstImpls world.const_impls) d → FindsFailing P (of_keyed_rows world) (option_or a (option_or b (option_or c d)))
keyed P world a b c d e f g h = four P (of_table Layouts world.layouts) (of_table Normals world.normals) (of_table Impls world.impls) (of_table ConstImpls world.const_impls) a b c d e f g h

pub code : (P : Place → Type 0) (world : HirDatabase) (a b : Option Place) → FindsFailing P (of_table Closures world.closures) a → FindsFailing P (Table Bodies ∷ of_bodies 0 world.bodies) b → FindsFailing P (of_code world) (option_or a b)
code P world a b e f = joined P (of_table Closures world.closures) (Table Bodies ∷ of_bodies 0 world.bodies) a b e f

-- groups of tables whose places all have the property

pub items_met : (P : Place → Type 0) (world : HirDatabase) → ((table : TableName) → P (Table table)) → ((i : ℕ) → P (Row Crates i)) → ((i : ℕ) → P (Row Functions i)) → ((i : ℕ) → P (Row Consts i)) → ((i : ℕ) → P (Row Statics i)) → FindsFailing P (of_items world) None
items_met P world table a b c d =
    items P world None None None None
    (table_met P Crates world.crates (table Crates) a)
    (table_met P Functions world.functions (table Functions) b)
    (table_met P Consts world.consts (table Consts) c)
    (table_met P Statics world.statics (table Statics) d)

pub adts_met : (P : Place → Type 0) (world : HirDatabase) → ((table : TableName) → P (Table table)) → ((i : ℕ) → P (Row Structs i)) → ((i : ℕ) → P (Row Unions i)) → ((i : ℕ) → P (Row Enums i)) → ((i : ℕ) → P (Row Variants i)) → FindsFailing P (of_adts world) None
adts_met P world table a b c d =
    adts P world None None None None
    (table_met P Structs world.structs (table Structs) a)
    (table_met P Unions world.unions (table Unions) b)
    (table_met P Enums world.enums (table Enums) c)
    (table_met P Variants world.variants (table Variants) d)

pub names_met : (P : Place → Type 0) (world : HirDatabase) → ((table : TableName) → P (Table table)) → ((i : ℕ) → P (Row Traits i)) → ((i : ℕ) → P (Row Aliases i)) → ((i : ℕ) → P (Row TypeParams i)) → ((i : ℕ) → P (Row ConstParams i)) → FindsFailing P (of_names world) None
names_met P world table a b c d =
    names P world None None None None
    (table_met P Traits world.traits (table Traits) a)
    (table_met P Aliases world.aliases (table Aliases) b)
    (table_met P TypeParams world.type_params (table TypeParams) c)
    (table_met P ConstParams world.const_params (table ConstParams) d)

pub keyed_met : (P : Place → Type 0) (world : HirDatabase) → ((table : TableName) → P (Table table)) → ((i : ℕ) → P (Row Layouts i)) → ((i : ℕ) → P (Row Normals i)) → ((i : ℕ) → P (Row Impls i)) → ((i : ℕ) → P (Row ConstImpls i)) → FindsFailing P (of_keyed_rows world) None
keyed_met P world table a b c d =
    keyed P world None None None None
    (table_met P Layouts world.layouts (table Layouts) a)
    (table_met P Normals world.normals (table Normals) b)
    (table_met P Impls world.impls (table Impls) c)
    (table_met P ConstImpls world.const_impls (table ConstImpls) d)

-- two places that both have the property
pub two_met : (P : Place → Type 0) (x y : Place) → P x → P y → FindsFailing P (x ∷ y ∷ []) None
two_met P x y e f = met_here P x (y ∷ []) None e (met_here P y [] None f (nothing P))

-- the functions that the world names
pub functions_met : (P : Place → Type 0) → ((name : NamedFunction) → P (Function name)) → FindsFailing P named_functions None
functions_met P met =
    met_here P (Function Drop) (Function Deref ∷ Function DerefMut ∷ Function Call ∷ Function CallMut ∷ Function CallOnce ∷ []) None (met Drop)
    (met_here P (Function Deref) (Function DerefMut ∷ Function Call ∷ Function CallMut ∷ Function CallOnce ∷ []) None (met Deref)
    (met_here P (Function DerefMut) (Function Call ∷ Function CallMut ∷ Function CallOnce ∷ []) None (met DerefMut)
    (met_here P (Function Call) (Function CallMut ∷ Function CallOnce ∷ []) None (met Call)
    (two_met P (Function CallMut) (Function CallOnce) (met CallMut) (met CallOnce)))))

map_joined : {X Y : Type 0} (f : X → Y) (xs ys : List X) → map f (xs ++ ys) ≡ map f xs ++ map f ys
map_joined f [] ys = refl
map_joined f (x ∷ xs) ys = ap (λ zs. f x ∷ zs) (map_joined f xs ys)

-- the parts of a list, as places
listed : {X : Type 0} (b : ℕ) (whole : BodyPart) (at : ℕ → BodyPart) (nodes : List X) (tail : List BodyPart) → map (part_place b) (list_parts whole at nodes ++ tail) ≡ (part_place b whole ∷ numbered (λ i. part_place b (at i)) 0 nodes) ++ map (part_place b) tail
listed b whole at nodes tail =
    map_joined (part_place b) (list_parts whole at nodes) tail
    ∙ ap (λ xs. (part_place b whole ∷ xs) ++ map (part_place b) tail) (map_numbered (part_place b) at 0 nodes)

-- the places of a body, list by list
pub of_body_is : (b : ℕ) (body : Body) → of_body b body ≡ of_nodes b Exprs body.exprs ++ (of_nodes b Pats body.pats ++ (of_nodes b Bindings body.bindings ++ (Nodes b Labels ∷ Row Bodies b ∷ [])))
of_body_is b body =
    listed b part.Exprs part.Expr body.exprs (list_parts part.Pats part.Pat body.pats ++ (list_parts part.Bindings part.Binding body.bindings ++ (part.Labels ∷ part.Rest ∷ [])))
    ∙ ap (λ xs. of_nodes b Exprs body.exprs ++ xs)
    (listed b part.Pats part.Pat body.pats (list_parts part.Bindings part.Binding body.bindings ++ (part.Labels ∷ part.Rest ∷ []))
    ∙ ap (λ xs. of_nodes b Pats body.pats ++ xs) (listed b part.Bindings part.Binding body.bindings (part.Labels ∷ part.Rest ∷ [])))

-- one body
pub one_body : (P : Place → Type 0) (b : ℕ) (body : Body) (exprs pats bindings rest : Option Place) → FindsFailing P (of_nodes b Exprs body.exprs) exprs → FindsFailing P (of_nodes b Pats body.pats) pats → FindsFailing P (of_nodes b Bindings body.bindings) bindings → FindsFailing P (Nodes b Labels ∷ Row Bodies b ∷ []) rest
    → FindsFailing P (of_body b body) (option_or exprs (option_or pats (option_or bindings rest)))
one_body P b body exprs pats bindings rest e f g h =
    subst (λ xs. FindsFailing P xs (option_or exprs (option_or pats (option_or bindings rest)))) (sym (of_body_is b body))
    (four P (of_nodes b Exprs body.exprs) (of_nodes b Pats body.pats) (of_nodes b Bindings body.bindings) (Nodes b Labels ∷ Row Bodies b ∷ []) exprs pats bindings rest e f g h)

-- the first of the expressions of a body is the first of the body
pub first_expr : (P : Place → Type 0) (b : ℕ) (body : Body) (place : Place) → FindsFailing P (of_nodes b Exprs body.exprs) (Some place) → FindsFailing P (of_body b body) (Some place)
first_expr P b body place found =
    subst (λ xs. FindsFailing P xs (Some place)) (sym (of_body_is b body))
    (longer P (of_nodes b Exprs body.exprs) (of_nodes b Pats body.pats ++ (of_nodes b Bindings body.bindings ++ (Nodes b Labels ∷ Row Bodies b ∷ []))) place found)

-- all bodies, with numbers from `b` on: none has such a place
pub bodies_none : (P : Place → Type 0) (b : ℕ) (rows : List BodyRow) → ((k : ℕ) (row : BodyRow) → slice_get rows k ≡ Some row → FindsFailing P (of_body (b + k) row.body) None) → FindsFailing P (of_bodies b rows) None
bodies_none P b [] none = nothing P
bodies_none P b (row ∷ rows) none =
    joined P (of_body b row.body) (of_bodies (b + 1) rows) None None here (bodies_none P (b + 1) rows later)
  where
    here : FindsFailing P (of_body b row.body) None
    here =
        let start : b + zero ≡ b = omega arith in
        subst (λ j. FindsFailing P (of_body j row.body) None) start (none zero row refl)

    later : (k : ℕ) (next : BodyRow) → slice_get rows k ≡ Some next → FindsFailing P (of_body (b + 1 + k) next.body) None
    later k next there =
        let step : b + suc k ≡ b + 1 + k = omega arith in
        subst (λ j. FindsFailing P (of_body j next.body) None) step (none (suc k) next there)

-- each place of all bodies has the property
pub bodies_met : (P : Place → Type 0) (rows : List BodyRow) → ((b : ℕ) (kind : NodeKind) → P (Nodes b kind)) → ((b : ℕ) (kind : NodeKind) (i : ℕ) → P (Node b kind i)) → ((b : ℕ) → P (Row Bodies b)) → FindsFailing P (of_bodies 0 rows) None
bodies_met P rows list node rest = bodies_none P 0 rows (λ k row there. each (0 + k) row.body)
  where
    each : (b : ℕ) (body : Body) → FindsFailing P (of_body b body) None
    each b body =
        one_body P b body None None None None
        (nodes_met P b Exprs body.exprs (list b Exprs) (node b Exprs))
        (nodes_met P b Pats body.pats (list b Pats) (node b Pats))
        (nodes_met P b Bindings body.bindings (list b Bindings) (node b Bindings))
        (two_met P (Nodes b Labels) (Row Bodies b) (list b Labels) (rest b))

-- or one has, and no body before it
pub bodies_some : (P : Place → Type 0) (b i : ℕ) (rows : List BodyRow) (row : BodyRow) (place : Place) → slice_get rows i ≡ Some row → ((k : ℕ) (other : BodyRow) → k < i → slice_get rows k ≡ Some other → FindsFailing P (of_body (b + k) other.body) None) → FindsFailing P (of_body (b + i) row.body) (Some place) → FindsFailing P (of_bodies b rows) (Some place)
bodies_some P b i [] row place at none found = cc
bodies_some P b zero (first ∷ rows) row place at none found =
    let same : row ≡ first = cc in
    let start : b + zero ≡ b = omega arith in
    let here : FindsFailing P (of_body b row.body) (Some place) = subst (λ j. FindsFailing P (of_body j row.body) (Some place)) start found in
    longer P (of_body b first.body) (of_bodies (b + 1) rows) place (subst (λ (r : BodyRow). FindsFailing P (of_body b r.body) (Some place)) same here)
bodies_some P b (suc i) (first ∷ rows) row place at none found =
    passed P (of_body b first.body) (of_bodies (b + 1) rows) (Some place) here (bodies_some P (b + 1) i rows row place at later (subst (λ j. FindsFailing P (of_body j row.body) (Some place)) step found))
  where
    step : b + suc i ≡ b + 1 + i
    step = omega arith

    here : FindsFailing P (of_body b first.body) None
    here =
        let start : b + zero ≡ b = omega arith in
        subst (λ j. FindsFailing P (of_body j first.body) None) start (none zero first (omega arith) refl)

    later : (k : ℕ) (other : BodyRow) → k < i → slice_get rows k ≡ Some other → FindsFailing P (of_body (b + 1 + k) other.body) None
    later k other h there =
        let next : b + suc k ≡ b + 1 + k = omega arith in
        subst (λ j. FindsFailing P (of_body j other.body) None) next (none (suc k) other (omega arith) there)

-- What the tests of single rows and nodes decide.

-- an optional element passes a test where the one that is there does
pub asked : {X : Type 0} (test : X → Bool) (found : Option X) (x : X) → found ≡ Some x → Decides (test x) (if_there test found ≡ true)
asked test found x there = ((λ e. ap (if_there test) there ∙ e), (λ e. sym (ap (if_there test) there) ∙ e))

-- a fact of the element that is there is that of an optional one
pub to_there : {X : Type 0} (fact : X → Type 0) (found : Option X) (x : X) → found ≡ Some x → fact x → IfSome found fact
to_there fact found x there has = subst (λ o. IfSome o fact) (sym there) has
