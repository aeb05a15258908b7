-- A world that passes the check is a checked world.
use Rattle.std.proofs.Common.{◌≡◌, ℕ, zero, ◌<◌, Bool, true, Option, Some, None, List, [], length, get_or, sym, ◌∙◌, ap, subst, arith, eqb, ltb, rules}
use Rattle.std.proofs.lemmas.Bool.Decides.{nat_tests}
use Rattle.std.proofs.lemmas.Option.{slice_get-get_or}
use Rattle.std.specs.List.{slice_get, All}
use Rattle.std.specs.Option.{IfSome, option_map_or}
use Rattle.types.specs.declared.scalars.IntTy.{IntTy}
use Rattle.types.specs.declared.scalars.UintTy.{UintTy}
use Rattle.types.specs.declared.ty.Const.TheFolds.{the_lemmas}
use Rattle.types.specs.declared.ty.Ty.{Ty}
use Rattle.types.specs.declared.ty.Ty as type
use Rattle.world.specs.Checked.{IsChecked, IsCheckedBody, IsCheckedConst, IsCheckedLayout, fixed_size, int_bytes, uint_bytes}
use Rattle.world.specs.Nodes.{children_of, inner_exprs_of}
use Rattle.world.specs.declared.body.Body.{Body}
use Rattle.world.specs.declared.database.BodyRow.{BodyRow}
use Rattle.world.specs.declared.database.HirDatabase.{HirDatabase}
use Rattle.world.specs.declared.expr.Expr.{Expr}
use Rattle.world.specs.declared.items.ConstRow.{ConstRow}
use Rattle.world.specs.declared.layout.Layout.{Layout}
use Rattle.world.specs.declared.pat.Pat.{Pat}
use Rattle.check_ids.specs.Inferred.{has_type_each, is_inferred_right}
use Rattle.check_ids.specs.Parts.{are_roots_known, if_there, is_part_right}
use Rattle.check_ids.specs.declared.part.BodyPart.TheVariants as part
use Rattle.check_trees.specs.First.{Has}
use Rattle.check_trees.specs.Tree.{AreBelow, IsExprInOrder, StandsInside}
use Rattle.check_items.specs.Names.{is_body_known, is_const_named}
use Rattle.check_layouts.specs.Sizes.{known_size, layout_above}
use Rattle.check_layouts.specs.Laid.{IsLaidOut}
use Rattle.world_check.specs.Rows.{Holds}
use Rattle.world_check.specs.declared.fault.CheckRow.TheVariants.{C1, C2, C5}
use Rattle.world_check.specs.declared.place.NodeKind.TheVariants.{Exprs}
use Rattle.world_check.specs.declared.place.Place.TheVariants.{Node, Row}
use Rattle.world_check.specs.declared.place.TableName.TheVariants.{Bodies, Consts, Layouts}
use Rattle.world_check.proofs.Laid.{of_there}
use Rattle.world_check.proofs.Passing.{both}

is_below : (c i : ℕ) → ltb c i ≡ true → c < i
is_below c i e = grind (arith, nat_tests)

is_same : (m n : ℕ) → eqb m n ≡ true → m ≡ n
is_same m n e = grind (arith, nat_tests)

-- each id of a list is below a limit, by its index
all_below : (limit : ℕ) (ids : List ℕ) → AreBelow ids limit → All (λ id. id < limit) ids
all_below limit ids below k d h = below (get_or ids k d) (k, slice_get-get_or ids k d h)

body_in_range : (world : HirDatabase) (body : Option ℕ) → is_body_known world body ≡ true → IfSome body (λ place. place < length world.bodies)
body_in_range world None e = tt
body_in_range world (Some place) e = is_below place (length world.bodies) e

checked_const : (world : HirDatabase) (row : ConstRow) → is_const_named world row ≡ true → IsCheckedConst world row
checked_const world row e =
    let last = both _ (is_body_known world row.body) e in
    let second = both _ _ last.0 in
    let first = both (ltb row.krate.0 (length world.crates)) _ second.0 in
    record { krate = is_below row.krate.0 (length world.crates) first.0; body = body_in_range world row.body last.1 }

bool_size : (world : HirDatabase) → known_size world type.Bool ≡ Some 1
bool_size world = search (the_lemmas, rules)

char_size : (world : HirDatabase) → known_size world type.Char ≡ Some 4
char_size world = search (the_lemmas, rules)

int_size : (world : HirDatabase) (int : IntTy) → known_size world (type.Int int) ≡ Some (int_bytes int)
int_size world int = search (the_lemmas, rules)

uint_size : (world : HirDatabase) (uint : UintTy) → known_size world (type.Uint uint) ≡ Some (uint_bytes uint)
uint_size world uint = search (the_lemmas, rules)

sized : (o : Option ℕ) (known size : ℕ) → o ≡ Some known → IfSome o (λ fixed. size ≡ fixed) → size ≡ known
sized o known size same e = of_there (λ fixed. size ≡ fixed) o known same e

-- a layout has the size that is fixed for its type
fixed : (world : HirDatabase) (ty : Ty) (size : ℕ) → IfSome (known_size world ty) (λ known. size ≡ known) → IfSome (fixed_size ty) (λ known. size ≡ known)
fixed world type.Bool size e = sized (known_size world type.Bool) 1 size (bool_size world) e
fixed world type.Char size e = sized (known_size world type.Char) 4 size (char_size world) e
fixed world (type.Int int) size e = sized (known_size world (type.Int int)) (int_bytes int) size (int_size world int) e
fixed world (type.Uint uint) size e = sized (known_size world (type.Uint uint)) (uint_bytes uint) size (uint_size world uint) e
fixed world _ size e = tt

checked_layout : (world : HirDatabase) (look : Ty → Option Layout) (ty : Ty) (layout : Layout) → IsLaidOut world look ty layout → IsCheckedLayout ty layout
checked_layout world look ty layout laid = record { align = laid.align; multiple = laid.multiple; size = fixed world ty layout.size laid.size }

passes_there : {X : Type 0} (test : X → Bool) (found : Option X) (x : X) → found ≡ Some x → if_there test found ≡ true → test x ≡ true
passes_there test found x there e = ap (if_there test) (sym there) ∙ e

-- the expressions that a pattern holds have lower numbers, where those inside it have
held_below : (body : Body) (e p : ℕ) (pat : Pat) → slice_get body.pats p ≡ Some pat → ((inner : ℕ) → StandsInside body zero p inner → inner < e) → All (λ inner. inner < e) (inner_exprs_of pat)
unfolding StandsInside
held_below body e p pat there below =
    all_below e (inner_exprs_of pat) (λ inner has. below inner (subst (λ ids. Has ids inner) (sym (ap (λ found. option_map_or inner_exprs_of found []) there)) has))

pub checked_body : (world : HirDatabase) (row : BodyRow) → is_part_right world row.body row.infer part.Rest ≡ true → ((e : ℕ) (node : Expr) → slice_get row.body.exprs e ≡ Some node → IsExprInOrder row.body e node) → IsCheckedBody row.body row.infer
checked_body world row known ordered =
    let body = row.body in
    let parts = both (are_roots_known body) (is_inferred_right world body row.infer) known in
    let root = (both _ (ltb body.body_expr.0 (length body.exprs)) parts.0).1 in
    let inferred = both _ _ parts.1 in
    let valued = both _ _ inferred.0 in
    let results = both _ _ valued.0 in
    let typed = both (has_type_each body row.infer) _ results.0 in
    let bindings = both _ (eqb (length row.infer.binding_types) (length body.bindings)) typed.0 in
    let exprs = both (eqb (length row.infer.expr_types) (length body.exprs)) (eqb (length row.infer.pat_types) (length body.pats)) bindings.0 in
    record {
      root = is_below body.body_expr.0 (length body.exprs) root;
      expr_types = is_same _ _ exprs.0;
      pat_types = is_same _ _ exprs.1;
      binding_types = is_same _ _ bindings.1;
      children = λ e node at. all_below e (children_of node) (ordered e node at).children;
      inside = λ e node k p pat at has there. held_below body e p pat there (λ inner stands. (ordered e node at).inside p zero inner (k, has) stands);
    }

-- a world in which each row of the check holds is a checked world
pub IsChecked-from_holds : (world : HirDatabase) → Holds world → IsChecked world
IsChecked-from_holds world holds = record {
  consts = λ i row at. checked_const world row (passes_there (is_const_named world) (slice_get world.consts i) row at (holds.met C1 (Row Consts i)));
  bodies = λ b row at. checked_body world row (passes_there (λ (r : BodyRow). is_part_right world r.body r.infer part.Rest) (slice_get world.bodies b) row at (holds.met C1 (Row Bodies b))) (ordered b row at);
  layouts = λ i row at.
      let laid = of_there (λ (r : Ty × Layout). IsLaidOut world (layout_above world i) r.0 r.1) (slice_get world.layouts i) row at (holds.met C5 (Row Layouts i)) in
      checked_layout world (layout_above world i) row.0 row.1 laid;
}
  where
    ordered : (b : ℕ) (row : BodyRow) → slice_get world.bodies b ≡ Some row → (e : ℕ) (node : Expr) → slice_get row.body.exprs e ≡ Some node → IsExprInOrder row.body e node
    ordered b row at e node there =
        of_there (IsExprInOrder row.body e) (slice_get row.body.exprs e) node there
        (of_there (λ (r : BodyRow). IfSome (slice_get r.body.exprs e) (IsExprInOrder r.body e)) (slice_get world.bodies b) row at (holds.met C2 (Node b Exprs e)))
