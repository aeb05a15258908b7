-- The code finds the first place that doesn't meet the row on ids and keys.
use Rattle.std.proofs.Common.{◌≡◌, ℕ, ◌&&◌, Bool, true, cond, length, Option, Some, None, [], ◌∷◌, Decides, refl}
use Rattle.std.specs.List.{slice_get}
use Rattle.std.specs.Option.{option_map, option_or}
use Rattle.types.specs.declared.ids.AliasId.{AliasId}
use Rattle.types.specs.declared.ty.GenericArgs.{GenericArgs}
use Rattle.types.specs.declared.ty.Ty.{Ty}
use Rattle.world.specs.declared.database.BodyRow.{BodyRow}
use Rattle.world.specs.declared.database.HirDatabase.{HirDatabase}
use Rattle.world.specs.declared.impls.ConstImplRow.{ConstImplRow}
use Rattle.world.specs.declared.impls.ImplRow.{ImplRow}
use Rattle.world.specs.declared.layout.Layout.{Layout}
use Rattle.check_names.specs.Known.{is_nameable}
use Rattle.check_ids.specs.Parts.{FindsWrong, is_part_right, parts_of}
use Rattle.check_ids.specs.declared.part.BodyPart.{BodyPart}
use Rattle.check_ids.specs.declared.part.BodyPart.TheVariants as part
use Rattle.check_items.specs.Names.{is_closure_named, is_const_impl_named, is_const_named, is_const_param_named, is_enum_named, is_function_known, is_function_named, is_impl_named, is_layout_named, is_normal_named, is_static_named, is_struct_named, is_variant_named}
use Rattle.world_check.specs.Meets.{Meets, has_new_alias, has_new_const, has_new_function, has_new_type}
use Rattle.world_check.specs.Rows.{FindsUnmet}
use Rattle.check_trees.specs.First.{FindsFailing}
use Rattle.world_check.specs.WorldPlaces.{of_adts, of_bodies, of_body, of_code, of_items, of_keyed_rows, of_names, of_table, part_place}
use Rattle.world_check.specs.declared.fault.CheckRow.TheVariants.{C1}
use Rattle.world_check.specs.declared.place.NamedFunction.TheVariants.{Drop, Deref, DerefMut, Call, CallMut, CallOnce}
use Rattle.world_check.specs.declared.place.Place.{Place}
use Rattle.world_check.specs.declared.place.Place.TheVariants.{Table, Function}
use Rattle.world_check.specs.declared.place.TableName.TheVariants.{Crates, Functions, Consts, Statics, Structs, Unions, Enums, Variants, Traits, Aliases, TypeParams, ConstParams, Closures, Bodies, Layouts, Normals, Impls, ConstImpls}
use Rattle.check_trees.proofs.First.{headed, joined, single}
use Rattle.check_trees.proofs.Numbered.{mapped}
use Rattle.world_check.proofs.Searches.{length_asked, rows_first, table_asked}
use Rattle.world_check.proofs.Segments.{adts, all_places, asked, code, items, keyed, names}
use Rattle.world_check.proofs.Walks.{wrong_adt, wrong_call, wrong_drop_or_deref, wrong_item, wrong_keyed_row, wrong_table, wrong_trait_or_param}

as_tested : (b : Bool) → Decides b (b ≡ true)
as_tested b = ((λ e. e), (λ e. e))

-- what is asked of a part of the body in a row is what the row on ids asks at the part's place
part_decides : (world : HirDatabase) (b : ℕ) (row : BodyRow) → slice_get world.bodies b ≡ Some row → (part : BodyPart) → Decides (is_part_right world row.body row.infer part) (Meets C1 world (part_place b part))
part_decides world b row there part.Exprs = asked (λ (r : BodyRow). is_part_right world r.body r.infer part.Exprs) (slice_get world.bodies b) row there
part_decides world b row there (part.Expr i) = asked (λ (r : BodyRow). is_part_right world r.body r.infer (part.Expr i)) (slice_get world.bodies b) row there
part_decides world b row there part.Pats = asked (λ (r : BodyRow). is_part_right world r.body r.infer part.Pats) (slice_get world.bodies b) row there
part_decides world b row there (part.Pat i) = asked (λ (r : BodyRow). is_part_right world r.body r.infer (part.Pat i)) (slice_get world.bodies b) row there
part_decides world b row there part.Bindings = asked (λ (r : BodyRow). is_part_right world r.body r.infer part.Bindings) (slice_get world.bodies b) row there
part_decides world b row there (part.Binding i) = asked (λ (r : BodyRow). is_part_right world r.body r.infer (part.Binding i)) (slice_get world.bodies b) row there
part_decides world b row there part.Labels = asked (λ (r : BodyRow). is_part_right world r.body r.infer part.Labels) (slice_get world.bodies b) row there
part_decides world b row there part.Rest = asked (λ (r : BodyRow). is_part_right world r.body r.infer part.Rest) (slice_get world.bodies b) row there

-- the first wrong part of a body, as a place
pub part_in_body : (world : HirDatabase) (b : ℕ) (row : BodyRow) (found : Option BodyPart) → slice_get world.bodies b ≡ Some row → FindsWrong world row.body row.infer (parts_of row.body) found → FindsFailing (Meets C1 world) (of_body b row.body) (option_map (part_place b) found)
part_in_body world b row found there first =
    mapped (λ part. is_part_right world row.body row.infer part ≡ true) (Meets C1 world) (part_place b) (parts_of row.body) found (λ part. (part_decides world b row there part).0) (λ part. (part_decides world b row there part).1) first

-- Groups of tables.

pub items_found : (world : HirDatabase) → FindsFailing (Meets C1 world) (of_items world) (wrong_item world)
items_found world =
    items (Meets C1 world) world _ _ _ _
    (length_asked (Meets C1 world) Crates (length world.crates) world.crates (as_tested _) (λ i. refl))
    (table_asked (Meets C1 world) Functions (length world.functions) (is_function_named world) world.functions (as_tested _) (λ i row at. asked (is_function_named world) (slice_get world.functions i) row at))
    (table_asked (Meets C1 world) Consts (length world.consts) (is_const_named world) world.consts (as_tested _) (λ i row at. asked (is_const_named world) (slice_get world.consts i) row at))
    (table_asked (Meets C1 world) Statics (length world.statics) (is_static_named world) world.statics (as_tested _) (λ i row at. asked (is_static_named world) (slice_get world.statics i) row at))

pub adts_found : (world : HirDatabase) → FindsFailing (Meets C1 world) (of_adts world) (wrong_adt world)
adts_found world =
    adts (Meets C1 world) world _ _ _ _
    (table_asked (Meets C1 world) Structs (length world.structs) (is_struct_named world) world.structs (as_tested _) (λ i row at. asked (is_struct_named world) (slice_get world.structs i) row at))
    (table_asked (Meets C1 world) Unions (length world.unions) (is_struct_named world) world.unions (as_tested _) (λ i row at. asked (is_struct_named world) (slice_get world.unions i) row at))
    (table_asked (Meets C1 world) Enums (length world.enums) (is_enum_named world) world.enums (as_tested _) (λ i row at. asked (is_enum_named world) (slice_get world.enums i) row at))
    (table_asked (Meets C1 world) Variants (length world.variants) (is_variant_named world) world.variants (as_tested _) (λ i row at. asked (is_variant_named world) (slice_get world.variants i) row at))

pub names_found : (world : HirDatabase) → FindsFailing (Meets C1 world) (of_names world) (wrong_trait_or_param world)
names_found world =
    names (Meets C1 world) world _ _ _ _
    (length_asked (Meets C1 world) Traits (length world.traits) world.traits (as_tested _) (λ i. refl))
    (length_asked (Meets C1 world) Aliases (length world.aliases) world.aliases (as_tested _) (λ i. refl))
    (length_asked (Meets C1 world) TypeParams (length world.type_params) world.type_params (as_tested _) (λ i. refl))
    (table_asked (Meets C1 world) ConstParams (length world.const_params) (is_const_param_named world) world.const_params (as_tested _) (λ i row at. asked (is_const_param_named world) (slice_get world.const_params i) row at))

pub closures_found : (world : HirDatabase) → FindsFailing (Meets C1 world) (of_table Closures world.closures) (wrong_table Closures (is_closure_named world) world.closures)
closures_found world =
    table_asked (Meets C1 world) Closures (length world.closures) (is_closure_named world) world.closures (as_tested _) (λ i row at. asked (is_closure_named world) (slice_get world.closures i) row at)

pub code_found : (world : HirDatabase) (closure body : Option Place) → FindsFailing (Meets C1 world) (of_table Closures world.closures) closure → FindsFailing (Meets C1 world) (of_bodies 0 world.bodies) body → FindsFailing (Meets C1 world) (of_code world) (option_or closure (cond (is_nameable (length world.bodies)) body (Some (Table Bodies))))
code_found world closure body closures bodies =
    code (Meets C1 world) world closure _ closures (headed (Meets C1 world) (Table Bodies) (of_bodies 0 world.bodies) (is_nameable (length world.bodies)) body (as_tested _) bodies)

pub keyed_found : (world : HirDatabase) → FindsFailing (Meets C1 world) (of_keyed_rows world) (wrong_keyed_row world)
keyed_found world =
    keyed (Meets C1 world) world _ _ _ _
    (rows_first (Meets C1 world) Layouts (λ i (row : Ty × Layout). is_layout_named world row && has_new_type world i row) world.layouts refl
    (λ i row at. asked (λ r. is_layout_named world r && has_new_type world i r) (slice_get world.layouts i) row at))
    (rows_first (Meets C1 world) Normals (λ i (row : AliasId × GenericArgs × Ty). is_normal_named world row && has_new_alias world i row) world.normals refl
    (λ i row at. asked (λ r. is_normal_named world r && has_new_alias world i r) (slice_get world.normals i) row at))
    (rows_first (Meets C1 world) Impls (λ i (row : ImplRow). is_impl_named world row && has_new_function world i row) world.impls refl
    (λ i row at. asked (λ r. is_impl_named world r && has_new_function world i r) (slice_get world.impls i) row at))
    (rows_first (Meets C1 world) ConstImpls (λ i (row : ConstImplRow). is_const_impl_named world row && has_new_const world i row) world.const_impls refl
    (λ i row at. asked (λ r. is_const_impl_named world r && has_new_const world i r) (slice_get world.const_impls i) row at))

-- The functions that the world names itself.

three : (world : HirDatabase) (f g h : Place) (a b c : Bool) → Decides a (Meets C1 world f) → Decides b (Meets C1 world g) → Decides c (Meets C1 world h) → FindsFailing (Meets C1 world) (f ∷ g ∷ h ∷ []) (option_or (cond a None (Some f)) (option_or (cond b None (Some g)) (cond c None (Some h))))
three world f g h a b c d e i =
    joined (Meets C1 world) (f ∷ []) (g ∷ h ∷ []) _ _ (single (Meets C1 world) f a d)
    (joined (Meets C1 world) (g ∷ []) (h ∷ []) _ _ (single (Meets C1 world) g b e) (single (Meets C1 world) h c i))

pub drop_or_deref_found : (world : HirDatabase) → FindsFailing (Meets C1 world) (Function Drop ∷ Function Deref ∷ Function DerefMut ∷ []) (wrong_drop_or_deref world)
drop_or_deref_found world =
    three world (Function Drop) (Function Deref) (Function DerefMut) (is_function_known world world.drop_fn) (is_function_known world world.deref_fn) (is_function_known world world.deref_mut_fn) (as_tested _) (as_tested _) (as_tested _)

pub call_found : (world : HirDatabase) → FindsFailing (Meets C1 world) (Function Call ∷ Function CallMut ∷ Function CallOnce ∷ []) (wrong_call world)
call_found world =
    three world (Function Call) (Function CallMut) (Function CallOnce) (is_function_known world world.call_fn) (is_function_known world world.call_mut_fn) (is_function_known world world.call_once_fn) (as_tested _) (as_tested _) (as_tested _)

-- all places, by what is found in each group
pub id_found : (world : HirDatabase) (items adts names code keyed drops calls : Option Place) → FindsFailing (Meets C1 world) (of_items world) items → FindsFailing (Meets C1 world) (of_adts world) adts → FindsFailing (Meets C1 world) (of_names world) names → FindsFailing (Meets C1 world) (of_code world) code → FindsFailing (Meets C1 world) (of_keyed_rows world) keyed
    → FindsFailing (Meets C1 world) (Function Drop ∷ Function Deref ∷ Function DerefMut ∷ []) drops → FindsFailing (Meets C1 world) (Function Call ∷ Function CallMut ∷ Function CallOnce ∷ []) calls → FindsUnmet C1 world (option_or items (option_or adts (option_or names (option_or code (option_or keyed (option_or drops calls))))))
id_found world items adts names code keyed drops calls e f g h i j k =
    all_places (Meets C1 world) world items adts names code keyed (option_or drops calls) e f g h i
    (joined (Meets C1 world) (Function Drop ∷ Function Deref ∷ Function DerefMut ∷ []) (Function Call ∷ Function CallMut ∷ Function CallOnce ∷ []) drops calls j k)
