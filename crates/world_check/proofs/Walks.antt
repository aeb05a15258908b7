-- What the code finds in tables: the first place that fails a test, in the order of the world's fields.
use Rattle.std.proofs.Common.{◌≡◌, ℕ, ◌&&◌, Bool, not, Option, Some, None, List, length, ◌∙◌, ap}
use Rattle.std.specs.Prelude.{if◌then◌else◌}
use Rattle.std.specs.List.{position}
use Rattle.std.specs.Option.{option_map, option_or}
use Rattle.types.specs.declared.ids.AliasId.{AliasId}
use Rattle.types.specs.declared.ids.FunctionId.{FunctionId}
use Rattle.types.specs.declared.ty.GenericArgs.{GenericArgs}
use Rattle.types.specs.declared.ty.Ty.{Ty}
use Rattle.world.specs.declared.database.HirDatabase.{HirDatabase}
use Rattle.world.specs.declared.impls.ConstImplRow.{ConstImplRow}
use Rattle.world.specs.declared.impls.ImplRow.{ImplRow}
use Rattle.world.specs.declared.layout.Layout.{Layout}
use Rattle.check_names.specs.Known.{is_nameable}
use Rattle.check_items.specs.Closed.{is_const_impl_closed, is_impl_closed, is_normal_closed}
use Rattle.check_items.specs.Names.{is_const_impl_named, is_const_named, is_const_param_named, is_enum_named, is_function_known, is_function_named, is_impl_named, is_layout_named, is_normal_named, is_static_named, is_struct_named, is_variant_named}
use Rattle.world.specs.Failing.{first_failing}
use Rattle.check_layouts.proofs.Decided.{is_tag_right}
use Rattle.world_check.specs.Meets.{has_new_alias, has_new_const, has_new_function, has_new_type}
use Rattle.world_check.specs.declared.place.NamedFunction.{NamedFunction}
use Rattle.world_check.specs.declared.place.NamedFunction.TheVariants.{Drop, Deref, DerefMut, Call, CallMut, CallOnce}
use Rattle.world_check.specs.declared.place.Place.{Place}
use Rattle.world_check.specs.declared.place.Place.TheVariants.{Table, Row, Function}
use Rattle.world_check.specs.declared.place.TableName.{TableName}
use Rattle.world_check.specs.declared.place.TableName.TheVariants.{Crates, Functions, Consts, Statics, Structs, Unions, Enums, Variants, Traits, Aliases, TypeParams, ConstParams, Layouts, Normals, Impls, ConstImpls}

-- the index of the first element that fails a test
abbrev pub first_wrong : {X : Type 0} → (X → Bool) → List X → Option ℕ
first_wrong test rows = position (λ row. not (test row)) rows

-- the place of the first row of a table that fails a test
abbrev pub wrong_row : {X : Type 0} → TableName → (X → Bool) → List X → Option Place
wrong_row table test rows = option_map (Row table) (first_wrong test rows)

-- so it is where a search of the rows found an index, and a place was made of that
pub row_found : {X : Type 0} (table : TableName) (test : X → Bool) (rows all : List X) (found : Option ℕ) (place : Option Place) → place ≡ option_map (Row table) found → found ≡ first_wrong test rows → rows ≡ all → place ≡ wrong_row table test all
row_found table test rows all found place made is are = made ∙ ap (option_map (Row table)) (is ∙ ap (first_wrong test) are)

-- the place of the first row of a table that fails a test of its index and itself
abbrev pub wrong_row_at : {X : Type 0} → TableName → (ℕ → X → Bool) → List X → Option Place
wrong_row_at table test rows = option_map (Row table) (first_failing test 0 rows)

-- the table itself if it has too many rows for ids of 32 bits, else the place that was found in it
abbrev pub in_table : TableName → ℕ → Option Place → Option Place
in_table table entries found = if is_nameable entries then found else Some (Table table)

-- the same by another count of the rows
pub in_table_is : (table : TableName) (entries n : ℕ) (found place : Option Place) → place ≡ in_table table entries found → entries ≡ n → place ≡ in_table table n found
in_table_is table entries n found place is same = is ∙ ap (λ m. in_table table m found) same

-- the table itself if it has too many rows for ids of 32 bits
abbrev pub wrong_length : TableName → ℕ → Option Place
wrong_length table entries = in_table table entries None

-- the table itself if it has too many rows for ids of 32 bits, else its first row that fails a test
abbrev pub wrong_table : {X : Type 0} → TableName → (X → Bool) → List X → Option Place
wrong_table table test rows = in_table table (length rows) (wrong_row table test rows)

-- Ids are in range, lists are short enough for ids of 32 bits, and keys are distinct.

abbrev pub wrong_item : HirDatabase → Option Place
wrong_item world =
    option_or (wrong_length Crates (length world.crates))
    (option_or (wrong_table Functions (is_function_named world) world.functions)
    (option_or (wrong_table Consts (is_const_named world) world.consts)
    (wrong_table Statics (is_static_named world) world.statics)))

abbrev pub wrong_adt : HirDatabase → Option Place
wrong_adt world =
    option_or (wrong_table Structs (is_struct_named world) world.structs)
    (option_or (wrong_table Unions (is_struct_named world) world.unions)
    (option_or (wrong_table Enums (is_enum_named world) world.enums)
    (wrong_table Variants (is_variant_named world) world.variants)))

abbrev pub wrong_trait_or_param : HirDatabase → Option Place
wrong_trait_or_param world =
    option_or (wrong_length Traits (length world.traits))
    (option_or (wrong_length Aliases (length world.aliases))
    (option_or (wrong_length TypeParams (length world.type_params))
    (wrong_table ConstParams (is_const_param_named world) world.const_params)))

abbrev pub wrong_keyed_row : HirDatabase → Option Place
wrong_keyed_row world =
    option_or (wrong_row_at Layouts (λ i (row : Ty × Layout). is_layout_named world row && has_new_type world i row) world.layouts)
    (option_or (wrong_row_at Normals (λ i (row : AliasId × GenericArgs × Ty). is_normal_named world row && has_new_alias world i row) world.normals)
    (option_or (wrong_row_at Impls (λ i (row : ImplRow). is_impl_named world row && has_new_function world i row) world.impls)
    (wrong_row_at ConstImpls (λ i (row : ConstImplRow). is_const_impl_named world row && has_new_const world i row) world.const_impls)))

-- the place of a lang function, unless it is none or in range
abbrev pub wrong_lang_function : NamedFunction → HirDatabase → Option FunctionId → Option Place
wrong_lang_function name world id = if is_function_known world id then None else Some (Function name)

abbrev pub wrong_drop_or_deref : HirDatabase → Option Place
wrong_drop_or_deref world =
    option_or (wrong_lang_function Drop world world.drop_fn)
    (option_or (wrong_lang_function Deref world world.deref_fn)
    (wrong_lang_function DerefMut world world.deref_mut_fn))

abbrev pub wrong_call : HirDatabase → Option Place
wrong_call world =
    option_or (wrong_lang_function Call world world.call_fn)
    (option_or (wrong_lang_function CallMut world world.call_mut_fn)
    (wrong_lang_function CallOnce world world.call_once_fn))

-- Normalized types and resolved impl items have no alias and no generic parameter in them.

abbrev pub wrong_resolution : HirDatabase → Option Place
wrong_resolution world =
    option_or (wrong_row Normals is_normal_closed world.normals)
    (option_or (wrong_row Impls is_impl_closed world.impls)
    (wrong_row ConstImpls is_const_impl_closed world.const_impls))

-- Tags fit their enums.

abbrev pub wrong_tag : HirDatabase → Option Place
wrong_tag world = wrong_row Layouts (is_tag_right world) world.layouts
