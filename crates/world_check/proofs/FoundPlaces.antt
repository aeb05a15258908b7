-- The code finds the first place that doesn't meet a row of the check: the rows on trees, jumps, resolution, layouts, tags and agreement.
use Rattle.std.proofs.Common.{◌≡◌, ℕ, ◌<◌, Bool, true, false, Option, Some, None, Decides, IfSome, refl, ◌∙◌, ap, subst}
use Rattle.std.specs.List.{slice_get}
use Rattle.std.specs.Option.{option_map, option_or}
use Rattle.types.specs.declared.ty.Ty.{Ty}
use Rattle.world.specs.declared.database.HirDatabase.{HirDatabase}
use Rattle.world.specs.declared.layout.Layout.{Layout}
use Rattle.check_items.specs.Agree.{IsListedRight, IsRowListedRight, has_all_params, is_closure_row}
use Rattle.check_items.specs.Closed.{is_const_impl_closed, is_impl_closed, is_normal_closed}
use Rattle.check_layouts.proofs.Decided.{is_tag_right, tag_answer}
use Rattle.check_layouts.specs.Laid.{HasRightTag, IsLaidOut, IsRowLaidOut}
use Rattle.check_layouts.specs.Sizes.{layout_above}
use Rattle.world_check.specs.Meets.{Meets}
use Rattle.world_check.specs.Rows.{FindsUnmet}
use Rattle.check_trees.specs.First.{FindsFailing}
use Rattle.world_check.specs.WorldPlaces.{of_bodies, of_table, places}
use Rattle.world_check.specs.declared.fault.CheckRow.TheVariants.{C2, C3, C4, C5, C6, C7}
use Rattle.world_check.specs.declared.place.Place.{Place}
use Rattle.world_check.specs.declared.place.Place.TheVariants.{Table, Row, Nodes, Node, Function}
use Rattle.world_check.specs.declared.place.NamedFunction.{NamedFunction}
use Rattle.world_check.specs.declared.place.NodeKind.{NodeKind}
use Rattle.world_check.specs.declared.place.TableName.{TableName}
use Rattle.world_check.specs.declared.place.TableName.TheVariants.{Crates, Functions, Consts, Statics, Structs, Unions, Enums, Variants, Traits, Aliases, TypeParams, ConstParams, Closures, Bodies, Layouts, Normals, Impls, ConstImpls}
use Rattle.check_trees.proofs.First.{met_here}
use Rattle.world_check.proofs.Laid.{of_there}
use Rattle.world_check.proofs.Searches.{rows_found, rows_wrong, table_met}
use Rattle.world_check.proofs.Segments.{adts, adts_met, all_places, asked, bodies_met, code, functions_met, items, items_met, keyed, keyed_met, names_met, or_none, to_there}
use Rattle.world_check.proofs.Walks.{wrong_resolution, wrong_row, wrong_tag}

-- Rows that ask only of bodies.

pub tree_found : (world : HirDatabase) (found : Option Place) → FindsFailing (Meets C2 world) (of_bodies 0 world.bodies) found → FindsUnmet C2 world found
tree_found world found bodies =
    subst (FindsUnmet C2 world) (or_none found)
    (all_places (Meets C2 world) world None None None found None None
    (items_met (Meets C2 world) world (λ table. tt) (λ i. tt) (λ i. tt) (λ i. tt) (λ i. tt))
    (adts_met (Meets C2 world) world (λ table. tt) (λ i. tt) (λ i. tt) (λ i. tt) (λ i. tt))
    (names_met (Meets C2 world) world (λ table. tt) (λ i. tt) (λ i. tt) (λ i. tt) (λ i. tt))
    (code (Meets C2 world) world None found (table_met (Meets C2 world) Closures world.closures tt (λ i. tt)) (met_here (Meets C2 world) (Table Bodies) (of_bodies 0 world.bodies) found tt bodies))
    (keyed_met (Meets C2 world) world (λ table. tt) (λ i. tt) (λ i. tt) (λ i. tt) (λ i. tt))
    (functions_met (Meets C2 world) (λ name. tt)))

pub label_found : (world : HirDatabase) (found : Option Place) → FindsFailing (Meets C3 world) (of_bodies 0 world.bodies) found → FindsUnmet C3 world found
label_found world found bodies =
    subst (FindsUnmet C3 world) (or_none found)
    (all_places (Meets C3 world) world None None None found None None
    (items_met (Meets C3 world) world (λ table. tt) (λ i. tt) (λ i. tt) (λ i. tt) (λ i. tt))
    (adts_met (Meets C3 world) world (λ table. tt) (λ i. tt) (λ i. tt) (λ i. tt) (λ i. tt))
    (names_met (Meets C3 world) world (λ table. tt) (λ i. tt) (λ i. tt) (λ i. tt) (λ i. tt))
    (code (Meets C3 world) world None found (table_met (Meets C3 world) Closures world.closures tt (λ i. tt)) (met_here (Meets C3 world) (Table Bodies) (of_bodies 0 world.bodies) found tt bodies))
    (keyed_met (Meets C3 world) world (λ table. tt) (λ i. tt) (λ i. tt) (λ i. tt) (λ i. tt))
    (functions_met (Meets C3 world) (λ name. tt)))

-- Rows that ask of rows with keys.

pub resolution_found : (world : HirDatabase) → FindsUnmet C4 world (wrong_resolution world)
resolution_found world =
    subst (FindsUnmet C4 world) (or_none (wrong_resolution world))
    (all_places (Meets C4 world) world None None None None (wrong_resolution world) None
    (items_met (Meets C4 world) world (λ table. refl) (λ i. refl) (λ i. refl) (λ i. refl) (λ i. refl))
    (adts_met (Meets C4 world) world (λ table. refl) (λ i. refl) (λ i. refl) (λ i. refl) (λ i. refl))
    (names_met (Meets C4 world) world (λ table. refl) (λ i. refl) (λ i. refl) (λ i. refl) (λ i. refl))
    (code (Meets C4 world) world None None (table_met (Meets C4 world) Closures world.closures refl (λ i. refl)) (met_here (Meets C4 world) (Table Bodies) (of_bodies 0 world.bodies) None refl (bodies_met (Meets C4 world) world.bodies (λ b kind. refl) (λ b kind i. refl) (λ b. refl))))
    (keyed (Meets C4 world) world None _ _ _
    (table_met (Meets C4 world) Layouts world.layouts refl (λ i. refl))
    (rows_wrong (Meets C4 world) Normals is_normal_closed world.normals refl (λ i row at. asked is_normal_closed (slice_get world.normals i) row at))
    (rows_wrong (Meets C4 world) Impls is_impl_closed world.impls refl (λ i row at. asked is_impl_closed (slice_get world.impls i) row at))
    (rows_wrong (Meets C4 world) ConstImpls is_const_impl_closed world.const_impls refl (λ i row at. asked is_const_impl_closed (slice_get world.const_impls i) row at)))
    (functions_met (Meets C4 world) (λ name. refl)))

abbrev is_layouts : TableName → Bool
is_layouts Layouts = true
is_layouts _ = false

-- a property that only the rows of `layouts` may lack
layouts_found : (P : Place → Type 0) (world : HirDatabase) (found : Option Place) → ((table : TableName) → P (Table table)) → ((table : TableName) (i : ℕ) → is_layouts table ≡ false → P (Row table i)) → ((b : ℕ) (kind : NodeKind) → P (Nodes b kind)) → ((b : ℕ) (kind : NodeKind) (i : ℕ) → P (Node b kind i)) → ((name : NamedFunction) → P (Function name)) → FindsFailing P (of_table Layouts world.layouts) found → FindsFailing P (places world) found
layouts_found P world found table row list node function layouts =
    subst (FindsFailing P (places world)) (or_none (option_or found None) ∙ or_none found)
    (all_places P world None None None None (option_or found None) None
    (items_met P world table (λ i. row Crates i refl) (λ i. row Functions i refl) (λ i. row Consts i refl) (λ i. row Statics i refl))
    (adts_met P world table (λ i. row Structs i refl) (λ i. row Unions i refl) (λ i. row Enums i refl) (λ i. row Variants i refl))
    (names_met P world table (λ i. row Traits i refl) (λ i. row Aliases i refl) (λ i. row TypeParams i refl) (λ i. row ConstParams i refl))
    (code P world None None (table_met P Closures world.closures (table Closures) (λ i. row Closures i refl)) (met_here P (Table Bodies) (of_bodies 0 world.bodies) None (table Bodies) (bodies_met P world.bodies list node (λ b. row Bodies b refl))))
    (keyed P world found None None None layouts
    (table_met P Normals world.normals (table Normals) (λ i. row Normals i refl))
    (table_met P Impls world.impls (table Impls) (λ i. row Impls i refl))
    (table_met P ConstImpls world.const_impls (table ConstImpls) (λ i. row ConstImpls i refl)))
    (functions_met P function))

unlaid : (world : HirDatabase) (table : TableName) (i : ℕ) → is_layouts table ≡ false → Meets C5 world (Row table i)
unlaid world Layouts i e = cc
unlaid world _ i e = tt

pub layout_found : (world : HirDatabase) (found : Option ℕ) → (found ≡ None → (i : ℕ) → IsRowLaidOut world i) → IfSome found (λ i. IsRowLaidOut world i → ⊥) → IfSome found (λ i. (j : ℕ) → j < i → IsRowLaidOut world j) → FindsUnmet C5 world (option_map (Row Layouts) found)
layout_found world found none wrong first =
    layouts_found (Meets C5 world) world (option_map (Row Layouts) found) (λ table. tt) (unlaid world) (λ b kind. tt) (λ b kind i. tt) (λ name. tt)
    (rows_found (Meets C5 world) Layouts (λ (row : Ty × Layout) i. IsLaidOut world (layout_above world i) row.0 row.1) world.layouts found tt (λ i fact. fact) (λ i fact. fact) none wrong first)

untagged : (world : HirDatabase) (table : TableName) (i : ℕ) → is_layouts table ≡ false → Meets C6 world (Row table i)
untagged world Layouts i e = cc
untagged world _ i e = tt

pub tag_found : (world : HirDatabase) → FindsUnmet C6 world (wrong_tag world)
tag_found world =
    layouts_found (Meets C6 world) world (wrong_tag world) (λ table. tt) (untagged world) (λ b kind. tt) (λ b kind i. tt) (λ name. tt)
    (rows_wrong (Meets C6 world) Layouts (is_tag_right world) world.layouts tt tagged)
  where
    tagged : (i : ℕ) (row : Ty × Layout) → slice_get world.layouts i ≡ Some row → Decides (is_tag_right world row) (Meets C6 world (Row Layouts i))
    tagged i row at =
        let decides = (tag_answer world row).1 in
        ((λ e. to_there (λ (r : Ty × Layout). HasRightTag world r.0 r.1) (slice_get world.layouts i) row at (decides.0 e)), (λ has. decides.1 (of_there (λ (r : Ty × Layout). HasRightTag world r.0 r.1) (slice_get world.layouts i) row at has)))

-- Rows that agree with others.

pub agreement_found : (world : HirDatabase) (unlisted : Option ℕ) (ellipsis : Option Place) → (unlisted ≡ None → (v : ℕ) → IsRowListedRight world v) → IfSome unlisted (λ v. IsRowListedRight world v → ⊥) → IfSome unlisted (λ v. (w : ℕ) → w < v → IsRowListedRight world w) → FindsFailing (Meets C7 world) (of_bodies 0 world.bodies) ellipsis
    → FindsUnmet C7 world (option_or (wrong_row Functions (has_all_params world) world.functions) (option_or (option_map (Row Variants) unlisted) (option_or (wrong_row Closures (is_closure_row world) world.closures) ellipsis)))
agreement_found world unlisted ellipsis none wrong first bodies =
    subst (FindsUnmet C7 world) (tidied functions variants closures ellipsis)
    (all_places (Meets C7 world) world (option_or functions None) variants None (option_or closures ellipsis) None None
    (items (Meets C7 world) world None functions None None
    (table_met (Meets C7 world) Crates world.crates tt (λ i. tt))
    (rows_wrong (Meets C7 world) Functions (has_all_params world) world.functions tt (λ i row at. asked (has_all_params world) (slice_get world.functions i) row at))
    (table_met (Meets C7 world) Consts world.consts tt (λ i. tt))
    (table_met (Meets C7 world) Statics world.statics tt (λ i. tt)))
    (adts (Meets C7 world) world None None None variants
    (table_met (Meets C7 world) Structs world.structs tt (λ i. tt))
    (table_met (Meets C7 world) Unions world.unions tt (λ i. tt))
    (table_met (Meets C7 world) Enums world.enums tt (λ i. tt))
    (rows_found (Meets C7 world) Variants (λ row v. IsListedRight world v row) world.variants unlisted tt (λ v fact. fact) (λ v fact. fact) none wrong first))
    (names_met (Meets C7 world) world (λ table. tt) (λ i. tt) (λ i. tt) (λ i. tt) (λ i. tt))
    (code (Meets C7 world) world closures ellipsis
    (rows_wrong (Meets C7 world) Closures (is_closure_row world) world.closures tt (λ i row at. asked (is_closure_row world) (slice_get world.closures i) row at))
    (met_here (Meets C7 world) (Table Bodies) (of_bodies 0 world.bodies) ellipsis tt bodies))
    (keyed_met (Meets C7 world) world (λ table. tt) (λ i. tt) (λ i. tt) (λ i. tt) (λ i. tt))
    (functions_met (Meets C7 world) (λ name. tt)))
  where
    functions : Option Place
    functions = wrong_row Functions (has_all_params world) world.functions

    variants : Option Place
    variants = option_map (Row Variants) unlisted

    closures : Option Place
    closures = wrong_row Closures (is_closure_row world) world.closures

    tidied : (a b c d : Option Place) → option_or (option_or a None) (option_or b (option_or (option_or c d) None)) ≡ option_or a (option_or b (option_or c d))
    tidied a b c d = ap (λ o. option_or o (option_or b (option_or (option_or c d) None))) (or_none a) ∙ ap (λ o. option_or a (option_or b o)) (or_none (option_or c d))
