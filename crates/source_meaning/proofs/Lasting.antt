-- With enough fuel an evaluation ends, or enters as many blocks as one likes.
use Rattle.std.proofs.Common.{◌≡◌, ℕ, zero, suc, ◌<◌, ◌≤◌, ◌+◌, Bool, true, false, cond, List, [], ◌∷◌, ◌++◌, length, slice_get, ◌==◌, if◌then◌else◌, ◌||◌, Option, Some, None, refl, sym, subst, arith}
use Rattle.std.specs.Prelude.{flat_map, Contains}
use Rattle.std.proofs.lemmas.List.Elements.{Contains-append_left, Contains-append_right}
use Rattle.types.specs.declared.ids.StructId.{StructId}
use Rattle.types.specs.declared.ty.GenericArgs.{GenericArgs}
use Rattle.world.specs.declared.body.Statement.{Statement}
use Rattle.world.specs.declared.body.Statement.TheVariants as statement
use Rattle.types.specs.declared.ids.BindingId.{BindingId}
use Rattle.types.specs.declared.ids.ExprId.{ExprId}
use Rattle.types.specs.declared.operators.LogicOp.{LogicOp}
use Rattle.world.specs.declared.infer.ValueNs.{ValueNs}
use Rattle.world.specs.declared.infer.ValueNs.TheVariants.{LocalBinding}
use Rattle.types.specs.declared.ty.Ty.{Ty}
use Rattle.world.specs.declared.database.BodyRow.{BodyRow}
use Rattle.world.specs.declared.database.HirDatabase.{HirDatabase}
use Rattle.world.specs.Checked.{IsChecked, IsCheckedBody}
use Rattle.world.specs.Nodes.{optional}
use Rattle.numbers.specs.declared.operator.Operator.{Operator}
use Rattle.numbers.specs.Operators.{Answer, Computes, Panics, Undefined}
use Rattle.source_meaning.specs.Structs.{FieldSource, picked}
use Rattle.source_meaning.specs.Around.{Around, Target, at_root, marking, inside, target_of}
use Rattle.source_meaning.specs.Calls.{source_at, source_called, must_not_return, parameter_cells, started}
use Rattle.source_meaning.specs.Core as expr
use Rattle.source_meaning.specs.Core.{Assigned, Assignee, ByField, ByPath, ByPattern, ByPlace, CoreExpr, ElementAt, FieldOf, MakeStruct, Operation, Part, PlaceElem, is_place}
use Rattle.source_meaning.specs.Ends.{Cost, no_cost, plus, turns_alone, End, Go, Jumps, Break, Continue, Return, Faults, NoLayout, Stuck, More, GoesOn, after, then_do}
use Rattle.source_meaning.specs.Entering.{entering}
use Rattle.source_meaning.specs.Events.{marked, marked_as_operand, marked_as_place, marked_by_assigned, marked_by_statement}
use Rattle.source_meaning.specs.Laid.{is_laid_out}
use Rattle.source_meaning.specs.Meaning.{Levels, Callees, within_bounds, constant_cost, put, copy_to, read_into, assign_at, combined_at, made_into, operated_into, stepped, put_literal, put_answer, literal_operand, literal_bytes, named_place, named_into, bind, put_all, put_at, copy_at, answer_at, bound_place, assignee_place, assign_into, assigned_place, compound_into, update_into, field_place, place_of, operand_of, operands_of, is_byte, deciding_byte, reading_cost, decided_into, branched, logic_into, tail_into, branch_into, if_into, statement_of, statements_of, block_into, caught, again_into, turn_of, break_to, continue_to, return_into, call_returned, call_diverged, call_ended, unfit_meaning, entered_from, entered_into, into_of, level_at, returned, where_laid, body_meaning, callees_at, meaning_from}
use Rattle.source_meaning.specs.Places.{cell_with, is_out_of_bounds, place_bytes, operand_bytes, operand_out, operands_bytes, some_out}
use Rattle.source_meaning.specs.Source.{Source, Store, Path, Place, Cell, IndexOf, Result, Node, Binding, Operand, Literally, At, zeroed, node, unadjusted, never_marks, own_path, own_type, named_by, pattern, target, compound_target, root}
use Rattle.source_meaning.specs.Steps.{parts_of, assigned_parts, assignee_parts, statement_parts}
use Rattle.source_meaning.proofs.Calls.{called_row, above_roots, root_is_below}
use Rattle.source_meaning.proofs.Core.{part_is_below}
use Rattle.source_meaning.proofs.Depth.{field_base_is_part, field_index_is_part}
use Rattle.source_meaning.proofs.Never.{unadjusted-plain}
use Rattle.source_meaning.proofs.Parts.{elem_parts, first_is_contained, rest_is_contained, strict_parts, update_parts, if_parts, compound_parts, block_parts, tail_part, call_parts}

-- an end, or a lack of fuel after at least `limit` blocks
abbrev Lasts : {A : Type 0} → ℕ → End A → Type 0
Lasts limit (Go value store cost) = Unit {0}
Lasts limit (Jumps to store cost) = Unit {0}
Lasts limit (Faults fault cost) = Unit {0}
Lasts limit Stuck = Unit {0}
Lasts limit (More cost) = limit ≤ cost.turns

with_limit : {A : Type 0} (many : ℕ) (end : End A) → Lasts many end → GoesOn many end
with_limit many (Go value store cost) lasts = tt
with_limit many (Jumps to store cost) lasts = tt
with_limit many (Faults fault cost) lasts = tt
with_limit many Stuck lasts = tt
with_limit many (More cost) lasts = lasts

-- no block is asked for
none_asked : {A : Type 0} (end : End A) → Lasts zero end
none_asked (Go value store cost) = tt
none_asked (Jumps to store cost) = tt
none_asked (Faults fault cost) = tt
none_asked Stuck = tt
none_asked (More cost) = omega arith

fewer_last : {A : Type 0} (many : ℕ) (end : End A) → Lasts (suc many) end → Lasts many end
fewer_last many (Go value store cost) lasts = tt
fewer_last many (Jumps to store cost) lasts = tt
fewer_last many (Faults fault cost) lasts = tt
fewer_last many Stuck lasts = tt
fewer_last many (More cost) lasts = omega arith

-- what stands before costs more
late_after : (limit : ℕ) (cost rest : Cost) → limit ≤ rest.turns → limit ≤ (plus cost rest).turns
unfolding plus
late_after limit cost rest late = omega arith

-- one block before
late_after_one : (many : ℕ) (rest : Cost) → many ≤ rest.turns → suc many ≤ (plus (turns_alone 1) rest).turns
unfolding plus
late_after_one many rest late = omega arith

lasts_after_one : {A : Type 0} (many : ℕ) (end : End A) → Lasts many end → Lasts (suc many) (after (turns_alone 1) end)
unfolding after
lasts_after_one many (Go value store rest) lasts = tt
lasts_after_one many (Jumps to store rest) lasts = tt
lasts_after_one many (Faults fault rest) lasts = tt
lasts_after_one many Stuck lasts = tt
lasts_after_one many (More rest) lasts = late_after_one many rest lasts

module _ (limit : ℕ) where
  lasts_after : {A : Type 0} (cost : Cost) (end : End A) → Lasts limit end → Lasts limit (after cost end)
  unfolding after
  lasts_after cost (Go value store rest) lasts = tt
  lasts_after cost (Jumps to store rest) lasts = tt
  lasts_after cost (Faults fault rest) lasts = tt
  lasts_after cost Stuck lasts = tt
  lasts_after cost (More rest) lasts = late_after limit cost rest lasts

  either_lasts : {A : Type 0} (test : Bool) (one other : End A) → Lasts limit one → Lasts limit other → Lasts limit (if test then one else other)
  either_lasts true one other lasts lasts' = lasts
  either_lasts false one other lasts lasts' = lasts'

  -- what catches jumps lasts where what jumps does, and what comes after it
  caught_lasts : (e : ℕ) (again ended : Store → End (Unit {0})) (end : End (Unit {0})) → ((store : Store) → Lasts limit (again store)) → ((store : Store) → Lasts limit (ended store)) → Lasts limit end → Lasts limit (caught e again ended end)
  caught_lasts e again ended (Go done store cost) again_is ended_is lasts = lasts_after cost (ended store) (ended_is store)
  caught_lasts e again ended (Jumps (Break node) store cost) again_is ended_is lasts = either_lasts (node == e) (Go tt store _) (Jumps (Break node) store cost) tt tt
  caught_lasts e again ended (Jumps (Continue node) store cost) again_is ended_is lasts = either_lasts (node == e) (after cost (again store)) (Jumps (Continue node) store cost) (lasts_after cost (again store) (again_is store)) tt
  caught_lasts e again ended (Jumps Return store cost) again_is ended_is lasts = tt
  caught_lasts e again ended (Faults fault cost) again_is ended_is lasts = tt
  caught_lasts e again ended Stuck again_is ended_is lasts = tt
  caught_lasts e again ended (More cost) again_is ended_is lasts = lasts

-- a form that is repeated lasts, since each turn enters a block
repeated_lasts : (limit e : ℕ) (again ended : Store → End (Unit {0})) (end : End (Unit {0})) →
    ((many : ℕ) → limit ≡ suc many → (store : Store) → Lasts many (again store)) → ((many : ℕ) → limit ≡ suc many → (store : Store) → Lasts many (ended store)) →
    Lasts limit end → Lasts limit (after (turns_alone 1) (caught e again ended end))
repeated_lasts zero e again ended end again_is ended_is lasts = none_asked _
repeated_lasts (suc many) e again ended end again_is ended_is lasts =
    lasts_after_one many _ (caught_lasts many e again ended end (again_is many refl) (ended_is many refl) (fewer_last many end lasts))

module _ (limit : ℕ) where
  then_do_lasts : {A B : Type 0} (first : End A) (next : A → Store → End B) → Lasts limit first → ((value : A) (store : Store) → Lasts limit (next value store)) → Lasts limit (then_do first next)
  unfolding then_do
  then_do_lasts (Go value store cost) next over rest = lasts_after limit cost (next value store) (rest value store)
  then_do_lasts (Jumps to store cost) next over rest = tt
  then_do_lasts (Faults fault cost) next over rest = tt
  then_do_lasts Stuck next over rest = tt
  then_do_lasts (More cost) next over rest = over

  branched_lasts : (branch : End (Unit {0})) → Lasts limit branch → Lasts limit (branched branch)
  branched_lasts branch over = lasts_after limit (turns_alone 1) _ (then_do_lasts branch _ over (λ done later. tt))

  -- what isn't done where a place is out of bounds
  within_bounds_lasts : {A : Type 0} (out : Bool) (end : End A) → (out ≡ false → Lasts limit end) → Lasts limit (within_bounds out end)
  within_bounds_lasts true end over = tt
  within_bounds_lasts false end over = over refl

  put_lasts : (store : Store) (path : Path) (bytes : List ℕ) → Lasts limit (put store path bytes)
  unfolding put
  put_lasts store path bytes = either_lasts limit (length bytes == length (store path.cell)) (Go tt _ _) Stuck tt tt

  copy_lasts : (store : Store) (path : Path) (bytes : Option (List ℕ)) → Lasts limit (copy_to store path bytes)
  copy_lasts store path (Some bytes) = put_lasts store path bytes
  copy_lasts store path None = tt

  read_lasts : (source : Source) (operand : Operand) (path : Path) (store : Store) → Lasts limit (read_into source operand path store)
  read_lasts source operand path store = within_bounds_lasts (operand_out source store operand) _ (λ within. copy_lasts store path (operand_bytes source store operand))

  put_literal_lasts : (source : Source) (e : ℕ) (store : Store) (path : Path) (bytes : Option (List ℕ)) → Lasts limit (put_literal source e store path bytes)
  put_literal_lasts source e store path (Some bytes) = lasts_after limit (constant_cost source e) (put store path bytes) (put_lasts store path bytes)
  put_literal_lasts source e store path None = tt

  put_answer_lasts : (store : Store) (path : Path) (answer : Answer) → Lasts limit (put_answer store path answer)
  put_answer_lasts store path (Computes bytes) = put_lasts store path bytes
  put_answer_lasts store path (Panics word) = tt
  put_answer_lasts store path Undefined = tt

  made_lasts : (source : Source) (id : StructId) (args : GenericArgs) (fields : Option (List Operand)) (path : Path) (store : Store) → Lasts limit (made_into source id args fields path store)
  made_lasts source id args (Some fields) path store = within_bounds_lasts (some_out source store fields) _ (λ within. put_answer_lasts store path _)
  made_lasts source id args None path store = tt

  operated_lasts : (source : Source) (e : ℕ) (operation : Operation) (given : List Operand) (path : Path) (store : Store) → Lasts limit (operated_into source e operation given path store)
  operated_lasts source e (MakeStruct id args places) given path store = made_lasts source id args (picked places given) path store
  operated_lasts source e operation given path store = within_bounds_lasts (some_out source store given) _ (λ within. put_answer_lasts store path _)

  literal_operand_lasts : (source : Source) (e : ℕ) (store : Store) (bytes : Option (List ℕ)) → Lasts limit (literal_operand source e store bytes)
  literal_operand_lasts source e store (Some bytes) = by_type (own_type source e)
    where
      by_type : (ty : Option Ty) → Lasts limit (elim ty [ Some given ↦ Go (Literally given bytes) store (constant_cost source e) | None ↦ Stuck ])
      by_type (Some ty) = tt
      by_type None = tt
  literal_operand_lasts source e store None = tt

  named_place_lasts : (named : Option ValueNs) (store : Store) → Lasts limit (named_place named store)
  named_place_lasts (Some (LocalBinding b)) store = tt
  named_place_lasts _ store = tt

  named_into_lasts : (named : Option ValueNs) (path : Path) (store : Store) → Lasts limit (named_into named path store)
  named_into_lasts (Some (LocalBinding b)) path store = put_lasts store path (store (Binding b.0))
  named_into_lasts _ path store = tt

  bind_lasts : (source : Source) (pat : Option BindingId) (place : Place) (store : Store) → Lasts limit (bind source pat place store)
  bind_lasts source (Some id) place store = read_lasts source (At place) (record { cell = Binding id.0 }) store
  bind_lasts source None place store = tt

  put_all_lasts : (store : Store) (cell : Cell) (bytes : Option (List ℕ)) → Lasts limit (put_all store cell bytes)
  put_all_lasts store cell (Some bytes) = tt
  put_all_lasts store cell None = tt

  put_at_lasts : (source : Source) (store : Store) (place : Place) (bytes : List ℕ) → Lasts limit (put_at source store place bytes)
  put_at_lasts source store place bytes = put_all_lasts store place.cell (cell_with source store place bytes)

  copy_at_lasts : (source : Source) (store : Store) (place : Place) (bytes : Option (List ℕ)) → Lasts limit (copy_at source store place bytes)
  copy_at_lasts source store place (Some bytes) = put_at_lasts source store place bytes
  copy_at_lasts source store place None = tt

  answer_at_lasts : (source : Source) (store : Store) (place : Place) (answer : Answer) → Lasts limit (answer_at source store place answer)
  answer_at_lasts source store place (Computes bytes) = put_at_lasts source store place bytes
  answer_at_lasts source store place (Panics word) = tt
  answer_at_lasts source store place Undefined = tt

  assign_at_lasts : (source : Source) (to from : Place) (store : Store) → Lasts limit (assign_at source to from store)
  assign_at_lasts source to from store = within_bounds_lasts (is_out_of_bounds source store to || is_out_of_bounds source store from) _ (λ within. copy_at_lasts source store to (place_bytes source store from))

  combined_at_lasts : (source : Source) (op : Operator) (place : Place) (given : Operand) (store : Store) → Lasts limit (combined_at source op place given store)
  combined_at_lasts source op place given store = within_bounds_lasts (some_out source store (At place ∷ given ∷ [])) _ (λ within. answer_at_lasts source store place _)

  bound_place_lasts : (named : Option BindingId) (store : Store) → Lasts limit (bound_place named store)
  bound_place_lasts (Some id) store = tt
  bound_place_lasts None store = tt

  -- a call lasts where its callee does
  call_returned_lasts : (path : Path) (store : Store) (end : End (List ℕ)) → Lasts limit end → Lasts limit (call_returned path store end)
  call_returned_lasts path store (Go value left cost) lasts = lasts_after limit cost _ (then_do_lasts (put store path value) _ (put_lasts store path value) (λ done last. tt))
  call_returned_lasts path store (Jumps to left cost) lasts = tt
  call_returned_lasts path store (Faults fault cost) lasts = tt
  call_returned_lasts path store Stuck lasts = tt
  call_returned_lasts path store (More cost) lasts = lasts

  call_diverged_lasts : (end : End (List ℕ)) → Lasts limit end → Lasts limit (call_diverged end)
  call_diverged_lasts (Go value left cost) lasts = tt
  call_diverged_lasts (Jumps to left cost) lasts = tt
  call_diverged_lasts (Faults fault cost) lasts = tt
  call_diverged_lasts Stuck lasts = tt
  call_diverged_lasts (More cost) lasts = lasts

  call_lasts : (diverging : Bool) (path : Path) (store : Store) (end : End (List ℕ)) → Lasts limit end → Lasts limit (call_ended diverging path store end)
  call_lasts true path store end lasts = call_diverged_lasts end lasts
  call_lasts false path store end lasts = call_returned_lasts path store end lasts

  -- arguments that don't fit end the call
  unfit_lasts : (laid : Bool) (callee : Source) → Lasts limit (unfit_meaning laid callee)
  unfit_lasts true callee = tt
  unfit_lasts false callee = lasts_after limit (entering callee) (Faults NoLayout no_cost) tt

  entered_from_lasts : (callees : Callees) (diverging : Bool) (callee : Source) (start : Option Store) (path : Path) (store : Store) → ((s : Store) → Lasts limit (callees callee s)) → Lasts limit (entered_from callees diverging callee start path store)
  entered_from_lasts callees diverging callee (Some start) path store lasts = call_lasts diverging path store (callees callee start) (lasts start)
  entered_from_lasts callees diverging callee None path store lasts = call_lasts diverging path store (unfit_meaning (is_laid_out callee) callee) (unfit_lasts (is_laid_out callee) callee)

  entered_lasts : (callees : Callees) (diverging : Bool) (callee : Option Source) (given : Option (List (List ℕ))) (path : Path) (store : Store) → ((called : Source) → callee ≡ Some called → (s : Store) → Lasts limit (callees called s)) → Lasts limit (entered_into callees diverging callee given path store)
  entered_lasts callees diverging (Some callee) (Some given) path store lasts =
      entered_from_lasts callees diverging callee (started callee (cond diverging (zeroed callee Result) (store path.cell)) given) path store (lasts callee refl)
  entered_lasts callees diverging _ _ path store lasts = tt

  -- an expression lasts, in each way that it is evaluated, whatever stands around it
  record LastsIn (levels : Levels) (e : ℕ) : Type 0 where
    place : (around : Around) (store : Store) → Lasts limit ((levels around).place e store)
    operand : (around : Around) (store : Store) → Lasts limit ((levels around).operand e store)
    into : (around : Around) (path : Path) (store : Store) → Lasts limit ((levels around).into e path store)

  -- the index that leads to an element lasts
  abbrev IndexLasts : Levels → PlaceElem → Type 0
  IndexLasts below (ElementAt n index) = (around : Around) (path : Path) (store : Store) → Lasts limit ((below around).into index path store)
  IndexLasts below _ = Unit {0}

  stepped_lasts : (source : Source) (below : Levels) (around : Around) (base : ℕ) (elem : PlaceElem) (place : Place) (store : Store) → IndexLasts below elem → Lasts limit (stepped source below around base elem place store)
  stepped_lasts source below around base (Part index) place store over = tt
  stepped_lasts source below around base (FieldOf field) place store over = tt
  stepped_lasts source below around base (ElementAt e index) place store over =
      let behind = marking (IndexOf e ∷ []) (marking (marked_as_place source base) around) in then_do_lasts ((below behind).into index _ store) _ (over behind _ store) (λ done later. tt)

  field_place_lasts : (source : Source) (below : Levels) (around : Around) (base : ℕ) (elem : PlaceElem) (store : Store) → Lasts limit ((below around).place base store) → IndexLasts below elem → Lasts limit (field_place source below around base elem store)
  field_place_lasts source below around base elem store over index_over = then_do_lasts ((below around).place base store) _ over (λ place later. stepped_lasts source below around base elem place later index_over)

  place_lasts : (source : Source) (below : Levels) (around : Around) (e : ℕ) (form : Option CoreExpr) (store : Store) → ((within : Around) (path : Path) (later : Store) → Lasts limit ((below within).into e path later)) →
      ((base : ℕ) (elem : PlaceElem) → form ≡ Some (expr.Field base elem) → Lasts limit ((below around).place base store) × IndexLasts below elem) → Lasts limit (place_of source below around e form store)
  place_lasts source below around e (Some (expr.Path name)) store over parts_are = named_place_lasts (named_by source e) store
  place_lasts source below around e (Some (expr.Field base elem)) store over parts_are = let parts = parts_are base elem refl in field_place_lasts source below around base elem store parts.0 parts.1
  place_lasts source below around e _ store over parts_are =
      let within = marking (Node e ∷ []) around in
      then_do_lasts ((below within).into e _ store) _ (over within _ store) (λ value later. tt)

  operand_lasts : (source : Source) (below : Levels) (around : Around) (e : ℕ) (form : Option CoreExpr) (store : Store) → ((later : Store) → Lasts limit ((below around).place e later)) → Lasts limit (operand_of source below around e form store)
  operand_lasts source below around e (Some (expr.Literal literal)) store over = literal_operand_lasts source e store (literal_bytes source e literal)
  operand_lasts source below around e _ store over = then_do_lasts ((below around).place e store) _ (over store) (λ value later. tt)

  -- where fewer blocks are asked for, an expression lasts once more
  abbrev Repeats : Levels → ℕ → Type 0
  Repeats below e = (around : Around) (path : Path) (many : ℕ) → limit ≡ suc many → (store : Store) → Lasts many (again_into below around e path store)

  module _ (source : Source) (below : Levels) where
    operands_lasts : (around : Around) (operands : List ℕ) (store : Store) → ((child : ℕ) → Contains operands child → LastsIn below child) → Lasts limit (operands_of source below around operands store)
    unfolding operands_of
    operands_lasts around [] store ends = tt
    operands_lasts around (e ∷ rest) store ends =
        let first_ends = ends e (first_is_contained e rest) in
        let behind = marking (marked_as_operand source e) around in
        then_do_lasts ((below around).operand e store) _ (first_ends.operand around store) (λ first later.
        then_do_lasts (operands_of source below behind rest later) _ (operands_lasts behind rest later (λ child within. ends child (rest_is_contained e rest child within))) (λ others last. tt))

    update_lasts : (around : Around) (base : ℕ) (id : StructId) (args : GenericArgs) (sources : List FieldSource) (operands : List ℕ) (path : Path) (store : Store) → ((child : ℕ) → Contains (base ∷ operands) child → LastsIn below child) → Lasts limit (update_into source below around base id args sources operands path store)
    update_lasts around base id args sources operands path store ends =
        let base_ends = ends base (first_is_contained base operands) in
        let behind = marking (marked_as_place source base) around in
        then_do_lasts ((below around).place base store) _ (base_ends.place around store) (λ from later.
        then_do_lasts (operands_of source below behind operands later) _ (operands_lasts behind operands later (λ child within. ends child (rest_is_contained base operands child within))) (λ given last. made_lasts source id args _ path last))

    statement_lasts : (around : Around) (statement : Statement) (store : Store) → ((child : ℕ) → Contains (statement_parts statement) child → LastsIn below child) → Lasts limit (statement_of source (below around) statement store)
    statement_lasts around (statement.Let pat (Some e) None) store ends =
        let initializer_ends = ends e.0 (first_is_contained e.0 []) in
        then_do_lasts ((below around).place e.0 store) _ (initializer_ends.place around store) (λ place later. bind_lasts source (pattern source pat.0) place later)
    statement_lasts around (statement.Expr e has_semi) store ends =
        let expression_ends = ends e.0 (first_is_contained e.0 []) in
        then_do_lasts ((below around).place e.0 store) _ (expression_ends.place around store) (λ path later. tt)
    statement_lasts around _ store ends = tt

    statements_lasts : (around : Around) (statements : List Statement) (store : Store) → ((child : ℕ) → Contains (flat_map statement_parts statements) child → LastsIn below child) → Lasts limit (statements_of source below around statements store)
    unfolding statements_of
    statements_lasts around [] store ends = tt
    statements_lasts around (first ∷ rest) store ends =
        then_do_lasts (statement_of source (below around) first store) _ (statement_lasts around first store (λ child within.
        ends child (Contains-append_left (statement_parts first) (flat_map statement_parts rest) child within))) (λ done later.
        statements_lasts (marking (marked_by_statement source first) around) rest later (λ child within.
        ends child (Contains-append_right (statement_parts first) (flat_map statement_parts rest) child within)))

    tail_lasts : (around : Around) (tail : Option ExprId) (path : Path) (store : Store) → ((child : ℕ) → Contains (optional tail) child → LastsIn below child) → Lasts limit (tail_into (below around) tail path store)
    tail_lasts around (Some e) path store ends = let tail_ends = ends e.0 (first_is_contained e.0 []) in tail_ends.into around path store
    tail_lasts around None path store ends = tt

    decided_lasts : (around : Around) (left : Operand) (right : ℕ) (decides : Option Bool) (path : Path) (store : Store) → LastsIn below right → Lasts limit (decided_into source (below around) left right decides path store)
    decided_lasts around left right (Some true) path store ends = lasts_after limit (reading_cost source left) _ (read_lasts source left path store)
    decided_lasts around left right (Some false) path store ends = ends.into around path store
    decided_lasts around left right None path store ends = tt

    logic_lasts : (around : Around) (op : LogicOp) (left right : ℕ) (path : Path) (store : Store) → ((child : ℕ) → Contains (left ∷ right ∷ []) child → LastsIn below child) → Lasts limit (logic_into source below around op left right path store)
    logic_lasts around op left right path store ends =
        let left_ends = ends left (first_is_contained left (right ∷ [])) in
        then_do_lasts ((below around).operand left store) _ (left_ends.operand around store) (λ given later.
        within_bounds_lasts (operand_out source later given) _ (λ within.
        branched_lasts _ (decided_lasts (marking (marked_as_operand source left) around) given right (is_byte (deciding_byte op) (operand_bytes source later given)) path later
        (ends right (rest_is_contained left (right ∷ []) right (first_is_contained right []))))))

    branch_lasts : (around : Around) (then_branch : ℕ) (else_branch : Option ExprId) (holds : Option Bool) (path : Path) (store : Store) → ((child : ℕ) → Contains (then_branch ∷ optional else_branch) child → LastsIn below child) → Lasts limit (branch_into source below around then_branch else_branch holds path store)
    branch_lasts around then_branch else_branch (Some true) path store ends =
        let then_ends = ends then_branch (first_is_contained then_branch (optional else_branch)) in then_ends.into around path store
    branch_lasts around then_branch else_branch (Some false) path store ends =
        tail_lasts (marking (marked source then_branch) around) else_branch path store (λ child within. ends child (rest_is_contained then_branch (optional else_branch) child within))
    branch_lasts around then_branch else_branch None path store ends = tt

    if_lasts : (around : Around) (condition then_branch : ℕ) (else_branch : Option ExprId) (path : Path) (store : Store) → ((child : ℕ) → Contains (condition ∷ then_branch ∷ optional else_branch) child → LastsIn below child) → Lasts limit (if_into source below around condition then_branch else_branch path store)
    if_lasts around condition then_branch else_branch path store ends =
        let condition_ends = ends condition (first_is_contained condition (then_branch ∷ optional else_branch)) in
        then_do_lasts ((below around).operand condition store) _ (condition_ends.operand around store) (λ given later.
        within_bounds_lasts (operand_out source later given) _ (λ in_bounds.
        branched_lasts _ (branch_lasts (marking (marked_as_operand source condition) around) then_branch else_branch (is_byte 1 (operand_bytes source later given)) path later (λ child within.
        ends child (rest_is_contained condition (then_branch ∷ optional else_branch) child within)))))

    block_lasts : (around : Around) (statements : List Statement) (tail : Option ExprId) (path : Path) (store : Store) → ((child : ℕ) → Contains (flat_map statement_parts statements ++ optional tail) child → LastsIn below child) → Lasts limit (block_into source below around statements tail path store)
    block_lasts around statements tail path store ends =
        let behind = marking (flat_map (marked_by_statement source) statements) around in
        then_do_lasts (statements_of source below around statements store) _ (statements_lasts around statements store (λ child within.
        ends child (Contains-append_left (flat_map statement_parts statements) (optional tail) child within))) (λ done later.
        then_do_lasts (tail_into (below behind) tail path later) _ (tail_lasts behind tail path later (λ child within.
        ends child (Contains-append_right (flat_map statement_parts statements) (optional tail) child within))) (λ done' last. tt))

    turn_lasts : (around : Around) (body : ℕ) (store : Store) → LastsIn below body → Lasts limit (turn_of source below around body store)
    turn_lasts around body store ends = then_do_lasts ((below around).place body store) _ (ends.place around store) (λ path later. tt)

    break_lasts : (around : Around) (value : Option ExprId) (target : Option Target) (store : Store) → ((child : ℕ) → Contains (optional value) child → LastsIn below child) → Lasts limit (break_to source below around value target store)
    break_lasts around value (Some target) store ends =
        then_do_lasts (tail_into (below around) value target.path store) _ (tail_lasts around value target.path store ends) (λ done later. tt)
    break_lasts around value None store ends = tt

    continue_lasts : (around : Around) (target : Option Target) (store : Store) → Lasts limit (continue_to source around target store)
    continue_lasts around (Some target) store = tt
    continue_lasts around None store = tt

    assignee_place_lasts : (around : Around) (to : Assignee) (store : Store) → ((child : ℕ) → Contains (assignee_parts to) child → LastsIn below child) → Lasts limit (assignee_place source (below around) to store)
    assignee_place_lasts around (ByPattern pat) store ends = bound_place_lasts (target source pat) store
    assignee_place_lasts around (ByPlace e) store ends =
        let target_ends = ends e (first_is_contained e []) in either_lasts limit (is_place (unadjusted source e)) ((below around).place e store) Stuck (target_ends.place around store) tt

    assign_lasts : (around : Around) (to : Assignee) (value : ℕ) (store : Store) → ((child : ℕ) → Contains (value ∷ assignee_parts to) child → LastsIn below child) → Lasts limit (assign_into source below around to value store)
    assign_lasts around to value store ends =
        let value_ends = ends value (first_is_contained value (assignee_parts to)) in
        let behind = marking (marked_as_place source value) around in
        then_do_lasts ((below around).place value store) _ (value_ends.place around store) (λ from later.
        then_do_lasts (assignee_place source (below behind) to later) _ (assignee_place_lasts behind to later (λ child within. ends child (rest_is_contained value (assignee_parts to) child within))) (λ place last.
        assign_at_lasts source place from last))

    -- the parts of a field or an element last
    index_lasts : (elem : PlaceElem) → ((child : ℕ) → Contains (elem_parts elem) child → LastsIn below child) → IndexLasts below elem
    index_lasts (Part index) ends = tt
    index_lasts (FieldOf field) ends = tt
    index_lasts (ElementAt n index) ends = let index_ends = ends index (first_is_contained index []) in λ around path store. index_ends.into around path store

    parts_last : (around : Around) (base : ℕ) (elem : PlaceElem) (store : Store) → ((child : ℕ) → Contains (base ∷ elem_parts elem) child → LastsIn below child) → Lasts limit (field_place source below around base elem store)
    parts_last around base elem store ends =
        let base_ends = ends base (first_is_contained base (elem_parts elem)) in
        field_place_lasts source below around base elem store (base_ends.place around store) (index_lasts elem (λ child within. ends child (rest_is_contained base (elem_parts elem) child within)))

    assigned_place_lasts : (around : Around) (to : Assigned) (store : Store) → ((child : ℕ) → Contains (assigned_parts to) child → LastsIn below child) → Lasts limit (assigned_place source below around to store)
    assigned_place_lasts around (ByPath e) store ends = bound_place_lasts (compound_target source e) store
    assigned_place_lasts around (ByField base elem) store ends = parts_last around base elem store ends

    compound_lasts : (around : Around) (op : Operator) (to : Assigned) (value : ℕ) (store : Store) → ((child : ℕ) → Contains (assigned_parts to ++ value ∷ []) child → LastsIn below child) → Lasts limit (compound_into source below around op to value store)
    compound_lasts around op to value store ends =
        let value_ends = ends value (Contains-append_right (assigned_parts to) (value ∷ []) value (first_is_contained value [])) in
        let behind = marking (marked_by_assigned source to) around in
        then_do_lasts (assigned_place source below around to store) _ (assigned_place_lasts around to store (λ child within. ends child (Contains-append_left (assigned_parts to) (value ∷ []) child within))) (λ place later.
        then_do_lasts ((below behind).operand value later) _ (value_ends.operand behind later) (λ given last. combined_at_lasts source op place given last))

    return_lasts : (around : Around) (value : Option ExprId) (store : Store) → ((child : ℕ) → Contains (optional value) child → LastsIn below child) → Lasts limit (return_into source below around value store)
    return_lasts around value store ends = then_do_lasts (tail_into (below around) value around.result store) _ (tail_lasts around value around.result store ends) (λ done later. tt)

    into_lasts : (callees : Callees) (around : Around) (e : ℕ) (form : Option CoreExpr) (path : Path) (store : Store) → node source e ≡ form → Repeats below e → ((callee : Option ℕ) (called : Source) → source_called source e callee ≡ Some called → (start : Store) → Lasts limit (callees called start)) → ((child : ℕ) → Contains (parts_of form) child → LastsIn below child) → Lasts limit (into_of source below callees around e form path store)
    into_lasts callees around e (Some (expr.Literal literal)) path store is repeats enters ends = put_literal_lasts source e store path (literal_bytes source e literal)
    into_lasts callees around e (Some (expr.Path name)) path store is repeats enters ends = named_into_lasts (named_by source e) path store
    into_lasts callees around e (Some expr.UnitStruct) path store is repeats enters ends = tt
    into_lasts callees around e (Some (expr.Field base field)) path store is repeats enters ends =
        then_do_lasts (field_place source below around base field store) _ (parts_last around base field store ends) (λ place later. read_lasts source (At place) path later)
    into_lasts callees around e (Some (expr.Strict operation operands)) path store is repeats enters ends =
        then_do_lasts (operands_of source below around operands store) _ (operands_lasts around operands store (λ child within.
        ends child (subst (λ parts. Contains parts child) (sym (strict_parts operation operands)) within))) (λ given later. operated_lasts source e operation given path later)
    into_lasts callees around e (Some (expr.Update base id args sources operands)) path store is repeats enters ends =
        update_lasts around base id args sources operands path store (λ child within. ends child (subst (λ parts. Contains parts child) (sym (update_parts base id args sources operands)) within))
    into_lasts callees around e (Some (expr.Logic op left right)) path store is repeats enters ends = logic_lasts around op left right path store ends
    into_lasts callees around e (Some (expr.If condition then_branch else_branch)) path store is repeats enters ends =
        if_lasts around condition then_branch else_branch path store (λ child within. ends child (subst (λ parts. Contains parts child) (sym (if_parts condition then_branch else_branch)) within))
    into_lasts callees around e (Some (expr.Assign to value)) path store is repeats enters ends = assign_lasts around to value store ends
    into_lasts callees around e (Some (expr.Compound op to value)) path store is repeats enters ends =
        compound_lasts around op to value store (λ child within. ends child (subst (λ parts. Contains parts child) (sym (compound_parts op to value)) within))
    into_lasts callees around e (Some (expr.Block statements tail)) path store is repeats enters ends =
        block_lasts around statements tail path store (λ child within. ends child (subst (λ parts. Contains parts child) (sym (block_parts statements tail)) within))
    into_lasts callees around e (Some (expr.Labelled label statements tail)) path store is repeats enters ends =
        repeated_lasts limit e (again_into below around e path) (λ last. Go tt last (turns_alone 1)) _ (repeats around path) (λ many same later. tt)
        (block_lasts (inside e (Some label) path around) statements tail path store (λ child within. ends child (subst (λ parts. Contains parts child) (sym (block_parts statements tail)) within)))
    into_lasts callees around e (Some (expr.Loop label body)) path store is repeats enters ends =
        repeated_lasts limit e (again_into below around e path) (again_into below around e path) _ (repeats around path) (repeats around path)
        (turn_lasts (inside e label path around) body store (ends body (first_is_contained body [])))
    into_lasts callees around e (Some (expr.Break label value)) path store is repeats enters ends =
        break_lasts around value (target_of label around.targets) store (λ child within. ends child (subst (λ parts. Contains parts child) (sym (tail_part value)) within))
    into_lasts callees around e (Some (expr.Continue label)) path store is repeats enters ends = continue_lasts around (target_of label around.targets) store
    into_lasts callees around e (Some (expr.Return value)) path store is repeats enters ends =
        return_lasts around value store (λ child within. ends child (subst (λ parts. Contains parts child) (sym (tail_part value)) within))
    into_lasts callees around e (Some (expr.Call callee args)) path store is repeats enters ends =
        then_do_lasts (operands_of source below around args store) _ (operands_lasts around args store (λ child within.
        ends child (subst (λ parts. Contains parts child) (sym (call_parts callee args)) within))) (λ given later.
        within_bounds_lasts (some_out source later given) _ (λ in_bounds. entered_lasts callees (must_not_return source e) (source_called source e callee) (operands_bytes source later given) path later (enters callee)))
    into_lasts callees around e None path store is repeats enters ends = tt

-- The fuel with which each expression numbered below `bound` ends, or enters at least `many` blocks, where the root of each body that a
-- call can enter is numbered below `top`.
fuel_for : ℕ → ℕ → ℕ → ℕ
fuel_for top zero bound = zero
fuel_for top (suc many) zero = zero
fuel_for top (suc many) (suc bound) = suc (suc (bound + fuel_for top (suc many) bound + fuel_for top many (suc bound) + fuel_for top many top))

-- each body of a world is checked, and its root's number is below a bound
record AreBelow (world : HirDatabase) (top : ℕ) : Type 0 where
  checked : (i : ℕ) (row : BodyRow) → slice_get world.bodies i ≡ Some row → IsCheckedBody row.body row.infer
  root : (i : ℕ) (row : BodyRow) → slice_get world.bodies i ≡ Some row → row.body.body_expr.0 < top

-- what stands around the root of a body
abbrev first_around : Source → Around
first_around source = marking (parameter_cells source) (at_root (record { cell = Result }))

returned_lasts : (source : Source) (limit : ℕ) (end : End (Unit {0})) → Lasts limit end → Lasts limit (returned source end)
unfolding after
returned_lasts source limit (Go done store cost) lasts = tt
returned_lasts source limit (Jumps (Break node) store cost) lasts = tt
returned_lasts source limit (Jumps (Continue node) store cost) lasts = tt
returned_lasts source limit (Jumps Return store cost) lasts = tt
returned_lasts source limit (Faults fault cost) lasts = tt
returned_lasts source limit Stuck lasts = tt
returned_lasts source limit (More cost) lasts = lasts

where_laid_lasts : (limit : ℕ) (laid : Bool) (end : End (List ℕ)) → Lasts limit end → Lasts limit (where_laid laid end)
where_laid_lasts limit true end lasts = lasts
where_laid_lasts limit false end lasts = tt

-- entering a body enters a block
late_after_entering : (source : Source) (many : ℕ) (rest : Cost) → many ≤ rest.turns → suc many ≤ (plus (entering source) rest).turns
unfolding plus entering
late_after_entering source many rest late = omega arith

lasts_after_entering : {A : Type 0} (source : Source) (many : ℕ) (end : End A) → Lasts many end → Lasts (suc many) (after (entering source) end)
unfolding after
lasts_after_entering source many (Go value store rest) lasts = tt
lasts_after_entering source many (Jumps to store rest) lasts = tt
lasts_after_entering source many (Faults fault rest) lasts = tt
lasts_after_entering source many Stuck lasts = tt
lasts_after_entering source many (More rest) lasts = late_after_entering source many rest lasts

-- an expression evaluated into a path lasts where it does itself
into_from_own : (limit : ℕ) (source : Source) (fuel e : ℕ) (around : Around) (path : Path) (store : Store) →
    Lasts limit ((level_at source fuel (marking (never_marks source e) around)).own e (own_path source e path) store) → Lasts limit ((level_at source fuel around).into e path store)
unfolding level_at
into_from_own limit source zero e around path store lasts = lasts
into_from_own limit source (suc fuel) e around path store lasts = lasts

-- a body lasts for one block more than its root does
body_lasts : (source : Source) (start : Store) (many fuel : ℕ) → ((around : Around) (path : Path) (store : Store) → Lasts many ((level_at source fuel around).own (root source) path store)) → Lasts (suc many) (body_meaning source (level_at source fuel) start)
body_lasts source start many fuel lasts =
    lasts_after_entering source many _ (where_laid_lasts many (is_laid_out source) _ (returned_lasts source many _ (into_from_own many source fuel (root source) (first_around source) _ start (lasts _ _ start))))

-- Where each expression numbered below `bound` lasts itself with enough fuel, so does each as a place: a field is the place of its base,
-- which has a lower number, with one unit of fuel less, and an index is evaluated itself.
place_goes_on : (limit : ℕ) (source : Source) → IsCheckedBody source.body source.infer → (bound enough : ℕ) →
    ((e fuel : ℕ) → e < bound → enough ≤ fuel → (around : Around) (path : Path) (store : Store) → Lasts limit ((level_at source fuel around).own e path store)) →
    (under e fuel : ℕ) → e < under → under ≤ bound → under + enough ≤ fuel → (around : Around) (store : Store) → Lasts limit ((level_at source fuel around).place e store)
unfolding level_at
place_goes_on limit source checked bound enough owns zero e fuel less within long around store = absurd (omega arith)
place_goes_on limit source checked bound enough owns (suc under) e zero less within long around store = absurd (omega arith)
place_goes_on limit source checked bound enough owns (suc under) e (suc fuel) less within long around store =
    place_lasts limit source (level_at source fuel) around e (unadjusted source e) store
    (λ a p l. into_from_own limit source fuel e a p l (owns e fuel (omega arith) (omega arith) _ _ l))
    (λ base elem is.
    let plain = unadjusted-plain source e (expr.Field base elem) is in
    let earlier = part_is_below source checked e base (field_base_is_part source e base elem plain.1) in
    (place_goes_on limit source checked bound enough owns under base fuel (omega arith) (omega arith) (omega arith) around store, by_elem base elem plain.1))
  where
    -- an index has a lower number as well, and is evaluated itself
    by_elem : (base : ℕ) (elem : PlaceElem) → node source e ≡ Some (expr.Field base elem) → IndexLasts limit (level_at source fuel) elem
    by_elem base (Part index) is = tt
    by_elem base (FieldOf field) is = tt
    by_elem base (ElementAt n index) is = λ a p l.
        let earlier = part_is_below source checked e index (field_index_is_part source e base n index is) in
        into_from_own limit source fuel index a p l (owns index fuel (omega arith) (omega arith) _ _ l)

own_goes_on : (top : ℕ) (source : Source) → AreBelow source.world top → IsCheckedBody source.body source.infer → (many bound e fuel : ℕ) → e < bound → fuel_for top many bound ≤ fuel →
    (around : Around) (path : Path) (store : Store) → Lasts many ((level_at source fuel around).own e path store)
unfolding level_at fuel_for
own_goes_on top source below checked zero bound e fuel less enough around path store = none_asked _
own_goes_on top source below checked (suc many) zero e fuel less enough around path store = absurd (omega arith)
own_goes_on top source below checked (suc many) (suc bound) e zero less enough around path store = absurd (omega arith)
own_goes_on top source below checked (suc many) (suc bound) e (suc zero) less enough around path store = absurd (omega arith)
own_goes_on top source below checked (suc many) (suc bound) e (suc (suc fuel)) less enough around path store =
    let earlier_last : (child later : ℕ) → child < bound → fuel_for top (suc many) bound ≤ later → (a : Around) (p : Path) (s : Store) → Lasts (suc many) ((level_at source later a).own child p s) =
    λ child later child_less long a p s. own_goes_on top source below checked (suc many) bound child later child_less long a p s
    in
    into_lasts (suc many) source (level_at source (suc fuel)) (callees_at (suc fuel)) around e (node source e) path store refl
    (λ around' path' fewer is later.
    let same : many ≡ fewer = cc in
    subst (λ n. Lasts n ((level_at source (suc fuel) around').own e path' later)) same (own_goes_on top source below checked many (suc bound) e (suc fuel) less (omega arith) around' path' later))
    (λ callee called is start.
    let from = called_row source e callee called is in
    subst (λ (s : Source). Lasts (suc many) (body_meaning s (level_at s (suc fuel)) start)) from.3
    (body_lasts (source_at source.world from.1) start many (suc fuel)
    (own_goes_on top (source_at source.world from.1) below (below.checked from.0 from.1 from.2) many top (root (source_at source.world from.1)) (suc fuel) (below.root from.0 from.1 from.2) (omega arith))))
    (λ child within.
    let earlier = part_is_below source checked e child within in
    let places = place_goes_on (suc many) source checked bound (fuel_for top (suc many) bound) earlier_last bound child in record {
      place = λ around' later. places (suc fuel) (omega arith) (omega arith) (omega arith) around' later;
      operand = λ around' later. operand_lasts (suc many) source (level_at source fuel) around' child (unadjusted source child) later (λ last. places fuel (omega arith) (omega arith) (omega arith) around' last);
      into = λ a p l. into_from_own (suc many) source (suc fuel) child a p l (earlier_last child (suc fuel) (omega arith) (omega arith) _ _ l);
    })

fewer_go_on : (many : ℕ) (end : End (List ℕ)) → Lasts (suc many) end → GoesOn many end
fewer_go_on many end lasts = with_limit many end (fewer_last many end lasts)

pub bodies_go_on : (source : Source) (store : Store) (many : ℕ) → IsChecked source.world → IsCheckedBody source.body source.infer → (fuel : ℕ) × GoesOn many (meaning_from source store fuel)
unfolding meaning_from
bodies_go_on source store many world checked =
    let top = above_roots source.world.bodies in
    let below : AreBelow source.world top = record { checked = world.bodies; root = λ i row is. root_is_below source.world.bodies i row is } in
    let fuel = fuel_for top many (suc (root source)) in
    (fuel, fewer_go_on many _ (body_lasts source store many fuel (own_goes_on top source below checked many (suc (root source)) (root source) fuel (omega arith) (omega arith))))
