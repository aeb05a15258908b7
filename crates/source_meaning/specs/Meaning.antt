-- What a typed body means: its value, or how else it ends, by evaluating its tree of expressions. It knows no
-- basic blocks. Fuel bounds how deep the evaluation goes.
use Rattle.std.specs.Prelude.{◌≡◌, ℕ, zero, suc, pos, Bool, true, false, cond, if◌then◌else◌, ◌==◌, ◌||◌, List, [], ◌∷◌, ◌++◌, length, map, flat_map, drop, Option, Some, None, option_and_then, option_map, codes}
use Rattle.types.specs.declared.ids.BindingId.{BindingId}
use Rattle.types.specs.declared.ids.ExprId.{ExprId}
use Rattle.types.specs.declared.ids.LabelId.{LabelId}
use Rattle.types.specs.declared.ids.AdtId.TheVariants as adt
use Rattle.types.specs.declared.ids.StructId.{StructId}
use Rattle.types.specs.declared.ty.GenericArgs.{GenericArgs}
use Rattle.types.specs.declared.ty.Ty.{Ty}
use Rattle.types.specs.declared.ty.Ty.TheVariants.{Adt}
use Rattle.types.specs.declared.operators.LogicOp.{LogicOp}
use Rattle.types.specs.declared.operators.LogicOp.TheVariants as logic
use Rattle.world.specs.declared.body.Statement.{Statement}
use Rattle.world.specs.declared.body.Statement.TheVariants as statement
use Rattle.world.specs.declared.database.HirDatabase.{HirDatabase}
use Rattle.world.specs.declared.layout.Layout.{Layout}
use Rattle.world.specs.declared.infer.ValueNs.{ValueNs}
use Rattle.world.specs.declared.infer.ValueNs.TheVariants.{LocalBinding}
use Rattle.world.specs.Checked.{fixed_size}
use Rattle.world.specs.Lookups.{layout_of}
use Rattle.numbers.specs.Bytes.{low_bytes}
use Rattle.numbers.specs.declared.operator.Kind.{Kind}
use Rattle.numbers.specs.declared.operator.Operator.{Operator}
use Rattle.numbers.specs.Operators.{Answer, Computes, Panics, Undefined, computed, converted, negated, inverted, kind_of}
use Rattle.source_meaning.specs.Aggregates.{array_length, laid_out, repeated_for}
use Rattle.source_meaning.specs.Calls.{source_called, must_not_return, parameter_cells, started}
use Rattle.source_meaning.specs.Contents.{Contents, bytes_in, holding}
use Rattle.source_meaning.specs.Core as expr
use Rattle.source_meaning.specs.Core.{Assigned, Assignee, ByField, ByPath, ByPattern, ByPlace, CoreExpr, CoreLiteral, Truth, Number, Character, Operation, Negate, Invert, Keep, Convert, Combine, MakeTuple, MakeArray, Repeat, MakeStruct, PlaceElem, ElementAt, is_place}
use Rattle.source_meaning.specs.Ends.{Cost, no_cost, turns_alone, bytes_alone, plus, one_level_more, End, Go, Jumps, Break, Continue, Return, Faults, Fault, Panic, Undefined as UndefinedBehavior, NoLayout, Stuck, More, after, then_do, IsOver}
use Rattle.source_meaning.specs.Entering.{room_of, entering, run_cost}
use Rattle.source_meaning.specs.Laid.{is_laid_out}
use Rattle.source_meaning.specs.Around.{Around, Target, at_root, marking, inside, target_of}
use Rattle.source_meaning.specs.Events.{marked, marked_as_place, marked_as_operand, marked_by_assigned, marked_by_statement, marked_by_tail, marked_in_block}
use Rattle.source_meaning.specs.Places.{cell_with, is_out_of_bounds, place_bytes, operand_out, operand_type, operand_bytes, operands_bytes, some_out}
use Rattle.source_meaning.specs.Structs.{FieldSource, picked}
use Rattle.source_meaning.specs.Updates.{field_operands}
use Rattle.source_meaning.specs.Source.{Source, node, unadjusted, own_type, own_layout, named_by, pattern, target, compound_target, root, Cell, IndexOf, Result, Node, Binding, Path, Place, whole, projected, never_marks, own_path, Store, zeroed, with_cell_bytes, Operand, Literally, At, drops}

-- the byte of a truth value: 1 for true
abbrev pub truth_byte : Bool → ℕ
truth_byte test = cond test 1 0

-- a literal's bytes: one for a truth value, and as many low bytes of a whole number, or of a character's code point, as its type has
unfoldable pub literal_bytes : Source → ℕ → CoreLiteral → Option (List ℕ)
literal_bytes source e (Truth test) = Some (truth_byte test ∷ [])
literal_bytes source e (Number number) = option_map (λ layout. low_bytes layout.size number) (own_layout source e)
literal_bytes source e (Character code) = option_map (λ layout. low_bytes layout.size (pos code)) (own_layout source e)

-- bytes are written where a path leads, if they are as many as lie there
unfoldable pub put : Store → Path → Contents → End (Unit {0})
put store path bytes =
    if length bytes == length (store path.cell) then Go tt (with_cell_bytes store path.cell bytes) no_cost else Stuck

-- the use of a place that is out of bounds
abbrev pub out_of_bounds : Fault
out_of_bounds = Panic (codes "Index out of bounds")

-- What an operation on places does: a panic, where one of them is out of bounds (`out`). That comes before all else in it: before bytes are read, and
-- before anything is computed of them.
abbrev pub within_bounds : {A : Type 0} → (out : Bool) → End A → End A
within_bounds true end = Faults out_of_bounds no_cost
within_bounds false end = end

-- bytes are written that were read, where there are some
abbrev pub copy_to : Store → Path → Option Contents → End (Unit {0})
copy_to store path (Some bytes) = put store path bytes
copy_to store path None = Stuck

-- a literal is a constant of its type, which takes as many bytes as a cell each time that it is evaluated
abbrev pub constant_cost : Source → ℕ → Cost
constant_cost source e = bytes_alone (room_of (own_layout source e))

-- a literal is written
abbrev pub put_literal : Source → ℕ → Store → Path → Option (List ℕ) → End (Unit {0})
put_literal source e store path (Some bytes) = after (constant_cost source e) (put store path (holding bytes))
put_literal source e store path None = Stuck

abbrev pub put_answer : Store → Path → Answer → End (Unit {0})
put_answer store path (Computes bytes) = put store path (holding bytes)
put_answer store path (Panics word) = Faults (Panic word) no_cost
put_answer store path Undefined = Stuck

-- what the bytes of an operand are, by its type
abbrev pub operand_kind : Source → Operand → Option Kind
operand_kind source operand = option_and_then kind_of (operand_type source operand)

-- what an operation reads of an operand when it runs
pub record Value : Type 0 where
  pub kind : Option Kind
  pub bytes : List ℕ

abbrev pub value_of : Source → Store → Operand → Option Value
value_of source store operand = option_map (λ contents. record { kind = operand_kind source operand; bytes = bytes_in contents }) (operand_bytes source store operand)

-- what an operation reads of operands when it runs, where each has bytes
unfoldable pub values_of : Source → Store → List Operand → Option (List Value)
values_of source store [] = Some []
values_of source store (first ∷ rest) =
    option_and_then (λ value. option_map (λ others. value ∷ others) (values_of source store rest)) (value_of source store first)

-- a value converted to a type of a size
abbrev pub converted_to : Option ℕ → Value → Answer
converted_to (Some size) one = converted one.kind size one.bytes
converted_to None one = Undefined

-- a struct of a layout, by the values of its fields in order, where each has one
abbrev pub struct_of : Option Layout → Option (List Value) → Answer
struct_of layout (Some fields) = laid_out layout (map (λ field. field.bytes) fields)
struct_of layout None = Undefined

-- What an operation makes of its operands' values; `ty`: the type of the expression that it is. The elements of an array lie one behind
-- another. A struct is made of its fields' values (`made_into`).
unfoldable pub answered : HirDatabase → (ty : Option Ty) → Operation → List Value → Answer
answered world ty Negate (one ∷ []) = negated one.kind one.bytes
answered world ty Invert (one ∷ []) = inverted one.kind one.bytes
answered world ty Keep (one ∷ []) = Computes one.bytes
answered world ty Convert (one ∷ []) = converted_to (option_and_then fixed_size ty) one
answered world ty (Combine op) (left ∷ right ∷ []) = computed op left.kind right.kind left.bytes right.bytes
answered world ty MakeTuple parts = laid_out (option_and_then (layout_of world) ty) (map (λ part. part.bytes) parts)
answered world ty MakeArray parts = Computes (flat_map (λ part. part.bytes) parts)
answered world ty Repeat (one ∷ []) = repeated_for (option_and_then array_length ty) one.bytes
answered world ty _ _ = Undefined

-- and of operands, where each has bytes
abbrev pub answered_for : HirDatabase → (ty : Option Ty) → Operation → Option (List Value) → Answer
answered_for world ty operation (Some values) = answered world ty operation values
answered_for world ty operation None = Undefined

-- What each expression means at one amount of fuel: as a place, as an operand, evaluated into a path, and, before its value is
-- adjusted, itself evaluated into a path.
pub record Level : Type 0 where
  pub place : ℕ → Store → End Place
  pub operand : ℕ → Store → End Operand
  pub into : ℕ → Path → Store → End (Unit {0})
  pub own : ℕ → Path → Store → End (Unit {0})

-- the same by what an expression stands in
abbrev pub Levels : Type 0
Levels = Around → Level

-- what the bodies mean that calls enter, each from a store on: how it ends, with the bytes of its result
abbrev pub Callees : Type 0
Callees = Source → Store → End Contents

-- with no fuel nothing ends
abbrev pub no_fuel : Levels
no_fuel around = record {
  place = λ e store. More no_cost;
  operand = λ e store. More no_cost;
  into = λ e path store. More no_cost;
  own = λ e path store. More no_cost;
}

-- the place that a path names: the cell of a binding
abbrev pub named_place : Option ValueNs → Store → End Place
named_place (Some (LocalBinding b)) store = Go (whole (Binding b.0)) store no_cost
named_place _ store = Stuck

-- What the step to a field or an element makes of the place of its base: that with one more element. The index of an element is evaluated first, into
-- its own cell, over the cells that the base marked. It isn't looked at before the place is used.
abbrev pub stepped : Source → Levels → Around → (base : ℕ) → (elem : PlaceElem) → Place → Store → End Place
stepped source below around base (ElementAt e index) place store =
    then_do ((below (marking (IndexOf e ∷ []) (marking (marked_as_place source base) around))).into index (record { cell = IndexOf e }) store)
    (λ _ later. Go (projected (ElementAt e index) place) later no_cost)
stepped source below around base elem place store = Go (projected elem place) store no_cost

-- the place of a field or an element: its base's place, and then the step
abbrev pub field_place : Source → Levels → Around → (base : ℕ) → (elem : PlaceElem) → Store → End Place
field_place source below around base elem store = then_do ((below around).place base store) (stepped source below around base elem)

-- a path is the place that it names; an expression that is no place goes into a cell of its own, which is then its
-- place
abbrev pub place_of : Source → Levels → Around → ℕ → Option CoreExpr → Store → End Place
place_of source below around e (Some (expr.Path name)) store = named_place (named_by source e) store
place_of source below around e (Some (expr.Field base elem)) store = field_place source below around base elem store
place_of source below around e _ store =
    then_do ((below (marking (Node e ∷ []) around)).into e (record { cell = Node e }) store) (λ _ later. Go (whole (Node e)) later no_cost)

-- a literal is its bytes; any other expression is evaluated to a place, whose bytes the
-- operation reads
abbrev pub literal_operand : Source → ℕ → Store → Option (List ℕ) → End Operand
literal_operand source e store (Some bytes) = elim (own_type source e) [
  | Some ty ↦ Go (Literally ty bytes) store (constant_cost source e)
  | None ↦ Stuck
]
literal_operand source e store None = Stuck

abbrev pub operand_of : Source → Levels → Around → ℕ → Option CoreExpr → Store → End Operand
operand_of source below around e (Some (expr.Literal l)) store = literal_operand source e store (literal_bytes source e l)
operand_of source below around e _ store = then_do ((below around).place e store) (λ place later. Go (At place) later no_cost)

-- operands from left to right
unfoldable pub operands_of : Source → Levels → Around → List ℕ → Store → End (List Operand)
operands_of source below around [] store = Go [] store no_cost
operands_of source below around (e ∷ rest) store =
    then_do ((below around).operand e store) (λ first later.
    then_do (operands_of source below (marking (marked_as_operand source e) around) rest later) (λ others last. Go (first ∷ others) last no_cost))

-- a struct at generic arguments is made of operands that give its fields, where each field has one
abbrev pub made_into : Source → StructId → GenericArgs → (fields : Option (List Operand)) → Path → Store → End (Unit {0})
made_into source id args (Some fields) path store =
    within_bounds (some_out source store fields) (put_answer store path (struct_of (layout_of source.world (Adt (adt.StructId id) args)) (values_of source store fields)))
made_into source id args None path store = Stuck

-- An operation finds its operands' places, reads them all, computes, and writes. The operands of a struct literal, and of a call of a constructor, are those
-- that give the fields, in the order of these.
abbrev pub operated_into : Source → ℕ → Operation → (given : List Operand) → Path → Store → End (Unit {0})
operated_into source e (MakeStruct id args places) given path store = made_into source id args (picked places given) path store
operated_into source e operation given path store =
    within_bounds (some_out source store given) (put_answer store path (answered_for source.world (own_type source e) operation (values_of source store given)))

-- the operands from left to right, and then the operation
abbrev pub strict_into : Source → Levels → Around → ℕ → Operation → List ℕ → Path → Store → End (Unit {0})
strict_into source below around e operation operands path store =
    then_do (operands_of source below around operands store) (λ given later. operated_into source e operation given path later)

-- The place of the base, then the operands from left to right, and then the struct is made of the values of its fields: what is written for
-- each, or what lies at the field of the base then.
abbrev pub update_into : Source → Levels → Around → (base : ℕ) → StructId → GenericArgs → List FieldSource → (operands : List ℕ) → Path → Store → End (Unit {0})
update_into source below around base id args sources operands path store =
    then_do ((below around).place base store) (λ from later.
    then_do (operands_of source below (marking (marked_as_place source base) around) operands later) (λ given last.
    made_into source id args (field_operands from given sources) path last))

-- Whether bytes are one byte, and this is the given number. Other bytes than one have no answer.
abbrev pub is_byte : ℕ → Option Contents → Option Bool
is_byte number (Some (byte ∷ [])) = Some (byte == number)
is_byte number _ = None

-- the byte of a left operand at which the right one isn't evaluated: 0 for `&&`, 1 for `||`
abbrev pub deciding_byte : LogicOp → ℕ
deciding_byte logic.And = 0
deciding_byte logic.Or = 1

-- what reading an operand takes once more: a literal is a constant again
abbrev pub reading_cost : Source → Operand → Cost
reading_cost source (Literally ty bytes) = bytes_alone (room_of (layout_of source.world ty))
reading_cost source (At path) = no_cost

-- an operand's bytes are written
abbrev pub read_into : Source → Operand → Path → Store → End (Unit {0})
read_into source operand path store = within_bounds (operand_out source store operand) (copy_to store path (operand_bytes source store operand))

-- An operand that decides is written. Else the right operand is evaluated into the path.
abbrev pub decided_into : Source → Level → Operand → (right : ℕ) → Option Bool → Path → Store → End (Unit {0})
decided_into source below left right (Some true) path store = after (reading_cost source left) (read_into source left path store)
decided_into source below left right (Some false) path store = below.into right path store
decided_into source below left right None path store = Stuck

-- One of two branches. Of basic blocks, one is counted for it before it is evaluated, and one where both join.
abbrev pub branched : End (Unit {0}) → End (Unit {0})
branched branch = after (turns_alone 1) (then_do branch (λ _ last. Go tt last (turns_alone 1)))

-- the left operand, and then it or the right one is the value
abbrev pub logic_into : Source → Levels → Around → LogicOp → (left right : ℕ) → Path → Store → End (Unit {0})
logic_into source below around op left right path store =
    then_do ((below around).operand left store) (λ given later.
    within_bounds (operand_out source later given)
    (branched (decided_into source (below (marking (marked_as_operand source left) around)) given right (is_byte (deciding_byte op) (operand_bytes source later given)) path later)))

-- an expression that may be left out, evaluated into a path: the tail of a block, or the second branch of an `if`
abbrev pub tail_into : Level → Option ExprId → Path → Store → End (Unit {0})
tail_into below (Some e) path store = below.into e.0 path store
tail_into below None path store = Go tt store no_cost

-- the first branch where the condition holds, and else the second; what the first one marks counts as in use in the second
abbrev pub branch_into : Source → Levels → Around → (then_branch : ℕ) → (else_branch : Option ExprId) → Option Bool → Path → Store → End (Unit {0})
branch_into source below around then_branch else_branch (Some true) path store = (below around).into then_branch path store
branch_into source below around then_branch else_branch (Some false) path store =
    tail_into (below (marking (marked source then_branch) around)) else_branch path store
branch_into source below around then_branch else_branch None path store = Stuck

-- the condition, which holds where its byte is 1, and then a branch
abbrev pub if_into : Source → Levels → Around → (condition then_branch : ℕ) → (else_branch : Option ExprId) → Path → Store → End (Unit {0})
if_into source below around condition then_branch else_branch path store =
    then_do ((below around).operand condition store) (λ given later.
    within_bounds (operand_out source later given)
    (branched (branch_into source below (marking (marked_as_operand source condition) around) then_branch else_branch (is_byte 1 (operand_bytes source later given)) path later)))

-- the bytes of what a path names
abbrev pub named_into : Option ValueNs → Path → Store → End (Unit {0})
named_into (Some (LocalBinding b)) path store = put store path (store (Binding b.0))
named_into _ path store = Stuck

-- the bytes of a field or an element are copied from its place
abbrev pub field_into : Source → Levels → Around → (base : ℕ) → (elem : PlaceElem) → Path → Store → End (Unit {0})
field_into source below around base elem path store = then_do (field_place source below around base elem store) (λ place later. read_into source (At place) path later)

-- a name is bound: the bytes of a place go into the binding's cell
abbrev pub bind : Source → Option BindingId → Place → Store → End (Unit {0})
bind source (Some id) place store = read_into source (At place) (record { cell = Binding id.0 }) store
bind source None place store = Stuck

-- a `let` with an initializer: its place, and then the name is bound. An expression statement: its place, and then
-- what came into use in it is left; a place that is only named is not read.
abbrev pub statement_of : Source → Level → Statement → Store → End (Unit {0})
statement_of source below (statement.Let pat (Some e) None) store =
    then_do (below.place e.0 store) (λ place later. bind source (pattern source pat.0) place later)
statement_of source below (statement.Expr e has_semi) store =
    then_do (below.place e.0 store) (λ _ later. Go tt later (turns_alone (drops source (marked_as_place source e.0))))
statement_of source below _ store = Stuck

-- all bytes of a cell are replaced, where it is known by which
abbrev pub put_all : Store → Cell → Option Contents → End (Unit {0})
put_all store cell (Some bytes) = Go tt (with_cell_bytes store cell bytes) no_cost
put_all store cell None = Stuck

-- bytes are put at a place, if they are as many as lie there
abbrev pub put_at : Source → Store → Place → Contents → End (Unit {0})
put_at source store place bytes = put_all store place.cell (cell_with source store place bytes)

-- bytes are put there that were read, where there are some
abbrev pub copy_at : Source → Store → Place → Option Contents → End (Unit {0})
copy_at source store place (Some bytes) = put_at source store place bytes
copy_at source store place None = Stuck

-- The bytes of one place are copied to another. Both are found before anything is read.
abbrev pub assign_at : Source → (to from : Place) → Store → End (Unit {0})
assign_at source to from store =
    within_bounds (is_out_of_bounds source store to || is_out_of_bounds source store from) (copy_at source store to (place_bytes source store from))

-- what an operation answers is put there, where it answers something for its operands
abbrev pub answer_at : Source → Store → Place → Answer → End (Unit {0})
answer_at source store place (Computes bytes) = put_at source store place (holding bytes)
answer_at source store place (Panics word) = Faults (Panic word) no_cost
answer_at source store place Undefined = Stuck

-- the place of a binding that is named
abbrev pub bound_place : Option BindingId → Store → End Place
bound_place (Some id) store = Go (whole (Binding id.0)) store no_cost
bound_place None store = Stuck

-- The place that an assignment writes to. That of an expression is evaluated as any place is; an expression that names no place can't be
-- assigned.
abbrev pub assignee_place : Source → Level → Assignee → Store → End Place
assignee_place source below (ByPattern pat) store = bound_place (target source pat) store
assignee_place source below (ByPlace e) store = if is_place (unadjusted source e) then below.place e store else Stuck

-- The value's place, then that of the target, and then the value's bytes are copied. The assignment's own value is `()`, so the path that it is
-- evaluated into isn't written.
abbrev pub assign_into : Source → Levels → Around → Assignee → (value : ℕ) → Store → End (Unit {0})
assign_into source below around to value store =
    then_do ((below around).place value store) (λ from later.
    then_do (assignee_place source (below (marking (marked_as_place source value) around)) to later) (λ place last. assign_at source place from last))

-- the place that a compound assignment reads and writes
abbrev pub assigned_place : Source → Levels → Around → Assigned → Store → End Place
assigned_place source below around (ByPath e) store = bound_place (compound_target source e) store
assigned_place source below around (ByField base elem) store = field_place source below around base elem store

-- one operation that reads a place and an operand, and writes what an operator makes of both to the place
abbrev pub combined_at : Source → Operator → Place → Operand → Store → End (Unit {0})
combined_at source op place given store =
    within_bounds (some_out source store (At place ∷ given ∷ [])) (answer_at source store place (answered_for source.world None (Combine op) (values_of source store (At place ∷ given ∷ []))))

-- The target's place, then the value's operand, and then the operation on both. The path that the assignment is evaluated into isn't written, as for
-- any assignment.
abbrev pub compound_into : Source → Levels → Around → Operator → Assigned → (value : ℕ) → Store → End (Unit {0})
compound_into source below around op to value store =
    then_do (assigned_place source below around to store) (λ place later.
    then_do ((below (marking (marked_by_assigned source to) around)).operand value later) (λ given last. combined_at source op place given last))

-- statements in order
unfoldable pub statements_of : Source → Levels → Around → List Statement → Store → End (Unit {0})
statements_of source below around [] store = Go tt store no_cost
statements_of source below around (first ∷ rest) store =
    then_do (statement_of source (below around) first store) (λ _ later.
    statements_of source below (marking (marked_by_statement source first) around) rest later)

-- the statements of a block, its tail, and then what came into use in it is left
abbrev pub block_into : Source → Levels → Around → List Statement → Option ExprId → Path → Store → End (Unit {0})
block_into source below around statements tail path store =
    then_do (statements_of source below around statements store) (λ _ later.
    then_do (tail_into (below (marking (flat_map (marked_by_statement source) statements) around)) tail path later) (λ _ last.
    Go tt last (turns_alone (drops source (marked_in_block source statements tail)))))

-- What a loop or a labelled block makes of the end of what stands in it: a `break` out of it ends it, and a `continue` starts
-- it again. One block is counted for where it ends. Jumps to others, and faults, go further out.
abbrev pub caught : ℕ → (again ended : Store → End (Unit {0})) → End (Unit {0}) → End (Unit {0})
caught e again ended (Go done store cost) = after cost (ended store)
caught e again ended (Jumps (Break node) store cost) = if node == e then Go tt store (plus cost (turns_alone 1)) else Jumps (Break node) store cost
caught e again ended (Jumps (Continue node) store cost) = if node == e then after cost (again store) else Jumps (Continue node) store cost
caught e again ended (Jumps Return store cost) = Jumps Return store cost
caught e again ended (Faults fault cost) = Faults fault cost
caught e again ended Stuck = Stuck
caught e again ended (More cost) = More cost

-- the same expression itself once more, from its beginning
abbrev pub again_into : Levels → Around → ℕ → Path → Store → End (Unit {0})
again_into below around e path store = (below around).own e path store

-- A labelled block. One block is counted for where it begins, and one for where it ends.
abbrev pub labelled_into : Source → Levels → Around → ℕ → LabelId → List Statement → Option ExprId → Path → Store → End (Unit {0})
labelled_into source below around e label statements tail path store =
    after (turns_alone 1) (caught e (again_into below around e path) (λ last. Go tt last (turns_alone 1))
    (block_into source below (inside e (Some label) path around) statements tail path store))

-- one turn of a loop: its body's place, and then what came into use in it is left
abbrev pub turn_of : Source → Levels → Around → (body : ℕ) → Store → End (Unit {0})
turn_of source below around body store =
    then_do ((below around).place body store) (λ _ later. Go tt later (turns_alone (drops source (marked_as_place source body))))

-- A loop: one turn, and then the loop again. One block is counted for where each turn begins.
abbrev pub loop_into : Source → Levels → Around → ℕ → Option LabelId → (body : ℕ) → Path → Store → End (Unit {0})
loop_into source below around e label body path store =
    after (turns_alone 1) (caught e (again_into below around e path) (again_into below around e path)
    (turn_of source below (inside e label path around) body store))

-- how many drops a jump makes, after its value: one for each cell inside its target that is marked as live and isn't `Copy`
abbrev pub leaving : Source → Around → Option ExprId → Target → ℕ
leaving source around value target = drops source (drop target.kept (around.marks ++ marked_by_tail source value))

-- a value goes to the target's path, all scopes inside the target are left, and then the jump
abbrev pub break_to : Source → Levels → Around → Option ExprId → Option Target → Store → End (Unit {0})
break_to source below around value (Some target) store =
    then_do (tail_into (below around) value target.path store) (λ _ later. Jumps (Break target.opened.node) later (turns_alone (leaving source around value target)))
break_to source below around value None store = Stuck

abbrev pub break_into : Source → Levels → Around → Option LabelId → Option ExprId → Store → End (Unit {0})
break_into source below around label value store = break_to source below around value (target_of label around.targets) store

-- all scopes inside the target are left, and then the jump
abbrev pub continue_to : Source → Around → Option Target → Store → End (Unit {0})
continue_to source around (Some target) store = Jumps (Continue target.opened.node) store (turns_alone (leaving source around None target))
continue_to source around None store = Stuck

abbrev pub continue_into : Source → Around → Option LabelId → Store → End (Unit {0})
continue_into source around label store = continue_to source around (target_of label around.targets) store

-- the value of a `return` goes to the body's return path, all scopes of the body are left, and then the jump out of it
abbrev pub return_into : Source → Levels → Around → Option ExprId → Store → End (Unit {0})
return_into source below around value store =
    then_do (tail_into (below around) value around.result store) (λ _ later. Jumps Return later (turns_alone (drops source (around.marks ++ marked_by_tail source value))))

-- How a call ends whose callee may return: where the callee gives a value, its bytes are put at the destination, and one block is counted,
-- the target of the call's terminator. A fault of the callee is one of the call. No jump leads out of a body.
abbrev pub call_returned : Path → Store → End Contents → End (Unit {0})
call_returned path store (Go value left cost) = after cost (then_do (put store path value) (λ _ last. Go tt last (turns_alone 1)))
call_returned path store (Jumps to left cost) = Stuck
call_returned path store (Faults fault cost) = Faults fault cost
call_returned path store Stuck = Stuck
call_returned path store (More cost) = More cost

-- How a call ends whose callee must not return: its terminator has no target, so that the callee gives a value is undefined behavior. While
-- the callee runs, it takes one more level of nesting.
abbrev pub call_diverged : End Contents → End (Unit {0})
call_diverged (Go value left cost) = Faults (UndefinedBehavior (codes "Diverging function returned")) (one_level_more cost)
call_diverged (Jumps to left cost) = Stuck
call_diverged (Faults fault cost) = Faults fault (one_level_more cost)
call_diverged Stuck = Stuck
call_diverged (More cost) = More (one_level_more cost)

-- how a call ends by the end of its callee; `diverging`: the callee must not return
abbrev pub call_ended : (diverging : Bool) → Path → Store → End Contents → End (Unit {0})
call_ended true path store end = call_diverged end
call_ended false path store end = call_returned path store end

-- what a body means that can't be entered, since a type that it needs has no layout
abbrev pub unlaid_meaning : Source → End Contents
unlaid_meaning source = after (entering source) (Faults NoLayout no_cost)

-- what a body means whose arguments don't fit its parameters: nothing, but where it can't be entered anyway
abbrev pub unfit_meaning : (laid : Bool) → Source → End Contents
unfit_meaning true source = Stuck
unfit_meaning false source = unlaid_meaning source

-- a callee's body is entered, where the arguments fit its parameters
abbrev pub entered_from : Callees → (diverging : Bool) → (callee : Source) → Option Store → Path → Store → End (Unit {0})
entered_from callees diverging callee (Some start) path store = call_ended diverging path store (callees callee start)
entered_from callees diverging callee None path store = call_ended diverging path store (unfit_meaning (is_laid_out callee) callee)

-- The body that a call enters. Its return place is the call's destination, and holds what that holds; where the callee must not return,
-- it is a new cell of the callee's result type.
abbrev pub entered_into : Callees → (diverging : Bool) → (callee : Option Source) → (given : Option (List Contents)) → Path → Store → End (Unit {0})
entered_into callees diverging (Some callee) (Some given) path store =
    entered_from callees diverging callee (started callee (cond diverging (zeroed callee Result) (store path.cell)) given) path store
entered_into callees diverging _ _ path store = Stuck

-- A call: its arguments' operands from left to right, and then its terminator, which finds their places, reads them all, late, and enters the callee's
-- body.
abbrev pub call_into : Source → Levels → Callees → Around → ℕ → (callee : Option ℕ) → (args : List ℕ) → Path → Store → End (Unit {0})
call_into source below callees around e callee args path store =
    then_do (operands_of source below around args store) (λ given later.
    within_bounds (some_out source later given) (entered_into callees (must_not_return source e) (source_called source e callee) (operands_bytes source later given) path later))

-- An expression itself evaluated into a path: the forms that have a meaning so far. A path to a unit struct writes nothing.
abbrev pub into_of : Source → Levels → Callees → Around → ℕ → Option CoreExpr → Path → Store → End (Unit {0})
into_of source below callees around e (Some (expr.Literal l)) path store = put_literal source e store path (literal_bytes source e l)
into_of source below callees around e (Some (expr.Path name)) path store = named_into (named_by source e) path store
into_of source below callees around e (Some expr.UnitStruct) path store = Go tt store no_cost
into_of source below callees around e (Some (expr.Field base elem)) path store = field_into source below around base elem path store
into_of source below callees around e (Some (expr.Strict operation operands)) path store = strict_into source below around e operation operands path store
into_of source below callees around e (Some (expr.Update base id args sources operands)) path store = update_into source below around base id args sources operands path store
into_of source below callees around e (Some (expr.Logic op left right)) path store = logic_into source below around op left right path store
into_of source below callees around e (Some (expr.If condition then_branch else_branch)) path store = if_into source below around condition then_branch else_branch path store
into_of source below callees around e (Some (expr.Assign to value)) path store = assign_into source below around to value store
into_of source below callees around e (Some (expr.Compound op to value)) path store = compound_into source below around op to value store
into_of source below callees around e (Some (expr.Block statements tail)) path store = block_into source below around statements tail path store
into_of source below callees around e (Some (expr.Labelled label statements tail)) path store = labelled_into source below around e label statements tail path store
into_of source below callees around e (Some (expr.Loop label body)) path store = loop_into source below around e label body path store
into_of source below callees around e (Some (expr.Break label value)) path store = break_into source below around label value store
into_of source below callees around e (Some (expr.Continue label)) path store = continue_into source around label store
into_of source below callees around e (Some (expr.Return value)) path store = return_into source below around value store
into_of source below callees around e (Some (expr.Call callee args)) path store = call_into source below callees around e callee args path store
into_of source below callees around e None path store = Stuck

-- The meanings at one more unit of fuel, by those at the fuel itself, and by what callees mean at it. What is adjusted by `NeverToAny`
-- is itself evaluated into its `!` cell, and the path isn't written.
abbrev pub level_above : Source → Levels → Callees → Levels
level_above source below callees around = record {
  place = λ e store. place_of source below around e (unadjusted source e) store;
  operand = λ e store. operand_of source below around e (unadjusted source e) store;
  into = λ e path store. into_of source below callees (marking (never_marks source e) around) e (node source e) (own_path source e path) store;
  own = λ e path store. into_of source below callees around e (node source e) path store;
}

-- How a body ends, by the end of its root. Where the root has a value, the body's scope is left; a `return` has left it already.
-- Both give the bytes of the result's cell. A `break` or a `continue` that nothing caught stays one; a plain body has none.
abbrev pub returned : Source → End (Unit {0}) → End Contents
returned source (Go done store cost) = after cost (Go (store Result) store (turns_alone (drops source (parameter_cells source ++ marked source (root source)))))
returned source (Jumps Return store cost) = Go (store Result) store cost
returned source (Jumps (Break node) store cost) = Jumps (Break node) store cost
returned source (Jumps (Continue node) store cost) = Jumps (Continue node) store cost
returned source (Faults fault cost) = Faults fault cost
returned source Stuck = Stuck
returned source (More cost) = More cost

-- what is evaluated in a body, if the types that it needs have layouts: else its cells can't be placed
abbrev pub where_laid : (laid : Bool) → End Contents → End Contents
where_laid true end = end
where_laid false end = Faults NoLayout no_cost

-- What a body means from a store on, by the meanings of its expressions: its root is evaluated into the result's cell, which is also the
-- return path, and the bytes of that cell are the value. The parameters' cells are in use from the start on. No cell is zeroed: the
-- result's keeps its old bytes where nothing is written to it. Nothing is evaluated where a type that the body needs has no layout.
abbrev pub body_meaning : Source → Levels → Store → End Contents
body_meaning source levels store =
    after (entering source) (where_laid (is_laid_out source)
    (returned source ((levels (marking (parameter_cells source) (at_root (record { cell = Result })))).into (root source) (record { cell = Result }) store)))

-- the meanings of a body's expressions at an amount of fuel; a callee has one unit less than its call
unfoldable pub level_at : Source → ℕ → Levels
level_at source zero = no_fuel
level_at source (suc fuel) = level_above source (level_at source fuel) (λ callee store. body_meaning callee (level_at callee fuel) store)

-- what callees mean at an amount of fuel
abbrev pub callees_at : ℕ → Callees
callees_at fuel callee store = body_meaning callee (level_at callee fuel) store

-- what a body means from a store on, at an amount of fuel
unfoldable pub meaning_from : Source → Store → ℕ → End Contents
meaning_from source store fuel = body_meaning source (level_at source fuel) store

-- what a body means that runs by itself: from zeroed cells on
abbrev pub meaning_of : Source → ℕ → End Contents
meaning_of source fuel = after (run_cost source) (meaning_from source (zeroed source) fuel)

-- the end that a source has with enough fuel
pub record Gives (source : Source) (end : End Contents) : Type 0 where
  pub fuel : ℕ
  pub reached : meaning_of source fuel ≡ end
  pub over : IsOver end
