-- More fuel changes no end.
use Rattle.std.proofs.Common.{◌≡◌, ℕ, zero, suc, ◌≤◌, Bool, true, false, cond, List, [], ◌∷◌, ◌==◌, if◌then◌else◌, Option, Some, None, refl, ap, ◌∙◌, arith}
use Rattle.std.specs.Prelude.{flat_map}
use Rattle.types.specs.declared.ids.StructId.{StructId}
use Rattle.types.specs.declared.ty.GenericArgs.{GenericArgs}
use Rattle.world.specs.declared.body.Statement.{Statement}
use Rattle.world.specs.declared.body.Statement.TheVariants as statement
use Rattle.types.specs.declared.ids.ExprId.{ExprId}
use Rattle.types.specs.declared.ids.LabelId.{LabelId}
use Rattle.types.specs.declared.operators.LogicOp.{LogicOp}
use Rattle.numbers.specs.declared.operator.Operator.{Operator}
use Rattle.source_meaning.specs.Structs.{FieldSource}
use Rattle.source_meaning.specs.Around.{Around, Target, at_root, marking, inside, target_of}
use Rattle.source_meaning.specs.Calls.{source_called, must_not_return, parameter_cells, started}
use Rattle.source_meaning.specs.Core as expr
use Rattle.source_meaning.specs.Core.{Assigned, Assignee, ByField, ByPath, ByPattern, ByPlace, CoreExpr, ElementAt, FieldOf, Operation, Part, PlaceElem, is_place}
use Rattle.source_meaning.specs.Ends.{Cost, turns_alone, End, Go, Jumps, Break, Continue, Return, Faults, Stuck, More, IsOver, after, then_do}
use Rattle.source_meaning.specs.Events.{marked, marked_as_operand, marked_as_place, marked_by_assigned, marked_by_statement}
use Rattle.source_meaning.specs.Laid.{is_laid_out}
use Rattle.source_meaning.specs.Meaning.{Levels, Callees, no_fuel, within_bounds, stepped, field_place, field_into, place_of, operand_of, operands_of, strict_into, update_into, is_byte, deciding_byte, decided_into, branched, logic_into, tail_into, branch_into, if_into, assignee_place, assign_into, assigned_place, compound_into, statement_of, statements_of, block_into, caught, again_into, labelled_into, turn_of, loop_into, break_to, return_into, call_returned, call_diverged, call_ended, entered_from, entered_into, into_of, level_above, level_at, returned, where_laid, body_meaning, callees_at, meaning_from}
use Rattle.source_meaning.specs.Places.{operand_bytes, operand_out, operands_bytes, some_out}
use Rattle.source_meaning.specs.Source.{Source, Store, Path, Place, Result, IndexOf, Node, Operand, zeroed, node, unadjusted, never_marks, own_path, target, root}

-- what is over after a cost is over
over_before : {A : Type 0} (cost : Cost) (end : End A) → IsOver (after cost end) → IsOver end
unfolding after
over_before cost (Go value store rest) over = tt
over_before cost (Jumps to store rest) over = tt
over_before cost (Faults fault rest) over = tt
over_before cost Stuck over = tt
over_before cost (More rest) over = over

-- where both parts of one evaluation agree with those of another, so do the whole ones
then_do_agrees : {A B : Type 0} (first second : End A) (next other : A → Store → End B) → (IsOver first → second ≡ first) → ((value : A) (store : Store) → IsOver (next value store) → other value store ≡ next value store) → IsOver (then_do first next) → then_do second other ≡ then_do first next
unfolding then_do
then_do_agrees (Go value store cost) second next other same rest over =
    ap (λ end. then_do end other) (same tt) ∙ ap (after cost) (rest value store (over_before cost (next value store) over))
then_do_agrees (Jumps to store cost) second next other same rest over = ap (λ end. then_do end other) (same tt)
then_do_agrees (Faults fault cost) second next other same rest over = ap (λ end. then_do end other) (same tt)
then_do_agrees Stuck second next other same rest over = ap (λ end. then_do end other) (same tt)
then_do_agrees (More cost) second next other same rest over = absurd over

after_agrees : {A : Type 0} (cost : Cost) (first second : End A) → (IsOver first → second ≡ first) → IsOver (after cost first) → after cost second ≡ after cost first
after_agrees cost first second same over = ap (after cost) (same (over_before cost first over))

-- where an evaluation agrees with another, so do those that are stuck without a test
where_agrees : {A : Type 0} (test : Bool) (first second : End A) → (IsOver first → second ≡ first) → IsOver (if test then first else Stuck) → (if test then second else Stuck) ≡ (if test then first else Stuck)
where_agrees true first second same over = same over
where_agrees false first second same over = refl

-- and so do those that a place out of bounds keeps from being done
within_bounds_agrees : {A : Type 0} (out : Bool) (first second : End A) → (out ≡ false → IsOver first → second ≡ first) → IsOver (within_bounds out first) → within_bounds out second ≡ within_bounds out first
within_bounds_agrees true first second same over = refl
within_bounds_agrees false first second same over = same refl over

-- where a branch agrees with another, so do the whole ones
branched_agrees : (first second : End (Unit {0})) → (IsOver first → second ≡ first) → IsOver (branched first) → branched second ≡ branched first
branched_agrees first second same over =
    after_agrees (turns_alone 1) _ _ (λ then_over. then_do_agrees first second _ _ same (λ done later o. refl) then_over) over

-- what catches jumps agrees where what jumps does, and what comes after it
caught_agrees : (e : ℕ) (again other_again ended other_ended : Store → End (Unit {0})) (first second : End (Unit {0})) →
    ((store : Store) → IsOver (again store) → other_again store ≡ again store) → ((store : Store) → IsOver (ended store) → other_ended store ≡ ended store) →
    (IsOver first → second ≡ first) → IsOver (caught e again ended first) → caught e other_again other_ended second ≡ caught e again ended first
caught_agrees e again other_again ended other_ended (Go done store cost) second same_again same_ended same over =
    ap (caught e other_again other_ended) (same tt) ∙ after_agrees cost (ended store) (other_ended store) (same_ended store) over
caught_agrees e again other_again ended other_ended (Jumps (Break node) store cost) second same_again same_ended same over =
    ap (caught e other_again other_ended) (same tt)
caught_agrees e again other_again ended other_ended (Jumps (Continue node) store cost) second same_again same_ended same over =
    ap (caught e other_again other_ended) (same tt) ∙ by_test (node == e) over
  where
    by_test : (test : Bool) → IsOver (if test then after cost (again store) else Jumps (Continue node) store cost) →
        (if test then after cost (other_again store) else Jumps (Continue node) store cost) ≡ (if test then after cost (again store) else Jumps (Continue node) store cost)
    by_test true again_over = after_agrees cost (again store) (other_again store) (same_again store) again_over
    by_test false again_over = refl
caught_agrees e again other_again ended other_ended (Jumps Return store cost) second same_again same_ended same over = ap (caught e other_again other_ended) (same tt)
caught_agrees e again other_again ended other_ended (Faults fault cost) second same_again same_ended same over = ap (caught e other_again other_ended) (same tt)
caught_agrees e again other_again ended other_ended Stuck second same_again same_ended same over = ap (caught e other_again other_ended) (same tt)
caught_agrees e again other_again ended other_ended (More cost) second same_again same_ended same over = absurd over

-- where the end of a root agrees with another, so do those of the bodies
returned_agrees : (source : Source) (first second : End (Unit {0})) → (IsOver first → second ≡ first) → IsOver (returned source first) → returned source second ≡ returned source first
returned_agrees source (Go done store cost) second same over = ap (returned source) (same tt)
returned_agrees source (Jumps to store cost) second same over = ap (returned source) (same tt)
returned_agrees source (Faults fault cost) second same over = ap (returned source) (same tt)
returned_agrees source Stuck second same over = ap (returned source) (same tt)
returned_agrees source (More cost) second same over = absurd over

-- and so do those that are kept from being entered for want of a layout
where_laid_agrees : (laid : Bool) (first second : End (List ℕ)) → (IsOver first → second ≡ first) → IsOver (where_laid laid first) → where_laid laid second ≡ where_laid laid first
where_laid_agrees true first second same over = same over
where_laid_agrees false first second same over = refl

-- where the end of a callee agrees with another, so do those of the calls
call_returned_agrees : (path : Path) (store : Store) (first second : End (List ℕ)) → (IsOver first → second ≡ first) → IsOver (call_returned path store first) → call_returned path store second ≡ call_returned path store first
call_returned_agrees path store (Go value left cost) second same over = ap (call_returned path store) (same tt)
call_returned_agrees path store (Jumps to left cost) second same over = ap (call_returned path store) (same tt)
call_returned_agrees path store (Faults fault cost) second same over = ap (call_returned path store) (same tt)
call_returned_agrees path store Stuck second same over = ap (call_returned path store) (same tt)
call_returned_agrees path store (More cost) second same over = absurd over

call_diverged_agrees : (first second : End (List ℕ)) → (IsOver first → second ≡ first) → IsOver (call_diverged first) → call_diverged second ≡ call_diverged first
call_diverged_agrees (Go value left cost) second same over = ap call_diverged (same tt)
call_diverged_agrees (Jumps to left cost) second same over = ap call_diverged (same tt)
call_diverged_agrees (Faults fault cost) second same over = ap call_diverged (same tt)
call_diverged_agrees Stuck second same over = ap call_diverged (same tt)
call_diverged_agrees (More cost) second same over = absurd over

call_agrees : (diverging : Bool) (path : Path) (store : Store) (first second : End (List ℕ)) → (IsOver first → second ≡ first) → IsOver (call_ended diverging path store first) → call_ended diverging path store second ≡ call_ended diverging path store first
call_agrees true path store first second same over = call_diverged_agrees first second same over
call_agrees false path store first second same over = call_returned_agrees path store first second same over

-- wherever the ends of some callees are over, those of others are the same
abbrev CalleesAgree : Callees → Callees → Type 0
CalleesAgree below above = (callee : Source) (start : Store) → IsOver (below callee start) → above callee start ≡ below callee start

entered_from_agrees : (below above : Callees) → CalleesAgree below above → (diverging : Bool) (callee : Source) (start : Option Store) (path : Path) (store : Store) →
    IsOver (entered_from below diverging callee start path store) → entered_from above diverging callee start path store ≡ entered_from below diverging callee start path store
entered_from_agrees below above agree diverging callee (Some start) path store over = call_agrees diverging path store (below callee start) (above callee start) (agree callee start) over
entered_from_agrees below above agree diverging callee None path store over = refl

entered_agrees : (below above : Callees) → CalleesAgree below above → (diverging : Bool) (callee : Option Source) (given : Option (List (List ℕ))) (path : Path) (store : Store) →
    IsOver (entered_into below diverging callee given path store) → entered_into above diverging callee given path store ≡ entered_into below diverging callee given path store
entered_agrees below above agree diverging (Some callee) (Some given) path store over =
    entered_from_agrees below above agree diverging callee (started callee (cond diverging (zeroed callee Result) (store path.cell)) given) path store over
entered_agrees below above agree diverging _ _ path store over = refl

-- wherever the evaluations of some levels end, those of others end the same
pub record Agrees (below above : Levels) : Type 0 where
  pub place : (around : Around) (e : ℕ) (store : Store) → IsOver ((below around).place e store) → (above around).place e store ≡ (below around).place e store
  pub operand : (around : Around) (e : ℕ) (store : Store) → IsOver ((below around).operand e store) → (above around).operand e store ≡ (below around).operand e store
  pub into : (around : Around) (e : ℕ) (path : Path) (store : Store) → IsOver ((below around).into e path store) → (above around).into e path store ≡ (below around).into e path store
  pub own : (around : Around) (e : ℕ) (path : Path) (store : Store) → IsOver ((below around).own e path store) → (above around).own e path store ≡ (below around).own e path store

module _ (source : Source) (below above : Levels) (agrees : Agrees below above) where
  stepped_agrees : (around : Around) (base : ℕ) (elem : PlaceElem) (place : Place) (store : Store) → IsOver (stepped source below around base elem place store) → stepped source above around base elem place store ≡ stepped source below around base elem place store
  stepped_agrees around base (Part index) place store over = refl
  stepped_agrees around base (FieldOf field) place store over = refl
  stepped_agrees around base (ElementAt e index) place store over =
      let behind = marking (IndexOf e ∷ []) (marking (marked_as_place source base) around) in
      then_do_agrees ((below behind).into index _ store) ((above behind).into index _ store) _ _ (agrees.into behind index _ store) (λ done later o. refl) over

  field_place_agrees : (around : Around) (base : ℕ) (field : PlaceElem) (store : Store) → IsOver (field_place source below around base field store) → field_place source above around base field store ≡ field_place source below around base field store
  field_place_agrees around base field store over =
      then_do_agrees ((below around).place base store) ((above around).place base store) _ _ (agrees.place around base store) (λ place later o. stepped_agrees around base field place later o) over

  place_agrees : (around : Around) (e : ℕ) (form : Option CoreExpr) (store : Store) → IsOver (place_of source below around e form store) → place_of source above around e form store ≡ place_of source below around e form store
  place_agrees around e (Some (expr.Path name)) store over = refl
  place_agrees around e (Some (expr.Field base field)) store over = field_place_agrees around base field store over
  place_agrees around e _ store over =
      let within = marking (Node e ∷ []) around in
      then_do_agrees ((below within).into e _ store) ((above within).into e _ store) _ _ (agrees.into within e _ store) (λ value later o. refl) over

  operand_agrees : (around : Around) (e : ℕ) (form : Option CoreExpr) (store : Store) → IsOver (operand_of source below around e form store) → operand_of source above around e form store ≡ operand_of source below around e form store
  operand_agrees around e (Some (expr.Literal literal)) store over = refl
  operand_agrees around e _ store over = then_do_agrees ((below around).place e store) ((above around).place e store) _ _ (agrees.place around e store) (λ value later o. refl) over

  operands_agree : (around : Around) (operands : List ℕ) (store : Store) → IsOver (operands_of source below around operands store) → operands_of source above around operands store ≡ operands_of source below around operands store
  unfolding operands_of
  operands_agree around [] store over = refl
  operands_agree around (e ∷ rest) store over =
      let behind = marking (marked_as_operand source e) around in
      then_do_agrees ((below around).operand e store) ((above around).operand e store) _ _ (agrees.operand around e store) (λ first later o.
      then_do_agrees (operands_of source below behind rest later) (operands_of source above behind rest later) _ _ (operands_agree behind rest later) (λ others last o'. refl) o) over

  strict_agrees : (around : Around) (e : ℕ) (operation : Operation) (operands : List ℕ) (path : Path) (store : Store) → IsOver (strict_into source below around e operation operands path store) → strict_into source above around e operation operands path store ≡ strict_into source below around e operation operands path store
  strict_agrees around e operation operands path store over =
      then_do_agrees (operands_of source below around operands store) (operands_of source above around operands store) _ _ (operands_agree around operands store) (λ given later o. refl) over

  update_agrees : (around : Around) (base : ℕ) (id : StructId) (args : GenericArgs) (sources : List FieldSource) (operands : List ℕ) (path : Path) (store : Store) → IsOver (update_into source below around base id args sources operands path store) → update_into source above around base id args sources operands path store ≡ update_into source below around base id args sources operands path store
  update_agrees around base id args sources operands path store over =
      let behind = marking (marked_as_place source base) around in
      then_do_agrees ((below around).place base store) ((above around).place base store) _ _ (agrees.place around base store) (λ from later o.
      then_do_agrees (operands_of source below behind operands later) (operands_of source above behind operands later) _ _ (operands_agree behind operands later) (λ given last o'. refl) o) over

  statement_agrees : (around : Around) (statement : Statement) (store : Store) → IsOver (statement_of source (below around) statement store) → statement_of source (above around) statement store ≡ statement_of source (below around) statement store
  statement_agrees around (statement.Let pat (Some e) None) store over = then_do_agrees ((below around).place e.0 store) ((above around).place e.0 store) _ _ (agrees.place around e.0 store) (λ path later o. refl) over
  statement_agrees around (statement.Expr e has_semi) store over = then_do_agrees ((below around).place e.0 store) ((above around).place e.0 store) _ _ (agrees.place around e.0 store) (λ path later o. refl) over
  statement_agrees around _ store over = refl

  statements_agree : (around : Around) (statements : List Statement) (store : Store) → IsOver (statements_of source below around statements store) → statements_of source above around statements store ≡ statements_of source below around statements store
  unfolding statements_of
  statements_agree around [] store over = refl
  statements_agree around (first ∷ rest) store over =
      let behind = marking (marked_by_statement source first) around in
      then_do_agrees (statement_of source (below around) first store) (statement_of source (above around) first store) _ _ (statement_agrees around first store) (λ done later o. statements_agree behind rest later o) over

  tail_agrees : (around : Around) (tail : Option ExprId) (path : Path) (store : Store) → IsOver (tail_into (below around) tail path store) → tail_into (above around) tail path store ≡ tail_into (below around) tail path store
  tail_agrees around (Some e) path store over = agrees.into around e.0 path store over
  tail_agrees around None path store over = refl

  decided_agrees : (around : Around) (left : Operand) (right : ℕ) (decides : Option Bool) (path : Path) (store : Store) → IsOver (decided_into source (below around) left right decides path store) → decided_into source (above around) left right decides path store ≡ decided_into source (below around) left right decides path store
  decided_agrees around left right (Some true) path store over = refl
  decided_agrees around left right (Some false) path store over = agrees.into around right path store over
  decided_agrees around left right None path store over = refl

  logic_agrees : (around : Around) (op : LogicOp) (left right : ℕ) (path : Path) (store : Store) → IsOver (logic_into source below around op left right path store) → logic_into source above around op left right path store ≡ logic_into source below around op left right path store
  logic_agrees around op left right path store over =
      then_do_agrees ((below around).operand left store) ((above around).operand left store) _ _ (agrees.operand around left store) (λ given later o.
      within_bounds_agrees (operand_out source later given) _ _ (λ within. branched_agrees _ _ (decided_agrees (marking (marked_as_operand source left) around) given right (is_byte (deciding_byte op) (operand_bytes source later given)) path later)) o) over

  branch_agrees : (around : Around) (then_branch : ℕ) (else_branch : Option ExprId) (holds : Option Bool) (path : Path) (store : Store) → IsOver (branch_into source below around then_branch else_branch holds path store) → branch_into source above around then_branch else_branch holds path store ≡ branch_into source below around then_branch else_branch holds path store
  branch_agrees around then_branch else_branch (Some true) path store over = agrees.into around then_branch path store over
  branch_agrees around then_branch else_branch (Some false) path store over = tail_agrees (marking (marked source then_branch) around) else_branch path store over
  branch_agrees around then_branch else_branch None path store over = refl

  if_agrees : (around : Around) (condition then_branch : ℕ) (else_branch : Option ExprId) (path : Path) (store : Store) → IsOver (if_into source below around condition then_branch else_branch path store) → if_into source above around condition then_branch else_branch path store ≡ if_into source below around condition then_branch else_branch path store
  if_agrees around condition then_branch else_branch path store over =
      then_do_agrees ((below around).operand condition store) ((above around).operand condition store) _ _ (agrees.operand around condition store) (λ given later o.
      within_bounds_agrees (operand_out source later given) _ _ (λ within. branched_agrees _ _ (branch_agrees (marking (marked_as_operand source condition) around) then_branch else_branch (is_byte 1 (operand_bytes source later given)) path later)) o) over

  field_agrees : (around : Around) (base : ℕ) (field : PlaceElem) (path : Path) (store : Store) → IsOver (field_into source below around base field path store) → field_into source above around base field path store ≡ field_into source below around base field path store
  field_agrees around base field path store over =
      then_do_agrees (field_place source below around base field store) (field_place source above around base field store) _ _ (field_place_agrees around base field store) (λ place later o. refl) over

  assigned_place_agrees : (around : Around) (to : Assigned) (store : Store) → IsOver (assigned_place source below around to store) → assigned_place source above around to store ≡ assigned_place source below around to store
  assigned_place_agrees around (ByPath e) store over = refl
  assigned_place_agrees around (ByField base elem) store over = field_place_agrees around base elem store over

  compound_agrees : (around : Around) (op : Operator) (to : Assigned) (value : ℕ) (store : Store) → IsOver (compound_into source below around op to value store) → compound_into source above around op to value store ≡ compound_into source below around op to value store
  compound_agrees around op to value store over =
      let behind = marking (marked_by_assigned source to) around in
      then_do_agrees (assigned_place source below around to store) (assigned_place source above around to store) _ _ (assigned_place_agrees around to store) (λ place later o.
      then_do_agrees ((below behind).operand value later) ((above behind).operand value later) _ _ (agrees.operand behind value later) (λ given last o'. refl) o) over

  assignee_place_agrees : (around : Around) (to : Assignee) (store : Store) → IsOver (assignee_place source (below around) to store) → assignee_place source (above around) to store ≡ assignee_place source (below around) to store
  assignee_place_agrees around (ByPattern pat) store over = refl
  assignee_place_agrees around (ByPlace e) store over = where_agrees (is_place (unadjusted source e)) ((below around).place e store) ((above around).place e store) (agrees.place around e store) over

  assign_agrees : (around : Around) (to : Assignee) (value : ℕ) (store : Store) → IsOver (assign_into source below around to value store) → assign_into source above around to value store ≡ assign_into source below around to value store
  assign_agrees around to value store over =
      let behind = marking (marked_as_place source value) around in
      then_do_agrees ((below around).place value store) ((above around).place value store) _ _ (agrees.place around value store) (λ from later o.
      then_do_agrees (assignee_place source (below behind) to later) (assignee_place source (above behind) to later) _ _ (assignee_place_agrees behind to later) (λ place last o'. refl) o) over

  block_agrees : (around : Around) (statements : List Statement) (tail : Option ExprId) (path : Path) (store : Store) → IsOver (block_into source below around statements tail path store) → block_into source above around statements tail path store ≡ block_into source below around statements tail path store
  block_agrees around statements tail path store over =
      let behind = marking (flat_map (marked_by_statement source) statements) around in
      then_do_agrees (statements_of source below around statements store) (statements_of source above around statements store) _ _ (statements_agree around statements store) (λ done later o.
      then_do_agrees (tail_into (below behind) tail path later) (tail_into (above behind) tail path later) _ _ (tail_agrees behind tail path later) (λ done' last o'. refl) o) over

  again_agrees : (around : Around) (e : ℕ) (path : Path) (store : Store) → IsOver (again_into below around e path store) → again_into above around e path store ≡ again_into below around e path store
  again_agrees around e path store over = agrees.own around e path store over

  labelled_agrees : (around : Around) (e : ℕ) (label : LabelId) (statements : List Statement) (tail : Option ExprId) (path : Path) (store : Store) → IsOver (labelled_into source below around e label statements tail path store) → labelled_into source above around e label statements tail path store ≡ labelled_into source below around e label statements tail path store
  labelled_agrees around e label statements tail path store over =
      let within = inside e (Some label) path around in
      after_agrees (turns_alone 1) _ _ (λ caught_is_over. caught_agrees e (again_into below around e path) (again_into above around e path) (λ last. Go tt last (turns_alone 1)) (λ last. Go tt last (turns_alone 1))
      (block_into source below within statements tail path store) (block_into source above within statements tail path store) (again_agrees around e path) (λ later o. refl) (block_agrees within statements tail path store) caught_is_over) over

  turn_agrees : (around : Around) (body : ℕ) (store : Store) → IsOver (turn_of source below around body store) → turn_of source above around body store ≡ turn_of source below around body store
  turn_agrees around body store over = then_do_agrees ((below around).place body store) ((above around).place body store) _ _ (agrees.place around body store) (λ path later o. refl) over

  loop_agrees : (around : Around) (e : ℕ) (label : Option LabelId) (body : ℕ) (path : Path) (store : Store) → IsOver (loop_into source below around e label body path store) → loop_into source above around e label body path store ≡ loop_into source below around e label body path store
  loop_agrees around e label body path store over =
      let within = inside e label path around in
      after_agrees (turns_alone 1) _ _ (λ caught_is_over. caught_agrees e (again_into below around e path) (again_into above around e path) (again_into below around e path) (again_into above around e path)
      (turn_of source below within body store) (turn_of source above within body store) (again_agrees around e path) (again_agrees around e path) (turn_agrees within body store) caught_is_over) over

  break_agrees : (around : Around) (value : Option ExprId) (target : Option Target) (store : Store) → IsOver (break_to source below around value target store) → break_to source above around value target store ≡ break_to source below around value target store
  break_agrees around value (Some target) store over =
      then_do_agrees (tail_into (below around) value target.path store) (tail_into (above around) value target.path store) _ _ (tail_agrees around value target.path store) (λ done later o. refl) over
  break_agrees around value None store over = refl

  return_agrees : (around : Around) (value : Option ExprId) (store : Store) → IsOver (return_into source below around value store) → return_into source above around value store ≡ return_into source below around value store
  return_agrees around value store over =
      then_do_agrees (tail_into (below around) value around.result store) (tail_into (above around) value around.result store) _ _ (tail_agrees around value around.result store) (λ done later o. refl) over

  module _ (callees others : Callees) (callees_agree : CalleesAgree callees others) where
    into_agrees : (around : Around) (e : ℕ) (form : Option CoreExpr) (path : Path) (store : Store) → IsOver (into_of source below callees around e form path store) → into_of source above others around e form path store ≡ into_of source below callees around e form path store
    into_agrees around e (Some (expr.Field base field)) path store over = field_agrees around base field path store over
    into_agrees around e (Some (expr.Strict operation operands)) path store over = strict_agrees around e operation operands path store over
    into_agrees around e (Some (expr.Update base id args sources operands)) path store over = update_agrees around base id args sources operands path store over
    into_agrees around e (Some (expr.Logic op left right)) path store over = logic_agrees around op left right path store over
    into_agrees around e (Some (expr.If condition then_branch else_branch)) path store over = if_agrees around condition then_branch else_branch path store over
    into_agrees around e (Some (expr.Assign to value)) path store over = assign_agrees around to value store over
    into_agrees around e (Some (expr.Compound op to value)) path store over = compound_agrees around op to value store over
    into_agrees around e (Some (expr.Block statements tail)) path store over = block_agrees around statements tail path store over
    into_agrees around e (Some (expr.Labelled label statements tail)) path store over = labelled_agrees around e label statements tail path store over
    into_agrees around e (Some (expr.Loop label body)) path store over = loop_agrees around e label body path store over
    into_agrees around e (Some (expr.Break label value)) path store over = break_agrees around value (target_of label around.targets) store over
    into_agrees around e (Some (expr.Return value)) path store over = return_agrees around value store over
    into_agrees around e (Some (expr.Call callee args)) path store over =
        then_do_agrees (operands_of source below around args store) (operands_of source above around args store) _ _ (operands_agree around args store) (λ given later o.
        within_bounds_agrees (some_out source later given) _ _ (λ within. entered_agrees callees others callees_agree (must_not_return source e) (source_called source e callee) (operands_bytes source later given) path later) o) over
    into_agrees around e _ path store over = refl

    above_agrees : Agrees (level_above source below callees) (level_above source above others)
    above_agrees = record {
      place = λ around e store over. place_agrees around e (unadjusted source e) store over;
      operand = λ around e store over. operand_agrees around e (unadjusted source e) store over;
      into = λ around e path store over. into_agrees (marking (never_marks source e) around) e (node source e) (own_path source e path) store over;
      own = λ around e path store over. into_agrees around e (node source e) path store over;
    }

no_fuel_agrees : (above : Levels) → Agrees no_fuel above
no_fuel_agrees above = record {
  place = λ around e store over. absurd over;
  operand = λ around e store over. absurd over;
  into = λ around e path store over. absurd over;
  own = λ around e path store over. absurd over;
}

-- where the evaluations of levels agree, so do those of the bodies
body_agrees : (source : Source) (below above : Levels) → Agrees below above → (store : Store) → IsOver (body_meaning source below store) → body_meaning source above store ≡ body_meaning source below store
body_agrees source below above agrees store over =
    let first = marking (parameter_cells source) (at_root (record { cell = Result })) in
    after_agrees _ _ _ (where_laid_agrees (is_laid_out source) _ _ (returned_agrees source ((below first).into (root source) _ _) ((above first).into (root source) _ _) (agrees.into first (root source) _ _))) over

pub more_agrees : (source : Source) (fuel more : ℕ) → fuel ≤ more → Agrees (level_at source fuel) (level_at source more)
unfolding level_at
more_agrees source zero more le = no_fuel_agrees (level_at source more)
more_agrees source (suc fuel) zero le = absurd (omega arith)
more_agrees source (suc fuel) (suc more) le =
    above_agrees source (level_at source fuel) (level_at source more) (more_agrees source fuel more (omega arith)) (callees_at fuel) (callees_at more)
    (λ callee start over. body_agrees callee (level_at callee fuel) (level_at callee more) (more_agrees callee fuel more (omega arith)) start over)

pub more_fuel : (source : Source) (store : Store) (fuel more : ℕ) → fuel ≤ more → IsOver (meaning_from source store fuel) → meaning_from source store more ≡ meaning_from source store fuel
unfolding meaning_from
more_fuel source store fuel more le over = body_agrees source (level_at source fuel) (level_at source more) (more_agrees source fuel more le) store over
